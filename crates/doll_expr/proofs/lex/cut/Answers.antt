use Rattle.std.proofs.Common.{◌≡◌, ◌+◌, ◌<◌, ◌≤◌, false, length, Ok, Err, sym, ap, subst, ◌∙◌, arith, rules}
use Rattle.std.proofs.lemmas.Grind.{common_steps}
use Rattle.std.proofs.lemmas.List.{length-drop}
use Rattle.doll_expr.specs.declared.expr.ExprFault.TheVariants.{TooDeep}
use Rattle.doll_expr.specs.Tokens.{tokens_of, front, Stand}
use Rattle.doll_expr.proofs.Stands.{leads_first, end_stands, fault_stands, leads_on}
use Rattle.doll_expr.proofs.Lexed.{Next, starts, at_end, at_fault, no_room_left, one_more}
use Rattle.doll_expr.proofs.lex.cut.Goals as goal

pub loop-ahead-init : goal.loop-ahead-init
loop-ahead-init c = (starts c.args.bytes.now c.new-tokens.result c.new-tokens.ensures, omega arith, leads_first c.args.bytes.now c.new-tokens.result c.new-tokens.ensures)

pub returns-then-is_empty : goal.returns-then-is_empty
returns-then-is_empty c =
    let bytes = c.loop-ahead.rest.now in
    let ahead = c.split_at.result.1.now in
    let n = c.prefix_len-spaces.result in
    let next : Next n bytes ahead = record { spaces_are = c.prefix_len-spaces.ensures.value; ahead_is = c.split_at.ensures.back } in
    let empty : length ahead ≡ 0 = first_of (omega arith, search rules, grind (arith, common_steps)) in (
      c.in_ok-push.ensures.ok ∙ at_end c.loop-ahead.after_dot c.loop-ahead.at n c.loop-ahead.left bytes ahead c.loop-ahead.tokens (tokens_of c.args.bytes.now) next empty c.loop-ahead.invariant.0,
      subst (Stand c.args.bytes.now false 0) (sym c.in_ok-push.ensures.ok) (end_stands c.args.bytes.now bytes ahead c.loop-ahead.after_dot c.loop-ahead.at n c.loop-ahead.tokens c.loop-ahead.invariant.2 next (omega (arith, empty, ap length next.ahead_is, length-drop n bytes, c.prefix_len-spaces.ensures.within, c.loop-ahead.invariant.1))),
    )

pub returns-in-Err : goal.returns-in-Err
returns-in-Err c =
    let bytes = c.loop-ahead.rest.now in
    let ahead = c.split_at.result.1.now in
    let n = c.prefix_len-spaces.result in
    let next : Next n bytes ahead = record { spaces_are = c.prefix_len-spaces.ensures.value; ahead_is = c.split_at.ensures.back } in
    let some : 0 < length ahead = first_of (omega arith, search rules, grind (arith, common_steps)) in
    let found : front c.loop-ahead.after_dot (c.loop-ahead.at + n) ahead ≡ Err c.in-Err.fault = first_of (search rules, grind (arith, common_steps)) in (
      c.in_ok-push-in-Err.ensures.ok ∙ at_fault c.loop-ahead.after_dot c.loop-ahead.at n c.loop-ahead.left bytes ahead c.loop-ahead.tokens (tokens_of c.args.bytes.now) c.in-Err.fault next some found c.loop-ahead.invariant.0,
      subst (Stand c.args.bytes.now false 0) (sym c.in_ok-push-in-Err.ensures.ok) (fault_stands c.args.bytes.now bytes ahead c.loop-ahead.after_dot c.loop-ahead.at n c.loop-ahead.tokens c.in-Err.fault c.loop-ahead.invariant.2 next),
    )

pub returns-then-left-eq0 : goal.returns-then-left-eq0
returns-then-left-eq0 c =
    let bytes = c.loop-ahead.rest.now in
    let ahead = c.split_at.result.1.now in
    let n = c.prefix_len-spaces.result in
    let next : Next n bytes ahead = record { spaces_are = c.prefix_len-spaces.ensures.value; ahead_is = c.split_at.ensures.back } in
    let found : front c.loop-ahead.after_dot (c.loop-ahead.at + n) ahead ≡ Ok (c.in-Ok.found.0, c.in-Ok.found.1) = first_of (search rules, grind (arith, common_steps)) in
    let some : 0 < length ahead = first_of (omega arith, search rules, grind (arith, common_steps)) in (
      c.in_ok-push-2.ensures.ok ∙ no_room_left c.loop-ahead.after_dot c.loop-ahead.at n c.loop-ahead.left bytes ahead c.loop-ahead.tokens (tokens_of c.args.bytes.now) (c.in-Ok.found.0, c.in-Ok.found.1) next some found c.if-left-eq0.true c.loop-ahead.invariant.0,
      subst (Stand c.args.bytes.now false 0) (sym c.in_ok-push-2.ensures.ok) (fault_stands c.args.bytes.now bytes ahead c.loop-ahead.after_dot c.loop-ahead.at n c.loop-ahead.tokens (TooDeep (c.loop-ahead.at + n)) c.loop-ahead.invariant.2 next),
    )

pub loop-ahead-preserved : goal.loop-ahead-preserved
loop-ahead-preserved c =
    let bytes = c.loop-ahead.rest.now in
    let ahead = c.split_at.result.1.now in
    let n = c.prefix_len-spaces.result in
    let next : Next n bytes ahead = record { spaces_are = c.prefix_len-spaces.ensures.value; ahead_is = c.split_at.ensures.back } in
    let found : front c.loop-ahead.after_dot (c.loop-ahead.at + n) ahead ≡ Ok (c.in-Ok.found.0, c.in-Ok.found.1) = first_of (search rules, grind (arith, common_steps)) in
    let some : 0 < length ahead = first_of (omega arith, search rules, grind (arith, common_steps)) in
    let more = one_more c.loop-ahead.after_dot c.loop-ahead.at n c.loop-ahead.left bytes ahead c.loop-ahead.tokens (tokens_of c.args.bytes.now) (c.in-Ok.found.0, c.in-Ok.found.1) next some found (omega arith) c.loop-ahead.invariant.0 in
    let long : c.loop-ahead.at + n + c.in-Ok.found.1 ≤ length c.args.bytes.now = omega (arith, ap length next.ahead_is, length-drop n bytes, c.prefix_len-spaces.ensures.within, c.in-Ok.ensures.within.1, c.loop-ahead.invariant.1) in
    let on = leads_on c.args.bytes.now bytes ahead c.split_at-in-loop-ahead.result.1.now c.loop-ahead.after_dot c.loop-ahead.at n c.in-Ok.found.1 c.loop-ahead.tokens c.in-Ok.found.0 c.loop-ahead.invariant.2 next found c.in-Ok.ensures.within.0 long c.split_at-in-loop-ahead.ensures.back in (
      rw (c.in_ok-push-3.ensures.ok, c.is_dot-after_dot.ensures, c.split_at-in-loop-ahead.ensures.back) more,
      omega (arith, ap length next.ahead_is, length-drop n bytes, ap length c.split_at-in-loop-ahead.ensures.back, length-drop c.in-Ok.found.1 ahead, c.in-Ok.ensures.within.1, c.loop-ahead.invariant.1),
      rw (c.in_ok-push-3.ensures.ok, c.is_dot-after_dot.ensures) on,
    )
