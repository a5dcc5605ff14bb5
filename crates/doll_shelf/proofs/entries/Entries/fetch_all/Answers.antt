use Rattle.std.proofs.Common.{◌≡◌, ◌++◌, ◌∷◌, [], ap, arith, is_ok, if◌then◌else◌, length, rules, subst, sym, ◌∙◌}
use Rattle.doll_shelf.specs.Fetches.{ReadsAll, any_failed}
use Rattle.doll_shelf.proofs.Keeping.{all_made, none_failed, not_failed, one_more}
use Rattle.doll_shelf.proofs.entries.Entries.fetch_all.Goals as goal

pub loop-ask-preserved : goal.loop-ask-preserved
loop-ask-preserved c =
    let found = c.loop-ask.found.items in
    let one = c.fetch-one.result in
    let items : c.push.new.self.items ≡ found ++ one ∷ [] = c.push.ensures.items ∙ ap (λ r. if is_ok r then found ++ one ∷ [] else found) c.unwrap.ensures in
    let more = one_more c.args.asks.now c.loop-ask.ask-index c.ask-item.result c.args.now found c.args.self.now c.loop-ask.self c.loop-ask-test.true c.ask-item.is c.loop-ask.invariant.read one c.fetch-one.new.self c.fetch-one.ensures.found in
    let none = none_failed found one c.loop-ask.invariant.failed (not_failed _ one c.fetch-one.ensures.tells) in
    record {
      room = omega (arith, c.loop-ask.invariant.room, c.push.ensures.capacity);
      counted = ap length items ∙ search rules;
      read = λ rest final h. subst (λ answers. ReadsAll c.args.asks.now c.args.now (answers ++ rest) c.args.self.now final) (sym items) (more rest final h);
      failed = ap any_failed items ∙ none;
      fewer = omega (arith, c.loop-ask.invariant.fewer, c.fetch-one.ensures.fewer);
    }

pub returns-clause-found : goal.returns-clause-found
returns-clause-found c =
    all_made c.args.asks.now c.loop-ask.ask-index c.args.now c.loop-ask.found.items c.args.self.now c.loop-ask.self c.loop-ask-test.false c.loop-ask.invariant.read
