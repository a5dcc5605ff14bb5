use Rattle.std.proofs.Common.{◌≡◌, true≢false, refl, sym, subst, ◌∙◌}
use Rattle.doll_types.specs.Reachings.{IsReaching}
use Rattle.doll_types.specs.Sets.{IsTypedSet}
use Rattle.doll_types.proofs.Answering.{no_faults, refused, typed_set}
use Rattle.doll_types.proofs.typed.type_set.Goals as goal

pub returns-then-not-is_empty : goal.returns-then-not-is_empty
returns-then-not-is_empty c =
    let reach = c.in_ok-reached.field-0 in
    let reaching : IsReaching c.args.set c.args.schema c.args.routes.now reach = subst (λ rs. IsReaching c.args.set c.args.schema rs reach) c.as_slice.ensures.routes c.in_ok-reached.ensures.reaching in
    refused c.args.set c.args.schema c.args.routes.now reach reaching c.in_ok-reached.ensures.all c.in_ok-faults.faults c.in_ok-faults.ensures
    (λ none. true≢false (sym (c.is_empty.ensures.1 none) ∙ c.if-not-is_empty.true))

pub invariant_of-result : goal.invariant_of-result
invariant_of-result c =
    let reach = c.in_ok-reached.field-0 in
    let routes_are : c.in_ok-routes.routes ≡ c.args.routes.now = c.in_ok-routes.ensures ∙ c.as_slice-2.ensures.routes in
    let reaching : IsReaching c.args.set c.args.schema c.args.routes.now reach = subst (λ rs. IsReaching c.args.set c.args.schema rs reach) c.as_slice.ensures.routes c.in_ok-reached.ensures.reaching in
    subst (λ rs. IsTypedSet (record { set = c.args.set; schema = c.args.schema; routes = rs; reached = reach.reached; calls = reach.calls })) (sym routes_are)
    (typed_set c.args.set c.args.schema c.args.routes.now reach reaching c.in_ok-reached.ensures.all c.in_ok-faults.faults c.in_ok-faults.ensures (c.is_empty.ensures.0 c.if-not-is_empty.false))

pub returns : goal.returns
returns c =
    let reach = c.in_ok-reached.field-0 in
    let routes_are : c.in_ok-routes.routes ≡ c.args.routes.now = c.in_ok-routes.ensures ∙ c.as_slice-2.ensures.routes in
    let reaching : IsReaching c.args.set c.args.schema c.args.routes.now reach = subst (λ rs. IsReaching c.args.set c.args.schema rs reach) c.as_slice.ensures.routes c.in_ok-reached.ensures.reaching in (
      refl,
      refl,
      routes_are,
      no_faults c.args.set c.args.schema c.args.routes.now reach reaching c.in_ok-reached.ensures.all c.in_ok-faults.faults c.in_ok-faults.ensures (c.is_empty.ensures.0 c.if-not-is_empty.false),
    )
