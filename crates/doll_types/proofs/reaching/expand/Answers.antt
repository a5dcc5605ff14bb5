use Rattle.std.proofs.Common.{◌≡◌, ◌++◌, ◌∷◌, [], Some, ap, subst, ◌∙◌}
use Rattle.std.specs.Prelude.{slice_get}
use Rattle.std.specs.List.{flat_map}
use Rattle.doll_set.specs.Digests.{name_at}
use Rattle.doll_types.specs.declared.reaching.Reach.{Reach}
use Rattle.doll_types.specs.Faults.{fault_at}
use Rattle.doll_types.specs.Reachings.{IsExpanded}
use Rattle.doll_types.proofs.Growing.{expanded}
use Rattle.doll_types.proofs.reaching.expand.Goals as goal

some_same : {X : Type 0} {x y : X} → Some x ≡ Some y → x ≡ y
some_same e = cc

pub returns : goal.returns
returns c one is =
    let set = c.args.set.now in
    let schema = c.args.schema.now in
    let old = c.args.reach.now in
    let first = c.in-Some.one.now in
    let new : Reach = record { reached = c.number_calls.new.reach.reached; calls = c.push.new.self; faults = c.add_faults.new.faults; numbers = c.number_calls.new.reach.numbers } in
    let same : first ≡ one = some_same (c.in-Some.ensures.value ∙ ap (slice_get old.reached) c.len.ensures ∙ is) in
    subst (λ o. IsExpanded set schema o old new) same
    (expanded set schema first old new c.as_slice.result.now c.as_slice-2.result.now c.in_ok-numbers.numbers
    (c.as_slice.ensures ∙ c.in_ok-found.ensures) (c.as_slice-2.ensures ∙ c.in_ok-found.ensures)
    c.in_ok-numbers.ensures.grows
    (c.in_ok-push.ensures.ok ∙ ap (λ calls. calls ++ c.in_ok-numbers.numbers ∷ []) c.number_calls.ensures.calls)
    c.in_ok-numbers.ensures.numbers
    (c.in_ok-add_faults.ensures ∙ ap (λ (faults : _). faults.items ++ flat_map (fault_at (name_at set.templates first.template)) c.as_slice-2.result.now) c.number_calls.ensures.faults))
