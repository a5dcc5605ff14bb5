use Rattle.std.proofs.Common.{[], refl, subst, sym, ◌∙◌}
use Rattle.std.proofs.lemmas.List.{append-nil}
use Rattle.doll_core.specs.States.{state_of}
use Rattle.doll_core.specs.Steps.{StepsAll}
use Rattle.doll_core.proofs.Keeping.{none_left}
use Rattle.doll_core.proofs.stepping.Core.run.Goals as goal

pub returns : goal.returns
returns c =
    let done = c.loop-event in
    let ends = subst (λ events. StepsAll (state_of done.self) events [] (state_of done.self)) (sym (none_left done.event-iterator.rest.items (sym done.event-iterator.rest.ok.0 ∙ c.in-None.ensures.steps.0))) (record { world = refl; sessions = λ number. refl }) in
    record { exact = subst (λ told. StepsAll (state_of c.args.self.now) c.args.events.items told (state_of done.self)) (append-nil done.told) (done.invariant.goes [] (state_of done.self) ends) }
