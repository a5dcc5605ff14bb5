use Rattle.std.proofs.Common.{List, ◌++◌}
use Rattle.std.specs.List.{AllByRecursion}
use Rattle.doll_report.specs.declared.outcome.Outcome.{Outcome}
use Rattle.doll_core.specs.States.{CoreState, state_of}
use Rattle.doll_core.specs.Steps.{MayStep, StepsAll}
use Rattle.doll_core.proofs.stepping.Core.run.Given as goal

abbrev pub invariant-loop-event : goal.invariant-loop-event
invariant-loop-event l = record {
  may : AllByRecursion MayStep l.event-iterator.rest.items;
  goes : (more : List Outcome) (final : CoreState) → StepsAll (state_of l.self) l.event-iterator.rest.items more final → StepsAll (state_of l.fn.self) l.fn.events.items (l.told ++ more) final;
}
