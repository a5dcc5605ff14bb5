use Rattle.std.proofs.Common.{◌≡◌}
use Rattle.doll_core.specs.States.{state_of}
use Rattle.doll_replay.proofs.Running.{SoFar, turns_left}
use Rattle.doll_replay.proofs.orders.run_out.Given as goal

abbrev pub invariant-loop-came : goal.invariant-loop-came
invariant-loop-came l = record {
  so_far : SoFar l.session l.now (state_of l.fn.core) (state_of l.core) l.fn.out.items l.out.items;
}

abbrev pub decreases-loop-came : goal.decreases-loop-came
decreases-loop-came l = turns_left l.session l.now (state_of l.core)
