use Rattle.std.proofs.Common.{◌-◌, length}
use Rattle.doll_commit.specs.Refs.{closure}
use Rattle.doll_commit.specs.Walk.{steps_from}
use Rattle.doll_commit.proofs.Walks.{IsOnWay, lives_between}
use Rattle.doll_commit.proofs.walk.reached.Given as goal

-- the steps from the records so far are made
abbrev pub invariant-loop-one : goal.invariant-loop-one
invariant-loop-one l = IsOnWay (steps_from l.step l.table l.schema) l.table (lives_between l.step l.table l.schema) l.fn.seeds l.all l.at

-- a walk is no longer than the closure
abbrev pub decreases-loop-one : goal.decreases-loop-one
decreases-loop-one l = length (closure (steps_from l.step l.table l.schema) l.table l.fn.seeds) - l.at
