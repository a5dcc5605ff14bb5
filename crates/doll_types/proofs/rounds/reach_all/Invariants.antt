use Rattle.std.proofs.Common.{◌-◌}
use Rattle.doll_types.specs.Reachings.{IsReaching, IsShallow}
use Rattle.doll_types.proofs.rounds.reach_all.Given as goal

-- no chain that is left is longer than there are rounds
abbrev pub invariant-loop-round : goal.invariant-loop-round
invariant-loop-round l = record {
  reaching : IsReaching l.set l.schema l.routes l.reach;
  shallow : IsShallow l.set.graph (16 - l._round) l.reach;
}
