use Rattle.std.proofs.Common.{ℕ, suc, ◌-◌, ◌≤◌, List, length}
use Rattle.doll_route.specs.declared.route.Route.{Route}
use Rattle.doll_types.specs.Reachings.{IsReaching, IsShallow}
use Rattle.doll_types.proofs.Expanding.{IsRound}
use Rattle.doll_types.proofs.rounds.expand_to.Given as goal

-- what was reached is, and this round goes on
abbrev pub invariant-round : goal.invariant-round
invariant-round l = record {
  reaching : (routes : List Route) → IsReaching l.set l.schema routes l.initial.reach → IsReaching l.set l.schema routes l.reach;
  rounds : (levels : ℕ) → IsShallow l.set.graph (suc levels) l.initial.reach → IsRound l.set.graph levels l.end l.reach;
  room : l.end ≤ length l.reach.reached;
}

abbrev pub decreases-round : goal.decreases-round
decreases-round l = l.end - length l.reach.calls
