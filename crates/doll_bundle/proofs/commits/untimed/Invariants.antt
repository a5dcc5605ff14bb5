use Rattle.std.proofs.Common.{◌≡◌, ◌≤◌, ◌+◌, length}
use Rattle.serde_json.specs.View.{items_view}
use Rattle.doll_bundle.specs.Commits.{untimed}
use Rattle.doll_bundle.proofs.commits.untimed.Given as goal

-- those counted and those among the rest are all
abbrev pub invariant-loop-rest : goal.invariant-loop-rest
invariant-loop-rest l = record {
  all : l.count + untimed (items_view l.rest) ≡ untimed (items_view l.commits);
  few : l.count + length l.rest ≤ length l.commits;
}

abbrev pub decreases-loop-rest : goal.decreases-loop-rest
decreases-loop-rest l = length l.rest
