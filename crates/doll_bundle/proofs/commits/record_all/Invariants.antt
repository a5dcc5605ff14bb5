use Rattle.std.proofs.Common.{◌≡◌, length}
use Rattle.serde_json.specs.View.{items_view}
use Rattle.doll_keep.specs.Calls.{IsFaultless}
use Rattle.doll_bundle.specs.Commits.{commits_from}
use Rattle.doll_bundle.proofs.commits.record_all.Given as goal

-- the commits left, after the history so far, come to what all come to
abbrev pub invariant-loop-rest : goal.invariant-loop-rest
invariant-loop-rest l = record {
  made : commits_from l.records.schema l.records.history l.left (items_view l.rest) ≡ commits_from l.fn.records.schema l.fn.records.history l.readings (items_view l.commits);
  schema : l.records.schema ≡ l.fn.records.schema;
  faultless : IsFaultless l.records.keeper.plan;
}

abbrev pub decreases-loop-rest : goal.decreases-loop-rest
decreases-loop-rest l = length l.rest
