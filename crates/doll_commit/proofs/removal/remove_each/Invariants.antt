use Rattle.std.proofs.Common.{◌≡◌, ◌≤◌, drop, length}
use Rattle.doll_table.specs.Tables.{without_rows}
use Rattle.doll_commit.proofs.removal.remove_each.Given as goal

-- the records behind those that are left are taken away
abbrev pub invariant-loop-left : goal.invariant-loop-left
invariant-loop-left l = record {
  so_far : l.table ≡ without_rows l.fn.table (drop l.left l.removed);
  within : l.left ≤ length l.removed;
  schema : l.table.schema ≡ l.fn.table.schema;
}

abbrev pub decreases-loop-left : goal.decreases-loop-left
decreases-loop-left l = l.left
