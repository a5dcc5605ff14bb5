use Rattle.std.proofs.Common.{◌≡◌, ◌≤◌, drop, length}
use Rattle.doll_table.specs.Tables.{without_ids}
use Rattle.doll_table.proofs.model_rows.take_rows.Given as goal

-- the rows under the ids behind those that are left are taken away
abbrev pub invariant-loop-left : goal.invariant-loop-left
invariant-loop-left l = record {
  so_far : l.rows ≡ without_ids l.fn.rows (drop l.left l.ids);
  within : l.left ≤ length l.ids;
}

abbrev pub decreases-loop-left : goal.decreases-loop-left
decreases-loop-left l = l.left
