use Rattle.std.proofs.Common.{◌≡◌, length, take}
use Rattle.std.specs.List.{flat_map, zip}
use Rattle.doll_commit.specs.Refs.{with_refs}
use Rattle.doll_commit.specs.Commits.{touched_by}
use Rattle.doll_commit.proofs.touched.add_row_touches.Given as goal

abbrev pub invariant-loop-parent : goal.invariant-loop-parent
invariant-loop-parent l = l.refs ≡ with_refs l.fn.refs (flat_map touched_by (take (length l.yielded) (zip l.model.belongs_to l.row.parents)))
