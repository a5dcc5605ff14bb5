use Rattle.std.proofs.Common.{◌≡◌, take}
use Rattle.std.specs.List.{flat_map}
use Rattle.doll_commit.specs.Refs.{with_refs}
use Rattle.doll_commit.specs.Commits.{touch_parents}
use Rattle.doll_commit.proofs.touched.add_all_touch_parents.Given as goal

abbrev pub invariant-loop-one : goal.invariant-loop-one
invariant-loop-one l = l.refs ≡ with_refs l.fn.refs (flat_map (touch_parents l.table l.schema) (take l.one-index l.records))
