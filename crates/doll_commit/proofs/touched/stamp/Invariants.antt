use Rattle.std.proofs.Common.{◌≡◌, take}
use Rattle.doll_commit.specs.Commits.{stamped}
use Rattle.doll_commit.proofs.touched.stamp.Given as goal

abbrev pub invariant-loop-one : goal.invariant-loop-one
invariant-loop-one l = l.table ≡ stamped l.moment l.fn.table (take l.one-index l.refs)
