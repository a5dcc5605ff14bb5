use Rattle.std.proofs.Common.{◌≡◌, drop}
use Rattle.doll_table.specs.Fits.{Fits}
use Rattle.doll_commit.specs.Commits.{all_made}
use Rattle.doll_commit.specs.Answers.{seen}
use Rattle.doll_commit.proofs.apply.make_all.Given as goal

-- what is made and what is left lead to the whole
abbrev pub invariant-loop-index : goal.invariant-loop-index
invariant-loop-index l = record {
  so_far : all_made l.schema l.index (seen l.course) (drop l.index l.changes) ≡ all_made l.schema 0 (seen l.fn.course) l.changes;
  fits : Fits l.schema l.course.table;
}
