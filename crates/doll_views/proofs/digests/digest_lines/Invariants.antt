use Rattle.std.proofs.Common.{◌≡◌, ◌++◌, drop}
use Rattle.doll_views.specs.Digests.{digest_lines, digest_lines_from}
use Rattle.doll_views.proofs.digests.digest_lines.Given as goal

-- the lines so far and those that are left are all
abbrev pub invariant-loop-template : goal.invariant-loop-template
invariant-loop-template l = record {
  lines : l.lines.items ++ digest_lines_from l.set.digests l.number (drop l.template-index l.template-items) ≡ digest_lines l.set;
  at : l.number ≡ l.template-index;
}
