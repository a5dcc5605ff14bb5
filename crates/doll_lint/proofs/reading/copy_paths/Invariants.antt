use Rattle.std.proofs.Common.{◌≡◌, take}
use Rattle.doll_lint.proofs.reading.copy_paths.Given as goal

-- the paths so far
abbrev pub invariant-loop-path : goal.invariant-loop-path
invariant-loop-path l = l.copies ≡ take l.path-index l.paths
