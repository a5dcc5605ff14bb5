use Rattle.std.proofs.Common.{◌≡◌, take}
use Rattle.doll_lint.specs.Readings.{paths_to}
use Rattle.doll_lint.proofs.reading.paths_to.Given as goal

-- the paths so far with the step
abbrev pub invariant-loop-path : goal.invariant-loop-path
invariant-loop-path l = l.longer ≡ paths_to l.schema l.step (take l.path-index l.paths)
