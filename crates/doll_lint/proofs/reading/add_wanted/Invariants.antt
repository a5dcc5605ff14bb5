use Rattle.std.proofs.Common.{◌≡◌, ◌++◌, take}
use Rattle.doll_lint.specs.Readings.{wanted}
use Rattle.doll_lint.proofs.reading.add_wanted.Given as goal

-- the paths so far are wanted
abbrev pub invariant-loop-path : goal.invariant-loop-path
invariant-loop-path l = l.wants ≡ l.fn.wants ++ wanted l.grade (take l.path-index l.paths)
