use Rattle.std.proofs.Common.{◌≡◌, ◌++◌, drop}
use Rattle.doll_faults.specs.Lines.{lint_lines}
use Rattle.doll_faults.proofs.lints.lint_lines.Given as goal

-- the lines so far and those that are left are all
abbrev pub invariant-loop-fault : goal.invariant-loop-fault
invariant-loop-fault l = l.lines.items ++ lint_lines (drop l.fault-index l.faults) ≡ lint_lines l.faults
