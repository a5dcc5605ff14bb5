use Rattle.std.proofs.Common.{◌≡◌, ◌++◌, drop}
use Rattle.doll_faults.specs.Lines.{type_lines}
use Rattle.doll_faults.proofs.types.type_lines.Given as goal

-- the lines so far and those that are left are all
abbrev pub invariant-loop-fault : goal.invariant-loop-fault
invariant-loop-fault l = l.lines.items ++ type_lines (drop l.fault-index l.faults) ≡ type_lines l.faults
