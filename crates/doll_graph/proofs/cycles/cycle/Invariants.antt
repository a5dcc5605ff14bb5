use Rattle.std.proofs.Common.{◌≡◌, ◌-◌, length}
use Rattle.std.specs.List.{find, range_with_len}
use Rattle.doll_graph.specs.Graphs as spec
use Rattle.doll_graph.proofs.cycles.cycle.Given as goal

-- no thing so far is on a cycle
abbrev pub invariant-loop-number : goal.invariant-loop-number
invariant-loop-number l = find (spec.is_on_cycle l.graph) (range_with_len l.number (length l.graph - l.number)) ≡ find (spec.is_on_cycle l.graph) (spec.numbers l.graph)
