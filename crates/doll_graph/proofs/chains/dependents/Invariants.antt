use Rattle.std.proofs.Common.{◌≡◌, take}
use Rattle.doll_graph.specs.Graphs as spec
use Rattle.doll_graph.proofs.chains.dependents.Given as goal

-- those among the things so far
abbrev pub invariant-loop-numbers : goal.invariant-loop-numbers
invariant-loop-numbers l = l.next.items ≡ spec.dependents (take l.numbers-index l.graph) l.marks
