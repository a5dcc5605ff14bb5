use Rattle.std.proofs.Common.{◌≡◌, map, take}
use Rattle.doll_graph.proofs.chains.all_marked.Given as goal

-- one mark for each thing so far
abbrev pub invariant-loop-numbers : goal.invariant-loop-numbers
invariant-loop-numbers l = l.marks.items ≡ map (λ _. l.mark) (take l._numbers-index l.graph)
