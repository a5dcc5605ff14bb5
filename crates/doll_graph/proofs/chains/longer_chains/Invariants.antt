use Rattle.std.proofs.Common.{◌≡◌}
use Rattle.doll_graph.specs.Graphs as spec
use Rattle.doll_graph.proofs.chains.longer_chains.Given as goal

-- where chains of more than so many things begin
abbrev pub invariant-loop-length : goal.invariant-loop-length
invariant-loop-length l = l.marks.items ≡ spec.longer_chains l.graph l._length
