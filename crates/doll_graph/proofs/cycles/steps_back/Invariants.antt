use Rattle.std.proofs.Common.{◌≡◌, ◌+◌, ◌-◌, not, length}
use Rattle.std.specs.List.{prefix_len, range_with_len}
use Rattle.doll_graph.specs.Graphs as spec
use Rattle.doll_graph.proofs.cycles.steps_back.Given as goal

-- so many steps are too few; the marks are those that lead there in so many
abbrev pub invariant-loop-steps : goal.invariant-loop-steps
invariant-loop-steps l = record {
  marks : l.marks.items ≡ spec.leading l.graph l.target l.steps;
  count : length l.marks.items ≡ length l.graph;
  too_few : l.steps + prefix_len (λ n. not (spec.leads l.graph l.target n l.target)) (range_with_len l.steps (length l.graph - l.steps)) ≡ spec.steps_back l.graph l.target;
}
