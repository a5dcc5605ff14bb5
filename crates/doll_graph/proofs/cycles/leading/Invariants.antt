use Rattle.std.proofs.Common.{◌≡◌, ◌≤◌, length}
use Rattle.doll_graph.specs.Graphs as spec
use Rattle.doll_graph.proofs.cycles.leading.Given as goal

-- those that lead there in the steps so far
abbrev pub invariant-loop-step : goal.invariant-loop-step
invariant-loop-step l = record {
  marks : l.marks.items ≡ spec.leading l.graph l.target l._step;
  count : length l.marks.items ≡ length l.graph;
  within : l._step ≤ l.steps;
}
