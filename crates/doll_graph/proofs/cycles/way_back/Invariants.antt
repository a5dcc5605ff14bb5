use Rattle.std.proofs.Common.{◌≡◌, ◌++◌}
use Rattle.doll_graph.specs.Graphs as spec
use Rattle.doll_graph.proofs.cycles.way_back.Given as goal

-- the way so far and the way that is left make the whole
abbrev pub invariant-loop-left : goal.invariant-loop-left
invariant-loop-left l = l.way ++ spec.way l.graph l.target l.left l.number ≡ spec.way l.graph l.target (spec.steps_back l.graph l.target) l.target

abbrev pub decreases-loop-left : goal.decreases-loop-left
decreases-loop-left l = l.left
