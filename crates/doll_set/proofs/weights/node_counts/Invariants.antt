use Rattle.std.proofs.Common.{◌≡◌, ◌-◌, ◌^◌, map, min, take}
use Rattle.doll_set.specs.Weights as spec
use Rattle.doll_set.proofs.weights.node_counts.Given as goal

-- the counts of the templates so far
abbrev pub invariant-loop-template : goal.invariant-loop-template
invariant-loop-template l = l.nodes.items ≡ map (λ n. min n (2 ^ 32 - 1)) (spec.node_counts (take l.template-index l.templates))
