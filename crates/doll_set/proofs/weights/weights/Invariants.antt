use Rattle.std.proofs.Common.{◌≡◌, ◌-◌, ◌^◌}
use Rattle.doll_set.specs.Weights as spec
use Rattle.doll_set.proofs.weights.weights.Given as goal

-- the weights so many levels deep
abbrev pub invariant-loop-level : goal.invariant-loop-level
invariant-loop-level l = l.weights.items ≡ spec.level_capped (2 ^ 32 - 1) l.nodes (spec.rendered_by l.links) l._level
