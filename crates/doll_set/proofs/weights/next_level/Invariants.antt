use Rattle.std.proofs.Common.{◌≡◌, ◌-◌, ◌^◌, min, map}
use Rattle.std.specs.List.{range_with_len}
use Rattle.doll_set.specs.Weights as spec
use Rattle.doll_set.proofs.weights.next_level.Given as goal

-- the weights of the numbers so far
abbrev pub invariant-loop-number : goal.invariant-loop-number
invariant-loop-number l = l.next.items ≡ map (λ number. min (spec.weight_step l.nodes (spec.rendered_by l.links) number (spec.weight_in l.weights)) (2 ^ 32 - 1)) (range_with_len 0 l.number)
