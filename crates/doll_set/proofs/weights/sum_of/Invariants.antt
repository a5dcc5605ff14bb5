use Rattle.std.proofs.Common.{◌≡◌, ◌-◌, ◌^◌, min, take}
use Rattle.std.specs.List.{sum_by}
use Rattle.doll_set.specs.Weights as spec
use Rattle.doll_set.proofs.weights.sum_of.Given as goal

-- the sum of the weights so far
abbrev pub invariant-loop-number : goal.invariant-loop-number
invariant-loop-number l = l.sum ≡ min (sum_by (spec.weight_in l.weights) (take l.number-index l.numbers)) (2 ^ 32 - 1)
