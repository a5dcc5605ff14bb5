use Rattle.std.proofs.Common.{◌≡◌, map}
use Rattle.std.specs.List.{range_with_len}
use Rattle.doll_set.proofs.weights.zeros.Given as goal

-- so many as were counted
abbrev pub invariant-loop-number : goal.invariant-loop-number
invariant-loop-number l = l.zeros.items ≡ map (λ _. 0) (range_with_len 0 l._number)
