use Rattle.std.proofs.Common.{◌≡◌, false, map}
use Rattle.std.specs.List.{range_with_len}
use Rattle.doll_set.proofs.dependencies.unmarked.Given as goal

-- so many as were counted
abbrev pub invariant-loop-number : goal.invariant-loop-number
invariant-loop-number l = l.marks.items ≡ map (λ _. false) (range_with_len 0 l._number)
