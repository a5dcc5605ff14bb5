use Rattle.std.proofs.Common.{◌≡◌, ◌-◌, ◌++◌, ◌==◌}
use Rattle.std.specs.List.{filter, list_any, range_with_len}
use Rattle.doll_set.specs.Dependencies as spec
use Rattle.doll_set.proofs.dependencies.distinct.Given as goal

-- those so far and those among the numbers left are those of all
abbrev pub invariant-loop-number : goal.invariant-loop-number
invariant-loop-number l = l.once ++ filter (λ number. list_any (λ other. number == other) l.numbers) (range_with_len l.number (l.count - l.number)) ≡ spec.distinct l.count l.numbers
