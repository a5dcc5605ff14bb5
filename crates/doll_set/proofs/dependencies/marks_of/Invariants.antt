use Rattle.std.proofs.Common.{◌≡◌, ◌==◌, map, take}
use Rattle.std.specs.List.{list_any, range_with_len}
use Rattle.doll_set.proofs.dependencies.marks_of.Given as goal

-- the numbers so far are marked
abbrev pub invariant-loop-number : goal.invariant-loop-number
invariant-loop-number l = l.marks.items ≡ map (λ number. list_any (λ other. number == other) (take l.number-index l.numbers)) (range_with_len 0 l.count)
