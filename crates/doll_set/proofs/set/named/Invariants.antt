use Rattle.std.proofs.Common.{◌≡◌, map, take}
use Rattle.doll_set.specs.Digests.{name_at}
use Rattle.doll_set.proofs.set.named.Given as goal

-- the names so far
abbrev pub invariant-loop-number : goal.invariant-loop-number
invariant-loop-number l = l.names ≡ map (name_at l.templates) (take l.number-index l.numbers)
