use Rattle.std.proofs.Common.{◌≡◌, ◌+◌, ◌^◌, length, min, take}
use Rattle.std.specs.List.{flat_map}
use Rattle.doll_journal.specs.Spelling.{pair_bytes}
use Rattle.doll_journal.proofs.lengths.given_len.Given as goal

-- the count and the pairs so far
abbrev pub invariant-loop-pair : goal.invariant-loop-pair
invariant-loop-pair l = l.len ≡ min (4 + length (flat_map pair_bytes (take l.pair-index l.given))) (2 ^ 32)
