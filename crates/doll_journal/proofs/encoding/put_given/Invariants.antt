use Rattle.std.proofs.Common.{◌≡◌, ◌++◌, length, take}
use Rattle.std.specs.Int.{w32, to_be_bytes}
use Rattle.std.specs.List.{flat_map}
use Rattle.doll_journal.specs.Spelling.{pair_bytes}
use Rattle.doll_journal.proofs.encoding.put_given.Given as goal

-- the count and the pairs so far are written
abbrev pub invariant-loop-pair : goal.invariant-loop-pair
invariant-loop-pair l = l.out.items ≡ l.fn.out.items ++ (to_be_bytes w32 (length l.given) ++ flat_map pair_bytes (take l.pair-index l.given))
