use Rattle.std.proofs.Common.{◌≡◌, ◌+◌, ◌^◌, length, min, take}
use Rattle.std.specs.List.{flat_map}
use Rattle.doll_journal.specs.Spelling.{change_bytes}
use Rattle.doll_journal.proofs.lengths.changes_len.Given as goal

-- the count and the changes so far
abbrev pub invariant-loop-change : goal.invariant-loop-change
invariant-loop-change l = l.len ≡ min (4 + length (flat_map change_bytes (take l.change-index l.changes))) (2 ^ 32)
