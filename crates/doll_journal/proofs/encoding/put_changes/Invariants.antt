use Rattle.std.proofs.Common.{◌≡◌, ◌++◌, length, take}
use Rattle.std.specs.Int.{w32, to_be_bytes}
use Rattle.std.specs.List.{flat_map}
use Rattle.doll_journal.specs.Spelling.{change_bytes}
use Rattle.doll_journal.proofs.encoding.put_changes.Given as goal

-- the count and the changes so far are written
abbrev pub invariant-loop-change : goal.invariant-loop-change
invariant-loop-change l = l.out.items ≡ l.fn.out.items ++ (to_be_bytes w32 (length l.changes) ++ flat_map change_bytes (take l.change-index l.changes))
