use Rattle.std.proofs.Common.{◌≡◌, take}
use Rattle.doll_base.specs.Folders.{logged_bytes}
use Rattle.doll_base.proofs.asked.Asked.add.Given as goal

abbrev pub invariant-loop-byte : goal.invariant-loop-byte
invariant-loop-byte l = logged_bytes l.bytes.items ≡ take l.byte-index l.byte-items
