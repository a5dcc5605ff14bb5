use Rattle.std.proofs.Common.{◌≡◌, take}
use Rattle.doll_pages.proofs.slots.copy_slots.Given as goal

-- what is copied so far is the slots passed
abbrev pub invariant-loop-slot : goal.invariant-loop-slot
invariant-loop-slot g l = l.copy.items ≡ take l.slot-index l.slots
