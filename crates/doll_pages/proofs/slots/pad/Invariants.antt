use Rattle.std.proofs.Common.{◌≡◌, ◌+◌, ◌-◌, ◌≤◌}
use Rattle.std.specs.Prelude.{vec_len, vec_capacity}
use Rattle.doll_pages.specs.Slots.{padded}
use Rattle.doll_pages.proofs.slots.pad.Given as goal

-- what is still to be added leads to the slots as they are to be, and there is room for it
abbrev pub invariant-loop-slot : goal.invariant-loop-slot
invariant-loop-slot g l = record {
  slots : padded l.slots.items (l.more - l._slot) ≡ padded l.initial.slots.items l.more;
  room : vec_len l.slots + (l.more - l._slot + 1) ≤ vec_capacity l.slots;
}
