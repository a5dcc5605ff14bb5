use Rattle.std.proofs.Common.{◌≡◌, take}
use Rattle.doll_text.proofs.copies.copy_list.Given as goal

-- what is copied so far is the items passed
abbrev pub invariant-loop-item : goal.invariant-loop-item
invariant-loop-item g l = l.copy ≡ take l.item-index l.items
