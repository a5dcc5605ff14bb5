use Rattle.std.proofs.Common.{◌≡◌, take}
use Rattle.doll_types.proofs.typed.copy_route.Given as goal

-- the parameters so far
abbrev pub invariant-loop-name : goal.invariant-loop-name
invariant-loop-name l = l.params ≡ take l.name-index l.name-items
