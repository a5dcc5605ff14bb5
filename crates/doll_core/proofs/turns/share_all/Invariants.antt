use Rattle.std.proofs.Common.{◌≡◌, take}
use Rattle.doll_core.proofs.turns.share_all.Given as goal

-- what is copied so far is the answers passed
abbrev pub invariant-loop-one : goal.invariant-loop-one
invariant-loop-one l = l.copies.items ≡ take l.one-index l.found
