use Rattle.doll_table.proofs.Fewer.{IsUnlinked}
use Rattle.doll_table.proofs.links.unlink_gone.Given as goal

-- the row's links at the places passed are gone
abbrev pub invariant-loop-place : goal.invariant-loop-place
invariant-loop-place l = IsUnlinked l.living l.initial.links l.links l.row l.id l.place
