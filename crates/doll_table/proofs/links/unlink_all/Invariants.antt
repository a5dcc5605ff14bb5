use Rattle.std.proofs.Common.{drop}
use Rattle.doll_table.proofs.Fewer.{AreUnlinked}
use Rattle.doll_table.proofs.links.unlink_all.Given as goal

-- the links of the rows passed are gone
abbrev pub invariant-loop-id : goal.invariant-loop-id
invariant-loop-id l = AreUnlinked l.rows l.living l.initial.links l.links l.ids (drop l.id-index l.ids)
