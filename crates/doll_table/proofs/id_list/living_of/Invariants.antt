use Rattle.std.proofs.Common.{◌≡◌, filter, take}
use Rattle.std.specs.FinMap as finite
use Rattle.doll_table.proofs.id_list.living_of.Given as goal

-- what is found so far is what lives of the ids passed
abbrev pub invariant-loop-id : goal.invariant-loop-id
invariant-loop-id l = l.living.items ≡ filter (finite.contains_key l.rows) (take l.id-index l.ids)
