use Rattle.std.proofs.Common.{◌≡◌, take}
use Rattle.doll_table.specs.Tables.{ids_among}
use Rattle.doll_table.proofs.table.ids_among.Given as goal

-- what is found so far is of the records passed
abbrev pub invariant-loop-model : goal.invariant-loop-model
invariant-loop-model l = l.ids.items ≡ ids_among (take l.model-index l.records) l.number
