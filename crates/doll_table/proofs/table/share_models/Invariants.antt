use Rattle.std.proofs.Common.{◌≡◌, take}
use Rattle.doll_table.proofs.table.share_models.Given as goal

-- what is copied so far is the models passed
abbrev pub invariant-loop-rows : goal.invariant-loop-rows
invariant-loop-rows l = l.copy.items ≡ take l.rows-index l.models
