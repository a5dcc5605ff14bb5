use Rattle.std.proofs.Common.{◌≡◌, map, take}
use Rattle.std.specs.List.{enumerate_from}
use Rattle.doll_table.specs.Tables.{extent_without}
use Rattle.doll_table.proofs.table.models_without.Given as goal

-- what is left so far is of the models passed
abbrev pub invariant-loop-number : goal.invariant-loop-number
invariant-loop-number l = l.left.items ≡ map (extent_without l.records) (enumerate_from 0 (take l.number l.models))
