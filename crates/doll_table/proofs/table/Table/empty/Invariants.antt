use Rattle.std.proofs.Common.{◌≡◌, List, map, take}
use Rattle.std.specs.FinMap as finite
use Rattle.doll_schema.specs.declared.model.Model.{Model}
use Rattle.doll_table.specs.Tables.{Extent}
use Rattle.doll_table.proofs.table.Table.empty.Given as goal

-- each model passed has an extent without rows
abbrev pub invariant-loop-model : goal.invariant-loop-model
invariant-loop-model l = ◌≡◌ {A = List Extent} l.models.items (map (λ (m : Model). record { rows = finite.empty; next = 1 }) (take l._model-index l.schema.models))
