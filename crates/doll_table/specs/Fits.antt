-- When a table fits a schema (this project's own).
use Rattle.std.specs.Prelude.{ℕ, ◌≡◌, ◌<◌, ◌≤◌, length, slice_get, Some, IsSome, IsTrue}
use Rattle.doll_schema.specs.declared.value.Value.{Value}
use Rattle.doll_schema.specs.declared.value.Row.{Row}
use Rattle.doll_schema.specs.declared.model.Attribute.{Attribute}
use Rattle.doll_schema.specs.declared.model.BelongsTo.{BelongsTo}
use Rattle.doll_schema.specs.declared.model.Model.{Model}
use Rattle.doll_schema.specs.declared.model.Schema.{Schema}
use Rattle.doll_schema.specs.Values.{has_kind}
use Rattle.doll_table.specs.Tables.{TableMap, row_of, next_of, parent_of}

-- A row fits its model: it has a value of its kind for each attribute, and a key, nil or of a living row, for each
-- association to a parent.
pub record RowFits (table : TableMap) (model : Model) (row : Row) : Type 0 where
  pub as_many_values : length row.values ≡ length model.attributes
  pub kinds : (at : ℕ) (a : Attribute) (v : Value) → slice_get model.attributes at ≡ Some a → slice_get row.values at ≡ Some v → IsTrue (has_kind a.kind v)
  pub as_many_parents : length row.parents ≡ length model.belongs_to
  pub parents : (at : ℕ) (b : BelongsTo) (id : ℕ) → slice_get model.belongs_to at ≡ Some b → parent_of row at ≡ Some id → IsSome (row_of table b.model id)

-- A table fits a schema: it has that schema and an extent for each model, ids are at least 1 and below the next id,
-- which is itself at least 1, and each row fits its model.
pub record Fits (schema : Schema) (table : TableMap) : Type 0 where
  pub same : table.schema ≡ schema
  pub extents : length table.extents ≡ length schema.models
  pub nexts : (model : ℕ) → model < length table.extents → 1 ≤ next_of table model
  pub ids : (model id : ℕ) → IsSome (row_of table model id) → (1 ≤ id) × (id < next_of table model)
  pub rows : (model id : ℕ) (m : Model) (row : Row) → slice_get schema.models model ≡ Some m → row_of table model id ≡ Some row → RowFits table m row
