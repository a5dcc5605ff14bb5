-- A table as a finite map: of each model, from ids to rows, with the id that its next row gets (this project's own).
use Rattle.std.specs.Prelude.{ℕ, ◌==◌, Bool, false, List, [], ◌∷◌, map, filter, slice_get, slice_set, Option, option_and_then}
use Rattle.std.specs.Option.{option_map_or}
use Rattle.std.specs.Ordering.{nat_cmp}
use Rattle.std.specs.FinMap as finite
use Rattle.doll_schema.specs.declared.value.Row.{Row}
use Rattle.doll_schema.specs.declared.model.Model.{Model}
use Rattle.doll_schema.specs.declared.model.HasMany.{HasMany}
use Rattle.doll_schema.specs.declared.model.Schema.{Schema}
use Rattle.doll_schema.specs.Lookups.{many_of}

-- the rows of one model by their ids, and the id that its next row gets
pub record Extent : Type 0 where
  pub rows : finite.FinMap nat_cmp Row
  pub next : ℕ

-- a table under a schema: an extent for each model
pub record TableMap : Type 0 where
  pub schema : Schema
  pub extents : List Extent

-- no rows, and each next id is 1
abbrev pub empty_table : Schema → TableMap
empty_table schema = record { schema = schema; extents = map (λ (model : Model). record { rows = finite.empty; next = 1 }) schema.models }

-- the rows of a model by their ids
abbrev pub rows_in : TableMap → ℕ → finite.FinMap nat_cmp Row
rows_in table model = option_map_or (λ (extent : Extent). extent.rows) (slice_get table.extents model) finite.empty

-- the row of a model under an id, where it lives
abbrev pub row_of : TableMap → ℕ → ℕ → Option Row
row_of table model id = finite.get (rows_in table model) id

-- the id that the next row of a model gets
abbrev pub next_of : TableMap → ℕ → ℕ
next_of table model = option_map_or (λ (extent : Extent). extent.next) (slice_get table.extents model) 0

-- the living ids of a model, ascending
abbrev pub ids_of : TableMap → ℕ → List ℕ
ids_of table model = finite.keys (rows_in table model)

-- the foreign key of a row at one of its associations to a parent
abbrev pub parent_of : Row → ℕ → Option ℕ
parent_of row place = option_and_then (λ key. key) (slice_get row.parents place)

-- whether that foreign key names this parent
abbrev pub names_parent : ℕ → ℕ → Row → Bool
names_parent place parent row = option_map_or (λ key. key == parent) (parent_of row place) false

-- the ids, ascending, of a model's rows whose foreign key at a place names this parent
abbrev pub ids_under : TableMap → ℕ → ℕ → ℕ → List ℕ
ids_under table model place parent = map (λ entry. entry.0) (filter (λ entry. names_parent place parent entry.1) (finite.entries (rows_in table model)))

-- the ids of a record's children under an association, ascending
abbrev pub children_of : TableMap → ℕ → ℕ → ℕ → List ℕ
children_of table model place parent = option_map_or (λ (many : HasMany). ids_under table many.model many.inverse parent) (many_of table.schema model place) []

-- the table with the extent of a model changed
abbrev pub with_extent : TableMap → ℕ → (Extent → Extent) → TableMap
with_extent table model change = record table { extents = option_map_or (λ (extent : Extent). slice_set table.extents model (change extent)) (slice_get table.extents model) table.extents }

-- the table with this row under this id
abbrev pub put_row : TableMap → ℕ → ℕ → Row → TableMap
put_row table model id row = with_extent table model (λ extent. record extent { rows = finite.insert extent.rows id row })

-- the table without the row under this id
abbrev pub without_row : TableMap → ℕ → ℕ → TableMap
without_row table model id = with_extent table model (λ extent. record extent { rows = finite.remove extent.rows id })

-- the table without the rows of these records, each the number of its model and its id
abbrev pub without_rows : TableMap → List (ℕ × ℕ) → TableMap
without_rows table [] = table
without_rows table (one ∷ records) = without_row (without_rows table records) one.0 one.1

-- the rows without those under these ids
abbrev pub without_ids : finite.FinMap nat_cmp Row → List ℕ → finite.FinMap nat_cmp Row
without_ids rows [] = rows
without_ids rows (id ∷ ids) = finite.remove (without_ids rows ids) id

-- the ids of those of these records that are of a model
abbrev pub ids_among : List (ℕ × ℕ) → ℕ → List ℕ
ids_among records model = map (λ one. one.1) (filter (λ one. one.0 == model) records)

-- an extent, with the number of its model, without the rows of these records
abbrev pub extent_without : List (ℕ × ℕ) → ℕ × Extent → Extent
extent_without records numbered = record numbered.1 { rows = without_ids numbered.1.rows (ids_among records numbered.0) }

-- the table with this next id of a model
abbrev pub put_next : TableMap → ℕ → ℕ → TableMap
put_next table model next = with_extent table model (λ extent. record extent { next = next })
