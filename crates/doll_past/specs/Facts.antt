-- What holds between the tables at two places of one history (this project's own). A cache rests on these facts: a record that has the same moment at
-- both is the same record, with the same children where they touch it.
use Rattle.std.specs.Prelude.{ℕ, ◌≡◌, ◌≤◌, true, List, length, slice_get, None, Some, IsSome}
use Rattle.doll_schema.specs.declared.model.BelongsTo.{BelongsTo}
use Rattle.doll_schema.specs.declared.model.HasMany.{HasMany}
use Rattle.doll_schema.specs.declared.model.Model.{Model}
use Rattle.doll_schema.specs.declared.model.Schema.{Schema}
use Rattle.doll_schema.specs.declared.value.Row.{Row}
use Rattle.doll_journal.specs.declared.change.Commit.{Commit}
use Rattle.doll_table.specs.Tables.{TableMap, row_of, next_of, names_parent, ids_under}
use Rattle.doll_table.specs.Fits.{Fits}
use Rattle.doll_records.specs.Histories.{IsHistory, table_at, moment_at}

-- no record's moment is above this one
abbrev pub AreUpTo : ℕ → TableMap → Type 0
AreUpTo moment table = (m id : ℕ) (row : Row) → row_of table m id ≡ Some row → row.updated_at ≤ moment

-- The children under a `has_many` of a model touch the record that they belong to: the association that leads back to it touches.
pub record Touches (schema : Schema) (m : ℕ) (many : HasMany) : Type 0 where
  pub child : Model
  pub is_child : slice_get schema.models many.model ≡ Some child
  pub back : BelongsTo
  pub leads_back : slice_get child.belongs_to many.inverse ≡ Some back
  pub to_model : back.model ≡ m
  pub touch : back.touch ≡ true

-- A record has the same children in two tables, and each of them is the same.
pub record HasSameChildren (before after : TableMap) (many : HasMany) (id : ℕ) : Type 0 where
  pub ids : ids_under before many.model many.inverse id ≡ ids_under after many.model many.inverse id
  pub rows : (child : ℕ) (row : Row) → row_of before many.model child ≡ Some row → names_parent many.inverse id row ≡ true → row_of after many.model child ≡ Some row

-- One table is later than another, or the same.
pub record IsLater (schema : Schema) (before after : TableMap) : Type 0 where
  -- a record's moment never falls
  pub moments : (m id : ℕ) (a b : Row) → row_of before m id ≡ Some a → row_of after m id ≡ Some b → a.updated_at ≤ b.updated_at
  -- where it is the same, so is the record
  pub same_row : (m id : ℕ) (a b : Row) → row_of before m id ≡ Some a → row_of after m id ≡ Some b → a.updated_at ≡ b.updated_at → row_of before m id ≡ row_of after m id
  -- and so are its children, where they touch it
  pub same_children : (m id place : ℕ) (many : HasMany) (a b : Row) → row_of before m id ≡ Some a → row_of after m id ≡ Some b → a.updated_at ≡ b.updated_at → Touches schema m many → HasSameChildren before after many id
  -- the next ids never fall
  pub nexts : (m : ℕ) → next_of before m ≤ next_of after m
  -- a record that wasn't there has a new id, so an id is given once
  pub new_ids : (m id : ℕ) → IsSome (row_of after m id) → row_of before m id ≡ None → next_of before m ≤ id

-- The tables at two places of a history: the later one is later, both fit the schema, and no moment in either is above that of its place.
pub record AreAlong (schema : Schema) (history : List Commit) (i j : ℕ) (before after : TableMap) : Type 0 where
  pub later : IsLater schema before after
  pub fits_before : Fits schema before
  pub fits_after : Fits schema after
  pub moments_before : AreUpTo (moment_at history i) before
  pub moments_after : AreUpTo (moment_at history j) after

abbrev pub TablesAreAlong : Type 0
TablesAreAlong = (schema : Schema) (history : List Commit) (i j : ℕ) (before after : TableMap) → IsHistory schema history → i ≤ j → j ≤ length history
    → table_at schema history i ≡ Some before → table_at schema history j ≡ Some after → AreAlong schema history i j before after

-- a record that lives in an earlier and in a later table lives in each between
abbrev pub RecordsLiveOn : Type 0
RecordsLiveOn = (schema : Schema) (first between last : TableMap) → Fits schema first → IsLater schema first between → IsLater schema between last
    → (m id : ℕ) → IsSome (row_of first m id) → IsSome (row_of last m id) → IsSome (row_of between m id)
