-- What goes with a record that is destroyed, and when it may not go (this project's own).
use Rattle.std.specs.Prelude.{ℕ, ◌==◌, Bool, not, List, [], ◌∷◌, map, slice_get, if◌then◌else◌}
use Rattle.std.specs.List.{list_any, flat_map, enumerate_from}
use Rattle.std.specs.Option.{option_map_or}
use Rattle.doll_schema.specs.declared.model.BelongsTo.{BelongsTo}
use Rattle.doll_schema.specs.declared.model.HasMany.{HasMany}
use Rattle.doll_schema.specs.declared.model.Model.{Model}
use Rattle.doll_schema.specs.declared.model.Schema.{Schema}
use Rattle.doll_table.specs.Tables.{TableMap, ids_under}
use Rattle.doll_commit.specs.Refs.{Ref, has, closure}

-- a record's children under an association, if that destroys them
abbrev pub children_under : TableMap → ℕ → HasMany → List Ref
children_under table parent many = if many.destroy then map (λ id. (many.model, id)) (ids_under table many.model many.inverse parent) else []

-- the records that go because a record goes
abbrev pub dependents : TableMap → Schema → Ref → List Ref
dependents table schema ref = option_map_or (λ (m : Model). flat_map (children_under table ref.1) m.has_many) (slice_get schema.models ref.0) []

-- a record, those that go because it goes, those that go because they go, and so on
abbrev pub removed_with : TableMap → Schema → Ref → List Ref
removed_with table schema ref = closure (dependents table schema) table (ref ∷ [])

-- the rows of a model that name a record by the foreign key of an association
abbrev pub naming_by : TableMap → Ref → ℕ → ℕ × BelongsTo → List Ref
naming_by table ref model key = if key.1.model == ref.0 then map (λ id. (model, id)) (ids_under table model key.0 ref.1) else []

-- the rows that name a record by a foreign key
abbrev pub naming : TableMap → Schema → Ref → List Ref
naming table schema ref = flat_map (λ (m : ℕ × Model). flat_map (naming_by table ref m.0) (enumerate_from 0 m.1.belongs_to)) (enumerate_from 0 schema.models)

-- whether some record is not among the others
abbrev pub has_other : List Ref → List Ref → Bool
has_other others refs = list_any (λ ref. not (has others ref)) refs

-- whether a row outside of these records names one of them
abbrev pub is_restricted : TableMap → Schema → List Ref → Bool
is_restricted table schema removed = list_any (λ gone. has_other removed (naming table schema gone)) removed
