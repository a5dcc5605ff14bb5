-- One change: the table after it and the records that it changed, or why it is refused (this project's own).
use Rattle.std.specs.Prelude.{ℕ, ◌+◌, ◌==◌, List, [], ◌∷◌, slice_get, Option, None, Some, Result, Ok, Err, if◌then◌else◌}
use Rattle.std.specs.Option.{option_map_or, ok_or}
use Rattle.doll_text.specs.Steps.{◌>>=◌}
use Rattle.doll_schema.specs.declared.model.Model.{Model}
use Rattle.doll_schema.specs.declared.model.Schema.{Schema}
use Rattle.doll_schema.specs.declared.value.Row.{Row}
use Rattle.doll_schema.specs.Lookups.{model_named}
use Rattle.doll_journal.specs.declared.change.Change.{Change}
use Rattle.doll_journal.specs.declared.change.Change.TheVariants as change
use Rattle.doll_table.specs.Tables.{TableMap, row_of, next_of, put_row, put_next, without_rows}
use Rattle.doll_commit.specs.declared.change.TheConstants.{NO_ID}
use Rattle.doll_commit.specs.declared.fault.Why.{Why}
use Rattle.doll_commit.specs.declared.fault.Why.TheVariants as why
use Rattle.doll_commit.specs.Refs.{Ref}
use Rattle.doll_commit.specs.Given.{Given, given_fault}
use Rattle.doll_commit.specs.Rows.{blank_row, row_after, lacks}
use Rattle.doll_commit.specs.Removed.{removed_with, is_restricted}

-- what a change made: the table after it, the records that it created, updated, touched or removed, and the id of the
-- record that it created
pub record Made : Type 0 where
  pub table : TableMap
  pub changed : List Ref
  pub created : Option ℕ

-- the number of the model that has a name
abbrev pub model_of : Schema → List ℕ → Result ℕ Why
model_of schema name = ok_or (model_named schema name) why.UnknownModel

-- a living row
abbrev pub living_row : TableMap → Ref → Result Row Why
living_row table ref = ok_or (row_of table ref.0 ref.1) why.MissingRow

-- a fault, if there is one, else what comes behind it
abbrev pub unless : {A : Type 0} → Option Why → Result A Why → Result A Why
unless fault result = option_map_or Err fault result

-- a row with the values given, if these are values for it and leave nothing nil that may not be
abbrev pub filled : TableMap → Model → Given → Row → Result Row Why
filled table model given old = unless (given_fault table model given) (if lacks model (row_after model given old) then Err why.NullRefused else Ok (row_after model given old))

-- the same, for a row of the model with this number
abbrev pub filled_at : TableMap → Schema → ℕ → Given → Row → Result Row Why
filled_at table schema m given old = ok_or (slice_get schema.models m) why.UnknownModel >>= λ model. filled table model given old

-- the row that a creation makes of the values given, all others nil, and the row that an update makes of a living one
abbrev pub created_row : TableMap → Schema → Given → ℕ → Result Row Why
created_row table schema given m = ok_or (slice_get schema.models m) why.UnknownModel >>= λ model. filled table model given (blank_row model)

abbrev pub updated_row : TableMap → Schema → Given → Ref → Result Row Why
updated_row table schema given ref = living_row table ref >>= λ old. filled_at table schema ref.0 given old

-- a creation takes the next id, of which the last is never given
abbrev pub create : TableMap → Schema → Given → ℕ → Result Made Why
create table schema given m =
    let id = next_of table m in
    if id == NO_ID then Err why.IdsEnded
    else created_row table schema given m >>= λ row.
    Ok (record { table = put_row (put_next table m (id + 1)) m id row; changed = (m, id) ∷ []; created = Some id })

-- an update sets the values given and leaves the others
abbrev pub update : TableMap → Schema → Given → Ref → Result Made Why
update table schema given ref = updated_row table schema given ref >>= λ row.
    Ok (record { table = put_row table ref.0 ref.1 row; changed = ref ∷ []; created = None })

-- a destroy removes the record and all that go with it
abbrev pub destroy_all : TableMap → Schema → List Ref → Result Made Why
destroy_all table schema removed = if is_restricted table schema removed then Err why.Restricted else Ok (record { table = without_rows table removed; changed = removed; created = None })

abbrev pub destroy : TableMap → Schema → Ref → Result Made Why
destroy table schema ref = living_row table ref >>= λ old. destroy_all table schema (removed_with table schema ref)

-- a touch changes nothing by itself
abbrev pub touch : TableMap → Ref → Result Made Why
touch table ref = living_row table ref >>= λ old. Ok (record { table = table; changed = ref ∷ []; created = None })

-- What a change makes of a table, or why it isn't made. The name of its model comes first, so that of an unknown model
-- nothing else is told.
abbrev pub made : TableMap → Schema → Change → Result Made Why
made table schema (change.Create name given) = model_of schema name >>= create table schema given
made table schema (change.Update name id given) = model_of schema name >>= λ m. update table schema given (m, id)
made table schema (change.Destroy name id) = model_of schema name >>= λ m. destroy table schema (m, id)
made table schema (change.Touch name id) = model_of schema name >>= λ m. touch table (m, id)
