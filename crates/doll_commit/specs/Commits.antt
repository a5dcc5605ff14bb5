-- A commit: its changes in order, and the moment of the commit at every record that they touch (this project's own,
-- after `touch` in Active Record).
use Rattle.std.specs.Prelude.{ℕ, ◌+◌, nat_lt, List, [], ◌∷◌, ◌++◌, map, zip, fold, length, slice_get, Option, Result, Ok, Err, if◌then◌else◌}
use Rattle.std.specs.List.{flat_map}
use Rattle.std.specs.Option.{option_map_or, option_to_list}
use Rattle.doll_text.specs.Steps.{◌>>=◌}
use Rattle.doll_schema.specs.declared.model.BelongsTo.{BelongsTo}
use Rattle.doll_schema.specs.declared.model.Model.{Model}
use Rattle.doll_schema.specs.declared.model.Schema.{Schema}
use Rattle.doll_schema.specs.declared.value.Row.{Row}
use Rattle.doll_journal.specs.declared.change.Change.{Change}
use Rattle.doll_journal.specs.declared.change.Commit.{Commit}
use Rattle.doll_table.specs.Tables.{TableMap, row_of, put_row}
use Rattle.doll_commit.specs.declared.fault.Why.{Why}
use Rattle.doll_commit.specs.declared.fault.Why.TheVariants as why
use Rattle.doll_commit.specs.declared.fault.CommitFault.{CommitFault}
use Rattle.doll_commit.specs.declared.fault.CommitFault.TheVariants as fault
use Rattle.doll_commit.specs.declared.apply.Applied.{Applied}
use Rattle.doll_commit.specs.declared.apply.TheConstants.{MOST_CHANGES}
use Rattle.doll_commit.specs.Refs.{Ref, with_refs, closure}
use Rattle.doll_commit.specs.Changes.{Made, made}

-- the parent that a row has under an association that touches
abbrev pub touched_by : BelongsTo × Option ℕ → List Ref
touched_by pair = if pair.0.touch then map (λ id. (pair.0.model, id)) (option_to_list pair.1) else []

abbrev pub row_touches : Model → Row → List Ref
row_touches model row = flat_map touched_by (zip model.belongs_to row.parents)

-- a record's touch parents: the records that its row, where it lives, names under associations that touch
abbrev pub touch_parents : TableMap → Schema → Ref → List Ref
touch_parents table schema ref = option_map_or (λ (m : Model). option_map_or (row_touches m) (row_of table ref.0 ref.1) []) (slice_get schema.models ref.0) []

-- the records that a change touches at once: those that it changed, and their touch parents just before and just after
abbrev pub touched_at_once : TableMap → Schema → Made → List Ref
touched_at_once before schema made = made.changed ++ flat_map (touch_parents before schema) made.changed ++ flat_map (touch_parents made.table schema) made.changed

-- What changes made in order come to: the table after them, the records that they touched at once, each once, and the ids
-- that they created, both in order.
pub record Course : Type 0 where
  pub table : TableMap
  pub touched : List Ref
  pub ids : List ℕ

-- a table before any change
abbrev pub start : TableMap → Course
start table = record { table = table; touched = []; ids = [] }

-- what changes come to with one more
abbrev pub after_change : Schema → Course → Made → Course
after_change schema course made = record {
  table = made.table;
  touched = with_refs course.touched (touched_at_once course.table schema made);
  ids = course.ids ++ option_to_list made.created;
}

abbrev pub refused_at : {A : Type 0} → ℕ → Result A Why → Result A CommitFault
refused_at index (Ok x) = Ok x
refused_at index (Err what) = Err (fault.Refused index what)

-- changes made in order, the first of these with an index
abbrev pub all_made : Schema → ℕ → Course → List Change → Result Course CommitFault
all_made schema index course [] = Ok course
all_made schema index course (one ∷ more) = refused_at index (made course.table schema one) >>= λ made. all_made schema (index + 1) (after_change schema course made) more

-- the touched set: what was touched at once, the touch parents of that in the table after the last change, and so on
abbrev pub touched_set : Schema → Course → List Ref
touched_set schema course = closure (touch_parents course.table schema) course.table course.touched

-- a table with a moment at a record, where it lives
abbrev pub stamped_at : ℕ → TableMap → Ref → TableMap
stamped_at moment table ref = option_map_or (λ (row : Row). put_row table ref.0 ref.1 (record row { updated_at = moment })) (row_of table ref.0 ref.1) table

abbrev pub stamped : ℕ → TableMap → List Ref → TableMap
stamped moment = fold (stamped_at moment)

-- what a course comes to: its table with a moment at each record of the touched set, and its ids
abbrev pub applied_of : Schema → ℕ → Course → Applied
applied_of schema moment course = record { table = stamped moment course.table (touched_set schema course); ids = course.ids }

-- a commit over a table, or its first refused change
abbrev pub commit_of : TableMap → Schema → Commit → Result Applied CommitFault
commit_of table schema commit =
    if nat_lt MOST_CHANGES (length commit.changes) then Err (fault.Refused MOST_CHANGES why.TooManyChanges)
    else all_made schema 0 (start table) commit.changes >>= λ course. Ok (applied_of schema commit.moment course)
