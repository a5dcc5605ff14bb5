-- Histories: commits whose moments rise, each accepted over the table that those before it leave (this project's own).
use Rattle.std.specs.Prelude.{ℕ, ◌+◌, ◌≡◌, ◌≤◌, nat_lt, nat_le, Bool, true, ◌&&◌, List, [], ◌∷◌, map, filter, take, length, Option, None, Some, IsSome, IsTrue, Result, Ok, Err, min, max}
use Rattle.std.specs.List.{AllByRecursion}
use Rattle.std.specs.Option.{option_map_or}
use Rattle.doll_schema.specs.declared.model.Schema.{Schema}
use Rattle.doll_journal.specs.declared.change.Commit.{Commit}
use Rattle.doll_journal.specs.Spelling.{spelling}
use Rattle.doll_journal.specs.Storable.{IsStorable}
use Rattle.doll_table.specs.Tables.{TableMap, empty_table}
use Rattle.doll_table.specs.Fits.{Fits}
use Rattle.doll_commit.specs.declared.apply.Applied.{Applied}
use Rattle.doll_commit.specs.declared.fault.CommitFault.{CommitFault}
use Rattle.doll_commit.specs.Commits.{commit_of}
use Rattle.doll_records.specs.declared.limits.TheConstants.{MOST_COMMITS, LATEST, LAST_MOMENT}

-- what follows a commit, where it is accepted
abbrev pub accepted : (TableMap → Option TableMap) → Result Applied CommitFault → Option TableMap
accepted next (Ok applied) = next applied.table
accepted next (Err fault) = None

-- the table after commits made on a table one after another, where each is accepted
unfoldable pub made_on : Schema → TableMap → List Commit → Option TableMap
made_on schema table [] = Some table
made_on schema table (commit ∷ commits) = accepted (λ next. made_on schema next commits) (commit_of table schema commit)

-- the table after the first commits of a history, so many of them
abbrev pub table_at : Schema → List Commit → ℕ → Option TableMap
table_at schema history place = made_on schema (empty_table schema) (take place history)

-- the table after all the commits of a history; without rows where these are no history
unfoldable pub table_of : Schema → List Commit → TableMap
table_of schema history = option_map_or (λ table. table) (made_on schema (empty_table schema) history) (empty_table schema)

-- the moment of the last of these commits, or the one before them where there is none
unfoldable pub last_moment : ℕ → List Commit → ℕ
last_moment before [] = before
last_moment before (commit ∷ commits) = last_moment commit.moment commits

-- the moment of the commit at a place, counted from 1; 0 for the place 0
abbrev pub moment_at : List Commit → ℕ → ℕ
moment_at history place = last_moment 0 (take place history)

-- the commits of a history with moments up to this one
abbrev pub up_to : List Commit → ℕ → List Commit
up_to history moment = filter (λ (c : Commit). nat_le c.moment moment) history

-- the table after the commits of a history up to a moment
abbrev pub table_up_to : Schema → List Commit → ℕ → Option TableMap
table_up_to schema history moment = made_on schema (empty_table schema) (up_to history moment)

-- a commit's moment is above one before it, and not above the last that there is
abbrev pub follows : ℕ → Commit → Bool
follows before commit = nat_lt before commit.moment && nat_le commit.moment LAST_MOMENT

-- moments rise strictly from one before them, and none is above the last that there is
unfoldable pub rise : ℕ → List Commit → Bool
rise before [] = true
rise before (commit ∷ commits) = follows before commit && rise commit.moment commits

-- a history under a schema
pub record IsHistory (schema : Schema) (history : List Commit) : Type 0 where
  pub rises : IsTrue (rise 0 history)
  pub accepted : IsSome (table_at schema history (length history))

-- in a history the commits up to the moment at a place are the first ones, so many of them, and the table up to that
-- moment is the table at that place
abbrev pub MomentsTellPlaces : Type 0
MomentsTellPlaces = (schema : Schema) (history : List Commit) (place : ℕ) → IsHistory schema history → place ≤ length history
    → (up_to history (moment_at history place) ≡ take place history) × (table_up_to schema history (moment_at history place) ≡ table_at schema history place)

-- the moment of a commit that is asked for at a time, after the last one
abbrev pub next_moment : ℕ → ℕ → ℕ
next_moment before now = max (min now LATEST) (before + 1)

-- What is held of a history beside its commits: the table that they leave, and the moment of the last.
pub record Holds (schema : Schema) (history : List Commit) (table : TableMap) (last : ℕ) : Type 0 where
  pub rises : IsTrue (rise 0 history)
  pub made : made_on schema (empty_table schema) history ≡ Some table
  pub moment : last ≡ last_moment 0 history
  pub fits : Fits schema table
  pub storable : AllByRecursion IsStorable history
  pub short : length history ≤ MOST_COMMITS

-- A keeper's list, where it is told, is the spellings of a history in order.
abbrev pub IsSpelled : Option (List (List ℕ)) → List Commit → Type 0
IsSpelled None history = Unit {0}
IsSpelled (Some items) history = items ≡ map spelling history

-- What is known of a history behind a keeper.
pub record Recorded (K : Type 0) : Type 0 where
  pub schema : Schema
  pub history : List Commit
  pub keeper : K
