-- What opening a list of items comes to (this project's own).
use Rattle.std.specs.Prelude.{◌≡◌, ◌≤◌, ◌+◌, ℕ, nat_lt, List, [], ◌∷◌, ◌++◌, map, length, Option, None, Some, Result, Ok, Err}
use Rattle.std.specs.List.{AllByRecursion}
use Rattle.doll_text.specs.Steps.{◌>>=◌, ◌>>◌, check}
use Rattle.doll_schema.specs.declared.model.Schema.{Schema}
use Rattle.doll_journal.specs.declared.change.Commit.{Commit}
use Rattle.doll_journal.specs.declared.fault.JournalFault.{JournalFault}
use Rattle.doll_journal.specs.Reading as journal
use Rattle.doll_journal.specs.Spelling.{spelling}
use Rattle.doll_journal.specs.Storable.{IsStorable}
use Rattle.doll_commit.specs.declared.apply.Applied.{Applied}
use Rattle.doll_commit.specs.declared.fault.CommitFault.{CommitFault}
use Rattle.doll_commit.specs.declared.fault.CommitFault.TheVariants as commits
use Rattle.doll_commit.specs.Commits.{commit_of}
use Rattle.doll_keep.specs.Calls.{Telling, Serves, FailsAfter}
use Rattle.doll_records.specs.declared.fault.OpenFault.{OpenFault}
use Rattle.doll_records.specs.declared.fault.OpenFault.TheVariants as opens
use Rattle.doll_records.specs.declared.opening.OpenRefusal.{OpenRefusal}
use Rattle.doll_records.specs.Faults.{GivesKept}
use Rattle.doll_records.specs.Histories.{Recorded, IsHistory, table_of, last_moment, follows}
use Rattle.doll_records.specs.declared.limits.TheConstants.{MOST_COMMITS}

-- the faults of the item with an index
abbrev pub or_journal : ℕ → Result Commit JournalFault → Result Commit OpenFault
or_journal index (Ok commit) = Ok commit
or_journal index (Err fault) = Err (opens.Journal index fault)

abbrev pub or_apply : ℕ → Result Applied CommitFault → Result Applied OpenFault
or_apply index (Ok applied) = Ok applied
or_apply index (Err (commits.Refused at why)) = Err (opens.Apply index at why)
or_apply index (Err commits.Memory) = Err opens.Memory

-- a history with the commit of the next item, or the item's first fault
unfoldable pub opened_with : Schema → List Commit → List ℕ → Result (List Commit) OpenFault
opened_with schema history item = do
  commit ← or_journal (length history) (journal.commit_in item)
  check (follows (last_moment 0 history) commit) (opens.Moment (length history) commit.moment)
  applied ← or_apply (length history) (commit_of (table_of schema history) schema commit)
  Ok (history ++ commit ∷ [])

-- a history with the commits of the items that follow, or the first fault of the first that has one
unfoldable pub opened_from : Schema → List Commit → List (List ℕ) → Result (List Commit) OpenFault
opened_from schema history [] = Ok history
opened_from schema history (item ∷ items) = do
  check (nat_lt (length history) MOST_COMMITS) (opens.TooLong MOST_COMMITS)
  next ← opened_with schema history item
  opened_from schema next items

-- the history of these items
abbrev pub opened : Schema → List (List ℕ) → Result (List Commit) OpenFault
opened schema items = opened_from schema [] items

-- This holds of the keeper's list, where it is told; else it holds of some list.
abbrev pub OfList : Option (List (List ℕ)) → (List (List ℕ) → Type 0) → Type 0
OfList None Holds = (items : List (List ℕ)) × Holds items
OfList (Some items) Holds = Holds items

-- The call gave the history of the keeper's items, or their first fault, unless the keeper failed or no memory was
-- found. Where the keeper doesn't tell its items, they are some.
abbrev pub GivesOpened : {X : Type 0} → Schema → (X → List Commit) → Option (List (List ℕ)) → Result X OpenFault → Type 0
GivesOpened schema history kept result = OfList kept (λ items. GivesKept history opens.Kept opens.Memory (opened schema items) result)

-- a fault of the item with this index, or want of memory
abbrev pub IsOfItem : ℕ → OpenFault → Type 0
IsOfItem index opens.Kept = ⊥
IsOfItem index opens.Memory = Unit {0}
IsOfItem index (opens.Journal at fault) = at ≡ index
IsOfItem index (opens.Moment at moment) = at ≡ index
IsOfItem index (opens.Apply at change why) = at ≡ index
IsOfItem index (opens.TooLong limit) = ⊥

-- the calls of the keeper up to a fault: loads of the first items, of which that of the fault is the last
abbrev pub LoadsUpTo : {K : Type 0} → Telling K → OpenFault → K → K → Type 0
LoadsUpTo Called opens.Kept before after = (loads : ℕ) × (loads ≤ MOST_COMMITS) × FailsAfter Called loads before after
LoadsUpTo Called opens.Memory before after = (loads : ℕ) × (loads ≤ MOST_COMMITS + 1) × Serves Called loads before after
LoadsUpTo Called (opens.Journal at fault) before after = Serves Called (at + 1) before after
LoadsUpTo Called (opens.Moment at moment) before after = Serves Called (at + 1) before after
LoadsUpTo Called (opens.Apply at change why) before after = Serves Called (at + 1) before after
LoadsUpTo Called (opens.TooLong limit) before after = Serves Called (limit + 1) before after

-- the keeper that an opening hands on, whatever the answer
abbrev pub keeper_after : {K : Type 0} → Result (Recorded K) (OpenRefusal K) → K
keeper_after (Ok records) = records.keeper
keeper_after (Err refusal) = refusal.keeper

-- an opening's answer, where of a refusal only the fault counts
abbrev pub or_fault : {K X : Type 0} → Result X (OpenRefusal K) → Result X OpenFault
or_fault (Ok x) = Ok x
or_fault (Err refusal) = Err refusal.fault

-- a history whose commits can be stored is opened from its spellings as it is
abbrev pub OpensAgain : Type 0
OpensAgain = (schema : Schema) (history : List Commit) → IsHistory schema history → AllByRecursion IsStorable history → length history ≤ MOST_COMMITS → opened schema (map spelling history) ≡ Ok history
