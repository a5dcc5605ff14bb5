-- What recording a commit after a history comes to (this project's own).
use Rattle.std.specs.Prelude.{◌≡◌, ◌⊎◌, ℕ, ◌+◌, nat_lt, true, false, List, length, Result, Ok, Err, IsOk}
use Rattle.doll_text.specs.Steps.{◌>>=◌, ◌>>◌, check}
use Rattle.doll_schema.specs.declared.model.Schema.{Schema}
use Rattle.doll_journal.specs.declared.change.Change.{Change}
use Rattle.doll_journal.specs.declared.change.Commit.{Commit}
use Rattle.doll_keep.specs.Calls.{Append, Telling}
use Rattle.doll_commit.specs.declared.apply.Applied.{Applied}
use Rattle.doll_commit.specs.declared.fault.CommitFault.{CommitFault}
use Rattle.doll_commit.specs.Commits.{commit_of}
use Rattle.doll_commit.specs.Moments.{CarriesMoment}
use Rattle.doll_records.specs.declared.committing.Committed.{Committed}
use Rattle.doll_records.specs.declared.committing.Prepared.{Prepared}
use Rattle.doll_records.specs.declared.fault.RecordFault.{RecordFault}
use Rattle.doll_records.specs.declared.fault.RecordFault.TheVariants as records
use Rattle.doll_records.specs.Faults.{record_commit_fault, GivesKept}
use Rattle.doll_records.specs.Histories.{Recorded, table_of, last_moment, next_moment}
use Rattle.doll_records.specs.declared.limits.TheConstants.{MOST_COMMITS, LAST_MOMENT}

-- a commit that is asked for, with its moment
abbrev pub asked_at : ℕ → ℕ → ℕ → List Change → Commit
asked_at moment author serial changes = record { author = author; serial = serial; moment = moment; changes = changes }

-- the commit that is asked for at a time, after a history
abbrev pub asked : List Commit → ℕ → ℕ → List Change → ℕ → Commit
asked history author serial changes now = asked_at (next_moment (last_moment 0 history) now) author serial changes

abbrev pub or_refused : Result Applied CommitFault → Result Applied RecordFault
or_refused (Ok applied) = Ok applied
or_refused (Err fault) = Err (record_commit_fault fault)

-- what was made of a commit that is prepared
abbrev pub applied_in : Prepared → Applied
applied_in prepared = record { table = prepared.table; ids = prepared.ids }

-- what a commit after a history comes to, while the keeper serves and memory is found
abbrev pub committed : Schema → List Commit → Commit → Result Committed RecordFault
committed schema history commit = do
  check (nat_lt (length history) MOST_COMMITS) (records.HistoryFull MOST_COMMITS)
  check (nat_lt (last_moment 0 history) LAST_MOMENT) (records.MomentsEnded LAST_MOMENT)
  applied ← or_refused (commit_of (table_of schema history) schema commit)
  Ok (record { place = length history + 1; moment = commit.moment; ids = applied.ids })

-- The call gave what a commit after these records comes to, unless the keeper failed or no memory was found.
abbrev pub GivesCommitted : {K : Type 0} → Recorded K → Commit → Result Committed RecordFault → Type 0
GivesCommitted known commit result = GivesKept (λ c. c) records.Kept records.Memory (committed known.schema known.history commit) result

-- Nothing but the keeper or want of memory refuses a commit after these records.
abbrev pub IsUnrefused : {K : Type 0} → Recorded K → Commit → Type 0
IsUnrefused known commit = IsOk (committed known.schema known.history commit)

-- A record that differs between the tables of these records has this moment, and so has each living touch parent of it.
abbrev pub TableCarriesMoment : {K : Type 0} → Recorded K → Recorded K → ℕ → Type 0
TableCarriesMoment old new moment =
    CarriesMoment old.schema (table_of old.schema old.history) (table_of new.schema new.history) moment

-- The keeper is called once, to add an item with these bytes, for a commit that nothing else refuses and for which
-- memory is found, and else not at all.
abbrev pub CalledOnce : {K : Type 0} → Telling K → List ℕ → K → K → Result Committed RecordFault → Type 0
CalledOnce Called bytes before after (Ok committed) = Called before (Append bytes) false after
CalledOnce Called bytes before after (Err records.Kept) = Called before (Append bytes) true after
CalledOnce Called bytes before after (Err records.Memory) = (after ≡ before) ⊎ Called before (Append bytes) false after
CalledOnce Called bytes before after (Err (records.HistoryFull count)) = after ≡ before
CalledOnce Called bytes before after (Err (records.MomentsEnded last)) = after ≡ before
CalledOnce Called bytes before after (Err (records.Refused index why)) = after ≡ before
