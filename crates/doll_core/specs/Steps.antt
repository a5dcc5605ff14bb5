-- What one event after another comes to (this project's own).
use Rattle.std.specs.Prelude.{◌≡◌, ◌≢◌, ℕ, List, [], ◌∷◌, ◌++◌, length, Option, None, Some, Result, Ok, Err, OnOk, OnErr, ⊤}
use Rattle.std.specs.Str.{IsUtf8}
use Rattle.doll_journal.specs.declared.change.Change.{Change}
use Rattle.doll_journal.specs.declared.change.Commit.{Commit}
use Rattle.doll_journal.specs.Spelling.{spelling}
use Rattle.doll_journal.specs.Storable.{AreStorable}
use Rattle.doll_keep.specs.Calls.{MemCalled}
use Rattle.doll_records.specs.Commitments.{CalledOnce, GivesCommitted, asked}
use Rattle.doll_records.specs.declared.committing.Committed.{Committed}
use Rattle.doll_records.specs.declared.fault.RecordFault.{RecordFault}
use Rattle.doll_records.specs.declared.fault.RecordFault.TheVariants as fault
use Rattle.doll_report.specs.declared.outcome.Outcome.{Outcome}
use Rattle.doll_report.specs.declared.outcome.Outcome.TheVariants as outcome
use Rattle.doll_run.specs.Runs.{Run}
use Rattle.doll_shelf.specs.Batches.{removed_count}
use Rattle.doll_core.specs.Openings.{opening}
use Rattle.doll_core.specs.States.{CoreState, SameSessions, SessionState, SessionsBut, with_shelf}
use Rattle.doll_core.specs.Turns.{shelf_after_batch, turned}
use Rattle.doll_core.specs.declared.event.Event.{Event}
use Rattle.doll_core.specs.declared.event.TheConstants.{AUTHOR}
use Rattle.doll_core.specs.declared.event.Event.TheVariants as event

-- nothing changes
pub record Stays (old new : CoreState) : Type 0 where
  pub world : new.world ≡ old.world
  pub sessions : SameSessions old new

-- ---- starts

-- A session is opened, where none has its number; else it is told that one has.
abbrev pub StartsBy : Option SessionState → CoreState → ℕ → List ℕ → ℕ → Outcome → CoreState → Type 0
StartsBy (Some other) old number target seen told new = (told ≡ outcome.BadSession) × Stays old new
StartsBy None old number target seen told new =
    (told ≡ (opening old.world target seen).outcome) × (new.world ≡ old.world) × SessionsBut number (opening old.world target seen).session old new

-- ---- turns

-- the session of a target and a place that has this left
abbrev pub going_on : List ℕ → ℕ → Option Run → Option SessionState
going_on target place None = None
going_on target place (Some run) = Some (record { target = target; place = place; run = run })

-- The session with a number takes a turn, where one is open; else it is told that none is.
abbrev pub TurnsBy : Option SessionState → CoreState → ℕ → ℕ → Outcome → CoreState → Type 0
TurnsBy None old number now told new = (told ≡ outcome.BadSession) × Stays old new
TurnsBy (Some session) old number now told new =
    (told ≡ (turned now old.world.shelf session.run).outcome)
    × (new.world ≡ with_shelf (turned now old.world.shelf session.run).shelf old.world)
    × SessionsBut number (going_on session.target session.place (turned now old.world.shelf session.run).left) old new

-- ---- commits

-- what a commit that is asked for is told
abbrev pub told_of : Result Committed RecordFault → Outcome
told_of (Ok committed) = outcome.Committed committed
told_of (Err why) = outcome.Refused why

-- the commit that is asked for: its serial is the number of commits before it
abbrev pub asked_now : CoreState → List Change → ℕ → Commit
asked_now old changes now = asked old.world.records.history AUTHOR (length old.world.records.history) changes now

-- A commit comes to what recording it comes to; where it is recorded, the history has it as its last. The keeper is called once for a commit that nothing else
-- refuses, and the commit is refused as kept exactly where the keeper fails in that call.
pub record Commits (old : CoreState) (changes : List Change) (now : ℕ) (told : Outcome) (new : CoreState) : Type 0 where
  pub result : Result Committed RecordFault
  pub remembered : result ≢ Err fault.Memory
  pub is : told ≡ told_of result
  pub gives : GivesCommitted old.world.records (asked_now old changes now) result
  pub called : CalledOnce MemCalled (spelling (asked_now old changes now)) old.world.records.keeper new.world.records.keeper result
  pub added : OnOk result (new.world.records.history ≡ old.world.records.history ++ asked_now old changes now ∷ [])
  pub same : OnErr result (new.world.records.history ≡ old.world.records.history)
  pub schema : new.world.records.schema ≡ old.world.records.schema
  pub shelf : new.world.shelf ≡ old.world.shelf
  pub checked : new.world.checked ≡ old.world.checked
  pub sessions : SameSessions old new

-- ---- batches

abbrev pub Expires : CoreState → ℕ → Outcome → CoreState → Type 0
Expires old now told new =
    (told ≡ outcome.Expired (removed_count old.world.shelf.settings now old.world.shelf.entries))
    × (new.world ≡ with_shelf (shelf_after_batch now old.world.shelf) old.world) × SameSessions old new

-- ---- events

-- A target is a text, and the changes of a commit can be stored.
abbrev pub MayStep : Event → Type 0
MayStep (event.Start session target seen now) = IsUtf8 target
MayStep (event.Commit changes now) = AreStorable changes
MayStep other = ⊤

-- What an event comes to while memory is found.
abbrev pub Steps : CoreState → Event → Outcome → CoreState → Type 0
Steps old (event.Start session target seen now) told new = StartsBy (old.sessions session) old session target seen told new
Steps old (event.Turn session now) told new = TurnsBy (old.sessions session) old session now told new
Steps old (event.Commit changes now) told new = Commits old changes now told new
Steps old (event.Expire now) told new = Expires old now told new

-- What events come to, one after another.
abbrev pub StepsAll : CoreState → List Event → List Outcome → CoreState → Type 0
StepsAll old [] [] new = Stays old new
StepsAll old (one ∷ events) (told ∷ others) new = (between : CoreState) × Steps old one told between × StepsAll between events others new
StepsAll old events told new = ⊥
