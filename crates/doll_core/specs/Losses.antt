-- What may have changed where memory ran out (this project's own).
use Rattle.std.specs.Prelude.{◌≡◌, ◌⊎◌, ℕ, List, Option, None, Some}
use Rattle.doll_entry.specs.declared.asks.Fetched.{Fetched}
use Rattle.doll_run.specs.Runs.{ReadsMany, Run, Writes}
use Rattle.doll_shelf.specs.Calls.{Shelved}
use Rattle.doll_shelf.specs.Fetches.{ReadsAll}
use Rattle.doll_core.specs.States.{CoreState, SameSessions, SessionState, SessionsBut, with_entries, with_shelf}
use Rattle.doll_core.specs.Steps.{Stays}
use Rattle.doll_core.specs.Turns.{shelf_after_batch}
use Rattle.doll_core.specs.declared.event.Event.{Event}
use Rattle.doll_core.specs.declared.event.Event.TheVariants as event

-- A shelf is as it was, but that a read of several keys may have removed what had expired, and that a write's batch may have run.
abbrev pub LosesBy : Run → ℕ → Shelved → Shelved → Type 0
LosesBy (ReadsMany looks asks rest) now old new =
    (new ≡ old) ⊎ ((new ≡ with_entries old new.entries) × ((found : List Fetched) × ReadsAll asks now found old.entries new.entries))
LosesBy (Writes looks fresh rest) now old new = (new ≡ old) ⊎ ((old.writes ≡ old.settings.batch) × (new ≡ shelf_after_batch now old))
LosesBy other now old new = new ≡ old

-- The session whose turn it was is closed. Where none is open no memory is wanted.
abbrev pub LosesSession : Option SessionState → CoreState → ℕ → ℕ → CoreState → Type 0
LosesSession None old number now new = ⊥
LosesSession (Some session) old number now new =
    SessionsBut number None old new × (new.world ≡ with_shelf new.world.shelf old.world) × LosesBy session.run now old.world.shelf new.world.shelf

-- No commit was made, and all else but the keeper's count of calls is as it was.
pub record LosesCommit (old new : CoreState) : Type 0 where
  pub history : new.world.records.history ≡ old.world.records.history
  pub schema : new.world.records.schema ≡ old.world.records.schema
  pub kept : new.world.records.keeper.kept ≡ old.world.records.keeper.kept
  pub shelf : new.world.shelf ≡ old.world.shelf
  pub checked : new.world.checked ≡ old.world.checked
  pub sessions : SameSessions old new

-- what an event may have changed where memory ran out; a batch wants none
abbrev pub Loses : CoreState → Event → CoreState → Type 0
Loses old (event.Start session target seen now) new = Stays old new
Loses old (event.Turn session now) new = LosesSession (old.sessions session) old session now new
Loses old (event.Commit changes now) new = LosesCommit old new
Loses old (event.Expire now) new = ⊥
