-- How a session begins (this project's own).
use Rattle.std.specs.Prelude.{◌≡◌, Option, Some, option_map, IfSome}
use Rattle.doll_keep.specs.Kept.{MemKept}
use Rattle.doll_records.specs.Histories.{table_at, table_of}
use Rattle.doll_records.specs.declared.records.Snapshot.{Snapshot}
use Rattle.doll_report.specs.declared.outcome.Outcome.{Outcome}
use Rattle.doll_shelf.specs.Calls.{Shelved}
use Rattle.doll_table.specs.Fits.{Fits}
use Rattle.doll_world.specs.Worlds.{WorldParts}
use Rattle.doll_core.specs.Cores.{SessionLives}
use Rattle.doll_core.specs.Openings.{Opening, moment_now, place_now}
use Rattle.doll_core.specs.States.{SessionParts, session_state}

-- The snapshot of a world: its table is that after all commits.
pub record IsSnapshotOf (world : WorldParts MemKept Shelved) (snapshot : Snapshot) : Type 0 where
  pub place : snapshot.place ≡ place_now world
  pub moment : snapshot.moment ≡ moment_now world
  pub whole : snapshot.table ≡ table_of world.checked.schema world.records.history
  pub table : table_at world.checked.schema world.records.history snapshot.place ≡ Some snapshot.table
  pub fits : Fits world.checked.schema snapshot.table

-- What is told, and the session, are those of an opening, and the session comes to its page.
pub record Opens (world : WorldParts MemKept Shelved) (is : Opening) (told : Outcome) (session : Option SessionParts) : Type 0 where
  pub outcome : told ≡ is.outcome
  pub session_is : option_map (session_state world.checked) session ≡ is.session
  pub lives : IfSome session (SessionLives world)
