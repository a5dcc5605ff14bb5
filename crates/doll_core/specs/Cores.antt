-- What is true of every core (this project's own).
use Rattle.std.specs.Prelude.{◌≡◌, ◌≤◌, ◌^◌, ℕ, List, length, Some, IfSome}
use Rattle.doll_job.specs.Jobs.{JobLives}
use Rattle.doll_journal.specs.declared.change.Commit.{Commit}
use Rattle.doll_keep.specs.Kept.{MemKept}
use Rattle.doll_records.specs.Histories.{moment_at, table_at}
use Rattle.doll_run.specs.Comes.{IsHandedIn, IsShown}
use Rattle.doll_run.specs.Direct.{Comes}
use Rattle.doll_run.specs.Runs.{Run}
use Rattle.doll_shelf.specs.Calls.{Shelved}
use Rattle.doll_table.specs.Fits.{Fits}
use Rattle.doll_types.specs.Sets.{TypedSet}
use Rattle.doll_world.specs.Worlds.{WorldParts}
use Rattle.doll_core.specs.Pages.{direct_page}
use Rattle.doll_core.specs.States.{CoreParts, SessionParts, ground_in, run_of, session_at}

-- What a page has to do comes to these bytes, whatever a cache answers of what is right.
abbrev pub ComesTo : TypedSet → SessionParts → List ℕ → Run → Type 0
ComesTo checked session page run =
    Comes (IsShown checked.set checked.routes (ground_in checked session)) (IsHandedIn checked.set checked.routes (ground_in checked session)) page run

-- A session reads the table at a place of a history, and where it has this to do, it comes to the page of its target.
pub record Heads (checked : TypedSet) (history : List Commit) (session : SessionParts) (run : Run) : Type 0 where
  pub within : session.snapshot.place ≤ length history
  pub table_is : table_at checked.schema history session.snapshot.place ≡ Some session.snapshot.table
  pub moment_is : session.job.moment ≡ moment_at history session.snapshot.place
  pub tree_is : session.job.tree ≡ 0
  pub fits : Fits checked.schema session.snapshot.table
  pub lives : JobLives checked session.snapshot.table session.job
  pub page : List ℕ
  pub page_is : direct_page checked session.snapshot.table session.target ≡ Some page
  pub comes : ComesTo checked session page run

-- A session comes to the page of its target, where it has this to do.
abbrev pub HeadsIn : WorldParts MemKept Shelved → SessionParts → Run → Type 0
HeadsIn world session run = Heads world.checked world.records.history session run

-- A session comes to the page of its target.
abbrev pub SessionLives : WorldParts MemKept Shelved → SessionParts → Type 0
SessionLives world session = HeadsIn world session (run_of world.checked session)

-- The set has no more templates than have a number of two bytes, and each session comes to its page.
pub record IsCore (core : CoreParts) : Type 0 where
  pub few : length core.world.checked.set.templates ≤ 2 ^ 16
  pub sessions : (number : ℕ) → IfSome (session_at core.sessions number) (SessionLives core.world)
