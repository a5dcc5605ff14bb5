-- What is kept while pages are asked for, commits are made and entries expire (this project's own).
use Rattle.std.specs.Prelude.{◌≡◌, ◌==◌, nat_eq, ℕ, List, Option, option_map, if◌then◌else◌}
use Rattle.std.specs.Map.{lookup}
use Rattle.doll_job.specs.Jobs.{JobState, job_ground, left}
use Rattle.doll_keep.specs.Kept.{MemKept}
use Rattle.doll_records.specs.declared.records.Snapshot.{Snapshot}
use Rattle.doll_shelf.specs.Calls.{Shelved}
use Rattle.doll_entry.specs.declared.entry.Entry.{Entry}
use Rattle.doll_run.specs.Pages.{Ground}
use Rattle.doll_run.specs.Runs.{Run}
use Rattle.doll_types.specs.Sets.{TypedSet}
use Rattle.doll_world.specs.Worlds.{WorldParts}

-- a page that is being rendered: what is asked for, how many commits its table has, and what it still has to do
pub record SessionState : Type 0 where
  pub target : List ℕ
  pub place : ℕ
  pub run : Run

-- one history and one shelf as a world, and the sessions that are open, by their numbers
pub record CoreState : Type 0 where
  pub world : WorldParts MemKept Shelved
  pub sessions : ℕ → Option SessionState

-- The session with a number is another one now, or none, and the others are as they were.
abbrev pub SessionsBut : ℕ → Option SessionState → CoreState → CoreState → Type 0
SessionsBut number one old new = (other : ℕ) → new.sessions other ≡ (if number == other then one else old.sessions other)

-- The sessions are as they were.
abbrev pub SameSessions : CoreState → CoreState → Type 0
SameSessions old new = (number : ℕ) → new.sessions number ≡ old.sessions number

-- a world with another shelf
abbrev pub with_shelf : Shelved → WorldParts MemKept Shelved → WorldParts MemKept Shelved
with_shelf shelf world = record { records = world.records; shelf = shelf; checked = world.checked }

-- a shelf with other entries
abbrev pub with_entries : Shelved → List Entry → Shelved
with_entries shelf entries = record { settings = shelf.settings; entries = entries; writes = shelf.writes }

-- ---- what the code keeps

-- a session: what is asked for, its snapshot, its page, and the looks that may have been taken since its last call
pub record SessionParts : Type 0 where
  pub target : List ℕ
  pub snapshot : Snapshot
  pub job : JobState
  pub charged : ℕ

pub record CoreParts : Type 0 where
  pub world : WorldParts MemKept Shelved
  pub sessions : List (ℕ × SessionParts)

-- the session with a number
abbrev pub session_at : List (ℕ × SessionParts) → ℕ → Option SessionParts
session_at sessions number = lookup (nat_eq number) sessions

-- Of sessions the one with a number is this one now, or none, and the others are as they were.
abbrev pub IsChanged : ℕ → Option SessionParts → List (ℕ × SessionParts) → List (ℕ × SessionParts) → Type 0
IsChanged number one old new = (other : ℕ) → session_at new other ≡ (if nat_eq number other then one else session_at old other)

-- what the page of a session is rendered over
abbrev pub ground_in : TypedSet → SessionParts → Ground
ground_in checked parts = job_ground checked parts.job parts.snapshot.table

-- what the page of a session still has to do
abbrev pub run_of : TypedSet → SessionParts → Run
run_of checked parts = left (ground_in checked parts) parts.job parts.charged

-- what a session of the code stands for
abbrev pub session_state : TypedSet → SessionParts → SessionState
session_state checked parts = record { target = parts.target; place = parts.snapshot.place; run = run_of checked parts }

-- what is kept stands for a world and its sessions
abbrev pub state_of : CoreParts → CoreState
state_of parts = record {
  world = parts.world;
  sessions = λ number. option_map (session_state parts.world.checked) (session_at parts.sessions number);
}
