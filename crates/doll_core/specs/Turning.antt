-- How a session takes its turn (this project's own).
use Rattle.std.specs.Prelude.{◌≡◌, ℕ, Bool, true, false, List, Option, option_map, IfSome}
use Rattle.std.specs.List.{list_any}
use Rattle.doll_entry.specs.declared.asks.Fetched.{Fetched}
use Rattle.doll_entry.specs.declared.asks.Fetched.TheVariants.{Miss}
use Rattle.doll_entry.specs.declared.asks.Miss.TheVariants as miss
use Rattle.doll_frames.specs.declared.stack.Answer.TheVariants as answer
use Rattle.doll_job.specs.Jobs.{left_by, need_run}
use Rattle.doll_job.specs.declared.job.Need.{Need}
use Rattle.doll_keep.specs.Kept.{MemKept}
use Rattle.doll_report.specs.declared.outcome.Outcome.{Outcome}
use Rattle.doll_run.specs.Runs.{Run}
use Rattle.doll_shelf.specs.Calls.{Shelved}
use Rattle.doll_types.specs.Sets.{TypedSet}
use Rattle.doll_world.specs.Worlds.{WorldParts}
use Rattle.doll_core.specs.Cores.{HeadsIn, SessionLives}
use Rattle.doll_core.specs.Losses.{LosesBy}
use Rattle.doll_core.specs.Pages.{ShowsRight}
use Rattle.doll_core.specs.States.{SessionParts, ground_in, run_of, session_state, with_shelf}
use Rattle.doll_core.specs.Steps.{going_on}
use Rattle.doll_core.specs.Turns.{turned}

-- what a session has to do from a need on, which may come after so many looks
abbrev pub run_from : TypedSet → SessionParts → Need → ℕ → Run
run_from checked session need looks = need_run need (λ found. left_by (ground_in checked session) session.job found 0) looks

-- A session is carried to its next need, which is the first of what it had to do.
pub record IsCarried (world : WorldParts MemKept Shelved) (old new : SessionParts) (need : Need) : Type 0 where
  pub target : new.target ≡ old.target
  pub place : new.snapshot.place ≡ old.snapshot.place
  pub looks : ℕ
  pub run : run_of world.checked old ≡ run_from world.checked new need looks
  pub unanswered : new.job.stopped.answer ≡ answer.Nothing
  pub charged : new.charged ≡ 0
  pub heads : HeadsIn world new (run_from world.checked new need 0)

-- A session that has this to do takes a turn at a time: what it is told, the world after it, and the session, where it goes on.
pub record TakesTurn (now : ℕ) (old new : WorldParts MemKept Shelved) (session : SessionParts) (run : Run) (told : Outcome) (left : Option SessionParts) : Type 0 where
  pub outcome : told ≡ (turned now old.shelf run).outcome
  pub world : new ≡ with_shelf (turned now old.shelf run).shelf old
  pub left_is : option_map (session_state old.checked) left ≡ going_on session.target session.snapshot.place (turned now old.shelf run).left
  pub lives : IfSome left (SessionLives new)
  pub shown : ShowsRight old session.target session.snapshot.place told

-- what a turn may have changed where memory ran out
abbrev pub LosesTurn : ℕ → Run → WorldParts MemKept Shelved → WorldParts MemKept Shelved → Type 0
LosesTurn now run old new = (new ≡ with_shelf new.shelf old) × LosesBy run now old.shelf new.shelf

-- ---- answers

-- whether no memory was found for an answer
abbrev pub is_lost : Fetched → Bool
is_lost (Miss miss.Memory) = true
is_lost found = false

-- whether this is so of one of the answers
abbrev pub any_lost : List Fetched → Bool
any_lost found = list_any is_lost found
