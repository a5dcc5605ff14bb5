-- A session is carried to its next need, and its turn is what comes of that need.
use Rattle.std.proofs.Common.{◌≡◌, ℕ, ◌+◌, List, Option, refl, ap, sym, subst, ◌∙◌}
use Rattle.doll_entry.specs.declared.asks.Ask.{Ask}
use Rattle.doll_entry.specs.declared.entry.Fresh.{Fresh}
use Rattle.doll_frames.specs.Stacks.{Given}
use Rattle.doll_job.specs.Jobs.{IsNext, JobLives, JobState, job_ground, left_by, need_run}
use Rattle.doll_job.specs.declared.job.Need.{Need}
use Rattle.doll_job.specs.declared.job.Need.TheVariants as need
use Rattle.doll_keep.specs.Kept.{MemKept}
use Rattle.doll_report.specs.declared.outcome.Outcome.{Outcome}
use Rattle.doll_run.specs.Comes.{IsHandedIn, IsShown}
use Rattle.doll_run.specs.Direct.{Comes}
use Rattle.doll_run.specs.Keys.{keyed_over}
use Rattle.doll_run.specs.Pages.{Ground, ground_of}
use Rattle.doll_run.specs.Runs.{Run}
use Rattle.doll_shelf.specs.Calls.{Shelved}
use Rattle.doll_table.specs.Tables.{TableMap}
use Rattle.doll_types.specs.Sets.{TypedSet}
use Rattle.doll_world.specs.Worlds.{WorldParts}
use Rattle.doll_core.specs.Cores.{ComesTo, SessionLives}
use Rattle.doll_core.specs.Losses.{LosesBy}
use Rattle.doll_core.specs.Pages.{ShowsRight}
use Rattle.doll_core.specs.States.{SessionParts, ground_in, run_of, with_shelf}
use Rattle.doll_core.specs.Steps.{going_on}
use Rattle.doll_core.specs.Turning.{IsCarried, LosesTurn, TakesTurn, run_from}
use Rattle.doll_core.specs.Turns.{Turned, turned}

-- ---- the looks before a need matter to nothing but themselves

looks_free : (now : ℕ) (shelf : Shelved) (one : Need) (rest : Given → Run) (a b : ℕ) → turned now shelf (need_run one rest a) ≡ turned now shelf (need_run one rest b)
looks_free now shelf (need.Read ask) rest a b = refl
looks_free now shelf (need.ReadMany asks) rest a b = refl
looks_free now shelf (need.Write fresh) rest a b = refl
looks_free now shelf (need.Done bytes) rest a b = refl

comes_free : (Found : Ask → List ℕ → Type 0) (Made : Fresh → Type 0) (page : List ℕ) (one : Need) (rest : Given → Run) (a b : ℕ)
    → Comes Found Made page (need_run one rest a) → Comes Found Made page (need_run one rest b)
comes_free Found Made page (need.Read ask) rest a b comes = comes
comes_free Found Made page (need.ReadMany asks) rest a b comes = comes
comes_free Found Made page (need.Write fresh) rest a b comes = comes
comes_free Found Made page (need.Done bytes) rest a b comes = comes

loses_free : (one : Need) (rest : Given → Run) (a b now : ℕ) (old new : Shelved) → LosesBy (need_run one rest a) now old new → LosesBy (need_run one rest b) now old new
loses_free (need.Read ask) rest a b now old new loses = loses
loses_free (need.ReadMany asks) rest a b now old new loses = loses
loses_free (need.Write fresh) rest a b now old new loses = loses
loses_free (need.Done bytes) rest a b now old new loses = loses

-- ---- carrying

-- a session whose page is carried on, with no look since
abbrev pub with_job : JobState → SessionParts → SessionParts
with_job job session = record { target = session.target; snapshot = session.snapshot; job = job; charged = 0 }

module _ (world : WorldParts MemKept Shelved) (old : SessionParts) (job : JobState) (before after : ℕ) (one : Need)
    (lives : SessionLives world old) (next : IsNext (ground_in world.checked old) old.job job before after one) where
  same : ground_in world.checked (with_job job old) ≡ ground_in world.checked old
  same = λ i. ground_of world.checked.set world.checked.schema old.snapshot.table (next.moment i) (next.tree i)
      (keyed_over world.checked.set world.checked.schema old.snapshot.table)

  runs : run_of world.checked old ≡ run_from world.checked (with_job job old) one (old.charged + next.more)
  runs =
      subst (λ (g : Ground). run_of world.checked old ≡ need_run one (λ found. left_by g job found 0) (old.charged + next.more)) (sym same) (next.is old.charged)

  comes : ComesTo world.checked (with_job job old) lives.page (run_from world.checked (with_job job old) one 0)
  comes =
      let there = subst (λ (g : Ground). Comes (IsShown world.checked.set world.checked.routes g) (IsHandedIn world.checked.set world.checked.routes g) lives.page (run_of world.checked old)) (sym same) lives.comes in
      comes_free (IsShown world.checked.set world.checked.routes (ground_in world.checked (with_job job old))) (IsHandedIn world.checked.set world.checked.routes (ground_in world.checked (with_job job old))) lives.page
      one (λ found. left_by (ground_in world.checked (with_job job old)) job found 0) (old.charged + next.more) 0 (subst (ComesTo world.checked (with_job job old) lives.page) runs there)

  pub carried : JobLives world.checked old.snapshot.table job → IsCarried world old (with_job job old) one
  carried living = record {
    target = refl;
    place = refl;
    looks = old.charged + next.more;
    run = runs;
    unanswered = next.waiting;
    charged = refl;
    heads = record {
      within = lives.within;
      table_is = lives.table_is;
      moment_is = next.moment ∙ lives.moment_is;
      tree_is = next.tree ∙ lives.tree_is;
      fits = lives.fits;
      lives = living;
      page = lives.page;
      page_is = lives.page_is;
      comes = comes;
    };
  }

-- the same over a set and a table that are these
pub carried_by : (world : WorldParts MemKept Shelved) (old : SessionParts) (job : JobState) (before after : ℕ) (one : Need) (checked : TypedSet) (table : TableMap)
    → checked ≡ world.checked → table ≡ old.snapshot.table → SessionLives world old → IsNext (job_ground checked old.job table) old.job job before after one → JobLives checked table job
    → IsCarried world old (with_job job old) one
carried_by world old job before after one checked table checked_is table_is lives next living =
    carried world old job before after one lives
    (subst (λ c. IsNext (job_ground c old.job old.snapshot.table) old.job job before after one) checked_is (subst (λ t. IsNext (job_ground checked old.job t) old.job job before after one) table_is next))
    (subst (λ c. JobLives c old.snapshot.table job) checked_is (subst (λ t. JobLives checked t job) table_is living))

-- ---- turns

module _ (now : ℕ) (world new : WorldParts MemKept Shelved) (before session : SessionParts) (one : Need) (carried : IsCarried world before session one) where
  turns : turned now world.shelf (run_of world.checked before) ≡ turned now world.shelf (run_from world.checked session one 0)
  turns = ap (turned now world.shelf) carried.run ∙ looks_free now world.shelf one (λ found. left_by (ground_in world.checked session) session.job found 0) carried.looks 0

  pub joined : (told : Outcome) (left : Option SessionParts) → TakesTurn now world new session (run_from world.checked session one 0) told left
      → TakesTurn now world new before (run_of world.checked before) told left
  joined told left turn = record {
    outcome = turn.outcome ∙ ap (λ (t : Turned). t.outcome) (sym turns);
    world = turn.world ∙ ap (λ (t : Turned). with_shelf t.shelf world) (sym turns);
    left_is = turn.left_is ∙ (λ i. going_on (carried.target i) (carried.place i) (sym turns i).left);
    lives = turn.lives;
    shown = subst (λ target. ShowsRight world target before.snapshot.place told) carried.target (subst (λ place. ShowsRight world session.target place told) carried.place turn.shown);
  }

  pub lost : LosesTurn now (run_from world.checked session one 0) world new → LosesTurn now (run_of world.checked before) world new
  lost loses = (
    loses.0,
    subst (λ run. LosesBy run now world.shelf new.shelf) (sym carried.run)
        (loses_free one (λ found. left_by (ground_in world.checked session) session.job found 0) 0 carried.looks now world.shelf new.shelf loses.1),
  )
