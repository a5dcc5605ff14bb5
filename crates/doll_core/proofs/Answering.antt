-- What is answered of a session's need is what its turn comes to, and then the session still comes to its page.
use Rattle.std.proofs.Common.{◌≡◌, ◌<◌, ℕ, true, false, List, [], ◌∷◌, Some, refl, ap, sym, subst}
use Rattle.std.specs.Prelude.{IfSome}
use Rattle.doll_entry.specs.declared.asks.Ask.{Ask}
use Rattle.doll_entry.specs.declared.asks.Fetched.{Fetched}
use Rattle.doll_entry.specs.declared.asks.Fetched.TheVariants.{Hit, Miss}
use Rattle.doll_entry.specs.declared.entry.Fresh.{Fresh}
use Rattle.doll_frames.specs.Along.{many_given, none_given, one_given}
use Rattle.doll_frames.specs.Stacks.{Given, fragment, fragments, given}
use Rattle.doll_frames.specs.declared.stack.Answer.TheVariants as answer
use Rattle.doll_job.specs.Jobs.{JobState, answered, answered_many, left_by}
use Rattle.doll_job.specs.declared.job.Need.TheVariants as need
use Rattle.doll_keep.specs.Kept.{MemKept}
use Rattle.doll_records.specs.Histories.{IsHistory, moment_at}
use Rattle.doll_report.specs.declared.outcome.Outcome.TheVariants as outcome
use Rattle.doll_run.specs.Comes.{IsHandedIn, IsShown}
use Rattle.doll_run.specs.Direct.{AreFound}
use Rattle.doll_run.specs.Keys.{keyed_over}
use Rattle.doll_run.specs.Pages.{ground_of}
use Rattle.doll_run.specs.Runs.{Run}
use Rattle.doll_shelf.specs.Calls.{Shelved}
use Rattle.doll_shelf.specs.Fetches.{Fetches, ReadsAll, any_failed, is_failed}
use Rattle.doll_sound.specs.Names.{HasNames}
use Rattle.doll_world.specs.Worlds.{HitIsShown, HitsAreShown, IsSoundFor, WorldParts}
use Rattle.doll_world.proofs.Renderers.{handed_in_is_sound, hits_are_found}
use Rattle.doll_core.specs.Cores.{ComesTo, HeadsIn, SessionLives}
use Rattle.doll_core.specs.States.{SessionParts, ground_in, run_of, with_shelf}
use Rattle.doll_core.specs.Turning.{TakesTurn, any_lost, is_lost, run_from}
use Rattle.doll_core.specs.Turns.{found_one, turned}
use Rattle.doll_core.proofs.Fetching.{all_exactly, fetched_exactly, never}

-- a session with another state of its page
abbrev pub with_job : JobState → SessionParts → SessionParts
with_job job session = record { target = session.target; snapshot = session.snapshot; job = job; charged = session.charged }

-- a session with its answer
abbrev pub with_one : Fetched → SessionParts → SessionParts
with_one found session = record { target = session.target; snapshot = session.snapshot; job = answered found session.job; charged = session.charged }

abbrev pub with_many : List Fetched → SessionParts → SessionParts
with_many found session = record { target = session.target; snapshot = session.snapshot; job = answered_many found session.job; charged = session.charged }

-- what a page hands in is sound for the history
pub sound : (old : WorldParts MemKept Shelved) (session : SessionParts) (fresh : Fresh) → HeadsIn old session (run_from old.checked session (need.Write fresh) 0)
    → HasNames old.checked.set old.checked.schema → IsHistory old.checked.schema old.records.history → IsSoundFor old.checked old.records.history fresh
sound old session fresh heads names history =
    handed_in_is_sound old.checked old.records.history session.snapshot.place session.snapshot.table fresh names history heads.within heads.table_is
    (subst (λ tree. IsHandedIn old.checked.set old.checked.routes (ground_of old.checked.set old.checked.schema session.snapshot.table (moment_at old.records.history session.snapshot.place) tree
    (keyed_over old.checked.set old.checked.schema session.snapshot.table)) fresh) heads.tree_is
    (subst (λ moment. IsHandedIn old.checked.set old.checked.routes (ground_of old.checked.set old.checked.schema session.snapshot.table moment session.job.tree
    (keyed_over old.checked.set old.checked.schema session.snapshot.table)) fresh) heads.moment_is heads.comes.0))

module _ (now : ℕ) (old new : WorldParts MemKept Shelved) (session : SessionParts) (charged : session.charged ≡ 0)
    (records : new.records ≡ old.records) (settings : new.shelf.settings ≡ old.shelf.settings) (checked : new.checked ≡ old.checked) where
  -- what is left by what is found
  abbrev rest : Given → Run
  rest found = left_by (ground_in old.checked session) session.job found 0

  -- ---- reads

  module _ (names : HasNames old.checked.set old.checked.schema) (writes : new.shelf.writes ≡ old.shelf.writes) where
    module _ (ask : Ask) (heads : HeadsIn old session (run_from old.checked session (need.Read ask) 0)) where
      one_shown : (found : Fetched) → HitIsShown old.checked old.records.history ask found → IfSome (fragment found) (IsShown old.checked.set old.checked.routes (ground_in old.checked session) ask)
      one_shown (Hit bytes) shown =
          hits_are_found old.checked old.records.history session.snapshot.place session.snapshot.table session.job.moment session.job.tree ask bytes names heads.within heads.table_is shown
      one_shown (Miss why) shown = tt

      after_one : (found : Fetched) → HitIsShown old.checked old.records.history ask found → SessionLives old (with_one found session)
      after_one found shown = record {
        within = heads.within;
        table_is = heads.table_is;
        moment_is = heads.moment_is;
        tree_is = heads.tree_is;
        fits = heads.fits;
        lives = record { there = heads.lives.there; vars = heads.lives.vars; frames = heads.lives.frames };
        page = heads.page;
        page_is = heads.page_is;
        comes = subst (λ looks. ComesTo old.checked session heads.page (left_by (ground_in old.checked session) session.job (one_given (fragment found)) looks)) (sym charged)
            (heads.comes (fragment found) (one_shown found shown));
      }

      pub read : (found : Fetched) (job : JobState) → job ≡ answered found session.job → HitIsShown old.checked old.records.history ask found
          → Fetches (found_one now old.shelf ask) found old.shelf.entries new.shelf.entries → (is_failed found ≡ true → 0 < 0) → is_lost found ≡ false
          → TakesTurn now old new session (run_from old.checked session (need.Read ask) 0) (outcome.Read found) (Some (with_job job session))
      read found job job_is shown fetches rose kept = subst (λ j. TakesTurn now old new session (run_from old.checked session (need.Read ask) 0) (outcome.Read found) (Some (with_job j session))) (sym job_is) told
        where
          told : TakesTurn now old new session (run_from old.checked session (need.Read ask) 0) (outcome.Read found) (Some (with_one found session))
          told =
              let exact = fetched_exactly (found_one now old.shelf ask) found old.shelf.entries new.shelf.entries fetches kept (never (is_failed found) rose) in
              let is : new ≡ with_shelf (turned now old.shelf (run_from old.checked session (need.Read ask) 0)).shelf old =
              λ i. record { records = records i; shelf = record { settings = settings i; entries = exact.1 i; writes = writes i }; checked = checked i } in
              record {
                outcome = ap outcome.Read exact.0;
                world = is;
                left_is = λ i. Some (record {
                  target = session.target;
                  place = session.snapshot.place;
                  run = left_by (ground_in old.checked session) session.job (one_given (fragment (exact.0 i))) (charged i);
                });
                lives = subst (λ (w : WorldParts MemKept Shelved). SessionLives w (with_one found session)) (sym is) (after_one found shown);
                shown = tt;
              }

    -- ---- reads of several blocks

    module _ (asks : List Ask) (heads : HeadsIn old session (run_from old.checked session (need.ReadMany asks) 0)) where
      many_shown : (asks : List Ask) (found : List Fetched) → HitsAreShown old.checked old.records.history asks found
          → AreFound (IsShown old.checked.set old.checked.routes (ground_in old.checked session)) asks (fragments found)
      many_shown [] [] shown = tt
      many_shown [] (one ∷ more) shown = tt
      many_shown (ask ∷ asks) [] shown = tt
      many_shown (ask ∷ asks) (one ∷ more) shown = (by one shown.0, many_shown asks more shown.1)
        where
          by : (found : Fetched) → HitIsShown old.checked old.records.history ask found → IfSome (fragment found) (IsShown old.checked.set old.checked.routes (ground_in old.checked session) ask)
          by (Hit bytes) shown =
              hits_are_found old.checked old.records.history session.snapshot.place session.snapshot.table session.job.moment session.job.tree ask bytes names heads.within heads.table_is shown
          by (Miss why) shown = tt

      after_many : (found : List Fetched) → HitsAreShown old.checked old.records.history asks found → SessionLives old (with_many found session)
      after_many found shown = record {
        within = heads.within;
        table_is = heads.table_is;
        moment_is = heads.moment_is;
        tree_is = heads.tree_is;
        fits = heads.fits;
        lives = record { there = heads.lives.there; vars = heads.lives.vars; frames = heads.lives.frames };
        page = heads.page;
        page_is = heads.page_is;
        comes = subst (λ looks. ComesTo old.checked session heads.page (left_by (ground_in old.checked session) session.job (many_given (fragments found)) looks)) (sym charged)
            (heads.comes (fragments found) (many_shown asks found shown));
      }

      read_many : (found : List Fetched) (job : JobState) → job ≡ answered_many found session.job → HitsAreShown old.checked old.records.history asks found
          → ReadsAll asks now found old.shelf.entries new.shelf.entries → (any_failed found ≡ true → 0 < 0) → any_lost found ≡ false
          → TakesTurn now old new session (run_from old.checked session (need.ReadMany asks) 0) (outcome.Many found) (Some (with_job job session))
      read_many found job job_is shown reads rose kept = subst (λ j. TakesTurn now old new session (run_from old.checked session (need.ReadMany asks) 0) (outcome.Many found) (Some (with_job j session))) (sym job_is) told
        where
          told : TakesTurn now old new session (run_from old.checked session (need.ReadMany asks) 0) (outcome.Many found) (Some (with_many found session))
          told =
              let exact = all_exactly now asks found old.shelf.entries new.shelf.entries reads kept (never (any_failed found) rose) in
              let is : new ≡ with_shelf (turned now old.shelf (run_from old.checked session (need.ReadMany asks) 0)).shelf old =
              λ i. record { records = records i; shelf = record { settings = settings i; entries = exact.1 i; writes = writes i }; checked = checked i } in
              record {
                outcome = ap outcome.Many exact.0;
                world = is;
                left_is = λ i. Some (record {
                  target = session.target;
                  place = session.snapshot.place;
                  run = left_by (ground_in old.checked session) session.job (many_given (fragments (exact.0 i))) (charged i);
                });
                lives = subst (λ (w : WorldParts MemKept Shelved). SessionLives w (with_many found session)) (sym is) (after_many found shown);
                shown = tt;
              }

      -- the same of questions and of answers that are these
      pub read_many_of : (asked : List Ask) → asked ≡ asks → (found told : List Fetched) → told ≡ found → (job : JobState) → job ≡ answered_many found session.job → HitsAreShown old.checked old.records.history asked found
          → ReadsAll asked now found old.shelf.entries new.shelf.entries → (any_failed found ≡ true → 0 < 0) → any_lost found ≡ false
          → TakesTurn now old new session (run_from old.checked session (need.ReadMany asks) 0) (outcome.Many told) (Some (with_job job session))
      read_many_of asked is found told same job job_is shown reads rose kept =
          subst (λ f. TakesTurn now old new session (run_from old.checked session (need.ReadMany asks) 0) (outcome.Many f) (Some (with_job job session))) (sym same)
          (read_many found job job_is (subst (λ a. HitsAreShown old.checked old.records.history a found) is shown)
          (subst (λ a. ReadsAll a now found old.shelf.entries new.shelf.entries) is reads) rose kept)

  -- ---- writes

  module _ (fresh : Fresh) (heads : HeadsIn old session (run_from old.checked session (need.Write fresh) 0)) where
    module _ (waiting : session.job.stopped.answer ≡ answer.Nothing) where
      -- with nothing answered, what is left is what follows the write
      going : run_of old.checked session ≡ rest none_given
      going = λ i. left_by (ground_in old.checked session) session.job (given (waiting i)) (charged i)

      pub write : new.shelf.entries ≡ (turned now old.shelf (run_from old.checked session (need.Write fresh) 0)).shelf.entries
          → new.shelf.writes ≡ (turned now old.shelf (run_from old.checked session (need.Write fresh) 0)).shelf.writes
          → TakesTurn now old new session (run_from old.checked session (need.Write fresh) 0) outcome.Wrote (Some session)
      write entries writes =
          let is : new ≡ with_shelf (turned now old.shelf (run_from old.checked session (need.Write fresh) 0)).shelf old =
          λ i. record { records = records i; shelf = record { settings = settings i; entries = entries i; writes = writes i }; checked = checked i } in
          record {
            outcome = refl;
            world = is;
            left_is = λ i. Some (record { target = session.target; place = session.snapshot.place; run = going i });
            lives = subst (λ (w : WorldParts MemKept Shelved). SessionLives w session) (sym is) (record {
              within = heads.within;
              table_is = heads.table_is;
              moment_is = heads.moment_is;
              tree_is = heads.tree_is;
              fits = heads.fits;
              lives = heads.lives;
              page = heads.page;
              page_is = heads.page_is;
              comes = subst (ComesTo old.checked session heads.page) (sym going) heads.comes.1;
            });
            shown = tt;
          }
