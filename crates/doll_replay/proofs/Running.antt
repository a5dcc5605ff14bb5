-- Turns of a session one after another, until its page comes.
use Rattle.std.proofs.Common.{◌≡◌, ◌≢◌, ◌<◌, ◌+◌, ◌==◌, ℕ, suc, Bool, true, false, not, ◌||◌, List, [], ◌∷◌, ◌++◌, length, Option, Some, None, Result, Ok, Err, IfOk, if◌then◌else◌, refl, ap, sym, subst, ◌∙◌, arith}
use Rattle.std.specs.List.{flat_map, list_any}
use Rattle.std.specs.Option.{option_map_or}
use Rattle.std.proofs.lemmas.Bool.Decides.{nat_tests}
use Rattle.std.proofs.lemmas.Grind.{flat_map-append}
use Rattle.std.proofs.lemmas.List.{append_assoc, append-nil}
use Rattle.std.proofs.lemmas.List.Folds.{list_any-append}
use Rattle.doll_report.specs.declared.outcome.Outcome.{Outcome}
use Rattle.doll_report.specs.declared.outcome.Outcome.TheVariants as outcome
use Rattle.doll_report.specs.declared.outcome.Step.{Step}
use Rattle.doll_report.specs.declared.outcome.Step.TheVariants as step
use Rattle.doll_run.specs.Runs.{Ends, Reads, ReadsMany, Run, Writes}
use Rattle.doll_shelf.specs.Calls.{Shelved}
use Rattle.doll_keep.specs.Kept.{MemKept}
use Rattle.doll_world.specs.Worlds.{WorldParts}
use Rattle.doll_core.specs.Pages.{ShowsRightBy}
use Rattle.doll_core.specs.States.{CoreState, SessionState}
use Rattle.doll_core.specs.Steps.{Stays, Steps, TurnsBy, going_on}
use Rattle.doll_core.specs.Turns.{all_turns, turned}
use Rattle.doll_core.specs.declared.event.Event.{Event}
use Rattle.doll_core.specs.declared.event.Event.TheVariants as event
use Rattle.doll_replay.specs.Plays.{Gets, OneStep, RunsOut, Told, Whether, is_bad, is_last, is_opened, kind_of, own_session}
use Rattle.doll_replay.specs.Reports.{IsCome, IsTold, came_of, is_good, report_of, told_line}
use Rattle.doll_replay.specs.declared.orders.Came.{Came}

-- ---- how many turns are left

abbrev pub turns_by : ℕ → Shelved → Option SessionState → ℕ
turns_by now shelf one = option_map_or (λ (s : SessionState). length (all_turns now s.run shelf).0) one 0

-- the turns that a session takes at a time until its page comes
abbrev pub turns_left : ℕ → ℕ → CoreState → ℕ
turns_left session now state = turns_by now state.world.shelf (state.sessions session)

-- a turn that isn't the last leaves one less
one_less : (now : ℕ) (shelf : Shelved) (s : SessionState) → is_last (turned now shelf s.run).outcome ≡ false
    → turns_by now (turned now shelf s.run).shelf (going_on s.target s.place (turned now shelf s.run).left) < length (all_turns now s.run shelf).0
one_less now shelf s more = by_run s.run more
  where
    by_run : (run : Run) → is_last (turned now shelf run).outcome ≡ false → turns_by now (turned now shelf run).shelf (going_on s.target s.place (turned now shelf run).left) < length (all_turns now run shelf).0
    by_run (Ends looks bytes) m = absurd (cc m)
    by_run (Reads looks ask rest) m = omega arith
    by_run (ReadsMany looks asks rest) m = omega arith
    by_run (Writes looks fresh rest) m = omega arith

self : (n : ℕ) → (n == n) ≡ true
self n = grind (arith, nat_tests)

-- what a session is after its turn
its_own : (one other : Option SessionState) (n : ℕ) → (if n == n then one else other) ≡ one
its_own one other n = ap (λ b. if b then one else other) (self n)

fewer : (one : Option SessionState) (old new : CoreState) (session now : ℕ) (came : Outcome) → TurnsBy one old session now came new → is_last came ≡ false
    → turns_left session now new < turns_by now old.world.shelf one
fewer None old new session now came turns more = absurd (cc (sym more ∙ ap is_last turns.0))
fewer (Some s) old new session now came turns more =
    subst (λ n. n < length (all_turns now s.run old.world.shelf).0)
    (sym (ap (λ (w : WorldParts MemKept Shelved). turns_by now w.shelf (new.sessions session)) turns.1 ∙ ap (turns_by now (turned now old.world.shelf s.run).shelf) (turns.2 session ∙ its_own _ _ session)))
    (one_less now old.world.shelf s (sym (ap is_last turns.0) ∙ more))

pub turn_leaves_fewer : (old new : CoreState) (session now : ℕ) (came : Outcome) → Steps old (event.Turn session now) came new → is_last came ≡ false → turns_left session now new < turns_left session now old
turn_leaves_fewer old new session now came steps more = fewer (old.sessions session) old new session now came steps more

-- ---- what was told

-- the turns so far, behind which others follow
pub record SoFar (session now : ℕ) (old here : CoreState) (before after : List ℕ) : Type 0 where
  pub told : List Told
  pub then_more : (rest : List Told) (new : CoreState) → RunsOut session now here rest new → RunsOut session now old (told ++ rest) new
  pub good : list_any is_bad told ≡ false
  pub written : after ≡ before ++ report_of told

pub none_yet : (session now : ℕ) (old : CoreState) (before : List ℕ) → SoFar session now old old before before
none_yet session now old before = record { told = []; then_more = λ rest new runs. runs; good = refl; written = sym (append-nil before) }

written_more : (before between after text : List ℕ) (told : List Told) (one : Told) → between ≡ before ++ report_of told → after ≡ between ++ told_line one → after ≡ before ++ report_of (told ++ one ∷ [])
written_more before between after text told one first more =
    more ∙ ap (λ b. b ++ told_line one) first ∙ append_assoc before (report_of told) (told_line one)
    ∙ ap (λ t. before ++ t) (ap (λ t. report_of told ++ t) (sym (append-nil (told_line one))) ∙ sym (flat_map-append told_line told (one ∷ [])))

either_bad : (told : List Told) (one : Told) → list_any is_bad told ≡ false → list_any is_bad (told ++ one ∷ []) ≡ is_bad one
either_bad told one good = list_any-append is_bad told (one ∷ []) ∙ ap (λ b. b || list_any is_bad (one ∷ [])) good ∙ or_false (is_bad one)
  where
    or_false : (b : Bool) → (b || false) ≡ b
    or_false true = refl
    or_false false = refl

not_bad : (session : ℕ) (came : Outcome) → is_last came ≡ false → is_bad (step.Turn session, came) ≡ false
not_bad session (outcome.Page bytes) more = absurd (cc more)
not_bad session outcome.BadSession more = absurd (cc more)
not_bad session (outcome.Opened moment) more = refl
not_bad session (outcome.NoPage status moment) more = refl
not_bad session (outcome.Read found) more = refl
not_bad session (outcome.Many found) more = refl
not_bad session outcome.Wrote more = refl
not_bad session (outcome.Committed committed) more = refl
not_bad session (outcome.Refused why) more = refl
not_bad session (outcome.Expired count) more = refl

good_is : (session : ℕ) (told : Outcome) → is_good told ≡ not (is_bad (step.Turn session, told))
good_is session (outcome.Page bytes) = refl
good_is session outcome.BadSession = refl
good_is session (outcome.Opened moment) = refl
good_is session (outcome.NoPage status moment) = refl
good_is session (outcome.Read found) = refl
good_is session (outcome.Many found) = refl
good_is session outcome.Wrote = refl
good_is session (outcome.Committed committed) = refl
good_is session (outcome.Refused why) = refl
good_is session (outcome.Expired count) = refl

bad_any : (kind other : Step) (told : Outcome) → is_bad (kind, told) ≡ is_bad (other, told)
bad_any kind other (outcome.Page bytes) = refl
bad_any kind other outcome.BadSession = refl
bad_any kind other (outcome.Opened moment) = refl
bad_any kind other (outcome.NoPage status moment) = refl
bad_any kind other (outcome.Read found) = refl
bad_any kind other (outcome.Many found) = refl
bad_any kind other outcome.Wrote = refl
bad_any kind other (outcome.Committed committed) = refl
bad_any kind other (outcome.Refused why) = refl
bad_any kind other (outcome.Expired count) = refl

good_of : (kind : Step) (told : Outcome) (came : Came) → came ≡ came_of told → came.good ≡ not (is_bad (kind, told))
good_of kind told came is = ap (λ (c : Came). c.good) is ∙ good_is 0 told ∙ ap not (bad_any (step.Turn 0) kind told)

stays : (state : CoreState) → Stays state state
stays state = record { world = refl; sessions = λ n. refl }

-- a turn more, which isn't the last
pub one_more : (session now : ℕ) (old here next : CoreState) (before between after : List ℕ) (came : Came) → SoFar session now old here before between → IsCome here (event.Turn session now) between after next came → came.last ≡ false
    → SoFar session now old next before after
one_more session now old here next before between after came so_far come more = record {
  told = so_far.told ++ (step.Turn session, come.told) ∷ [];
  then_more = λ rest new runs.
      subst (λ t. RunsOut session now old t new) (sym (append_assoc so_far.told ((step.Turn session, come.told) ∷ []) rest))
      (so_far.then_more ((step.Turn session, come.told) ∷ rest) new (next, (refl, (come.right, subst (λ b. Whether b ((rest ≡ []) × Stays next new) (RunsOut session now next rest new)) (sym isnt_last) runs))));
  good = either_bad so_far.told (step.Turn session, come.told) so_far.good ∙ not_bad session come.told isnt_last;
  written = written_more before between after [] so_far.told (step.Turn session, come.told) so_far.written come.line;
}
  where
    isnt_last : is_last come.told ≡ false
    isnt_last = sym (ap (λ (c : Came). c.last) come.is) ∙ more

-- a turn that isn't the last leaves fewer
pub come_leaves_fewer : (session now : ℕ) (here next : CoreState) (between after : List ℕ) (came : Came) → IsCome here (event.Turn session now) between after next came → came.last ≡ false → turns_left session now next < turns_left session now here
come_leaves_fewer session now here next between after came come more = turn_leaves_fewer here next session now come.told come.right.0 (sym (ap (λ (c : Came). c.last) come.is) ∙ more)

-- the last turn
pub last_one : (session now : ℕ) (old here next : CoreState) (before between after : List ℕ) (came : Came) → SoFar session now old here before between → IsCome here (event.Turn session now) between after next came → came.last ≡ true
    → IsTold (RunsOut session now old) before after next came.good
last_one session now old here next before between after came so_far come last = (
  so_far.told ++ (step.Turn session, come.told) ∷ [],
  (
    so_far.then_more ((step.Turn session, come.told) ∷ []) next (next, (refl, (come.right, subst (λ b. Whether b (Path (List Told) [] [] × Stays next next) (RunsOut session now next [] next)) (sym (sym (ap (λ (c : Came). c.last) come.is) ∙ last)) (refl {A = List Told} {a = []}, stays next)))),
    (good_of (step.Turn session) come.told came come.is ∙ ap not (sym (either_bad so_far.told (step.Turn session, come.told) so_far.good)), written_more before between after [] so_far.told (step.Turn session, come.told) so_far.written come.line),
  ),
)

-- one event alone
pub one_told : (old new : CoreState) (one : Event) (before after : List ℕ) (came : Came) → IsCome old one before after new came → IsTold (OneStep old one) before after new came.good
one_told old new one before after came come =
    ((kind_of one, come.told) ∷ [], ((come.told, (come.right, refl)), (good_of (kind_of one) come.told came come.is ∙ ap not (sym (either_bad [] (kind_of one, come.told) refl)), come.line ∙ ap (λ t. before ++ t) (sym (append-nil (told_line (kind_of one, come.told)))))))

-- ---- a page at once

-- a page that didn't open
pub none_got : (target : List ℕ) (now : ℕ) (old new : CoreState) (before after : List ℕ) (came : Came) → IsCome old (event.Start own_session target 0 now) before after new came → came.opened ≡ false → IsTold (Gets target now old) before after new came.good
none_got target now old new before after came come other = (
  (step.Open own_session, come.told) ∷ [],
  (
    (new, (refl, (come.right, subst (λ b. Whether b (RunsOut own_session now new [] new) (Path (List Told) [] [] × Stays new new)) (sym (sym (ap (λ (c : Came). c.opened) come.is) ∙ other)) (refl {A = List Told} {a = []}, stays new)))),
    (good_of (step.Open own_session) come.told came come.is ∙ ap not (sym (either_bad [] (step.Open own_session, come.told) refl)), come.line ∙ ap (λ t. before ++ t) (sym (append-nil (told_line (step.Open own_session, come.told))))),
  ),
)

opened_good : (told : Outcome) → is_opened told ≡ true → is_bad (step.Open own_session, told) ≡ false
opened_good (outcome.Opened moment) is = refl
opened_good (outcome.Page bytes) is = absurd (cc is)
opened_good outcome.BadSession is = absurd (cc is)
opened_good (outcome.NoPage status moment) is = absurd (cc is)
opened_good (outcome.Read found) is = absurd (cc is)
opened_good (outcome.Many found) is = absurd (cc is)
opened_good outcome.Wrote is = absurd (cc is)
opened_good (outcome.Committed committed) is = absurd (cc is)
opened_good (outcome.Refused why) is = absurd (cc is)
opened_good (outcome.Expired count) is = absurd (cc is)

-- a page that opened and took its turns
pub one_got : (target : List ℕ) (now : ℕ) (old between new : CoreState) (before written after : List ℕ) (came : Came) (good : Bool) → IsCome old (event.Start own_session target 0 now) before written between came → came.opened ≡ true
    → IsTold (RunsOut own_session now between) written after new good → IsTold (Gets target now old) before after new good
one_got target now old between new before written after came good come opened runs = (
  (step.Open own_session, come.told) ∷ runs.0,
  (
    (between, (refl, (come.right, subst (λ b. Whether b (RunsOut own_session now between runs.0 new) ((runs.0 ≡ []) × Stays between new)) (sym is_open) runs.1.0))),
    (runs.1.1.0 ∙ ap (λ b. not (b || list_any is_bad runs.0)) (sym (opened_good come.told is_open)), runs.1.1.1 ∙ ap (λ b. b ++ report_of runs.0) come.line ∙ append_assoc before (told_line (step.Open own_session, come.told)) (report_of runs.0)),
  ),
)
  where
    is_open : is_opened come.told ≡ true
    is_open = sym (ap (λ (c : Came). c.opened) come.is) ∙ opened

pub one_got_ok : {E : Type 0} (target : List ℕ) (now : ℕ) (old between new : CoreState) (before written after : List ℕ) (came : Came) (result : Result Bool E) → IsCome old (event.Start own_session target 0 now) before written between came → came.opened ≡ true
    → IfOk result (IsTold (RunsOut own_session now between) written after new) → IfOk result (IsTold (Gets target now old) before after new)
one_got_ok target now old between new before written after came (Ok good) come opened runs = one_got target now old between new before written after came good come opened runs
one_got_ok target now old between new before written after came (Err e) come opened runs = tt

-- the same target
pub come_at : (copy target : List ℕ) (now : ℕ) (old new : CoreState) (before after : List ℕ) (came : Came) → copy ≡ target → IsCome old (event.Start own_session copy 0 now) before after new came → IsCome old (event.Start own_session target 0 now) before after new came
come_at copy target now old new before after came is come = subst (λ t. IsCome old (event.Start own_session t 0 now) before after new came) is come
