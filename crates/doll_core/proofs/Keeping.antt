-- What is true of sessions stays true when one of them changes, and when the history goes on.
use Rattle.std.proofs.Common.{◌≡◌, ◌≤◌, ◌+◌, ℕ, Bool, true, false, cond, nat_eq, ◌^◌, List, [], ◌∷◌, ◌++◌, length, Option, Some, None, Result, Ok, Err, OnOk, OnErr, refl, ap, sym, subst, inl, ◌∙◌, arith}
use Rattle.std.specs.Prelude.{IfSome, option_map, take}
use Rattle.std.proofs.lemmas.List.{append-nil, length-append, take-append-le}
use Rattle.doll_journal.specs.declared.change.Commit.{Commit}
use Rattle.doll_keep.specs.Kept.{MemKept}
use Rattle.doll_records.specs.Histories.{last_moment, made_on}
use Rattle.doll_run.specs.Runs.{Ends, Reads, ReadsMany, Run, Writes}
use Rattle.doll_shelf.specs.Calls.{Shelved}
use Rattle.doll_table.specs.Tables.{empty_table}
use Rattle.doll_types.specs.Sets.{TypedSet}
use Rattle.doll_world.specs.Worlds.{WorldParts}
use Rattle.doll_core.specs.Cores.{Heads, IsCore, SessionLives}
use Rattle.doll_core.specs.Losses.{LosesBy, LosesSession}
use Rattle.doll_core.specs.States.{CoreParts, SessionParts, SessionState, SessionsBut, IsChanged, run_of, session_at, session_state, state_of, with_shelf}

-- ---- a history that goes on

pub heads_stay : (checked : TypedSet) (history more : List Commit) (session : SessionParts) (run : Run) → Heads checked history session run → Heads checked (history ++ more) session run
heads_stay checked history more session run heads = record {
  within = omega (arith, heads.within, length-append history more);
  table_is = ap (made_on checked.schema (empty_table checked.schema)) first ∙ heads.table_is;
  moment_is = heads.moment_is ∙ ap (last_moment 0) (sym first);
  tree_is = heads.tree_is;
  fits = heads.fits;
  lives = heads.lives;
  page = heads.page;
  page_is = heads.page_is;
  comes = heads.comes;
}
  where
    first : take session.snapshot.place (history ++ more) ≡ take session.snapshot.place history
    first = take-append-le session.snapshot.place history more heads.within

-- a session comes to its page still
pub lives_stay : (old new : WorldParts MemKept Shelved) (more : List Commit) → new.checked ≡ old.checked → new.records.history ≡ old.records.history ++ more → (session : SessionParts)
    → SessionLives old session → SessionLives new session
lives_stay old new more checked history session lives =
    subst (λ c. Heads c new.records.history session (run_of c session)) (sym checked)
    (subst (λ h. Heads old.checked h session (run_of old.checked session)) (sym history) (heads_stay old.checked old.records.history more session (run_of old.checked session) lives))

-- a core whose history may go on
pub core_stays : {T E : Type 0} (old new : WorldParts MemKept Shelved) (more : List Commit) (result : Result T E) (sessions : List (ℕ × SessionParts)) → new.checked ≡ old.checked
    → OnOk result (new.records.history ≡ old.records.history ++ more) → OnErr result (new.records.history ≡ old.records.history)
    → IsCore (record { world = old; sessions = sessions }) → IsCore (record { world = new; sessions = sessions })
core_stays {T} {E} old new more result sessions checked ok err core = record {
  few = subst (λ (t : TypedSet). length t.set.templates ≤ 2 ^ 16) (sym checked) core.few;
  sessions = λ number. each (session_at sessions number) (core.sessions number);
}
  where
    stays : (result : Result T E) → OnOk result (new.records.history ≡ old.records.history ++ more) → OnErr result (new.records.history ≡ old.records.history) → (session : SessionParts)
        → SessionLives old session → SessionLives new session
    stays (Ok x) ok err = lives_stay old new more checked ok
    stays (Err e) ok err = lives_stay old new [] checked (err ∙ sym (append-nil old.records.history))

    each : (one : Option SessionParts) → IfSome one (SessionLives old) → IfSome one (SessionLives new)
    each None lives = tt
    each (Some session) lives = stays result ok err session lives

-- no event is left of as many as none
pub none_left : {X : Type 0} (xs : List X) → length xs ≡ 0 → xs ≡ []
none_left [] none = refl
none_left (x ∷ xs) none = absurd (cc none)

-- what holds holds of a refusal
pub on_err : {T E : Type 0} (result : Result T E) {P : Type 0} → P → OnErr result P
on_err (Ok x) is = tt
on_err (Err e) is = is

-- ---- sessions of which one changes

-- the same of what sessions stand for
pub states_changed : (number : ℕ) (one : Option SessionParts) (state : Option SessionState) (old new : CoreParts) → new.world.checked ≡ old.world.checked
    → IsChanged number one old.sessions new.sessions → option_map (session_state old.world.checked) one ≡ state → SessionsBut number state (state_of old) (state_of new)
states_changed number one state old new checked changes is other = (λ i. option_map (session_state (checked i)) (changes other i)) ∙ by (nat_eq number other)
  where
    by : (b : Bool) → option_map (session_state old.world.checked) (cond b one (session_at old.sessions other))
        ≡ cond b state (option_map (session_state old.world.checked) (session_at old.sessions other))
    by true = is
    by false = refl

-- ---- a turn

module _ (number now : ℕ) (old new : CoreParts) (session : SessionParts) (at : session_at old.sessions number ≡ Some session) where
  at_state : Some (session_state old.world.checked session) ≡ (state_of old).sessions number
  at_state = ap (option_map (session_state old.world.checked)) (sym at)

  -- a session that is closed before its turn
  pub none_loses : new.world ≡ old.world → IsChanged number None old.sessions new.sessions → LosesSession ((state_of old).sessions number) (state_of old) number now (state_of new)
  none_loses same changes =
      subst (λ s. LosesSession s (state_of old) number now (state_of new)) at_state (
        states_changed number None None old new (ap (λ (w : WorldParts MemKept Shelved). w.checked) same) changes refl,
        subst (λ (w : WorldParts MemKept Shelved). w ≡ with_shelf w.shelf old.world) (sym same) refl,
        subst (λ (w : WorldParts MemKept Shelved). LosesBy (run_of old.world.checked session) now old.world.shelf w.shelf) (sym same) (nothing (run_of old.world.checked session)),
      )
    where
      nothing : (run : Run) → LosesBy run now old.world.shelf old.world.shelf
      nothing (Ends looks bytes) = refl
      nothing (Reads looks ask rest) = refl
      nothing (ReadsMany looks asks rest) = inl refl
      nothing (Writes looks fresh rest) = inl refl
