-- What recording a commit comes to over the table that is held, and what is kept after it.
use mathlib.Core.Logic.{inr}
use Rattle.std.proofs.Common.{◌≡◌, ℕ, ◌+◌, ◌<◌, ◌≤◌, ◌^◌, true, false, List, [], ◌∷◌, ◌++◌, length, map, Option, Some, None, Result, Ok, Err, nat_lt, ap, subst, ◌∙◌, refl, sym, arith, lt-ltb}
use Rattle.std.proofs.lemmas.List.{map-append}
use Rattle.doll_schema.specs.declared.model.Schema.{Schema}
use Rattle.doll_journal.specs.declared.change.Change.{Change}
use Rattle.doll_journal.specs.declared.change.Commit.{Commit}
use Rattle.doll_journal.specs.Spelling.{spelling}
use Rattle.doll_keep.specs.Calls.{Append, Telling}
use Rattle.doll_keep.specs.Kept.{Added, has_failed}
use Rattle.doll_keep.specs.declared.keeper.KeepFault.{KeepFault}
use Rattle.doll_keep.specs.declared.keeper.KeepFault.TheVariants.{Failed, Memory}
use Rattle.doll_table.specs.Tables.{TableMap}
use Rattle.doll_commit.specs.declared.apply.Applied.{Applied}
use Rattle.doll_commit.specs.declared.fault.CommitFault.{CommitFault}
use Rattle.doll_commit.specs.Commits.{commit_of}
use Rattle.doll_commit.specs.Moments.{CarriesMoment}
use Rattle.doll_table.specs.Fits.{Fits}
use Rattle.doll_journal.specs.Storable.{IsStorable, AreStorable}
use Rattle.doll_records.specs.declared.fault.RecordFault.{RecordFault}
use Rattle.doll_records.specs.Histories.{table_of, last_moment, next_moment, Holds, IsSpelled}
use Rattle.doll_records.specs.Commitments.{or_refused, committed, asked, CalledOnce}
use Rattle.doll_records.specs.Faults.{record_keep_fault}
use Rattle.doll_records.proofs.Growing.{table_is, holds_grown}
use Rattle.doll_records.specs.declared.limits.TheConstants.{MOST_COMMITS, LAST_MOMENT}

pub refused : (schema : Schema) (history : List Commit) (table : TableMap) (last : ℕ) (commit : Commit) (e : RecordFault) → Holds schema history table last → length history < MOST_COMMITS → last < LAST_MOMENT
    → or_refused (commit_of table schema commit) ≡ Err e → committed schema history commit ≡ Err e
refused schema history table last commit e holds room soon is =
    let few : nat_lt (length history) MOST_COMMITS ≡ true = lt-ltb (length history) MOST_COMMITS room in
    let early : nat_lt last LAST_MOMENT ≡ true = lt-ltb last LAST_MOMENT soon in
    rw (few, ← holds.moment, early, table_is schema history table last holds, is) refl

pub accepted : (schema : Schema) (history : List Commit) (table : TableMap) (last : ℕ) (commit : Commit) (applied : Applied) → Holds schema history table last → length history < MOST_COMMITS → last < LAST_MOMENT
    → or_refused (commit_of table schema commit) ≡ Ok applied → committed schema history commit ≡ Ok (record { place = length history + 1; moment = commit.moment; ids = applied.ids })
accepted schema history table last commit applied holds room soon is =
    let few : nat_lt (length history) MOST_COMMITS ≡ true = lt-ltb (length history) MOST_COMMITS room in
    let early : nat_lt last LAST_MOMENT ≡ true = lt-ltb last LAST_MOMENT soon in
    rw (few, ← holds.moment, early, table_is schema history table last holds, is) refl

ok_is : {T E : Type 0} (x y : T) → ◌≡◌ {A = Result T E} (Ok x) (Ok y) → x ≡ y
ok_is x y e = cc

-- a commit is accepted only where the table takes it
pub is_applied : (r : Result Applied CommitFault) (applied : Applied) → or_refused r ≡ Ok applied → r ≡ Ok applied
is_applied (Ok other) applied e = ap Ok (ok_is other applied e)
is_applied (Err fault) applied e = absurd (cc e)

pub asked_is : (history : List Commit) (author serial : ℕ) (changes : List Change) (now last : ℕ) (commit : Commit) → last ≡ last_moment 0 history
    → commit ≡ record { author = author; serial = serial; moment = next_moment last now; changes = changes } → commit ≡ asked history author serial changes now
asked_is history author serial changes now last commit is at = rw (at, is) refl

-- the same for the commit that is asked for
pub asked_refused : (schema : Schema) (history : List Commit) (table seen : TableMap) (last author serial : ℕ) (changes : List Change) (now : ℕ) (commit : Commit) (e : RecordFault)
    → Holds schema history table last → length history < MOST_COMMITS → last < LAST_MOMENT
    → commit ≡ record { author = author; serial = serial; moment = next_moment last now; changes = changes } → seen ≡ table
    → or_refused (commit_of seen schema commit) ≡ Err e → committed schema history (asked history author serial changes now) ≡ Err e
asked_refused schema history table seen last author serial changes now commit e holds room soon at same is =
    subst (λ (c : Commit). committed schema history c ≡ Err e) (asked_is history author serial changes now last commit holds.moment at)
    (refused schema history table last commit e holds room soon (rw same at is))

pub asked_accepted : (schema : Schema) (history : List Commit) (table seen : TableMap) (last author serial : ℕ) (changes : List Change) (now place : ℕ) (commit : Commit) (applied : Applied)
    → Holds schema history table last → length history < MOST_COMMITS → last < LAST_MOMENT
    → commit ≡ record { author = author; serial = serial; moment = next_moment last now; changes = changes } → place ≡ length history + 1 → seen ≡ table
    → or_refused (commit_of seen schema commit) ≡ Ok applied → committed schema history (asked history author serial changes now) ≡ Ok (record { place = place; moment = commit.moment; ids = applied.ids })
asked_accepted schema history table seen last author serial changes now place commit applied holds room soon at placed same is =
    subst (λ (c : Commit). committed schema history c ≡ Ok (record { place = place; moment = commit.moment; ids = applied.ids })) (asked_is history author serial changes now last commit holds.moment at)
    (rw placed (accepted schema history table last commit applied holds room soon (rw same at is)))

pub spelled_grown : (old new : Option (List (List ℕ))) (history : List Commit) (commit : Commit) (bytes : List ℕ) → IsSpelled old history → bytes ≡ spelling commit → Added old new bytes → IsSpelled new (history ++ commit ∷ [])
spelled_grown None None history commit bytes spelled is added = tt
spelled_grown None (Some items) history commit bytes spelled is added = absurd added
spelled_grown (Some items) None history commit bytes spelled is added = absurd added
spelled_grown (Some items) (Some more) history commit bytes spelled is added = added ∙ ap (λ xs. xs ++ bytes ∷ []) spelled ∙ ap (λ b. map spelling history ++ b ∷ []) is ∙ sym (map-append spelling history (commit ∷ []))

pub asked_storable : (author serial last now : ℕ) (changes : List Change) (commit : Commit) → author < 2 ^ 32 → serial < 2 ^ 64 → last < LAST_MOMENT → AreStorable changes
    → commit ≡ record { author = author; serial = serial; moment = next_moment last now; changes = changes } → IsStorable commit
asked_storable author serial last now changes commit a s soon fits at =
    let in_range : next_moment last now < 2 ^ 64 = omega arith in
    rw at (a, s, in_range, fits)

-- what is held after the commit, whose moment follows
pub next_holds : (schema : Schema) (history next : List Commit) (table seen : TableMap) (last : ℕ) (commit : Commit) (now : ℕ) (applied : Applied)
    → Holds schema history table last → length history < MOST_COMMITS → last < LAST_MOMENT → commit.moment ≡ next_moment last now → seen ≡ table → IsStorable commit
    → or_refused (commit_of seen schema commit) ≡ Ok applied → Fits schema applied.table → next ≡ history ++ commit ∷ []
    → Holds schema next applied.table commit.moment
next_holds schema history next table seen last commit now applied holds room soon at same storable is fits more =
    let later : last < commit.moment = omega arith in
    let in_time : commit.moment ≤ LAST_MOMENT = omega arith in
    rw more (holds_grown schema history table last commit applied holds room later in_time storable (is_applied (commit_of table schema commit) applied (rw same at is)) fits)

pub next_carries : (schema : Schema) (history next : List Commit) (table seen after : TableMap) (last moment : ℕ) → Holds schema history table last → seen ≡ table → Holds schema next after moment
    → CarriesMoment schema seen after moment → CarriesMoment schema (table_of schema history) (table_of schema next) moment
next_carries schema history next table seen after last moment holds same grown carries = rw (table_is schema history table last holds, table_is schema next after moment grown, ← same) carries

-- the one call of the keeper for a commit, by the bytes that it was given
pub called_ok : {K : Type 0} (Called : Telling K) (before after : K) (wanted bytes : List ℕ) → bytes ≡ wanted → Called before (Append bytes) false after → Called before (Append wanted) false after
called_ok Called before after wanted bytes is called = subst (λ (b : List ℕ). Called before (Append b) false after) is called

pub called_err : {K : Type 0} (Called : Telling K) (before after : K) (wanted bytes : List ℕ) (fault : KeepFault) → bytes ≡ wanted → Called before (Append bytes) (has_failed {T = Unit {0}} (Err fault)) after
    → CalledOnce Called wanted before after (Err (record_keep_fault fault))
called_err Called before after wanted bytes Failed is called = subst (λ (b : List ℕ). Called before (Append b) true after) is called
called_err Called before after wanted bytes Memory is called = inr (called_ok Called before after wanted bytes is called)
