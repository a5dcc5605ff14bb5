-- The tables of one history: each is later than those before it.
use Rattle.std.proofs.Common.{◌≡◌, ℕ, zero, suc, ◌≤◌, List, [], ◌∷◌, take, Some, Result, Ok, Err, IsTrue, refl, subst, arith}
use Rattle.std.proofs.lemmas.Bool.{and_parts, and_from}
use Rattle.doll_schema.specs.declared.model.Schema.{Schema}
use Rattle.doll_journal.specs.declared.change.Commit.{Commit}
use Rattle.doll_table.specs.Tables.{TableMap, empty_table}
use Rattle.doll_table.specs.Fits.{Fits}
use Rattle.doll_table.proofs.Fitting.{no_row, empty_fits}
use Rattle.doll_commit.specs.declared.apply.Applied.{Applied}
use Rattle.doll_commit.specs.declared.fault.CommitFault.{CommitFault}
use Rattle.doll_commit.specs.Commits.{commit_of}
use Rattle.doll_records.specs.Histories.{accepted, made_on, last_moment, follows, rise}
use Rattle.doll_records.proofs.Growing.{follows_by}
use Rattle.doll_past.specs.Facts.{AreUpTo, IsLater, TablesAreAlong}
use Rattle.doll_past.proofs.Succeeding.{course_of, commit_goes}
use Rattle.doll_past.proofs.Between.{commit_later, commit_up_to, itself_later, then_later}

-- what commits make of a table that fits, whose moments are up to one before theirs
record Leads (schema : Schema) (table : TableMap) (commits : List Commit) (after : TableMap) (last : ℕ) : Type 0 where
  later : IsLater schema table after
  fits : Fits schema after
  up_to : AreUpTo last after

leads : (schema : Schema) (table : TableMap) (before : ℕ) (commits : List Commit) (after : TableMap) → Fits schema table → AreUpTo before table → IsTrue (rise before commits) → made_on schema table commits ≡ Some after → Leads schema table commits after (last_moment before commits)
unfolding made_on rise last_moment
leads schema table before [] after fits up_to rises made =
    let e : table ≡ after = cc in
    subst (λ t. Leads schema table [] t before) e (record { later = itself_later schema table; fits = fits; up_to = up_to })
leads schema table before (commit ∷ commits) after fits up_to rises made = by_answer (λ next m f u r h. leads schema next m commits after f u r h) (commit_of table schema commit) refl made
  where
    Later : Type 0
    Later = (next : TableMap) (m : ℕ) → Fits schema next → AreUpTo m next → IsTrue (rise m commits) → made_on schema next commits ≡ Some after → Leads schema next commits after (last_moment m commits)

    parts : IsTrue (follows before commit) × IsTrue (rise commit.moment commits)
    parts = and_parts (follows before commit) (rise commit.moment commits) rises

    by_answer : Later → (r : Result Applied CommitFault) → commit_of table schema commit ≡ r → accepted (λ next. made_on schema next commits) r ≡ Some after → Leads schema table (commit ∷ commits) after (last_moment commit.moment commits)
    by_answer on (Err w) is h = absurd (cc h)
    by_answer on (Ok applied) is h =
        let above = (follows_by before commit parts.0).0 in
        let course = course_of table schema commit applied is in
        let next = commit_goes schema table commit applied.table fits course in
        let one = commit_later schema table commit applied.table before fits up_to above course in
        let more = on applied.table commit.moment next.fits (commit_up_to schema table commit applied.table before up_to above course) parts.1 h in
        record { later = then_later schema table applied.table after fits one more.later; fits = more.fits; up_to = more.up_to }

rise_take : (before : ℕ) (history : List Commit) (place : ℕ) → IsTrue (rise before history) → IsTrue (rise before (take place history))
unfolding rise
rise_take before [] zero rises = rises
rise_take before [] (suc place) rises = rises
rise_take before (first ∷ more) zero rises = refl
rise_take before (first ∷ more) (suc place) rises =
    let parts = and_parts (follows before first) (rise first.moment more) rises in
    and_from (follows before first) (rise first.moment (take place more)) parts.0 (rise_take first.moment more place parts.1)

same_table : (a b : TableMap) → Some a ≡ Some b → a ≡ b
same_table a b e = cc

-- the tables at two places of commits made on a table that fits
record Two (schema : Schema) (first middle : ℕ) (before after : TableMap) : Type 0 where
  later : IsLater schema before after
  fits_before : Fits schema before
  fits_after : Fits schema after
  moments_before : AreUpTo first before
  moments_after : AreUpTo middle after

from_first : (schema : Schema) (table : TableMap) (moment : ℕ) (commits : List Commit) (before after : TableMap) → Fits schema table → AreUpTo moment table → IsTrue (rise moment commits) → table ≡ before → made_on schema table commits ≡ Some after → Two schema moment (last_moment moment commits) before after
from_first schema table moment commits before after fits up_to rises same made =
    let all = leads schema table moment commits after fits up_to rises made in
    subst (λ t. Two schema moment (last_moment moment commits) t after) same
    (record { later = all.later; fits_before = fits; fits_after = all.fits; moments_before = up_to; moments_after = all.up_to })

two : (schema : Schema) (table : TableMap) (moment : ℕ) (history : List Commit) (i j : ℕ) (before after : TableMap) → Fits schema table → AreUpTo moment table → IsTrue (rise moment history) → i ≤ j
    → made_on schema table (take i history) ≡ Some before → made_on schema table (take j history) ≡ Some after → Two schema (last_moment moment (take i history)) (last_moment moment (take j history)) before after
unfolding made_on rise last_moment
two schema table moment [] zero j before after fits up_to rises order was is = from_first schema table moment (take j []) before after fits up_to (rise_take moment [] j rises) (same_table table before was) is
two schema table moment [] (suc i) zero before after fits up_to rises order was is = absurd (omega (arith, order))
two schema table moment [] (suc i) (suc j) before after fits up_to rises order was is = from_first schema table moment [] before after fits up_to rises (same_table table before was) is
two schema table moment (first ∷ more) zero j before after fits up_to rises order was is = from_first schema table moment (take j (first ∷ more)) before after fits up_to (rise_take moment (first ∷ more) j rises) (same_table table before was) is
two schema table moment (first ∷ more) (suc i) zero before after fits up_to rises order was is = absurd (omega (arith, order))
two schema table moment (first ∷ more) (suc i) (suc j) before after fits up_to rises order was is = by_answer (λ next m f u r w h. two schema next m more i j before after f u r (omega (arith, order)) w h) (commit_of table schema first) refl was is
  where
    Later : Type 0
    Later = (next : TableMap) (m : ℕ) → Fits schema next → AreUpTo m next → IsTrue (rise m more) → made_on schema next (take i more) ≡ Some before → made_on schema next (take j more) ≡ Some after
        → Two schema (last_moment m (take i more)) (last_moment m (take j more)) before after

    parts : IsTrue (follows moment first) × IsTrue (rise first.moment more)
    parts = and_parts (follows moment first) (rise first.moment more) rises

    by_answer : Later → (r : Result Applied CommitFault) → commit_of table schema first ≡ r → accepted (λ next. made_on schema next (take i more)) r ≡ Some before → accepted (λ next. made_on schema next (take j more)) r ≡ Some after
        → Two schema (last_moment first.moment (take i more)) (last_moment first.moment (take j more)) before after
    by_answer on (Err w) e was is = absurd (cc was)
    by_answer on (Ok applied) e was is =
        let above = (follows_by moment first parts.0).0 in
        let course = course_of table schema first applied e in
        let next = commit_goes schema table first applied.table fits course in
        on applied.table first.moment next.fits (commit_up_to schema table first applied.table moment up_to above course) parts.1 was is

pub tables_are_along : TablesAreAlong
tables_are_along schema history i j before after is order within was made =
    let none : AreUpTo 0 (empty_table schema) = λ m id row here. absurd (let e = no_row schema m id in cc) in
    let both = two schema (empty_table schema) 0 history i j before after (empty_fits schema) none is.rises order was made in
    record { later = both.later; fits_before = both.fits_before; fits_after = both.fits_after; moments_before = both.moments_before; moments_after = both.moments_after }
