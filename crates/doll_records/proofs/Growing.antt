-- A history and the table that it leaves, with one commit more.
use Rattle.std.proofs.Common.{◌≡◌, ℕ, ◌<◌, ◌≤◌, true, List, [], ◌∷◌, ◌++◌, length, Option, Some, Result, Ok, Err, IsTrue, nat_lt, nat_le, refl, sym, arith, ltb-true, lt-ltb}
use Rattle.std.specs.List.{AllByRecursion}
use Rattle.std.proofs.lemmas.List.{length_push}
use Rattle.std.proofs.lemmas.Bool.{and_parts, and_from, le-leb, leb-true}
use Rattle.doll_schema.specs.declared.model.Schema.{Schema}
use Rattle.doll_journal.specs.declared.change.Commit.{Commit}
use Rattle.doll_journal.specs.Storable.{IsStorable}
use Rattle.doll_table.specs.Tables.{TableMap, empty_table}
use Rattle.doll_table.specs.Fits.{Fits}
use Rattle.doll_table.proofs.Fitting.{empty_fits}
use Rattle.doll_commit.specs.declared.apply.Applied.{Applied}
use Rattle.doll_commit.specs.declared.fault.CommitFault.{CommitFault}
use Rattle.doll_commit.specs.Commits.{commit_of}
use Rattle.doll_records.specs.Histories.{accepted, made_on, table_of, last_moment, follows, rise, Holds}
use Rattle.doll_records.specs.declared.limits.TheConstants.{MOST_COMMITS, LAST_MOMENT}

-- what follows an accepted commit may be exchanged
along : (f g : TableMap → Option TableMap) (before after : TableMap) (r : Result Applied CommitFault) → ((t : TableMap) → f t ≡ Some before → g t ≡ Some after) → accepted f r ≡ Some before → accepted g r ≡ Some after
along f g before after (Ok applied) h e = h applied.table e
along f g before after (Err fault) h e = absurd (cc e)

pub made_on-append : (schema : Schema) (table : TableMap) (history : List Commit) (commit : Commit) (before : TableMap) (applied : Applied)
    → made_on schema table history ≡ Some before → commit_of before schema commit ≡ Ok applied → made_on schema table (history ++ commit ∷ []) ≡ Some applied.table
unfolding made_on
made_on-append schema table [] commit before applied m a =
    let whole : Some table ≡ Some before = m in
    let same : table ≡ before = cc in
    rw same (rw a refl)
made_on-append schema table (first ∷ more) commit before applied m a =
    along (λ next. made_on schema next more) (λ next. made_on schema next (more ++ commit ∷ [])) before applied.table (commit_of table schema first) (λ t e. made_on-append schema t more commit before applied e a) m

pub last_moment-append : (before : ℕ) (history : List Commit) (commit : Commit) → last_moment before (history ++ commit ∷ []) ≡ commit.moment
unfolding last_moment
last_moment-append before [] commit = refl
last_moment-append before (first ∷ more) commit = last_moment-append first.moment more commit

rise-append : (before : ℕ) (history : List Commit) (commit : Commit) → IsTrue (rise before history) → IsTrue (follows (last_moment before history) commit) → IsTrue (rise before (history ++ commit ∷ []))
unfolding rise last_moment
rise-append before [] commit r f = and_from (follows before commit) true f refl
rise-append before (first ∷ more) commit r f =
    let parts = and_parts (follows before first) (rise first.moment more) r in
    and_from (follows before first) (rise first.moment (more ++ commit ∷ [])) parts.0 (rise-append first.moment more commit parts.1 f)

all-append : {X : Type 0} (P : X → Type 0) (xs : List X) (y : X) → AllByRecursion P xs → P y → AllByRecursion P (xs ++ y ∷ [])
all-append P [] y all here = (here, tt)
all-append P (x ∷ xs) y all here = (all.0, all-append P xs y all.1 here)

pub follows_by : (last : ℕ) (commit : Commit) → IsTrue (follows last commit) → (last < commit.moment) × (commit.moment ≤ LAST_MOMENT)
follows_by last commit f =
    let parts = and_parts (nat_lt last commit.moment) (nat_le commit.moment LAST_MOMENT) f in
    (ltb-true last commit.moment parts.0, leb-true commit.moment LAST_MOMENT parts.1)

pub table_is : (schema : Schema) (history : List Commit) (table : TableMap) (last : ℕ) → Holds schema history table last → table_of schema history ≡ table
unfolding table_of
table_is schema history table last holds = rw holds.made refl

pub holds_none : (schema : Schema) (history : List Commit) (table : TableMap) → history ≡ [] → table ≡ empty_table schema → Holds schema history table 0
unfolding made_on last_moment rise
holds_none schema history table none empty = rw (none, empty) (record {
  rises = refl;
  made = refl;
  moment = refl;
  fits = empty_fits schema;
  storable = tt;
  short = omega arith;
})

pub holds_grown : (schema : Schema) (history : List Commit) (table : TableMap) (last : ℕ) (commit : Commit) (applied : Applied)
    → Holds schema history table last → length history < MOST_COMMITS → last < commit.moment → commit.moment ≤ LAST_MOMENT → IsStorable commit
    → commit_of table schema commit ≡ Ok applied → Fits schema applied.table
    → Holds schema (history ++ commit ∷ []) applied.table commit.moment
holds_grown schema history table last commit applied holds room later soon storable is fits = record {
  rises = rise-append 0 history commit holds.rises (rw (← holds.moment) (and_from (nat_lt last commit.moment) (nat_le commit.moment LAST_MOMENT) (lt-ltb last commit.moment later) (le-leb commit.moment LAST_MOMENT soon)));
  made = made_on-append schema (empty_table schema) history commit table applied holds.made is;
  moment = sym (last_moment-append 0 history commit);
  fits = fits;
  storable = all-append IsStorable history commit holds.storable storable;
  short = rw length_push (omega arith);
}
