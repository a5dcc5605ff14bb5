-- What the next item of a list comes to.
use Rattle.std.proofs.Common.{◌≡◌, ℕ, true, false, List, [], ◌∷◌, ◌++◌, length, Result, Ok, Err, map, ap, refl}
use Rattle.std.proofs.lemmas.List.{map-append}
use Rattle.doll_journal.specs.Spelling.{spelling}
use Rattle.doll_schema.specs.declared.model.Schema.{Schema}
use Rattle.doll_journal.specs.declared.change.Commit.{Commit}
use Rattle.doll_journal.specs.Reading as journal
use Rattle.doll_table.specs.Tables.{TableMap}
use Rattle.doll_commit.specs.declared.apply.Applied.{Applied}
use Rattle.doll_commit.specs.declared.fault.CommitFault.{CommitFault}
use Rattle.doll_commit.specs.declared.fault.CommitFault.TheVariants as fault
use Rattle.doll_commit.specs.Commits.{commit_of}
use Rattle.doll_records.specs.declared.fault.OpenFault.{OpenFault}
use Rattle.doll_records.specs.declared.fault.OpenFault.TheVariants as opens
use Rattle.doll_records.specs.Histories.{follows, Holds}
use Rattle.doll_records.specs.Openings.{or_journal, or_apply, opened_with}
use Rattle.doll_records.proofs.Growing.{table_is}

pub unread : (schema : Schema) (history : List Commit) (index : ℕ) (item : List ℕ) (e : OpenFault) → index ≡ length history
    → or_journal index (journal.commit_in item) ≡ Err e → opened_with schema history item ≡ Err e
unfolding opened_with
unread schema history index item e at is = rw (← at, is) refl

pub early : (schema : Schema) (history : List Commit) (table : TableMap) (last index : ℕ) (item : List ℕ) (commit : Commit) → Holds schema history table last → index ≡ length history
    → or_journal index (journal.commit_in item) ≡ Ok commit → follows last commit ≡ false → opened_with schema history item ≡ Err (opens.Moment index commit.moment)
unfolding opened_with
early schema history table last index item commit holds at is f = rw (← at, is, ← holds.moment, f) refl

pub unapplied : (schema : Schema) (history : List Commit) (table : TableMap) (last index : ℕ) (item : List ℕ) (commit : Commit) (e : OpenFault) → Holds schema history table last → index ≡ length history
    → or_journal index (journal.commit_in item) ≡ Ok commit → follows last commit ≡ true → or_apply index (commit_of table schema commit) ≡ Err e → opened_with schema history item ≡ Err e
unfolding opened_with
unapplied schema history table last index item commit e holds at is f refused = rw (← at, is, ← holds.moment, f, table_is schema history table last holds, refused) refl

pub taken : (schema : Schema) (history : List Commit) (table : TableMap) (last index : ℕ) (item : List ℕ) (commit : Commit) (applied : Applied) → Holds schema history table last → index ≡ length history
    → or_journal index (journal.commit_in item) ≡ Ok commit → follows last commit ≡ true → or_apply index (commit_of table schema commit) ≡ Ok applied → opened_with schema history item ≡ Ok (history ++ commit ∷ [])
unfolding opened_with
taken schema history table last index item commit applied holds at is f ok = rw (← at, is, ← holds.moment, f, table_is schema history table last holds, ok) refl

ok_is : {T E : Type 0} (x y : T) → ◌≡◌ {A = Result T E} (Ok x) (Ok y) → x ≡ y
ok_is x y e = cc

-- an item's commit is accepted only where the table takes it
pub is_applied : (index : ℕ) (r : Result Applied CommitFault) (applied : Applied) → or_apply index r ≡ Ok applied → r ≡ Ok applied
is_applied index (Ok other) applied e = ap Ok (ok_is other applied e)
is_applied index (Err fault.Memory) applied e = absurd (cc e)
is_applied index (Err (fault.Refused at why)) applied e = absurd (cc e)

pub spelled_more : (history next : List Commit) (commit : Commit) (item : List ℕ) → next ≡ history ++ commit ∷ [] → item ≡ spelling commit → map spelling next ≡ map spelling history ++ item ∷ []
spelled_more history next commit item more is = rw (more, is) (map-append spelling history (commit ∷ []))
