-- A history is opened from its spellings as it is.
use Rattle.std.proofs.Common.{◌≡◌, ◌+◌, ◌<◌, ◌≤◌, List, [], ◌∷◌, ◌++◌, map, length, Option, Some, IsSome, Result, Ok, Err, IsTrue, refl, sym, ap, ◌∙◌, append_assoc, append-nil, le_refl, true, arith}
use Rattle.std.specs.List.{AllByRecursion}
use Rattle.std.proofs.lemmas.List.{length_push, take_all}
use Rattle.std.proofs.lemmas.Bool.{and_parts}
use Rattle.doll_schema.specs.declared.model.Schema.{Schema}
use Rattle.doll_journal.specs.declared.change.Commit.{Commit}
use Rattle.doll_journal.specs.Spelling.{spelling}
use Rattle.doll_journal.specs.Storable.{IsStorable}
use Rattle.doll_journal.proofs.Commits.{all_again}
use Rattle.doll_table.specs.Tables.{TableMap, empty_table}
use Rattle.doll_commit.specs.declared.apply.Applied.{Applied}
use Rattle.doll_commit.specs.declared.fault.CommitFault.{CommitFault}
use Rattle.doll_commit.specs.Commits.{commit_of}
use Rattle.doll_records.specs.Histories.{accepted, made_on, table_of, last_moment, follows, rise}
use Rattle.doll_records.specs.Openings.{opened_with, opened_from, OpensAgain}
use Rattle.doll_records.proofs.Growing.{made_on-append, last_moment-append}
use Rattle.doll_records.proofs.Replays.{step}
use Rattle.doll_records.specs.declared.limits.TheConstants.{MOST_COMMITS}

one_more : (schema : Schema) (done : List Commit) (table : TableMap) (commit : Commit) (applied : Applied) → made_on schema (empty_table schema) done ≡ Some table
    → follows (last_moment 0 done) commit ≡ true → IsStorable commit → commit_of table schema commit ≡ Ok applied → opened_with schema done (spelling commit) ≡ Ok (done ++ commit ∷ [])
unfolding opened_with table_of
one_more schema done table commit applied made follow storable is = rw (all_again commit storable, follow, made, is) refl

-- nothing is made after a commit that is refused
by_applied : {Goal : Type 0} (next : TableMap → Option TableMap) (r : Result Applied CommitFault) → IsSome (accepted next r) → ((applied : Applied) → r ≡ Ok applied → IsSome (next applied.table) → Goal) → Goal
by_applied next (Ok applied) lives goes_on = goes_on applied refl lives
by_applied next (Err fault) lives goes_on = absurd (cc lives)

opens_on : (schema : Schema) (done more : List Commit) (table : TableMap) → made_on schema (empty_table schema) done ≡ Some table → IsTrue (rise (last_moment 0 done) more) → IsSome (made_on schema table more)
    → AllByRecursion IsStorable more → length done + length more ≤ MOST_COMMITS → opened_from schema done (map spelling more) ≡ Ok (done ++ more)
unfolding opened_from made_on rise
opens_on schema done [] table made rises lives storable few = ap Ok (sym (append-nil done))
opens_on schema done (commit ∷ more) table made rises lives storable few =
    let parts = and_parts (follows (last_moment 0 done) commit) (rise commit.moment more) rises in
    let room : length done < MOST_COMMITS = omega arith in
    let fewer : length (done ++ commit ∷ []) + length more ≤ MOST_COMMITS = rw length_push (omega arith) in
    by_applied (λ next. made_on schema next more) (commit_of table schema commit) lives (λ applied is on.
    step schema done (done ++ commit ∷ []) (spelling commit) (map spelling more) room (one_more schema done table commit applied made parts.0 storable.0 is)
    ∙ opens_on schema (done ++ commit ∷ []) more applied.table (made_on-append schema (empty_table schema) done commit table applied made is) (rw (last_moment-append 0 done commit) parts.1) on storable.1 fewer
    ∙ ap Ok (append_assoc done (commit ∷ []) more))

pub opens_again : OpensAgain
unfolding made_on last_moment
opens_again schema history is storable few =
    let lives : IsSome (made_on schema (empty_table schema) history) = rw (take_all (length history) history (le_refl (length history))) at is.accepted in
    let few_more : length {A = Commit} [] + length history ≤ MOST_COMMITS = omega arith in
    opens_on schema [] history (empty_table schema) refl is.rises lives storable few_more
