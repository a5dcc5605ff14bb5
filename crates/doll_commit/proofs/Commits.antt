-- A commit whose changes are made.
use Rattle.std.proofs.Common.{◌≡◌, ◌≤◌, cond, List, length, Result, Ok, Err, sym, ◌∙◌, ap}
use Rattle.std.proofs.lemmas.Bool.{le-ltb}
use Rattle.doll_text.specs.Steps.{◌>>=◌}
use Rattle.doll_schema.specs.declared.model.Schema.{Schema}
use Rattle.doll_journal.specs.declared.change.Change.{Change}
use Rattle.doll_journal.specs.declared.change.Commit.{Commit}
use Rattle.doll_table.specs.Tables.{TableMap}
use Rattle.doll_commit.specs.declared.apply.TheConstants.{MOST_CHANGES}
use Rattle.doll_commit.specs.declared.apply.Applied.{Applied}
use Rattle.doll_commit.specs.declared.fault.Why.TheVariants as why
use Rattle.doll_commit.specs.declared.fault.CommitFault.{CommitFault}
use Rattle.doll_commit.specs.declared.fault.CommitFault.TheVariants as fault
use Rattle.doll_commit.specs.Commits.{Course, start, all_made, applied_of, commit_of}

-- a commit whose changes came to a course is what the course comes to
pub commit_is : (table : TableMap) (schema : Schema) (commit : Commit) (changes : List Change) (course : Course) (applied : Applied) → length commit.changes ≤ MOST_CHANGES → changes ≡ commit.changes → all_made schema 0 (start table) changes ≡ Ok course → applied ≡ applied_of schema commit.moment course → commit_of table schema commit ≡ Ok applied
commit_is table schema commit changes course applied few e comes is =
    ap (λ b. cond b (Err (fault.Refused MOST_CHANGES why.TooManyChanges)) (all_made schema 0 (start table) commit.changes >>= last)) (le-ltb MOST_CHANGES (length commit.changes) few)
    ∙ (ap (λ o. o >>= last) (ap (all_made schema 0 (start table)) (sym e) ∙ comes) ∙ ap Ok (sym is))
  where
    last : Course → Result Applied CommitFault
    last c = Ok (applied_of schema commit.moment c)
