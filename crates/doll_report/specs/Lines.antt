-- The lines of a report (this project's own).
use Rattle.std.specs.Prelude.{ℕ, List, [], ◌∷◌, ◌++◌, length, codes, Option, Some, None, option_map, option_and_then, ◌==◌, if◌then◌else◌}
use Rattle.std.specs.Fmt.{decimal}
use Rattle.std.specs.List.{flat_map}
use Rattle.doll_entry.specs.declared.asks.Fetched.{Fetched}
use Rattle.doll_entry.specs.declared.asks.Fetched.TheVariants.{Hit, Miss}
use Rattle.doll_entry.specs.declared.asks.Miss.TheVariants as miss
use Rattle.doll_records.specs.declared.committing.Committed.{Committed}
use Rattle.doll_report.specs.Appending.{appended}
use Rattle.doll_report.specs.Refusals.{refusal_words}
use Rattle.doll_report.specs.declared.outcome.Step.{Step}
use Rattle.doll_report.specs.declared.outcome.Step.TheVariants as steps
use Rattle.doll_report.specs.declared.outcome.Outcome.{Outcome}
use Rattle.doll_report.specs.declared.outcome.Outcome.TheVariants as outcomes
use Rattle.doll_report.specs.declared.outcome.TheConstants.{NOT_FOUND, CONFLICT}

-- ---- starts

abbrev pub moment_words : ℕ → List ℕ
moment_words moment = codes "at " ++ decimal moment

-- a start that has no page: nothing is there, or the visitor has seen a later moment than this one
abbrev pub no_page_words : ℕ → ℕ → Option (List ℕ)
no_page_words status moment =
    if status == NOT_FOUND then Some (codes "status 404")
    else if status == CONFLICT then Some (codes "status 409 " ++ moment_words moment)
    else None

abbrev pub start_words : Outcome → Option (List ℕ)
start_words (outcomes.Opened moment) = Some (moment_words moment)
start_words (outcomes.NoPage status moment) = no_page_words status moment
start_words other = None

-- ---- turns

-- the word of an answer behind a space; a cache that failed and want of memory have none
abbrev pub answer_words : Fetched → Option (List ℕ)
answer_words (Hit fragment) = Some (codes " hit")
answer_words (Miss miss.Absent) = Some (codes " absent")
answer_words (Miss miss.Mismatch) = Some (codes " mismatch")
answer_words (Miss miss.Bumped) = Some (codes " bumped")
answer_words (Miss miss.Dead) = Some (codes " dead")
answer_words (Miss miss.Failed) = None
answer_words (Miss miss.Memory) = None

-- the words of several answers in their order, where each has one
abbrev pub answers_words : List Fetched → Option (List ℕ)
answers_words [] = Some []
answers_words (answer ∷ answers) = option_and_then (λ word. appended word (answers_words answers)) (answer_words answer)

-- a page behind its length in bytes
abbrev pub page_words : List ℕ → List ℕ
page_words page = codes "page " ++ decimal (length page) ++ codes " " ++ page

abbrev pub turn_words : Outcome → Option (List ℕ)
turn_words (outcomes.Read answer) = appended (codes "read") (answer_words answer)
turn_words (outcomes.Many answers) = appended (codes "many") (answers_words answers)
turn_words outcomes.Wrote = Some (codes "write")
turn_words (outcomes.Page page) = Some (page_words page)
turn_words other = None

-- ---- commits and batches

-- an id behind a space
abbrev pub id_words : ℕ → List ℕ
id_words id = codes " " ++ decimal id

-- the moment of a commit, and the id of each record that it created
abbrev pub committed_words : Committed → List ℕ
committed_words committed = codes "commit " ++ decimal committed.moment ++ flat_map id_words committed.ids

abbrev pub commit_line : Outcome → Option (List ℕ)
commit_line (outcomes.Committed committed) = Some (committed_words committed)
commit_line (outcomes.Refused fault) = appended (codes "refused ") (refusal_words fault)
commit_line other = None

abbrev pub expiry_line : Outcome → Option (List ℕ)
expiry_line (outcomes.Expired count) = Some (codes "expire " ++ decimal count)
expiry_line other = None

-- ---- lines

-- a word, the session that takes a step, and a space
abbrev pub session_words : List ℕ → ℕ → List ℕ
session_words word session = word ++ decimal session ++ codes " "

-- the line that tells what became of a step, without its end, where such an outcome belongs to such a step and is told
abbrev pub line_of : Step → Outcome → Option (List ℕ)
line_of (steps.Open session) outcome = appended (session_words (codes "open ") session) (start_words outcome)
line_of (steps.Turn session) outcome = appended (session_words (codes "turn ") session) (turn_words outcome)
line_of steps.Commit outcome = commit_line outcome
line_of steps.Expire outcome = expiry_line outcome

-- the line with its end
abbrev pub ended_line : Step → Outcome → Option (List ℕ)
ended_line step outcome = option_map (λ line. line ++ codes "\n") (line_of step outcome)
