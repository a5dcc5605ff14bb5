-- The history that the commits of a bundle make, one after another (this project's own).
use Rattle.std.specs.Prelude.{ℕ, ◌+◌, List, [], ◌∷◌, ◌++◌, length, drop, Option, None, Some, option_and_then, is_none, Bool, Result, Ok, Err, MatchResult, ◌≡◌, codes, if◌then◌else◌}
use Rattle.std.specs.Option.{option_map, option_map_or, ok_or}
use Rattle.serde_json.specs.Data.{Data, Items, no_items, item}
use Rattle.serde_json.specs.Find.{get, as_array}
use Rattle.doll_text.specs.Steps.{◌>>=◌, ◌>>◌}
use Rattle.doll_schema.specs.Json.{has_only, whole_at}
use Rattle.doll_schema.specs.declared.model.Schema.{Schema}
use Rattle.doll_journal.specs.declared.change.Change.{Change}
use Rattle.doll_journal.specs.declared.change.Commit.{Commit}
use Rattle.doll_journal.specs.Forms.{changes_in}
use Rattle.doll_commit.specs.declared.fault.Why.{Why}
use Rattle.doll_commit.specs.declared.fault.Why.TheVariants as why
use Rattle.doll_records.specs.declared.fault.RecordFault.{RecordFault}
use Rattle.doll_records.specs.declared.fault.RecordFault.TheVariants as fault
use Rattle.doll_records.specs.Commitments.{asked, committed}
use Rattle.doll_bundle.specs.declared.commits.Asked.{Asked}
use Rattle.doll_views.specs.Bundles.{commit_refusal}
use Rattle.doll_views.specs.declared.refusal.Kind.{Kind}
use Rattle.doll_views.specs.declared.refusal.Kind.TheVariants as kind
use Rattle.doll_views.specs.declared.refusal.Refusal.{Refusal}
use Rattle.doll_views.specs.declared.refusal.Refusal.TheVariants.{Memory}

-- ---- what a commit of a bundle asks for

abbrev pub commit_keys : List (List ℕ)
commit_keys = codes "at" ∷ codes "changes" ∷ []

-- a commit that doesn't say a time
abbrev pub is_untimed : Data → Bool
is_untimed commit = is_none (get (codes "at") commit)

-- the time that a commit says, if it says one; what it says is a whole number of 64 bits
abbrev pub time_in : Data → Option (Option ℕ)
time_in commit = if is_untimed commit then Some None else option_map Some (whole_at (codes "at") commit)

abbrev pub changes_at : Data → Option (List Change)
changes_at commit = option_and_then changes_in (get (codes "changes") commit)

-- what a commit of the form asks for
abbrev pub asked_in : Data → Option Asked
asked_in commit =
    if has_only commit_keys commit
    then option_and_then (λ time. option_map (λ changes. record { time = time; changes = changes }) (changes_at commit)) (time_in commit)
    else None

-- how many readings a commit takes: one where it says no time
abbrev pub taken_by : Data → ℕ
taken_by commit = if is_untimed commit then 1 else 0

-- how many readings commits take
abbrev pub untimed : Items → ℕ
untimed no_items = 0
untimed (item commit commits) = taken_by commit + untimed commits

-- ---- a commit made after the others

-- a refused change's reason as the bundle's
abbrev pub why_kind : Why → Kind
why_kind why.UnknownModel = kind.UnknownModel
why_kind why.UnknownAttribute = kind.UnknownAttribute
why_kind why.WrongKind = kind.WrongKind
why_kind why.NullRefused = kind.NullRefused
why_kind why.MissingRow = kind.MissingRow
why_kind why.BadParent = kind.BadParent
why_kind why.Restricted = kind.Restricted
why_kind why.IdsEnded = kind.IdsEnded
why_kind why.TooManyChanges = kind.TooManyChanges

-- why a commit isn't recorded, as the bundle's
abbrev pub fault_refusal : ℕ → RecordFault → Refusal
fault_refusal number (fault.HistoryFull count) = commit_refusal number kind.HistoryFull
fault_refusal number (fault.MomentsEnded last) = commit_refusal number kind.MomentsEnded
fault_refusal number (fault.Refused index what) = commit_refusal number (why_kind what)
-- these two never come: no definition answers a keeper's fault or want of memory
fault_refusal number fault.Kept = Memory
fault_refusal number fault.Memory = Memory

abbrev pub or_refusal : {A : Type 0} → ℕ → Result A RecordFault → Result A Refusal
or_refusal number (Ok x) = Ok x
or_refusal number (Err what) = Err (fault_refusal number what)

-- the author of a bundle's commits
abbrev pub author : ℕ
author = 0

-- the commit that is asked for at a time; its number is how many were made before it
abbrev pub next_asked : List Commit → ℕ → List Change → Commit
next_asked history time changes = asked history author (length history) changes time

-- a history with that commit, if it is accepted
abbrev pub recorded : Schema → List Commit → ℕ → List Change → Result (List Commit) Refusal
recorded schema history time changes = do
  or_refusal (length history) (committed schema history (next_asked history time changes))
  Ok (history ++ next_asked history time changes ∷ [])

-- ---- the commits of a bundle

-- a history with a commit of the form at the time that it says, else at a reading of the clock
unfoldable pub commit_result : Schema → List Commit → ℕ → Data → Result (List Commit) Refusal
commit_result schema history reading commit = do
  form ← ok_or (asked_in commit) (commit_refusal (length history) kind.BadForm)
  recorded schema history (option_map_or (λ time. time) form.time reading) form.changes

-- the next reading of the clock, 0 where there is none
abbrev pub next_reading : List ℕ → ℕ
next_reading [] = 0
next_reading (reading ∷ readings) = reading

-- the readings behind a commit, which takes the next one where it says no time
abbrev pub readings_behind : Data → List ℕ → List ℕ
readings_behind commit readings = drop (taken_by commit) readings

-- the history with the commits made in order
abbrev pub commits_from : Schema → List Commit → List ℕ → Items → Result (List Commit) Refusal
commits_from schema history readings no_items = Ok history
commits_from schema history readings (item commit commits) = do
  next ← commit_result schema history (next_reading readings) commit
  commits_from schema next (readings_behind commit readings) commits

-- The history is the one that is expected, or the answer is the refusal, unless memory ran out.
abbrev pub GivesHistory : {A F : Type 0} → F → Result A F → A → Result (Unit {0}) F → Type 0
GivesHistory memory expected history result = MatchResult result (λ done. expected ≡ Ok history) (λ e. (e ≡ memory → ⊥) → expected ≡ Err e)
