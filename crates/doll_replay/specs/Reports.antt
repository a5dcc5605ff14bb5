-- The report of a script (this project's own).
use Rattle.std.specs.Prelude.{◌≡◌, ℕ, List, [], ◌∷◌, ◌++◌, Option, None, Some, Bool, true, false, not, IsSome, ⊤}
use Rattle.std.specs.List.{flat_map, list_any}
use Rattle.std.specs.Option.{option_map_or}
use Rattle.doll_core.specs.States.{CoreState}
use Rattle.doll_report.specs.Lines.{line_of}
use Rattle.doll_report.specs.declared.outcome.Outcome.{Outcome}
use Rattle.doll_report.specs.declared.outcome.Outcome.TheVariants as outcome
use Rattle.doll_report.specs.declared.outcome.Step.{Step}
use Rattle.doll_script.specs.declared.order.Order.{Order}
use Rattle.doll_replay.specs.Plays.{Plays, RightStep, Told, is_bad, is_last, is_opened, kind_of}
use Rattle.doll_core.specs.declared.event.Event.{Event}
use Rattle.doll_replay.specs.declared.orders.Came.{Came}
use Rattle.doll_replay.specs.declared.playing.Replayed.{Replayed}
use Rattle.doll_replay.specs.declared.playing.Replayed.TheVariants as replayed

-- the line of a step, with its end; nothing where it has none
abbrev pub told_line : Told → List ℕ
told_line one = option_map_or (λ text. text ++ 10 ∷ []) (line_of one.0 one.1) []

-- a step whose session isn't there, or is there already, has no line; every other one has
abbrev pub HasLine : Step → Outcome → Type 0
HasLine kind outcome.BadSession = ⊤
HasLine kind told = IsSome (line_of kind told)

-- the lines of steps
abbrev pub report_of : List Told → List ℕ
report_of told = flat_map told_line told

-- the report, or the line at which the script stopped
abbrev pub replayed_as : List Told → Option ℕ → Replayed
replayed_as told None = replayed.Report (report_of told)
replayed_as told (Some line) = replayed.Stopped line

-- This is what a script comes to, from its first line and the time 0 on.
abbrev pub Replays : CoreState → List Order → Replayed → CoreState → Type 0
Replays old orders result new =
    (told : List Told) × ((bad : Option ℕ) × (Plays 1 0 old orders told bad new × (result ≡ replayed_as told bad)))

-- Steps were told behind what was written; whether all their sessions were as they must be.
abbrev pub IsTold : (List Told → CoreState → Type 0) → List ℕ → List ℕ → CoreState → Bool → Type 0
IsTold Comes before after new good = (told : List Told) × (Comes told new × ((good ≡ not (list_any is_bad told)) × (after ≡ before ++ report_of told)))

-- ---- one event

abbrev pub is_good : Outcome → Bool
is_good outcome.BadSession = false
is_good told = true

-- what became of an event
abbrev pub came_of : Outcome → Came
came_of told = record { good = is_good told; last = is_last told; opened = is_opened told }

-- An event came to what it comes to, and its line was told behind what was written.
pub record IsCome (old : CoreState) (one : Event) (before after : List ℕ) (new : CoreState) (came : Came) : Type 0 where
  pub told : Outcome
  pub right : RightStep old one told new
  pub is : came ≡ came_of told
  pub line : after ≡ before ++ told_line (kind_of one, told)
