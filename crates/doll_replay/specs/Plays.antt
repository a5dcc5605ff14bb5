-- What the orders of a script come to, one after another (this project's own).
use Rattle.std.specs.Prelude.{◌≡◌, ◌+◌, ℕ, Bool, true, false, List, [], ◌∷◌, ◌++◌, Option, None, Some, ⊤}
use Rattle.std.specs.List.{list_any}
use Rattle.std.specs.Str.{IsUtf8}
use Rattle.doll_journal.specs.Storable.{AreStorable}
use Rattle.doll_core.specs.Pages.{ShowsRightBy}
use Rattle.doll_core.specs.States.{CoreState}
use Rattle.doll_core.specs.Steps.{Stays, Steps}
use Rattle.doll_core.specs.declared.event.Event.{Event}
use Rattle.doll_core.specs.declared.event.Event.TheVariants as event
use Rattle.doll_report.specs.declared.outcome.Outcome.{Outcome}
use Rattle.doll_report.specs.declared.outcome.Outcome.TheVariants as outcome
use Rattle.doll_report.specs.declared.outcome.Step.{Step}
use Rattle.doll_report.specs.declared.outcome.Step.TheVariants as step
use Rattle.doll_script.specs.declared.order.Order.{Order}
use Rattle.doll_script.specs.declared.order.Order.TheVariants as order

-- ---- steps

-- one fact where a question holds, another where it doesn't
abbrev pub Whether : Bool → Type 0 → Type 0 → Type 0
Whether true P Q = P
Whether false P Q = Q

-- An event comes to what it comes to in the core, and a page that it gives is the direct rendering over its session's snapshot.
abbrev pub RightStep : CoreState → Event → Outcome → CoreState → Type 0
RightStep old one told new = Steps old one told new × ShowsRightBy old one told

-- a step with its outcome
abbrev pub Told : Type 0
Told = Step × Outcome

abbrev pub is_bad : Told → Bool
is_bad (kind, outcome.BadSession) = true
is_bad (kind, told) = false

-- the kind of step that an event is
abbrev pub kind_of : Event → Step
kind_of (event.Start session target seen now) = step.Open session
kind_of (event.Turn session now) = step.Turn session
kind_of (event.Commit changes now) = step.Commit
kind_of (event.Expire now) = step.Expire

-- one event alone
abbrev pub OneStep : CoreState → Event → List Told → CoreState → Type 0
OneStep old one told new = (came : Outcome) × (RightStep old one came new × (told ≡ (kind_of one, came) ∷ []))

-- whether a session's turns are at an end: its page came, or none is open
abbrev pub is_last : Outcome → Bool
is_last (outcome.Page bytes) = true
is_last outcome.BadSession = true
is_last told = false

-- A session takes turns at one time until its page comes.
abbrev pub RunsOut : ℕ → ℕ → CoreState → List Told → CoreState → Type 0
RunsOut session now old [] new = ⊥
RunsOut session now old (one ∷ told) new =
    (between : CoreState) × ((one.0 ≡ step.Turn session) × (RightStep old (event.Turn session now) one.1 between
    × Whether (is_last one.1) ((told ≡ []) × Stays between new) (RunsOut session now between told new)))

-- ---- orders

-- the session of a page that is rendered at once
abbrev pub own_session : ℕ
own_session = 0

abbrev pub is_opened : Outcome → Bool
is_opened (outcome.Opened moment) = true
is_opened told = false

-- A page is opened, and where it opened it takes its turns.
abbrev pub Gets : List ℕ → ℕ → CoreState → List Told → CoreState → Type 0
Gets target now old [] new = ⊥
Gets target now old (one ∷ told) new =
    (between : CoreState) × ((one.0 ≡ step.Open own_session) × (RightStep old (event.Start own_session target 0 now) one.1 between
    × Whether (is_opened one.1) (RunsOut own_session now between told new) ((told ≡ []) × Stays between new)))

-- An order may be played whose targets are texts and whose changes can be stored.
abbrev pub MayPlay : Order → Type 0
MayPlay (order.Commit changes) = AreStorable changes
MayPlay (order.Open session target seen) = IsUtf8 target
MayPlay (order.Get target) = IsUtf8 target
MayPlay other = ⊤

-- What an order comes to at a time, in microseconds.
abbrev pub OrderPlays : ℕ → CoreState → Order → List Told → CoreState → Type 0
OrderPlays now old (order.Now time) told new = (told ≡ []) × Stays old new
OrderPlays now old (order.Commit changes) told new = OneStep old (event.Commit changes now) told new
OrderPlays now old (order.Open session target seen) told new = OneStep old (event.Start session target seen now) told new
OrderPlays now old (order.Turn session) told new = OneStep old (event.Turn session now) told new
OrderPlays now old (order.Run session) told new = RunsOut session now old told new
OrderPlays now old (order.Get target) told new = Gets target now old told new
OrderPlays now old order.Expire told new = OneStep old (event.Expire now) told new

-- what the clock shows behind an order
abbrev pub clock_behind : ℕ → Order → ℕ
clock_behind now (order.Now time) = time
clock_behind now other = now

-- The orders of a script from the one with this line on, at a time: what is told of their steps, and the line of the first whose session isn't there or is there
-- already; with it the script stops.
abbrev pub Plays : ℕ → ℕ → CoreState → List Order → List Told → Option ℕ → CoreState → Type 0
Plays line now old [] told bad new = (told ≡ []) × (bad ≡ None) × Stays old new
Plays line now old (one ∷ orders) told bad new =
    (first : List Told) × ((between : CoreState) × (OrderPlays now old one first between
    × Whether (list_any is_bad first) ((told ≡ first) × ((bad ≡ Some line) × Stays between new))
    ((rest : List Told) × ((told ≡ first ++ rest) × Plays (line + 1) (clock_behind now one) between orders rest bad new))))
