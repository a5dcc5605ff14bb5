-- The pages that come: each is the direct rendering over its session's snapshot (this project's own).
use Rattle.std.specs.Prelude.{◌≡◌, ◌≤◌, ◌++◌, ◌∷◌, [], ℕ, List, length, Option, None, Some, IsSome, option_and_then, ⊤}
use Rattle.doll_keep.specs.Kept.{MemKept}
use Rattle.doll_plain.specs.Pages.{page_of}
use Rattle.doll_records.specs.Histories.{table_at, table_of}
use Rattle.doll_report.specs.declared.outcome.Outcome.{Outcome}
use Rattle.doll_report.specs.declared.outcome.Outcome.TheVariants as outcome
use Rattle.doll_route.specs.Paths.{path_of, query_of}
use Rattle.doll_route.specs.Queries.{params_in}
use Rattle.doll_route.specs.Routes.{route_of}
use Rattle.doll_run.specs.Runs.{Run}
use Rattle.doll_shelf.specs.Calls.{Shelved}
use Rattle.doll_table.specs.Tables.{TableMap}
use Rattle.doll_types.specs.Sets.{TypedSet}
use Rattle.doll_world.specs.Worlds.{WorldParts}
use Rattle.doll_core.specs.Openings.{moment_now, opening}
use Rattle.doll_core.specs.States.{CoreState, SessionState}
use Rattle.doll_core.specs.Turns.{all_turns}
use Rattle.doll_core.specs.declared.event.Event.{Event}
use Rattle.doll_core.specs.declared.event.Event.TheVariants as event

-- the page of a target over a table, with no cache; none where no route has its path or the route's record isn't there
abbrev pub direct_page : TypedSet → TableMap → List ℕ → Option (List ℕ)
direct_page checked table target =
    option_and_then (λ found. page_of checked.set checked.schema checked.routes found (params_in checked.routes found.route (query_of target)) table)
    (route_of checked.routes (path_of target))

-- These bytes are the direct rendering of a target over the table after so many commits, the first of the one history.
pub record IsRightPage (world : WorldParts MemKept Shelved) (target : List ℕ) (place : ℕ) (bytes : List ℕ) : Type 0 where
  pub within : place ≤ length world.records.history
  pub table : TableMap
  pub table_is : table_at world.checked.schema world.records.history place ≡ Some table
  pub page : direct_page world.checked table target ≡ Some bytes

-- a page that comes is right
abbrev pub ShowsRight : WorldParts MemKept Shelved → List ℕ → ℕ → Outcome → Type 0
ShowsRight world target place (outcome.Page bytes) = IsRightPage world target place bytes
ShowsRight world target place told = ⊤

-- a page that comes of a session is right for its target and its snapshot
abbrev pub ShowsRightFor : WorldParts MemKept Shelved → Option SessionState → Outcome → Type 0
ShowsRightFor world (Some session) told = ShowsRight world session.target session.place told
ShowsRightFor world None told = ⊤

-- a page that comes by an event is right
abbrev pub ShowsRightBy : CoreState → Event → Outcome → Type 0
ShowsRightBy old (event.Turn session now) told = ShowsRightFor old.world (old.sessions session) told
ShowsRightBy old other told = ⊤

-- ---- laws

-- All turns of a page end with the page.
abbrev pub TurnsEndWithAPage : Type 0
TurnsEndWithAPage = (now : ℕ) (run : Run) (shelf : Shelved) → (told : List Outcome) × ((bytes : List ℕ) × ((all_turns now run shelf).0 ≡ told ++ outcome.Page bytes ∷ []))

-- A page that is there for a target over all commits is opened for a caller who has seen no more than there is.
abbrev pub KnownPagesOpen : Type 0
KnownPagesOpen = (world : WorldParts MemKept Shelved) (target : List ℕ) (seen : ℕ)
    → IsSome (direct_page world.checked (table_of world.checked.schema world.records.history) target) → seen ≤ moment_now world
    → IsSome (opening world target seen).session
