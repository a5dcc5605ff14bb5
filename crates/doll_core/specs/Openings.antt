-- What opening a page comes to (this project's own).
use Rattle.std.specs.Prelude.{ℕ, nat_lt, List, length, Option, None, Some, if◌then◌else◌}
use Rattle.doll_keep.specs.Kept.{MemKept}
use Rattle.doll_records.specs.Histories.{moment_at, table_of}
use Rattle.doll_report.specs.declared.outcome.Outcome.{Outcome}
use Rattle.doll_report.specs.declared.outcome.Outcome.TheVariants as outcome
use Rattle.doll_report.specs.declared.outcome.TheConstants.{CONFLICT, NOT_FOUND}
use Rattle.doll_route.specs.Paths.{path_of, query_of}
use Rattle.doll_route.specs.Queries.{params_in}
use Rattle.doll_route.specs.Routes.{route_of}
use Rattle.doll_route.specs.declared.route.Found.{Found}
use Rattle.doll_run.specs.Keys.{keyed_over}
use Rattle.doll_run.specs.Pages.{Ground, ground_of, page_run}
use Rattle.doll_run.specs.Runs.{Run}
use Rattle.doll_shelf.specs.Calls.{Shelved}
use Rattle.doll_table.specs.Tables.{TableMap}
use Rattle.doll_types.specs.Sets.{TypedSet}
use Rattle.doll_world.specs.Worlds.{WorldParts}
use Rattle.doll_core.specs.States.{SessionState}

-- what pages are rendered over that read the table with a moment; the set has the number 0
abbrev pub ground_at : TypedSet → TableMap → ℕ → Ground
ground_at checked table moment = ground_of checked.set checked.schema table moment 0 (keyed_over checked.set checked.schema table)

-- the number of commits, and the moment of the last, 0 where there is none
abbrev pub place_now : WorldParts MemKept Shelved → ℕ
place_now world = length world.records.history

abbrev pub moment_now : WorldParts MemKept Shelved → ℕ
moment_now world = moment_at world.records.history (place_now world)

-- what pages are rendered over that are opened now: the table after all commits
abbrev pub ground_now : WorldParts MemKept Shelved → Ground
ground_now world = ground_at world.checked (table_of world.checked.schema world.records.history) (moment_now world)

-- what a route has to do for a target
abbrev pub found_run : WorldParts MemKept Shelved → List ℕ → Found → Option Run
found_run world target found = page_run (ground_now world) world.checked.routes found (params_in world.checked.routes found.route (query_of target))

-- what opening comes to: its outcome, and the session, where one is opened
pub record Opening : Type 0 where
  pub outcome : Outcome
  pub session : Option SessionState

abbrev pub refused : ℕ → WorldParts MemKept Shelved → Opening
refused status world = record { outcome = outcome.NoPage status (moment_now world); session = None }

-- a page that has this to do, or whose record isn't in the table
abbrev pub opened : WorldParts MemKept Shelved → List ℕ → Option Run → Opening
opened world target (Some run) = record {
  outcome = outcome.Opened (moment_now world);
  session = Some (record { target = target; place = place_now world; run = run });
}
opened world target None = refused NOT_FOUND world

-- in this order: no route has the path, the caller has seen more than there is, the record isn't there
abbrev pub opening_by : WorldParts MemKept Shelved → List ℕ → ℕ → Option Found → Opening
opening_by world target seen None = refused NOT_FOUND world
opening_by world target seen (Some found) =
    if nat_lt (moment_now world) seen then refused CONFLICT world else opened world target (found_run world target found)

abbrev pub opening : WorldParts MemKept Shelved → List ℕ → ℕ → Opening
opening world target seen = opening_by world target seen (route_of world.checked.routes (path_of target))
