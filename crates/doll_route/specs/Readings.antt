-- The routes that a JSON value is, or the first fault of the first route that has one (this project's own).
use Rattle.std.specs.Prelude.{ℕ, nat_le, nat_lt, Bool, not, List, [], ◌∷◌, ◌++◌, length, Option, Some, option_map, Result, Ok, if◌then◌else◌}
use Rattle.std.specs.Option.{ok_or}
use Rattle.serde_json.specs.Data.{Data, Items, no_items, item}
use Rattle.serde_json.specs.Find.{as_array}
use Rattle.doll_text.specs.Steps.{◌>>=◌, ◌>>◌, check}
use Rattle.doll_schema.specs.Lookups.{model_named}
use Rattle.doll_schema.specs.Models.{ModelList}
use Rattle.doll_route.specs.declared.draft.Named.{Named}
use Rattle.doll_route.specs.declared.draft.Named.TheVariants as named
use Rattle.doll_route.specs.declared.draft.RouteDraft.{RouteDraft}
use Rattle.doll_route.specs.declared.fault.RouteFault.{RouteFault}
use Rattle.doll_route.specs.declared.fault.RouteFault.TheVariants.{BadForm, BadPath, Reserved, UnknownModel, Duplicate, TooMany}
use Rattle.doll_route.specs.declared.limits.TheConstants.{MOST_ROUTES, MOST_PARAMS}
use Rattle.doll_route.specs.declared.route.Route.{Route}
use Rattle.doll_route.specs.declared.route.Subject.{Subject}
use Rattle.doll_route.specs.declared.route.Subject.TheVariants as subject
use Rattle.doll_route.specs.Drafts.{draft_of, names_record}
use Rattle.doll_route.specs.Paths.{is_path, is_reserved_path, names_id}
use Rattle.doll_route.specs.Routes.{are_distinct, has_path, is_own_among, variable_of}

-- an id stands in the path of a record's route, and in no other
abbrev pub has_id_of : Named → List ℕ → Bool
has_id_of about path = if names_record about then names_id path else not (names_id path)

-- what a route is about, its model looked up
abbrev pub subject_of : ModelList → Named → Option Subject
subject_of schema named.Nothing = Some subject.Nothing
subject_of schema (named.Record name) = option_map subject.Record (model_named schema name)
subject_of schema (named.List name) = option_map subject.List (model_named schema name)

-- a draft as a route, behind the earlier ones
abbrev pub route_from : ModelList → List Route → RouteDraft → Result Route RouteFault
route_from schema earlier draft = do
  check (is_path draft.path) (BadPath (length earlier))
  check (has_id_of draft.named draft.path) (BadPath (length earlier))
  check (not (is_reserved_path draft.path)) (Reserved (length earlier))
  about ← ok_or (subject_of schema draft.named) (UnknownModel (length earlier))
  check (not (has_path earlier draft.path)) (Duplicate (length earlier))
  check (not (is_own_among (variable_of schema about) draft.params)) (Duplicate (length earlier))
  check (are_distinct draft.params) (Duplicate (length earlier))
  check (nat_le (length draft.params) MOST_PARAMS) (TooMany (length earlier))
  check (nat_lt (length earlier) MOST_ROUTES) (TooMany (length earlier))
  Ok (record { path = draft.path; template = draft.template; subject = about; params = draft.params })

abbrev pub route_in : ModelList → List Route → Data → Result Route RouteFault
route_in schema earlier d = do
  draft ← draft_of (length earlier) d
  route_from schema earlier draft

-- the routes, each behind those before it
abbrev pub routes_from : ModelList → List Route → Items → Result (List Route) RouteFault
routes_from schema earlier no_items = Ok earlier
routes_from schema earlier (item d ds) = do
  route ← route_in schema earlier d
  routes_from schema (earlier ++ route ∷ []) ds

-- all routes; a value that is no array has the fault of route 0
abbrev pub routes_of : ModelList → Data → Result (List Route) RouteFault
routes_of schema d = do
  items ← ok_or (as_array d) (BadForm 0)
  routes_from schema [] items
