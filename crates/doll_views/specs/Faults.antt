-- Which refusal of a bundle the faults of its schema and of its routes are (this project's own).
use Rattle.std.specs.Prelude.{ℕ, List, [], Option, Some, None, Result, Ok, Err}
use Rattle.serde_json.specs.Data.{Data}
use Rattle.doll_schema.specs.Models.{ModelList}
use Rattle.doll_schema.specs.Schemas.{schema_of}
use Rattle.doll_schema.specs.declared.fault.Place.{Place}
use Rattle.doll_schema.specs.declared.fault.SchemaFault.{SchemaFault}
use Rattle.doll_schema.specs.declared.fault.SchemaFault.TheVariants as fault
use Rattle.doll_schema.specs.declared.model.Schema.{Schema}
use Rattle.doll_route.specs.Readings.{routes_of}
use Rattle.doll_route.specs.declared.fault.RouteFault.{RouteFault}
use Rattle.doll_route.specs.declared.fault.RouteFault.TheVariants as route_fault
use Rattle.doll_route.specs.declared.route.Route.{Route}
use Rattle.doll_views.specs.declared.refusal.BundlePart.TheVariants as part
use Rattle.doll_views.specs.declared.refusal.Kind.{Kind}
use Rattle.doll_views.specs.declared.refusal.Kind.TheVariants as kind
use Rattle.doll_views.specs.declared.refusal.Refusal.{Refusal}
use Rattle.doll_views.specs.declared.refusal.Refusal.TheVariants.{Memory, Refused}

-- ---- the schema

abbrev pub refused_at : Place → Kind → Refusal
refused_at at what = Refused part.Schema at.model what

-- a schema's fault has the number of its model
abbrev pub schema_refusal : SchemaFault → Refusal
schema_refusal (fault.BadForm at) = refused_at at kind.BadForm
schema_refusal (fault.TooMany at) = refused_at at kind.TooMany
schema_refusal (fault.UnknownKind at) = refused_at at kind.UnknownKind
schema_refusal (fault.DuplicateName at) = refused_at at kind.DuplicateName
schema_refusal (fault.UnknownModel at) = refused_at at kind.UnknownModel
schema_refusal (fault.BadInverse at) = refused_at at kind.BadInverse
-- this never comes: no definition answers want of memory
schema_refusal fault.Memory = Memory

abbrev pub or_schema_refusal : Result Schema SchemaFault → Result Schema Refusal
or_schema_refusal (Ok schema) = Ok schema
or_schema_refusal (Err why) = Err (schema_refusal why)

-- ---- the routes

abbrev pub routes_refusal : ℕ → Kind → Refusal
routes_refusal number what = Refused part.Routes number what

-- a route's fault has the number of the route
abbrev pub route_refusal : RouteFault → Refusal
route_refusal (route_fault.BadForm at) = routes_refusal at kind.BadForm
route_refusal (route_fault.BadPath at) = routes_refusal at kind.BadPath
route_refusal (route_fault.Reserved at) = routes_refusal at kind.Reserved
route_refusal (route_fault.UnknownModel at) = routes_refusal at kind.UnknownModel
route_refusal (route_fault.Duplicate at) = routes_refusal at kind.Duplicate
route_refusal (route_fault.TooMany at) = routes_refusal at kind.TooMany
-- this never comes: no definition answers want of memory
route_refusal route_fault.Memory = Memory

abbrev pub or_route_refusal : Result (List Route) RouteFault → Result (List Route) Refusal
or_route_refusal (Ok routes) = Ok routes
or_route_refusal (Err why) = Err (route_refusal why)

-- the routes of a bundle, none where they are left out
abbrev pub routes_in : ModelList → Option Data → Result (List Route) Refusal
routes_in schema None = Ok []
routes_in schema (Some routes) = or_route_refusal (routes_of schema routes)
