-- Which templates the pages of routes reach, and with which types of their variables (this project's own).
use Rattle.std.specs.Prelude.{ℕ, List, [], ◌∷◌, ◌++◌, map, slice_get}
use Rattle.std.specs.List.{Contains, flat_map}
use Rattle.std.specs.Option.{option_map_or}
use Rattle.doll_schema.specs.Models.{ModelList}
use Rattle.doll_route.specs.declared.route.Route.{Route}
use Rattle.doll_route.specs.declared.route.Subject.{Subject}
use Rattle.doll_route.specs.declared.route.Subject.TheVariants as subject
use Rattle.doll_route.specs.Routes.{variable_of}
use Rattle.doll_set.specs.declared.template.Template.{Template}
use Rattle.doll_set.specs.Dependencies.{names_of, number_of, partial_of}
use Rattle.doll_set.specs.Digests.{name_at}
use Rattle.doll_set.specs.Sets.{ReadSet}
use Rattle.doll_types.specs.declared.findings.Finding.{Finding}
use Rattle.doll_types.specs.declared.findings.Finding.TheVariants.{Fault, Call}
use Rattle.doll_types.specs.declared.reached.Reached.{Reached}
use Rattle.doll_types.specs.declared.types.ValueType.TheVariants.{Text, Record, List as ListOf}
use Rattle.doll_types.specs.Findings.{findings}
use Rattle.doll_types.specs.Types.{Typing}

-- ---- routes

-- the record or the list that a route binds to its variable
abbrev pub subject_typing : ModelList → Subject → Typing
subject_typing schema (subject.Record model) = option_map_or (λ name. (name, Record model) ∷ []) (variable_of schema (subject.Record model)) []
subject_typing schema (subject.List model) = option_map_or (λ name. (name, ListOf model) ∷ []) (variable_of schema (subject.List model)) []
subject_typing schema subject.Nothing = []

-- the variables of a route with their types: its record or list, then its parameters, which are texts
abbrev pub route_typing : ModelList → Route → Typing
route_typing schema route = subject_typing schema route.subject ++ map (λ name. (name, Text)) route.params

-- the template that a route opens, where it is in the set, with the route's variables
abbrev pub opened_by : ReadSet → ModelList → Route → List Reached
opened_by set schema route =
    option_map_or (λ number. record { template = number; typing = route_typing schema route } ∷ []) (number_of (names_of set.templates) route.template) []

-- those that all routes open
abbrev pub opened : ReadSet → ModelList → List Route → List Reached
opened set schema routes = flat_map (opened_by set schema) routes

-- ---- calls

-- what is found in a template of a set under a typing
abbrev pub findings_at : ReadSet → ModelList → Reached → List Finding
findings_at set schema reached =
    option_map_or (λ (t : Template). findings schema t.tree reached.typing) (slice_get set.templates reached.template) []

-- the partial that the template with a number renders there
abbrev pub called_at : ReadSet → ℕ → Finding → List Reached
called_at set number (Fault at kind) = []
called_at set number (Call name typing) =
    option_map_or (λ partial. record { template = partial; typing = typing } ∷ []) (partial_of (names_of set.templates) (name_at set.templates number) name) []

-- the partials that a template renders under a typing, in the order of the text
unfoldable pub called_by : ReadSet → ModelList → Reached → List Reached
called_by set schema reached = flat_map (called_at set reached.template) (findings_at set schema reached)

-- ---- pages

-- A page of some route reaches this template with variables of these types: the route opens it, or what is reached renders it.
pub data IsReached (set : ReadSet) (schema : ModelList) (routes : List Route) : Reached → Type 0 where
  by_route : (one : Reached) → Contains (opened set schema routes) one → IsReached set schema routes one
  by_call : (caller one : Reached) → IsReached set schema routes caller → Contains (called_by set schema caller) one → IsReached set schema routes one

-- These are exactly what is reached.
pub record AreReached (set : ReadSet) (schema : ModelList) (routes : List Route) (reached : List Reached) : Type 0 where
  pub each : (one : Reached) → Contains reached one → IsReached set schema routes one
  pub all : (one : Reached) → IsReached set schema routes one → Contains reached one
