-- The routes of a site, and which of them a path asks for (this project's own).
use Rattle.std.specs.Prelude.{◌≡◌, ◌≢◌, ℕ, ◌<◌, ◌≤◌, Bool, true, false, not, ◌&&◌, List, [], ◌∷◌, length, bytes_eq, map, slice_get, position, Vec, Option, Some, None, is_some, option_and_then, option_map, IfSome, All}
use Rattle.std.specs.declared.alloc.Global.{Global}
use Rattle.std.specs.List.{list_any}
use Rattle.doll_text.specs.Segments.{is_virtual_path}
use Rattle.doll_schema.specs.Models.{ModelList}
use Rattle.doll_schema.specs.declared.model.Model.{Model}
use Rattle.doll_route.specs.declared.limits.TheConstants.{MOST_ROUTES, MOST_PARAMS}
use Rattle.doll_route.specs.declared.route.Found.{Found}
use Rattle.doll_route.specs.declared.route.Route.{Route}
use Rattle.doll_route.specs.declared.route.Subject.{Subject}
use Rattle.doll_route.specs.declared.route.Subject.TheVariants as subject
use Rattle.doll_route.specs.Paths.{is_path, names_id, requested}

-- a route of a record has an id in its path
abbrev pub takes_id : Subject → Bool
takes_id (subject.Record model) = true
takes_id (subject.List model) = false
takes_id subject.Nothing = false

-- the number of the model that a route is about
abbrev pub subject_model : Subject → Option ℕ
subject_model (subject.Record model) = Some model
subject_model (subject.List model) = Some model
subject_model subject.Nothing = None

-- the variable that a route binds to its record or list: the name of the model, or its plural
abbrev pub variable_of : ModelList → Subject → Option (List ℕ)
variable_of schema (subject.Record model) = option_map (λ (m : Model). m.name) (slice_get schema.models model)
variable_of schema (subject.List model) = option_map (λ (m : Model). m.plural) (slice_get schema.models model)
variable_of schema subject.Nothing = None

-- that variable, where there is one, stands among the parameters
abbrev pub is_own_among : Option (List ℕ) → List (List ℕ) → Bool
is_own_among None params = false
is_own_among (Some own) params = list_any (bytes_eq own) params

-- no name stands twice
abbrev pub are_distinct : List (List ℕ) → Bool
are_distinct [] = true
are_distinct (name ∷ names) = not (list_any (bytes_eq name) names) && are_distinct names

-- the texts that a set holds, by its keys
abbrev pub texts_in : List (Vec ℕ Global) → List (List ℕ)
texts_in keys = map (λ key. key.items) keys

-- one of these routes has this path
abbrev pub has_path : List Route → List ℕ → Bool
has_path routes path = list_any (λ (r : Route). bytes_eq path r.path) routes

-- what a route keeps by itself
pub record IsRoute (r : Route) : Type 0 where
  pub path : is_path r.path ≡ true
  pub id : names_id r.path ≡ takes_id r.subject
  pub template : is_virtual_path r.template ≡ true
  pub distinct : are_distinct r.params ≡ true
  pub few : length r.params ≤ MOST_PARAMS

-- no two routes have one path
abbrev pub HaveDistinctPaths : List Route → Type 0
HaveDistinctPaths routes =
    (i j : ℕ) (r q : Route) → i < j → slice_get routes i ≡ Some r → slice_get routes j ≡ Some q → r.path ≢ q.path

-- what routes keep together
pub record AreRoutes (routes : List Route) : Type 0 where
  pub each : (n : ℕ) (r : Route) → slice_get routes n ≡ Some r → IsRoute r
  pub paths : HaveDistinctPaths routes
  pub few : length routes ≤ MOST_ROUTES

-- a route's model is one of the schema's, and none of its parameters is the variable of its record or list
pub record FitsSchema (schema : ModelList) (r : Route) : Type 0 where
  pub model : IfSome (subject_model r.subject) (λ model. model < length schema.models)
  pub variables : is_own_among (variable_of schema r.subject) r.params ≡ false

abbrev pub AreRoutesOf : ModelList → List Route → Type 0
AreRoutesOf schema routes = All (FitsSchema schema) routes

-- a path asks for the route
abbrev pub answers : List ℕ → Route → Bool
answers path r = is_some (requested r.path path)

-- the route with a number, where the path asks for it
abbrev pub found_as : ℕ → Option (Option ℕ) → Option Found
found_as number id = option_map (λ i. record { route = number; id = i }) id

abbrev pub found_at : List Route → List ℕ → Option ℕ → Option Found
found_at routes path number =
    option_and_then (λ n. option_and_then (λ (r : Route). found_as n (requested r.path path)) (slice_get routes n)) number

-- the route that a path asks for, with the id that it names
unfoldable pub route_of : List Route → List ℕ → Option Found
route_of routes path = found_at routes path (position (answers path) routes)

-- what was found is a route, with an id exactly where that is about a record
abbrev pub IsFoundIn : List Route → Found → Type 0
IsFoundIn routes found =
    (r : Route) × (slice_get routes found.route ≡ Some r) × (is_some found.id ≡ takes_id r.subject)

-- the number of whichever route the path asks for, where it asks for any: there is no other
abbrev pub IsTheOnly : List Route → List ℕ → Option ℕ → Type 0
IsTheOnly routes path number = (n : ℕ) (r : Route) → slice_get routes n ≡ Some r → answers path r ≡ true → number ≡ Some n

-- the number of what was found
abbrev pub found_number : Option Found → Option ℕ
found_number found = option_map (λ (f : Found). f.route) found
