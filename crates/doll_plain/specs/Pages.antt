-- Direct rendering of the templates of a set and of the page of a route (this project's own).
use Rattle.std.specs.Prelude.{◌≡◌, ◌+◌, ℕ, List, [], Option, None, Some, option_and_then, slice_get, if◌then◌else◌}
use Rattle.std.specs.Option.{option_map_or}
use Rattle.doll_schema.specs.Models.{ModelList}
use Rattle.doll_schema.specs.declared.value.Value.{Value}
use Rattle.doll_table.specs.Tables.{TableMap}
use Rattle.doll_graph.specs.Graphs.{Graph}
use Rattle.doll_graph.specs.Levels.{by_levels}
use Rattle.doll_set.specs.Dependencies.{names_of, number_of, partial_of}
use Rattle.doll_set.specs.Digests.{name_at}
use Rattle.doll_set.specs.Sets.{IsSet, ReadSet, tree_at}
use Rattle.doll_set.specs.declared.limits.TheConstants.{LONGEST_CHAIN}
use Rattle.doll_set.specs.declared.template.Template.{Template}
use Rattle.doll_route.specs.declared.route.Found.{Found}
use Rattle.doll_route.specs.declared.route.Route.{Route}
use Rattle.doll_plain.specs.declared.render.Context.{Context}
use Rattle.doll_plain.specs.Direct.{Scene, Variables, Writes, direct}
use Rattle.doll_plain.specs.Variables.{is_there, route_variables}

-- ---- partials

-- what the partial that a template means by a name writes, by what each template writes; nothing where there is no such partial
abbrev pub partial_writes : List Template → (ℕ → Writes) → ℕ → List ℕ → Writes
partial_writes templates writes number name variables =
    option_map_or (λ partial. writes partial variables) (partial_of (names_of templates) (name_at templates number) name) []

-- what the template with a number is rendered over, by what each template writes
abbrev pub scene_in : ModelList → TableMap → List Template → (ℕ → Writes) → ℕ → Scene
scene_in schema table templates writes number =
    record { schema = schema; table = table; partial = partial_writes templates writes number }

-- what a template writes by so many levels of partials: direct rendering of its tree, in which a partial is rendered with its own
-- variables alone; no level writes nothing
unfoldable pub levels_write : ModelList → TableMap → List Template → ℕ → ℕ → Writes
levels_write schema table templates levels number =
    by_levels (λ variables. []) (λ number writes. direct (scene_in schema table templates writes number) (tree_at templates number)) levels number

-- what a template writes: no chain of partials has more levels
abbrev pub template_writes : ModelList → TableMap → List Template → ℕ → Writes
template_writes schema table templates number = levels_write schema table templates LONGEST_CHAIN number

-- in a set more levels than the longest chain has change nothing
abbrev pub MoreLevelsChangeNothing : Type 0
MoreLevelsChangeNothing = (schema : ModelList) (table : TableMap) (templates : List Template) (graph : Graph) (digests : List (List ℕ))
    → IsSet templates graph digests → (more number : ℕ) (variables : Variables)
    → levels_write schema table templates (LONGEST_CHAIN + more) number variables ≡ template_writes schema table templates number variables

-- what the code's context stands for over a table
abbrev pub scene_of : Context → TableMap → Scene
scene_of context table =
    scene_in context.schema.now table context.set.now.templates (levels_write context.schema.now table context.set.now.templates context.levels) context.number

-- ---- pages

-- what the template with a name writes, nothing where there is none
abbrev pub named_writes : ModelList → TableMap → List Template → List ℕ → Writes
named_writes schema table templates name variables =
    option_map_or (λ number. template_writes schema table templates number variables) (number_of (names_of templates) name) []

-- the page of a route: direct rendering of its template with the variables that it binds; none exactly where its record isn't in
-- the table
abbrev pub route_page : ReadSet → ModelList → Route → Option ℕ → List Value → TableMap → Option (List ℕ)
route_page set schema route id params table =
    if is_there table route.subject id
    then Some (named_writes schema table set.templates route.template (route_variables schema route id params table))
    else None

-- the page of what a path found
abbrev pub page_of : ReadSet → ModelList → List Route → Found → List Value → TableMap → Option (List ℕ)
page_of set schema routes found params table =
    option_and_then (λ (route : Route). route_page set schema route found.id params table) (slice_get routes found.route)
