-- Rendering the templates of a set, and the page of a route, through a cache (this project's own).
use Rattle.std.specs.Prelude.{ℕ, List, [], Option, None, Some, option_and_then, slice_get, if◌then◌else◌}
use Rattle.std.specs.Option.{option_map_or}
use Rattle.doll_schema.specs.Models.{ModelList}
use Rattle.doll_schema.specs.declared.value.Value.{Value}
use Rattle.doll_erb.specs.declared.node.KeyPart.{KeyPart}
use Rattle.doll_table.specs.Tables.{TableMap}
use Rattle.doll_graph.specs.Levels.{by_levels}
use Rattle.doll_set.specs.declared.limits.TheConstants.{LONGEST_CHAIN}
use Rattle.doll_set.specs.declared.template.Template.{Template}
use Rattle.doll_set.specs.Dependencies.{names_of, number_of, partial_of}
use Rattle.doll_set.specs.Digests.{name_at}
use Rattle.doll_set.specs.Sets.{ReadSet, tree_at}
use Rattle.doll_route.specs.declared.route.Found.{Found}
use Rattle.doll_route.specs.declared.route.Route.{Route}
use Rattle.doll_route.specs.declared.route.Subject.{Subject}
use Rattle.doll_route.specs.declared.route.Subject.TheVariants as subject
use Rattle.doll_plain.specs.Direct.{Variables}
use Rattle.doll_plain.specs.Variables.{is_there, route_variables}
use Rattle.doll_types.specs.Reached.{route_typing}
use Rattle.doll_types.specs.Types.{Typing}
use Rattle.doll_run.specs.Rendering.{Keyed, Runs, Stage, tree_runs}
use Rattle.doll_run.specs.Runs.{Ends, Run}

-- What all templates of a set are rendered over: a schema, a table with the moment of the last commit before it, the templates with the number of their set,
-- and the key of a block of a template by its parts, under types and values of variables.
pub record Ground : Type 0 where
  pub schema : ModelList
  pub table : TableMap
  pub moment : ℕ
  pub tree : ℕ
  pub templates : List Template
  pub keyed : ℕ → Typing → List KeyPart → Variables → Keyed

-- of a set
abbrev pub ground_of : ReadSet → ModelList → TableMap → ℕ → ℕ → (ℕ → Typing → List KeyPart → Variables → Keyed) → Ground
ground_of set schema table moment tree keyed =
    record { schema = schema; table = table; moment = moment; tree = tree; templates = set.templates; keyed = keyed }

-- what the template with a number is rendered over, by what each template runs
abbrev pub stage_in : Ground → (ℕ → Runs) → ℕ → Stage
stage_in over runs number = record {
  schema = over.schema;
  table = over.table;
  moment = over.moment;
  tree = over.tree;
  template = number;
  keyed = over.keyed;
  partial = partial_of (names_of over.templates) (name_at over.templates number);
  runs = runs;
}

-- what a template runs by so many levels of partials; by no level nothing
unfoldable pub levels_run : Ground → ℕ → ℕ → Runs
levels_run over levels number =
    by_levels (λ typing vars rest. rest) (λ number runs. tree_runs (stage_in over runs number) (tree_at over.templates number)) levels number

-- what a template runs: no chain of partials has more levels
abbrev pub template_runs : Ground → ℕ → Runs
template_runs over number = levels_run over LONGEST_CHAIN number

-- ---- pages

-- the looks that opening a page may take: one for its record or its list
abbrev pub opening_looks : Subject → ℕ
opening_looks (subject.Record model) = 1
opening_looks (subject.List model) = 1
opening_looks subject.Nothing = 0

-- what the page of a route runs; none exactly where its record isn't in the table
abbrev pub route_run : Ground → Route → Option ℕ → List Value → Option Run
route_run over route id params =
    if is_there over.table route.subject id
    then Some
    (option_map_or
    (λ number.
    template_runs over number (route_typing over.schema route) (route_variables over.schema route id params over.table) Ends (opening_looks route.subject) [])
    (number_of (names_of over.templates) route.template) (Ends (opening_looks route.subject) []))
    else None

-- the same of what a path found
abbrev pub page_run : Ground → List Route → Found → List Value → Option Run
page_run over routes found params =
    option_and_then (λ (route : Route). route_run over route found.id params) (slice_get routes found.route)
