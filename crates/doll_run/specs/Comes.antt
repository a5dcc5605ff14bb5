-- The page of a route comes out as direct rendering has it, whatever a cache has (this project's own).
use Rattle.std.specs.Prelude.{◌≡◌, ℕ, true, List, length, slice_get, Option, Some}
use Rattle.std.specs.List.{AllByRecursion}
use Rattle.doll_schema.specs.Models.{ModelList}
use Rattle.doll_schema.specs.declared.value.Value.{Value}
use Rattle.doll_erb.specs.declared.node.KeyPart.{KeyPart}
use Rattle.doll_table.specs.Fits.{Fits}
use Rattle.doll_table.specs.Tables.{TableMap}
use Rattle.doll_set.specs.Sets.{IsSet, ReadSet}
use Rattle.doll_route.specs.declared.route.Found.{Found as FoundRoute}
use Rattle.doll_route.specs.declared.route.Route.{Route}
use Rattle.doll_plain.specs.Direct.{Variables}
use Rattle.doll_plain.specs.Pages.{page_of}
use Rattle.doll_plain.specs.Variables.{is_there, route_variables}
use Rattle.doll_types.specs.declared.types.ValueType.TheVariants.{Text}
use Rattle.doll_types.specs.Faults.{IsTyped}
use Rattle.doll_types.specs.Reached.{route_typing}
use Rattle.doll_types.specs.Sound.{HaveTypes, ValueHasType}
use Rattle.doll_types.specs.Types.{Typing}
use Rattle.doll_lint.specs.Blocks.{Block}
use Rattle.doll_lint.specs.Faults.{IsBlock}
use Rattle.doll_entry.specs.declared.asks.Ask.{Ask}
use Rattle.doll_entry.specs.declared.entry.Fresh.{Fresh}
use Rattle.doll_run.specs.Direct.{Comes, block_keyed, shows}
use Rattle.doll_run.specs.Pages.{Ground, ground_of, page_run}
use Rattle.doll_run.specs.Rendering.{Keyed, asked, fresh}
use Rattle.doll_run.specs.Runs.{Run}

-- parameters of a route: one for each name, each a text or nil
abbrev pub AreParameters : Route → List Value → Type 0
AreParameters route params = (length params ≡ length route.params) × AllByRecursion (ValueHasType Text) params

-- the variables that a route binds have the types that it gives them
abbrev pub RouteVariablesHaveTypes : Type 0
RouteVariablesHaveTypes =
    (schema : ModelList) (route : Route) (id : Option ℕ) (params : List Value) (table : TableMap) → is_there table route.subject id ≡ true → AreParameters route params
    → HaveTypes table (route_typing schema route) (route_variables schema route id params table)

-- ---- what a cache may answer

-- What is found for a question is what each block shows that asks it by its key, of those that pages reach.
abbrev pub IsShown : ReadSet → List Route → Ground → Ask → List ℕ → Type 0
IsShown set routes over ask bytes =
    (block : Block) → IsBlock set over.schema routes block → HaveTypes over.table block.typing ask.vars → (block_keyed over block ask.vars).is_key ≡ true
    → ask ≡ asked over.tree block.template block.number (block_keyed over block ask.vars) ask.vars → bytes ≡ shows over block ask.vars

-- What is handed in is what some block shows that a page reaches, under its key, with variables of its types.
pub record IsHandedIn (set : ReadSet) (routes : List Route) (over : Ground) (handed : Fresh) : Type 0 where
  pub block : Block
  pub is_block : IsBlock set over.schema routes block
  pub types : HaveTypes over.table block.typing handed.vars
  pub is_key : (block_keyed over block handed.vars).is_key ≡ true
  pub is : handed ≡ fresh over.tree over.moment block.template block.number (block_keyed over block handed.vars) handed.vars (shows over block handed.vars)

-- In a typed set: where each block is answered by what it shows with no cache, if it is answered at all, the page of a route that is rendered through the cache is
-- that of direct rendering, and each block that is handed in on the way is one that a page reaches, as it shows.
abbrev pub PagesComeOut : Type 0
PagesComeOut =
    (set : ReadSet) (schema : ModelList) (routes : List Route) (table : TableMap) (moment tree : ℕ) (keyed : ℕ → Typing → List KeyPart → Variables → Keyed)
    (found : FoundRoute) (route : Route) (params : List Value) (run : Run) (page : List ℕ)
    → IsSet set.templates set.graph set.digests → IsTyped set schema routes → Fits schema table → slice_get routes found.route ≡ Some route → AreParameters route params
    → page_run (ground_of set schema table moment tree keyed) routes found params ≡ Some run → page_of set schema routes found params table ≡ Some page
    → Comes (IsShown set routes (ground_of set schema table moment tree keyed)) (IsHandedIn set routes (ground_of set schema table moment tree keyed)) page run
