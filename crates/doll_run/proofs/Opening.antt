-- The page of a route through a cache.
use Rattle.std.proofs.Common.{◌≡◌, ℕ, ◌<◌, Bool, true, false, List, [], ◌∷◌, length, Option, None, Some, refl, ap, sym, subst, ◌∙◌, arith}
use Rattle.std.specs.Prelude.{cond, option_and_then}
use Rattle.std.specs.List.{Contains}
use Rattle.std.specs.Option.{option_map_or}
use Rattle.std.proofs.lemmas.List.{length-map}
use Rattle.doll_schema.specs.Models.{ModelList}
use Rattle.doll_schema.specs.declared.value.Value.{Value}
use Rattle.doll_erb.specs.declared.node.KeyPart.{KeyPart}
use Rattle.doll_table.specs.Fits.{Fits}
use Rattle.doll_table.specs.Tables.{TableMap}
use Rattle.doll_route.specs.declared.route.Route.{Route}
use Rattle.doll_set.specs.Dependencies.{names_of, number_of}
use Rattle.doll_set.specs.Sets.{IsSet, ReadSet}
use Rattle.doll_set.specs.declared.template.Template.{Template}
use Rattle.doll_set.proofs.Depending.{get_among, position_within}
use Rattle.doll_plain.specs.Direct.{Variables}
use Rattle.doll_plain.specs.Pages.{route_page, template_writes}
use Rattle.doll_plain.specs.Variables.{is_there, route_variables}
use Rattle.doll_types.specs.declared.reached.Reached.{Reached}
use Rattle.doll_types.specs.Faults.{IsTyped}
use Rattle.doll_types.specs.Reached.{IsReached, opened_by, route_typing}
use Rattle.doll_types.specs.Types.{Typing}
use Rattle.doll_lint.specs.Blocks.{Block}
use Rattle.doll_lint.specs.Faults.{IsBlock}
use Rattle.doll_agree.proofs.Lists.{into_flat}
use Rattle.doll_entry.specs.declared.asks.Ask.{Ask}
use Rattle.doll_entry.specs.declared.entry.Fresh.{Fresh}
use Rattle.doll_run.specs.Comes.{AreParameters, IsHandedIn, IsShown, PagesComeOut, RouteVariablesHaveTypes}
use Rattle.doll_run.specs.Direct.{Comes, IsRight}
use Rattle.doll_run.specs.Pages.{Ground, ground_of, opening_looks, route_run, template_runs}
use Rattle.doll_run.specs.Rendering.{Keyed}
use Rattle.doll_run.specs.Runs.{Ends, Run}
use Rattle.doll_run.proofs.Levels.{template_well}
use Rattle.doll_run.proofs.Routes.{route_typed}

pub variables_typed : RouteVariablesHaveTypes
variables_typed schema route id params table there are = route_typed schema route id params table there are.0 are.1

same_some : {X : Type 0} (x y : X) → ◌≡◌ {A = Option X} (Some x) (Some y) → x ≡ y
same_some x y e = cc e

module _ (set : ReadSet) (schema : ModelList) (routes : List Route) (table : TableMap) (moment tree : ℕ) (keyed : ℕ → Typing → List KeyPart → Variables → Keyed) (Found : Ask → List ℕ → Type 0) (Made : Fresh → Type 0)
    (s : IsSet set.templates set.graph set.digests) (typed : IsTyped set schema routes) (fits : Fits schema table) (right : (block : Block) → IsBlock set schema routes block → IsRight (ground_of set schema table moment tree keyed) Found Made block)
    (route : Route) (params : List Value) (are : AreParameters route params) (among : Contains routes route) where
  abbrev over : Ground
  over = ground_of set schema table moment tree keyed

  -- a template that a route opens is reached
  opened_reached : (number : ℕ) → number_of (names_of set.templates) route.template ≡ Some number → IsReached set schema routes (record { template = number; typing = route_typing schema route })
  opened_reached number is =
      let one : Reached = record { template = number; typing = route_typing schema route } in
      IsReached.by_route one (into_flat (opened_by set schema) routes route one among
      (subst (λ o. Contains (option_map_or (λ number. record { template = number; typing = route_typing schema route } ∷ []) o []) one) (sym is) (0, omega arith, refl)))

  number_within : (number : ℕ) → number_of (names_of set.templates) route.template ≡ Some number → number < length set.templates
  number_within number is = subst (λ n. number < n) (length-map set.templates (λ (t : Template). t.name)) (position_within _ (names_of set.templates) number is)

  abbrev vars_of : Option ℕ → Variables
  vars_of id = route_variables schema route id params table

  by_number : (id : Option ℕ) → is_there table route.subject id ≡ true → (found : Option ℕ) → number_of (names_of set.templates) route.template ≡ found
      → Comes Found Made (option_map_or (λ number. template_writes schema table set.templates number (vars_of id)) found [])
      (option_map_or (λ number. template_runs over number (route_typing schema route) (vars_of id) Ends (opening_looks route.subject) []) found (Ends (opening_looks route.subject) []))
  by_number id there None is = refl
  by_number id there (Some number) is =
      template_well set routes schema table moment tree keyed Found Made s typed fits right number (route_typing schema route) (vars_of id) (number_within number is) (opened_reached number is)
      (variables_typed schema route id params table there are)
      (template_writes schema table set.templates number (vars_of id)) [] Ends (λ looks. refl) (opening_looks route.subject)

  abbrev whole_run : Option ℕ → Run
  whole_run id = option_map_or (λ number. template_runs over number (route_typing schema route) (vars_of id) Ends (opening_looks route.subject) []) (number_of (names_of set.templates) route.template) (Ends (opening_looks route.subject) [])

  abbrev whole_page : Option ℕ → List ℕ
  whole_page id = option_map_or (λ number. template_writes schema table set.templates number (vars_of id)) (number_of (names_of set.templates) route.template) []

  by_there : (id : Option ℕ) (b : Bool) → is_there table route.subject id ≡ b → (run : Run) (page : List ℕ) → cond b (Some (whole_run id)) None ≡ Some run → cond b (Some (whole_page id)) None ≡ Some page → Comes Found Made page run
  by_there id false there run page runs pages = absurd (cc runs)
  by_there id true there run page runs pages =
      subst (λ r. Comes Found Made page r) (same_some (whole_run id) run runs)
      (subst (λ p. Comes Found Made p (whole_run id)) (same_some (whole_page id) page pages) (by_number id there (number_of (names_of set.templates) route.template) refl))

  comes : (id : Option ℕ) (run : Run) (page : List ℕ) → route_run over route id params ≡ Some run → route_page set schema route id params table ≡ Some page → Comes Found Made page run
  comes id run page runs pages = by_there id (is_there table route.subject id) refl run page runs pages

-- each block that a page reaches is answered and handed in rightly
all_right : (set : ReadSet) (routes : List Route) (over : Ground) (block : Block) → IsBlock set over.schema routes block → IsRight over (IsShown set routes over) (IsHandedIn set routes over) block
all_right set routes over block is = record {
  found = λ vars have key bytes shown. shown block is have key refl;
  made = λ vars have key. record { block = block; is_block = is; types = have; is_key = key; is = refl };
}

pub pages_come : PagesComeOut
pages_come set schema routes table moment tree keyed found route params run page s typed fits is are runs pages =
    let over : Ground = ground_of set schema table moment tree keyed in
    comes set schema routes table moment tree keyed (IsShown set routes over) (IsHandedIn set routes over) s typed fits (all_right set routes over) route params are (get_among routes found.route route is) found.id run page
    (sym (ap (λ o. option_and_then (λ (r : Route). route_run over r found.id params) o) is) ∙ runs)
    (sym (ap (λ o. option_and_then (λ (r : Route). route_page set schema r found.id params table) o) is) ∙ pages)
