-- The variables of a page that is opened live.
use Rattle.std.proofs.Common.{◌≡◌, ℕ, Bool, true, false, cond, List, Option, None, Some, refl, sym, subst}
use Rattle.std.specs.Prelude.{IfSome}
use Rattle.doll_schema.specs.Models.{ModelList}
use Rattle.doll_schema.specs.declared.value.Value.{Value}
use Rattle.doll_table.specs.Tables.{TableMap}
use Rattle.doll_eval.specs.Living.{AreLiving}
use Rattle.doll_route.specs.declared.route.Route.{Route}
use Rattle.doll_plain.specs.Variables.{is_there, route_variables}
use Rattle.doll_plain.proofs.Lives.{route_lives}
use Rattle.doll_types.specs.Reached.{route_typing}
use Rattle.doll_frames.specs.Openings.{opened_scope}
use Rattle.doll_frames.specs.declared.scope.Scope.{Scope}

pub opened_lives : (schema : ModelList) (route : Route) (id : Option ℕ) (params : List Value) (table : TableMap) (opened : Option Scope) → opened ≡ opened_scope schema route id params table → IfSome opened (λ (one : Scope). AreLiving table one.vars)
opened_lives schema route id params table opened is =
    subst (λ (o : Option Scope). IfSome o (λ (one : Scope). AreLiving table one.vars)) (sym is) (by (is_there table route.subject id) refl)
  where
    by : (there : Bool) → is_there table route.subject id ≡ there → IfSome (cond there (Some (record { typing = route_typing schema route; vars = route_variables schema route id params table })) None) (λ (one : Scope). AreLiving table one.vars)
    by true is = route_lives schema route id params table is
    by false is = tt
