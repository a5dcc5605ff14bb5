use Rattle.std.proofs.Common.{◌≡◌, drop, All}
use Rattle.serde_json.specs.View.{items_view, view}
use Rattle.doll_route.specs.Readings.{routes_from, routes_of}
use Rattle.doll_route.specs.Routes.{FitsSchema}
use Rattle.doll_route.proofs.routes.Routes.read.Given as goal

-- what is read and what is left give the whole
abbrev pub invariant-loop-item : goal.invariant-loop-item
invariant-loop-item l = record {
  so_far : routes_from l.schema l.routes (items_view (drop l.item-index l.item-items)) ≡ routes_of l.schema (view l.json);
  fits : All (FitsSchema l.schema) l.routes;
}
