use Rattle.std.proofs.Common.{◌≡◌, take}
use Rattle.doll_types.proofs.typed.copy_routes.Given as goal

-- the routes so far
abbrev pub invariant-loop-route : goal.invariant-loop-route
invariant-loop-route l = l.copy ≡ take l.route-index l.routes
