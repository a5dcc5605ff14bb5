use Rattle.std.proofs.Common.{take}
use Rattle.doll_types.specs.Reachings.{AreOpened}
use Rattle.doll_types.proofs.opening.opened.Given as goal

-- what the routes so far open
abbrev pub invariant-loop-route : goal.invariant-loop-route
invariant-loop-route l = AreOpened l.set l.schema (take l.route-index l.routes) l.reach
