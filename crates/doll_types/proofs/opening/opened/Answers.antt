use Rattle.doll_types.proofs.Opens.{opens_more}
use Rattle.doll_types.proofs.opening.opened.Goals as goal

pub loop-route-preserved : goal.loop-route-preserved
loop-route-preserved c =
    opens_more c.args.set.now c.args.schema.now c.args.routes.now c.loop-route.route-index c.route-item.result c.loop-route.reach c.open.new.reach
    c.loop-route-test.true c.route-item.is c.loop-route.invariant c.in_ok-open.ensures
