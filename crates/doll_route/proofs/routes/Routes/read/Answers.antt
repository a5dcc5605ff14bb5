use Rattle.std.proofs.Common.{arith}
use Rattle.std.proofs.lemmas.Grind.{common_steps}
use Rattle.std.proofs.lemmas.List.Elements.{All-push}
use Rattle.doll_route.specs.Routes.{FitsSchema}
use Rattle.doll_route.proofs.routes.Routes.read.Goals as goal

pub loop-item-preserved : goal.loop-item-preserved
loop-item-preserved c = record {
  so_far = grind (arith, common_steps);
  fits = rw c.in_ok-routes.ensures (All-push (FitsSchema c.args.schema.now) c.loop-item.routes c.in_ok-route.route c.loop-item.invariant.fits c.in_ok-route.ensures.fits);
}
