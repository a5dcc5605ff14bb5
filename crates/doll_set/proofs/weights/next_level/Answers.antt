use Rattle.std.proofs.Common.{min}
use Rattle.doll_set.specs.Weights as spec
use Rattle.doll_set.proofs.Places.{one_more}
use Rattle.doll_set.proofs.weights.next_level.Goals as goal

pub loop-number-preserved : goal.loop-number-preserved
loop-number-preserved c =
    one_more (λ number. min (spec.weight_step c.args.nodes.now (spec.rendered_by c.args.links.now) number (spec.weight_in c.args.weights.now)) 4294967295)
    c.loop-number.number c.loop-number.next.items c.push.new.self.items c.next_weight.result c.loop-number.invariant c.next_weight.ensures c.in_ok-push.ensures.items
