use Rattle.std.proofs.Common.{refl}
use Rattle.doll_set.proofs.Places.{one_more}
use Rattle.doll_set.proofs.weights.zeros.Goals as goal

pub loop-number-preserved : goal.loop-number-preserved
loop-number-preserved c = one_more (λ _. 0) c.loop-number._number c.loop-number.zeros.items c.push.new.self.items 0 c.loop-number.invariant refl c.in_ok-push.ensures.items
