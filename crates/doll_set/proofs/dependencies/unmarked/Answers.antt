use Rattle.std.proofs.Common.{false, refl}
use Rattle.doll_set.proofs.Places.{one_more}
use Rattle.doll_set.proofs.dependencies.unmarked.Goals as goal

pub loop-number-preserved : goal.loop-number-preserved
loop-number-preserved c = one_more (λ _. false) c.loop-number._number c.loop-number.marks.items c.push.new.self.items false c.loop-number.invariant refl c.in_ok-push.ensures.items
