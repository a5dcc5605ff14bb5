use Rattle.doll_set.proofs.Marks.{one_marked}
use Rattle.doll_set.proofs.dependencies.marks_of.Goals as goal

pub loop-number-preserved : goal.loop-number-preserved
loop-number-preserved c =
    one_marked c.args.numbers.now c.loop-number.number-index c.args.count c.loop-number.marks.items c.mark.new.marks.items c.loop-number-test.true c.loop-number.invariant c.mark.ensures
