use Rattle.doll_set.specs.Dependencies as spec
use Rattle.doll_set.proofs.Marks.{one_passed, one_kept}
use Rattle.doll_set.proofs.dependencies.distinct.Goals as goal

pub loop-number-preserved-then-not-has_mark : goal.loop-number-preserved-then-not-has_mark
loop-number-preserved-then-not-has_mark c =
    one_passed c.args.numbers.now c.args.count c.loop-number.number c.in_ok-marks.marks.items c.loop-number.once (spec.distinct c.args.count c.args.numbers.now) c.has_mark.result
    c.in_ok-marks.ensures c.loop-number-test.true (cc (c.has_mark.ensures, c.as_slice.ensures.value)) (cc (c.if-not-has_mark.true)) c.loop-number.invariant

pub loop-number-preserved : goal.loop-number-preserved
loop-number-preserved c =
    one_kept c.args.numbers.now c.args.count c.loop-number.number c.in_ok-marks.marks.items c.loop-number.once c.push.new.self (spec.distinct c.args.count c.args.numbers.now) c.has_mark.result
    c.in_ok-marks.ensures c.loop-number-test.true (cc (c.has_mark.ensures, c.as_slice.ensures.value)) (cc (c.if-not-has_mark.false)) c.in_ok-push.ensures.ok c.loop-number.invariant
