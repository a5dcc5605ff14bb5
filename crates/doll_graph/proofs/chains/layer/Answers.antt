use Rattle.doll_graph.specs.Graphs as spec
use Rattle.doll_graph.proofs.Layers.{ends_past, ends_here}
use Rattle.doll_graph.proofs.chains.layer.Goals as goal

pub loop-number-preserved-then-not-is_last_mark : goal.loop-number-preserved-then-not-is_last_mark
loop-number-preserved-then-not-is_last_mark c =
    ends_past c.args.graph.now c.args.most c.loop-number.number c.in_ok-marks.marks.items c.in_ok-next.next.items c.loop-number.numbers
    (spec.layer c.args.graph.now c.args.most) c.is_last_mark.result c.in_ok-marks.ensures
    (cc (c.in_ok-next.ensures, c.as_slice.ensures.value)) c.loop-number-test.true
    (cc (c.is_last_mark.ensures, c.as_slice-in-loop-number.ensures.value, c.as_slice-in-loop-number-2.ensures.value))
    (cc (c.if-not-is_last_mark.true)) c.loop-number.invariant

pub loop-number-preserved : goal.loop-number-preserved
loop-number-preserved c =
    ends_here c.args.graph.now c.args.most c.loop-number.number c.in_ok-marks.marks.items c.in_ok-next.next.items c.loop-number.numbers
    c.push.new.self (spec.layer c.args.graph.now c.args.most) c.is_last_mark.result c.in_ok-marks.ensures
    (cc (c.in_ok-next.ensures, c.as_slice.ensures.value)) c.loop-number-test.true
    (cc (c.is_last_mark.ensures, c.as_slice-in-loop-number.ensures.value, c.as_slice-in-loop-number-2.ensures.value))
    (cc (c.if-not-is_last_mark.false)) c.in_ok-push.ensures.ok c.loop-number.invariant
