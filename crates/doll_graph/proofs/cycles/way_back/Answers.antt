use Rattle.doll_graph.specs.Graphs as spec
use Rattle.doll_graph.proofs.Leading.{way_step}
use Rattle.doll_graph.proofs.cycles.way_back.Goals as goal

pub loop-left-preserved : goal.loop-left-preserved
loop-left-preserved c =
    way_step c.args.graph.now c.args.target c.loop-left.left c.loop-left.number c.next-number.result c.loop-left.way c.push.new.self
    (spec.way c.args.graph.now c.args.target (spec.steps_back c.args.graph.now c.args.target) c.args.target) c.in_ok-marks.marks.items
    c.loop-left-test.true c.loop-left.invariant c.in_ok-push.ensures.ok c.in_ok-marks.ensures
    (cc (c.next-number.ensures, c.as_slice.ensures.value))
