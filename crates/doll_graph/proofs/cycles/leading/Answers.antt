use Rattle.std.proofs.Common.{◌∙◌}
use Rattle.doll_graph.proofs.Leading.{settled}
use Rattle.doll_graph.proofs.cycles.leading.Goals as goal

pub returns-then-are_same : goal.returns-then-are_same
returns-then-are_same c =
    c.loop-step.invariant.marks
    ∙ settled c.args.graph.now c.args.target c.loop-step._step c.args.steps c.loop-step.invariant.within
    (cc (
      c.are_same.ensures c.if-are_same.true,
      c.loop-step.invariant.marks,
      c.in_ok-next.ensures,
      c.as_slice.ensures.value,
      c.as_slice-in-loop-step.ensures.value,
      c.as_slice-in-loop-step-2.ensures.value,
    ))
