use Rattle.std.proofs.Common.{◌∙◌, sym}
use Rattle.doll_graph.proofs.Leading.{few_past, few_here, leading_more, long}
use Rattle.doll_graph.proofs.cycles.steps_back.Goals as goal

pub returns-then-has_mark : goal.returns-then-has_mark
returns-then-has_mark c =
    sym (few_here c.args.graph.now c.args.target c.loop-steps.steps c.loop-steps.marks.items c.loop-steps.invariant.marks c.loop-steps-test.true
    (cc (c.has_mark.ensures, c.if-has_mark.true, c.as_slice.ensures.value)))
    ∙ c.loop-steps.invariant.too_few

pub loop-steps-preserved : goal.loop-steps-preserved
loop-steps-preserved c = record {
  marks = c.in_ok-marks-2.ensures ∙ cc (c.as_slice-in-loop-steps.ensures.value, c.loop-steps.invariant.marks, leading_more c.args.graph.now c.args.target c.loop-steps.steps);
  count = long c.args.graph.now _ _ c.in_ok-marks-2.ensures;
  too_few =
      sym (few_past c.args.graph.now c.args.target c.loop-steps.steps c.loop-steps.marks.items c.loop-steps.invariant.marks c.loop-steps-test.true
      (cc (c.has_mark.ensures, c.if-has_mark.false, c.as_slice.ensures.value)))
      ∙ c.loop-steps.invariant.too_few;
}
