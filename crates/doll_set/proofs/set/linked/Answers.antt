use Rattle.std.proofs.Common.{length, ap, sym, ◌∙◌}
use Rattle.doll_set.specs.declared.fault.SetFault.TheVariants.{Memory}
use Rattle.doll_set.specs.Dependencies.{graph_of}
use Rattle.doll_set.specs.Sets.{fit, linked_graph}
use Rattle.doll_set.proofs.Linking.{each_is_there, hands_on, not_fit, not_linked}
use Rattle.doll_set.proofs.set.linked.Goals as goal

pub returns-in_err-links-clause-answer : goal.returns-in_err-links-clause-answer
returns-in_err-links-clause-answer c =
    hands_on Memory (linked_graph c.args.templates.now) c.from_residual.result c.in_err-links.field-0.0 c.from_residual.ensures.1
    (λ known. not_linked c.args.templates.now c.in_err-links.field-0.0 (c.in_err-links.ensures.answer known))

pub returns-in_err-fit-clause-answer : goal.returns-in_err-fit-clause-answer
returns-in_err-fit-clause-answer c =
    hands_on Memory (linked_graph c.args.templates.now) c.from_residual-in_err-fit.result c.in_err-fit.field-0.0 c.from_residual-in_err-fit.ensures.1
    (λ known. not_fit c.args.templates.now c.in_ok-links.links c.in_err-fit.field-0.0 c.in_ok-links.ensures.answer (ap (fit c.args.templates.now) (sym c.as_slice-2.ensures) ∙ c.in_err-fit.ensures.answer known))

pub returns-clause-closed : goal.returns-clause-closed
returns-clause-closed c =
    each_is_there (length c.args.templates.now) c.in_ok-links.links c.in_ok-graph.graph (c.in_ok-graph.ensures ∙ ap graph_of c.as_slice.ensures) c.in_ok-links.ensures.each c.in_ok-links.ensures.closed
