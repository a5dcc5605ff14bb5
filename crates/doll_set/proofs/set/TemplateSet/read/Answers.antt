use Rattle.std.proofs.Common.{Ok, Err, ap, sym, subst, ◌∙◌}
use Rattle.doll_set.specs.declared.fault.SetFault.TheVariants.{Memory}
use Rattle.doll_set.specs.Dependencies.{names_of}
use Rattle.doll_set.specs.Digests.{digests_of, registered}
use Rattle.doll_set.specs.Order.{Ascend}
use Rattle.doll_set.specs.Partials.{all_partials}
use Rattle.doll_set.specs.Sets.{linked_graph, registry_after, set_of}
use Rattle.doll_set.proofs.Linking.{hands_on}
use Rattle.doll_set.proofs.Setting.{clashes, is_set, names_ascend, no_digests, no_graph, no_templates, of_held, whole_set}
use Rattle.doll_set.proofs.set.TemplateSet.read.Goals as goal

pub returns-in_err-templates-clause-answer : goal.returns-in_err-templates-clause-answer
returns-in_err-templates-clause-answer g c =
    let hash = g.H.Hash16.hash_of in
    hands_on Memory (set_of hash c.args.registry.now c.args.files.now) c.from_residual.result c.in_err-templates.field-0.0 c.from_residual.ensures.1
    (λ known. no_templates hash c.args.registry.now c.args.files.now c.in_err-templates.field-0.0 (c.in_err-templates.ensures.answer known))

pub names_of-requires : goal.names_of-requires
names_of-requires g c =
    subst (λ ts. Ascend (names_of ts)) (sym c.as_slice.ensures) (names_ascend c.args.files.now c.in_ok-templates.templates c.in_ok-templates.ensures.answer)

pub returns-in_err-graph-clause-answer : goal.returns-in_err-graph-clause-answer
returns-in_err-graph-clause-answer g c =
    let hash = g.H.Hash16.hash_of in
    let templates = c.in_ok-templates.templates in
    hands_on Memory (set_of hash c.args.registry.now c.args.files.now) c.from_residual-in_err-graph.result c.in_err-graph.field-0.0 c.from_residual-in_err-graph.ensures.1
    (λ known. no_graph hash c.args.registry.now c.args.files.now templates c.in_err-graph.field-0.0 c.in_ok-templates.ensures.answer
    (ap linked_graph (sym c.as_slice-2.ensures) ∙ c.in_err-graph.ensures.answer known))

pub returns-in_err-digests-clause-answer : goal.returns-in_err-digests-clause-answer
returns-in_err-digests-clause-answer g c =
    let hash = g.H.Hash16.hash_of in
    let templates = c.in_ok-templates.templates in
    let graph = c.in_ok-graph.graph in
    let fault = c.in_err-digests.field-0.0 in
    clashes (set_of hash c.args.registry.now c.args.files.now) c.from_residual-in_err-digests.result fault c.from_residual-in_err-digests.ensures.1
    (λ known. no_digests hash c.args.registry.now c.args.files.now templates graph fault c.in_ok-templates.ensures.answer (ap linked_graph (sym c.as_slice-2.ensures) ∙ c.in_ok-graph.ensures.answer)
    (of_held (registered hash c.args.registry.now) templates c.as_slice-4.result.now graph c.as_slice-5.result.now (Err fault) c.as_slice-4.ensures c.as_slice-5.ensures (c.in_err-digests.ensures.answer known)))

pub invariant_of-result : goal.invariant_of-result
invariant_of-result g c =
    let hash = g.H.Hash16.hash_of in
    let templates = c.in_ok-templates.templates in
    let graph = c.in_ok-graph.graph in
    let digests = c.in_ok-digests.digests in (
      is_set hash c.args.registry.now c.args.files.now templates graph digests c.in_ok-templates.ensures.answer (ap linked_graph (sym c.as_slice-2.ensures) ∙ c.in_ok-graph.ensures.answer)
          (sym (of_held (digests_of hash) templates c.as_slice-4.result.now graph c.as_slice-5.result.now digests c.as_slice-4.ensures c.as_slice-5.ensures (sym c.in_ok-digests.ensures.digests))),
      (c.in_ok-names.ensures ∙ ap names_of c.as_slice.ensures, c.in_ok-partials.ensures ∙ ap all_partials c.as_slice-3.ensures),
    )

pub returns-clause-answer : goal.returns-clause-answer
returns-clause-answer g c =
    let hash = g.H.Hash16.hash_of in
    let templates = c.in_ok-templates.templates in
    let graph = c.in_ok-graph.graph in
    let digests = c.in_ok-digests.digests in
    whole_set hash c.args.registry.now c.args.files.now templates graph digests c.digests.new.registry c.in_ok-templates.ensures.answer (ap linked_graph (sym c.as_slice-2.ensures) ∙ c.in_ok-graph.ensures.answer)
    (of_held (registered hash c.args.registry.now) templates c.as_slice-4.result.now graph c.as_slice-5.result.now (Ok c.digests.new.registry) c.as_slice-4.ensures c.as_slice-5.ensures c.in_ok-digests.ensures.answer)
    (sym (of_held (digests_of hash) templates c.as_slice-4.result.now graph c.as_slice-5.result.now digests c.as_slice-4.ensures c.as_slice-5.ensures (sym c.in_ok-digests.ensures.digests)))

pub returns-clause-registered : goal.returns-clause-registered
unfolding registry_after
returns-clause-registered g c =
    let hash = g.H.Hash16.hash_of in
    of_held (registered hash c.args.registry.now) c.in_ok-templates.templates c.as_slice-4.result.now c.in_ok-graph.graph c.as_slice-5.result.now (Ok c.digests.new.registry) c.as_slice-4.ensures c.as_slice-5.ensures c.in_ok-digests.ensures.answer
