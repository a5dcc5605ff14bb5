use Rattle.std.proofs.Common.{◌<◌, sym, subst, ◌∙◌, arith}
use Rattle.std.proofs.lemmas.List.{length-map}
use Rattle.doll_set.specs.declared.dependencies.Links.{Links}
use Rattle.doll_set.specs.declared.template.Template.{Template}
use Rattle.doll_set.specs.declared.limits.TheConstants.{GREATEST_WEIGHT, LONGEST_CHAIN}
use Rattle.doll_set.specs.Weights as spec
use Rattle.doll_set.proofs.Weighing.{as_long, first_found}
use Rattle.doll_set.proofs.weights.first_too_wide.Goals as goal

pub first_above-requires : goal.first_above-requires
first_above-requires c =
    record {
      count =
          subst (λ n. n < 4294967296)
          (sym (as_long 4294967295 (spec.node_counts c.args.templates.now) c.as_slice.result.now c.as_slice-2.result.now (spec.rendered_by c.args.links.now) LONGEST_CHAIN (c.as_slice.ensures.value ∙ c.in_ok-nodes.ensures) (c.as_slice-2.ensures.value ∙ c.in_ok-weights.ensures)
          ∙ length-map c.args.templates.now (λ (t : Template). spec.nodes_in t.tree)))
          c.requires.count;
    }

pub returns : goal.returns
returns c =
    c.first_above.ensures
    ∙ first_found GREATEST_WEIGHT 4294967295 (omega arith) (spec.node_counts c.args.templates.now) (spec.rendered_by c.args.links.now)
    (length-map c.args.links.now (λ (l : Links). l.rendered) ∙ c.requires.links ∙ sym (length-map c.args.templates.now (λ (t : Template). spec.nodes_in t.tree)))
    c.as_slice.result.now c.as_slice-2.result.now (c.as_slice.ensures.value ∙ c.in_ok-nodes.ensures) LONGEST_CHAIN (c.as_slice-2.ensures.value ∙ c.in_ok-weights.ensures)
