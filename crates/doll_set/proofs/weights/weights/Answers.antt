use Rattle.std.proofs.Common.{◌∙◌}
use Rattle.std.proofs.lemmas.List.{length-map}
use Rattle.doll_set.specs.declared.dependencies.Links.{Links}
use Rattle.doll_set.specs.Weights as spec
use Rattle.doll_set.proofs.Weighing.{level_more}
use Rattle.doll_set.proofs.weights.weights.Goals as goal

pub loop-level-preserved : goal.loop-level-preserved
loop-level-preserved c =
    level_more 4294967295 c.args.nodes.now (spec.rendered_by c.args.links.now) (length-map c.args.links.now (λ (l : Links). l.rendered) ∙ c.requires.count)
    c.loop-level._level c.as_slice.result.now c.in_ok-weights-2.weights.items (c.as_slice.ensures.value ∙ c.loop-level.invariant) c.in_ok-weights-2.ensures
