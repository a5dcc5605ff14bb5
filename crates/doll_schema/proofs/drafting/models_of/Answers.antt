use Rattle.std.proofs.Common.{arith}
use Rattle.std.proofs.lemmas.Grind.{common_steps}
use Rattle.std.proofs.lemmas.List.Elements.{All-push}
use Rattle.doll_schema.specs.Limits.{HasFewDrafts}
use Rattle.doll_schema.proofs.drafting.models_of.Goals as goal

pub loop-item-preserved : goal.loop-item-preserved
loop-item-preserved c = record {
  so_far = grind (arith, common_steps);
  count = grind (arith, common_steps);
  few = rw c.in_ok-push.ensures.ok (All-push HasFewDrafts c.loop-item.models c.in_ok-model.model c.loop-item.invariant.few c.in_ok-model.ensures.few);
}
