use Rattle.std.proofs.Common.{arith}
use Rattle.std.proofs.lemmas.Grind.{common_steps}
use Rattle.std.proofs.lemmas.List.Elements.{All-push}
use Rattle.doll_schema.specs.Limits.{HasFewParts}
use Rattle.doll_schema.proofs.linking.linked.Goals as goal

pub loop-number-preserved : goal.loop-number-preserved
loop-number-preserved c = record {
  so_far = grind (arith, common_steps);
  count = grind (arith, common_steps);
  few = rw c.in_ok-push.ensures.ok (All-push HasFewParts c.loop-number.models c.in_ok-model.model c.loop-number.invariant.few c.in_ok-model.ensures.few);
}
