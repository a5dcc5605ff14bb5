use Rattle.std.proofs.Common.{◌+◌, ap, sym, subst, IfSome, ◌∙◌}
use Rattle.doll_journal.proofs.Fronts.{all_pushed}
use Rattle.doll_script.specs.Storable.{MayBeMade}
use Rattle.doll_script.specs.Lines.{order_in}
use Rattle.doll_script.specs.Scripts.{orders_from}
use Rattle.doll_script.proofs.Made.{made_more}
use Rattle.doll_script.proofs.script.Script.read.Goals as goal

pub loop-text-preserved : goal.loop-text-preserved
loop-text-preserved c =
    let read = ap order_in (sym c.as_bytes.ensures) ∙ sym c.in_ok-order.ensures.exact ∙ c.in-Some.is in
    record {
      count = ap (λ n. n + 1) c.loop-text.invariant.count;
      orders = rw c.in_ok-push.ensures.ok (made_more c.loop-text.orders c.loop-text.text-index c.args.lines.now c.text-item.result c.in-Some.order (orders_from 1 c.args.lines.now) c.loop-text-test.true c.text-item.is read c.loop-text.invariant.orders);
      storable = rw c.in_ok-push.ensures.ok (all_pushed MayBeMade c.loop-text.orders c.in-Some.order c.loop-text.invariant.storable (subst (λ o. IfSome o MayBeMade) c.in-Some.is c.in_ok-order.ensures.storable));
    }
