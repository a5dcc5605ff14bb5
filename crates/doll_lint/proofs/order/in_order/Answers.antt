use Rattle.std.proofs.Common.{subst, sym}
use Rattle.doll_lint.specs.Order.{AreInOrder}
use Rattle.doll_lint.proofs.Sorting.{sorted_once}
use Rattle.doll_lint.proofs.order.in_order.Goals as goal

pub returns : goal.returns
returns c =
    subst (AreInOrder c.args.faults.items) (sym c.from_vec.ensures)
    (sorted_once c.args.faults.items c.sort.new.self.items c.dedup.new.self.items c.sort.ensures.permutation c.in_ok-sort.ensures.sorted c.dedup.ensures.filtered)
