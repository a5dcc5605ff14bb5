use Rattle.std.proofs.Common.{◌≡◌, ◌++◌, OnOk, subst}
use Rattle.doll_lint.specs.Shared.{shared_in_order}
use Rattle.doll_lint.proofs.Grouping.{told_ok}
use Rattle.doll_lint.proofs.shared.add_shared.Goals as goal

pub returns : goal.returns
returns c =
    told_ok c.args.set.now c.add_in_order.result c.args.notes.items c.in_ok-notes.notes.items c.args.faults.now.items c.add_in_order.new.faults.items c.in_ok-notes.ensures
    (subst (λ ns. OnOk c.add_in_order.result (c.add_in_order.new.faults.items ≡ c.args.faults.now.items ++ shared_in_order c.args.set.now ns)) c.as_slice.ensures.value c.add_in_order.ensures)
