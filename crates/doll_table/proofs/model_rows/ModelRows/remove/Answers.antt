use Rattle.std.proofs.Common.{◌∙◌, ap}
use Rattle.std.specs.FinMap as finite
use Rattle.doll_table.specs.Tables.{Extent}
use Rattle.doll_table.proofs.Kept.{kept_lost, not_there}
use Rattle.doll_table.proofs.model_rows.ModelRows.remove.Goals as goal

pub returns-in_default-clause-ok : goal.returns-in_default-clause-ok
returns-in_default-clause-ok c =
    let none = c.in_default.ensures ∙ ap (λ (e : Extent). finite.get e.rows c.args.id) c.self.view_is in
    ap (λ m. record { rows = m; next = c.args.self.now.next }) (not_there c.args.self.now.rows c.args.id none)

pub invariant_of-self-2 : goal.invariant_of-self-2
invariant_of-self-2 c =
    kept_lost c.self.inside.rows c.self.inside.ids c.self.inside.links c.self.invariant c.args.id c.in-Some.old.now c.edit.new.self c.remove_linked.new.self c.remove_linked.new.links
    c.in-Some.ensures (c.in_ok-edit.ensures.ok ∙ ap (λ m. finite.remove m c.args.id) c.in_ok-rows.ensures) c.in_ok-remove_linked.ensures.ok
    c.in_ok-remove_linked.ensures.links
