use Rattle.std.proofs.Common.{◌∙◌, ap}
use Rattle.std.specs.FinMap as finite
use Rattle.doll_table.proofs.Kept.{kept_gained, kept_moved, kept_same}
use Rattle.doll_table.proofs.model_rows.ModelRows.put.Goals as goal

pub invariant_of-self-in_default : goal.invariant_of-self-in_default
invariant_of-self-in_default c =
    kept_gained c.self.inside.rows c.self.inside.ids c.self.inside.links c.self.invariant c.args.id c.args.row c.edit.new.self c.insert_linked.new.self c.insert_linked.new.links
    c.in_default.ensures (c.in_ok-edit.ensures.ok ∙ (ap (λ r. finite.insert c.in_ok-rows.rows c.args.id r) c.in_ok-value.ensures ∙ ap (λ m. finite.insert m c.args.id c.args.row) c.in_ok-rows.ensures)) c.in_ok-insert_linked.ensures.ok
    c.in_ok-insert_linked.ensures.links

pub invariant_of-self-then-same_parents : goal.invariant_of-self-then-same_parents
invariant_of-self-then-same_parents c =
    kept_same c.self.inside.rows c.self.inside.ids c.self.inside.links c.self.invariant c.args.id c.args.row c.in-Some.old.now c.edit-then-same_parents.new.self
    c.in-Some.ensures c.in_ok-edit-2.ensures.ok (c.same_parents.ensures.0 c.if-same_parents.true)

pub invariant_of-self-2 : goal.invariant_of-self-2
invariant_of-self-2 c =
    kept_moved c.self.inside.rows c.self.inside.ids c.self.inside.links c.self.invariant c.args.id c.args.row c.in-Some.old.now c.edit-2.new.self c.in_ok-links.links
    c.in-Some.ensures c.in_ok-edit-3.ensures.ok c.in_ok-links.ensures
