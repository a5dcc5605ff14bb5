use Rattle.std.proofs.Common.{◌∙◌, ap, filter}
use Rattle.std.specs.Arc.{arc_value}
use Rattle.std.specs.FinMap as finite
use Rattle.doll_table.specs.Links.{living_ids}
use Rattle.doll_table.proofs.Ascending.{retained}
use Rattle.doll_table.proofs.id_list.IdList.keep_living.Goals as goal

pub invariant_of-self : goal.invariant_of-self
invariant_of-self c =
    (retained (arc_value c.self.inside.ids).items (arc_value c.in_ok-self-inside.field-0).items (finite.contains_key c.args.rows.now) c.self.invariant
    (ap (λ v. v.items) c.in_ok-self-inside.ensures.ok ∙ (c.in_ok-living.ensures ∙ ap (filter (finite.contains_key c.args.rows.now)) (c.as_slice.ensures.value ∙ ap (λ v. v.items) c.deref.ensures)))).ascend

pub returns-clause-ok : goal.returns-clause-ok
returns-clause-ok c =
    (retained (arc_value c.self.inside.ids).items (arc_value c.in_ok-self-inside.field-0).items (finite.contains_key c.args.rows.now) c.self.invariant
    (ap (λ v. v.items) c.in_ok-self-inside.ensures.ok ∙ (c.in_ok-living.ensures ∙ ap (filter (finite.contains_key c.args.rows.now)) (c.as_slice.ensures.value ∙ ap (λ v. v.items) c.deref.ensures)))).is
    ∙ ap (living_ids c.args.rows.now) c.self.view_is
