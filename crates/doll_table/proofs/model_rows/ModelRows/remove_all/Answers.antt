use Rattle.std.proofs.Common.{◌∙◌, ap, subst}
use Rattle.doll_table.specs.Tables.{without_ids}
use Rattle.doll_table.specs.Links.{HasFewer}
use Rattle.doll_table.proofs.Fewer.{kept_left}
use Rattle.doll_table.proofs.model_rows.ModelRows.remove_all.Goals as goal

pub invariant_of-self-2 : goal.invariant_of-self-2
invariant_of-self-2 c =
    kept_left c.self.inside.rows c.take_rows.new.rows c.self.inside.ids c.keep_living.new.self c.self.inside.links c.unlink_all.new.links c.args.ids.now c.self.invariant
    (c.in_ok-take_rows.ensures ∙ ap (λ m. without_ids m c.args.ids.now) c.in_ok-living.ensures) c.in_ok-keep_living.ensures.ok
    (subst (λ ls. HasFewer c.take_rows.new.rows ls c.unlink_all.new.links) c.in_ok-links.ensures c.in_ok-unlink_all.ensures.fewer) c.in_ok-unlink_all.ensures.none
