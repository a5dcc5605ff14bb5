use Rattle.std.proofs.Common.{◌∙◌, ap}
use Rattle.std.specs.Arc.{arc_value}
use Rattle.doll_table.specs.Ids.{has_id}
use Rattle.doll_table.proofs.Ascending.{rise_searched, is_there}
use Rattle.doll_table.proofs.id_list.IdList.contains.Goals as goal

pub seek-requires : goal.seek-requires
seek-requires c = rise_searched (arc_value c.self.inside.ids).items c.as_slice.result.now c.self.invariant (c.as_slice.ensures.value ∙ ap (λ v. v.items) c.deref.ensures)

pub returns : goal.returns
returns c =
    c.is_ok.ensures.value
    ∙ (is_there (arc_value c.self.inside.ids).items c.as_slice.result.now c.self.invariant (c.as_slice.ensures.value ∙ ap (λ v. v.items) c.deref.ensures) c.args.id c.seek.result c.seek.ensures
    ∙ ap (λ s. has_id s c.args.id) c.self.view_is)
