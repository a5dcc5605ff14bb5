use Rattle.std.proofs.Common.{◌∙◌, ap, sym}
use Rattle.std.specs.FinMap as finite
use Rattle.doll_table.proofs.Ascending.{keys_of}
use Rattle.doll_table.proofs.id_list.IdList.as_slice.Goals as goal

pub returns : goal.returns
returns c =
    c.as_slice.ensures.value ∙ (ap (λ v. v.items) c.deref.ensures
    ∙ (sym (keys_of _ c.self.invariant) ∙ ap finite.keys c.self.view_is))
