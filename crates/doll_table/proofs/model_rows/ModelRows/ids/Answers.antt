use Rattle.std.proofs.Common.{◌∙◌, ap}
use Rattle.std.specs.FinMap as finite
use Rattle.doll_table.specs.Tables.{Extent}
use Rattle.doll_table.proofs.Kept.{ids_are}
use Rattle.doll_table.proofs.model_rows.ModelRows.ids.Goals as goal

pub returns : goal.returns
returns c =
    c.as_slice.ensures ∙ (ids_are c.self.inside.rows c.self.inside.ids c.self.inside.links c.self.invariant
    ∙ ap (λ (e : Extent). finite.keys e.rows) c.self.view_is)
