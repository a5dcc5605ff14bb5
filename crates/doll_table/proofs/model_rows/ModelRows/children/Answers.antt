use Rattle.std.proofs.Common.{◌∙◌, ap, ℕ, map, filter}
use Rattle.std.specs.FinMap as finite
use Rattle.doll_schema.specs.declared.value.Row.{Row}
use Rattle.doll_table.specs.Tables.{Extent, names_parent}
use Rattle.doll_table.proofs.Kept.{children_are}
use Rattle.doll_table.proofs.model_rows.ModelRows.children.Goals as goal

pub returns : goal.returns
returns c =
    c.children.ensures ∙ (children_are c.self.inside.rows c.self.inside.ids c.self.inside.links c.self.invariant c.args.place c.args.parent
    ∙ ap (λ (x : Extent). map (λ (e : ℕ × Row). e.0) (filter (λ (e : ℕ × Row). names_parent c.args.place c.args.parent e.1) (finite.entries x.rows))) c.self.view_is)
