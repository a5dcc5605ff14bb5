use Rattle.std.proofs.Common.{◌∙◌, List, length, ap, sym}
use Rattle.doll_table.specs.Tables.{Extent, TableMap, without_rows}
use Rattle.doll_table.proofs.Without.{left_of, length_left, without_all}
use Rattle.doll_table.proofs.table.Table.remove_all.Goals as goal

pub invariant_of-self : goal.invariant_of-self
invariant_of-self c =
    ap length (c.in_ok-models.ensures ∙ ap (left_of c.args.records.now 0) c.as_slice.ensures.value) ∙ (length_left c.args.records.now 0 c.self.inside.models.items ∙ c.self.invariant)

pub returns-clause-ok : goal.returns-clause-ok
returns-clause-ok c =
    let before : TableMap = record { schema = c.self.inside.schema; extents = c.self.inside.models.items } in
    ap (λ (xs : List Extent). record before { extents = xs }) (c.in_ok-models.ensures ∙ ap (left_of c.args.records.now 0) c.as_slice.ensures.value)
    ∙ (sym (without_all c.args.records.now before) ∙ ap (λ t. without_rows t c.args.records.now) c.self.view_is)
