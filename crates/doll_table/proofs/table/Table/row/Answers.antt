use Rattle.std.proofs.Common.{sym, ap}
use Rattle.doll_table.specs.Tables.{TableMap}
use Rattle.doll_table.proofs.Beyond.{past, row_beyond}
use Rattle.doll_table.proofs.table.Table.row.Goals as goal

pub returns-in-None : goal.returns-in-None
returns-in-None c =
    let beyond = past c.args.self.now c.deref.result.now c.self.inside.models.items c.args.model c.deref.ensures.value (ap (λ (t : TableMap). t.extents) c.self.view_is) c.in-None.ensures.lookup.3 in
    sym (row_beyond c.args.self.now c.args.model c.args.id beyond)
