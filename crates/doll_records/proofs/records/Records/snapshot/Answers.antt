use Rattle.std.proofs.Common.{◌∙◌, sym}
use Rattle.doll_records.proofs.Growing.{table_is}
use Rattle.doll_records.proofs.records.Records.snapshot.Goals as goal

pub returns-clause-whole : goal.returns-clause-whole
returns-clause-whole g c = rw (← c.self.view_is) (c.in_ok-table.ensures ∙ sym (table_is c.self.inside.schema c.self.inside.history.items c.self.inside.table c.self.inside.moment c.self.invariant.0))
