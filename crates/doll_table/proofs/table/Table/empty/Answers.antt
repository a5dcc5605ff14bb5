use Rattle.std.proofs.Common.{arith}
use Rattle.std.proofs.lemmas.Grind.{common_steps}
use Rattle.doll_table.proofs.Fitting.{equal_fits}
use Rattle.doll_table.proofs.table.Table.empty.Goals as goal

pub returns-clause-fits : goal.returns-clause-fits
returns-clause-fits c = equal_fits c.args.schema.now _ (grind (arith, common_steps))
