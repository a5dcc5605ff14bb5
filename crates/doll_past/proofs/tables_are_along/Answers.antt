use Rattle.doll_past.proofs.Along.{tables_are_along}
use Rattle.doll_past.proofs.tables_are_along.Goals as goal

pub returns : goal.returns
returns c = tables_are_along
