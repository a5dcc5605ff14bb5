use Rattle.doll_past.proofs.Between.{records_live_on}
use Rattle.doll_past.proofs.records_live_on.Goals as goal

pub returns : goal.returns
returns c = records_live_on
