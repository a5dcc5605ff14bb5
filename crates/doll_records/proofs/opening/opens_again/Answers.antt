use Rattle.doll_records.proofs.Reopened.{opens_again}
use Rattle.doll_records.proofs.opening.opens_again.Goals as goal

pub returns : goal.returns
returns c = opens_again
