use Rattle.doll_types.proofs.Values.{values}
use Rattle.doll_types.proofs.laws.values_have_types.Goals as goal

pub returns : goal.returns
returns c = values
