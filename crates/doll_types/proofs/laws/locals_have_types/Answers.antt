use Rattle.doll_types.proofs.Values.{locals_fit}
use Rattle.doll_types.proofs.laws.locals_have_types.Goals as goal

pub returns : goal.returns
returns c = locals_fit
