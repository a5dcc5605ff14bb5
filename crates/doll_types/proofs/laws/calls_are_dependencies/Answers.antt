use Rattle.doll_types.proofs.Depending.{calls_depend}
use Rattle.doll_types.proofs.laws.calls_are_dependencies.Goals as goal

pub returns : goal.returns
returns c = calls_depend
