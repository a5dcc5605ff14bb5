use Rattle.doll_set.proofs.Depending.{tags_depend}
use Rattle.doll_set.proofs.set.tags_are_dependencies.Goals as goal

pub returns : goal.returns
returns c = tags_depend
