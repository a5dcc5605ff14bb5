use Rattle.doll_world.proofs.Renderers.{hits_are_found}
use Rattle.doll_world.proofs.laws.hits_are_found.Goals as goal

pub returns : goal.returns
returns c = hits_are_found
