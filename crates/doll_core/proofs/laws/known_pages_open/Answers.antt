use Rattle.doll_core.proofs.Beginning.{pages_open}
use Rattle.doll_core.proofs.laws.known_pages_open.Goals as goal

pub returns : goal.returns
returns c = pages_open
