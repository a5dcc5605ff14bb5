use Rattle.doll_core.proofs.Ending.{ends}
use Rattle.doll_core.proofs.laws.turns_end_with_a_page.Goals as goal

pub returns : goal.returns
returns c = ends
