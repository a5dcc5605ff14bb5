use Rattle.doll_run.proofs.Opening.{pages_come}
use Rattle.doll_run.proofs.pages_come_out.Goals as goal

pub returns : goal.returns
returns c = pages_come
