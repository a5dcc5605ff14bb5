use Rattle.doll_agree.proofs.Agreeing.{bodies_agree}
use Rattle.doll_agree.proofs.bodies_agree.Goals as goal

pub returns : goal.returns
returns c = bodies_agree
