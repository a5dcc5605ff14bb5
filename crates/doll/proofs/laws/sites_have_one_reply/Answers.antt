use Rattle.doll.proofs.Unique.{one_reply}
use Rattle.doll.proofs.laws.sites_have_one_reply.Goals as goal

pub returns : goal.returns
returns c = one_reply
