use Rattle.doll_digest.proofs.Frames.{one_template}
use Rattle.doll_digest.proofs.framing.one_template.Goals as goal

pub returns : goal.returns
returns c = one_template
