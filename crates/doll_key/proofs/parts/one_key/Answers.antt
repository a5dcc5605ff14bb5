use Rattle.doll_key.proofs.Uniqueness.{one_key}
use Rattle.doll_key.proofs.parts.one_key.Goals as goal

pub returns : goal.returns
returns c = one_key
