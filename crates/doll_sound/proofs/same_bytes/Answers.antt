use Rattle.doll_sound.proofs.Fragments.{same_bytes}
use Rattle.doll_sound.proofs.same_bytes.Goals as goal

pub returns : goal.returns
returns c = same_bytes
