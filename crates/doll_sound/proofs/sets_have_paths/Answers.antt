use Rattle.doll_sound.proofs.ReadSets.{sets_have_paths}
use Rattle.doll_sound.proofs.sets_have_paths.Goals as goal

pub returns : goal.returns
returns c = sets_have_paths
