use Rattle.doll_sound.proofs.Having.{keys_are_keys}
use Rattle.doll_sound.proofs.keys_are_keys.Goals as goal

pub returns : goal.returns
returns c = keys_are_keys
