use Rattle.doll_sound.proofs.Entries.{sound_is_shown}
use Rattle.doll_sound.proofs.sound_is_shown.Goals as goal

pub returns : goal.returns
returns c = sound_is_shown
