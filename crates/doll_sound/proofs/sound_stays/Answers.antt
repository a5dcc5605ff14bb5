use Rattle.doll_sound.proofs.Entries.{sound_stays}
use Rattle.doll_sound.proofs.sound_stays.Goals as goal

pub returns : goal.returns
returns c = sound_stays
