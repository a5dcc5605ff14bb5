use Rattle.doll_sound.proofs.Entries.{shown_is_sound}
use Rattle.doll_sound.proofs.shown_is_sound.Goals as goal

pub returns : goal.returns
returns c = shown_is_sound
