use Rattle.doll_world.proofs.Renderers.{handed_in_is_sound}
use Rattle.doll_world.proofs.laws.handed_in_is_sound.Goals as goal

pub returns : goal.returns
returns c = handed_in_is_sound
