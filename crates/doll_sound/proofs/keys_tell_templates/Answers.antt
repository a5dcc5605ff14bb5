use Rattle.doll_sound.proofs.Keys.{keys_tell_templates}
use Rattle.doll_sound.proofs.keys_tell_templates.Goals as goal

pub returns : goal.returns
returns c = keys_tell_templates
