use Rattle.doll_sound.proofs.Named.{read_has_names}
use Rattle.doll_sound.proofs.what_was_read_has_names.Goals as goal

pub returns : goal.returns
returns c = read_has_names
