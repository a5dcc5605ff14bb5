use Rattle.doll_sound.proofs.Named.{schemas_have_names}
use Rattle.doll_sound.proofs.schemas_have_names.Goals as goal

pub returns : goal.returns
returns c = schemas_have_names
