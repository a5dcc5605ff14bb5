use Rattle.doll_sound.proofs.Read.{schemas_have_plurals}
use Rattle.doll_sound.proofs.schemas_have_plurals.Goals as goal

pub returns : goal.returns
returns c = schemas_have_plurals
