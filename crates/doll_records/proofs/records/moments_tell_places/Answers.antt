use Rattle.doll_records.proofs.Places.{moments_tell_places}
use Rattle.doll_records.proofs.records.moments_tell_places.Goals as goal

pub returns : goal.returns
returns c = moments_tell_places
