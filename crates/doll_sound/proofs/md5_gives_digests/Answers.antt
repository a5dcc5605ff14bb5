use Rattle.doll_sound.proofs.Hashes.{md5_gives_digests}
use Rattle.doll_sound.proofs.md5_gives_digests.Goals as goal

pub returns : goal.returns
returns c = md5_gives_digests
