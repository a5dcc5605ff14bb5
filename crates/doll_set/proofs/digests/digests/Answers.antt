use Rattle.std.proofs.Common.{◌∙◌}
use Rattle.doll_set.proofs.Known.{all_known}
use Rattle.doll_set.proofs.digests.digests.Goals as goal

pub returns-clause-digests : goal.returns-clause-digests
returns-clause-digests g c =
    all_known g.H.Hash16.hash_of c.args.templates.now c.args.graph.now c.enter_layers.new.digests
    (c.in_ok-enter_layers.ensures.long ∙ c.in_ok-digests.ensures) c.requires.long c.requires.shallow c.in_ok-enter_layers.ensures.known
