use Rattle.doll.proofs.replaying.core_of.Goals as goal

pub open-world-requires-clause-plurals : goal.open-world-requires-clause-plurals
open-world-requires-clause-plurals c = rw c.in_ok-shared.ensures c.requires.plurals
