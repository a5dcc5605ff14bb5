use Rattle.std.proofs.Common.{length}
use Rattle.doll_key.specs.Reading.{IsMade}
use Rattle.doll_key.proofs.reading.components_in.Given as goal

abbrev pub invariant-loop-rest : goal.invariant-loop-rest
invariant-loop-rest l = IsMade l.text l.components l.rest

abbrev pub decreases-loop-rest : goal.decreases-loop-rest
decreases-loop-rest l = length l.rest
