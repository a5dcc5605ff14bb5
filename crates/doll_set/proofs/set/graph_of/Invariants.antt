use Rattle.std.proofs.Common.{◌≡◌, take}
use Rattle.doll_set.specs.Dependencies as spec
use Rattle.doll_set.proofs.set.graph_of.Given as goal

-- those of the links so far
abbrev pub invariant-loop-one : goal.invariant-loop-one
invariant-loop-one l = l.graph ≡ spec.graph_of (take l.one-index l.links)
