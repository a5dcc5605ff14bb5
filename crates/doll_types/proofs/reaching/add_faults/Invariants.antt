use Rattle.std.proofs.Common.{◌≡◌, ◌++◌, take}
use Rattle.std.specs.List.{flat_map}
use Rattle.doll_set.specs.Digests.{name_at}
use Rattle.doll_types.specs.Faults.{fault_at}
use Rattle.doll_types.proofs.reaching.add_faults.Given as goal

-- the faults among what was found so far
abbrev pub invariant-loop-finding : goal.invariant-loop-finding
invariant-loop-finding l = l.faults.items ≡ l.fn.faults.items ++ flat_map (fault_at (name_at l.set.templates l.number)) (take l.finding-index l.found)
