use Rattle.std.proofs.Common.{◌≡◌, drop}
use Rattle.doll_commit.specs.Given.{fault_among, key_fault}
use Rattle.doll_commit.proofs.given.keys_fault.Given as goal

-- what is left decides
abbrev pub invariant-loop-association : goal.invariant-loop-association
invariant-loop-association l = fault_among (key_fault l.table (l.name, l.value)) (drop l.association-index l.associations) ≡ fault_among (key_fault l.table (l.name, l.value)) l.associations
