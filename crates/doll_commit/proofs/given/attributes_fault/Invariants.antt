use Rattle.std.proofs.Common.{◌≡◌, drop}
use Rattle.doll_commit.specs.Given.{fault_among, attribute_fault}
use Rattle.doll_commit.proofs.given.attributes_fault.Given as goal

-- what is left decides
abbrev pub invariant-loop-attribute : goal.invariant-loop-attribute
invariant-loop-attribute l = fault_among (attribute_fault (l.name, l.value)) (drop l.attribute-index l.attributes) ≡ fault_among (attribute_fault (l.name, l.value)) l.attributes
