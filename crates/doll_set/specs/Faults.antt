-- Which refusal of a set is one of a registry (this project's own).
use Rattle.doll_digest.specs.declared.registry.DigestFault.{DigestFault}
use Rattle.doll_digest.specs.declared.registry.DigestFault.TheVariants as digest_fault
use Rattle.doll_set.specs.declared.fault.SetFault.{SetFault}
use Rattle.doll_set.specs.declared.fault.SetFault.TheVariants.{Clash, Memory}

-- a clash is one; want of memory never comes from a definition
abbrev pub set_fault : DigestFault → SetFault
set_fault (digest_fault.Clash old new) = Clash old new
set_fault digest_fault.Memory = Memory
