use Rattle.std.proofs.Common.{◌≡◌, take}
use Rattle.doll_digest.specs.Registries.{names_in}
use Rattle.doll_set.specs.Dependencies as spec
use Rattle.doll_set.proofs.dependencies.index_of_names.Given as goal

-- the names so far
abbrev pub invariant-loop-template : goal.invariant-loop-template
invariant-loop-template l = names_in l.names.keys ≡ take l.template-index (spec.names_of l.templates)
