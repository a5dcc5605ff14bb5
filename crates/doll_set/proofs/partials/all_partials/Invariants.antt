use Rattle.std.proofs.Common.{◌≡◌, map, take}
use Rattle.doll_set.specs.Dependencies.{names_of}
use Rattle.doll_set.specs.Partials as spec
use Rattle.doll_set.proofs.partials.all_partials.Given as goal

-- those of the templates so far
abbrev pub invariant-loop-template : goal.invariant-loop-template
invariant-loop-template l = l.partials ≡ map (spec.partials_of (names_of l.templates)) (take l.template-index l.templates)
