use Rattle.std.proofs.Common.{◌≡◌, take}
use Rattle.std.specs.List.{flat_map}
use Rattle.doll_digest.specs.Registries.{names_in}
use Rattle.doll_set.specs.Partials as spec
use Rattle.doll_set.proofs.partials.partials_of.Given as goal

-- those of the tags so far
abbrev pub invariant-loop-tag : goal.invariant-loop-tag
invariant-loop-tag l = l.partials ≡ flat_map (spec.tag_partials (names_in l.names.keys) l.template.name) (take l.tag-index l.tag-items)
