use Rattle.std.proofs.Common.{◌≡◌, drop}
use Rattle.doll_digest.specs.Registries.{names_in}
use Rattle.doll_set.specs.Dependencies.{named_by, number_named}
use Rattle.doll_set.proofs.Making.{made_with}
use Rattle.doll_set.proofs.dependencies.named_by.Given as goal

-- the numbers so far and those of the tags left are those of all
abbrev pub invariant-loop-tag : goal.invariant-loop-tag
invariant-loop-tag l = made_with (number_named (names_in l.names.keys) l.template) l.numbers (drop l.tag-index l.tags) ≡ named_by (names_in l.names.keys) l.template l.tags
