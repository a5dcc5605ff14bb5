use Rattle.std.proofs.Common.{◌≡◌, ◌<◌, ◌++◌, drop, length, map}
use Rattle.std.specs.List.{AllByRecursion, fold}
use Rattle.doll_digest.specs.Registries.{NumbersStay, name_at, with_name}
use Rattle.doll_set.specs.Dependencies.{names_of}
use Rattle.doll_set.specs.Digests.{with_names}
use Rattle.doll_set.proofs.digests.ids_of.Given as goal

-- the names so far are in the registry at their numbers
abbrev pub invariant-loop-template : goal.invariant-loop-template
invariant-loop-template g l = record {
  entered : fold with_name l.registry (names_of (drop l.template-index l.templates)) ≡ with_names l.initial.registry l.templates;
  within : AllByRecursion (λ id. id < length l.registry.names) l.ids;
  named : map (name_at l.registry.names) l.ids ++ names_of (drop l.template-index l.templates) ≡ names_of l.templates;
  stay : NumbersStay l.initial.registry.names l.registry.names;
  texts : l.registry.texts ≡ l.initial.registry.texts;
}
