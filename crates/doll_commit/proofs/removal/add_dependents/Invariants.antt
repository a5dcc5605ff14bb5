use Rattle.std.proofs.Common.{◌≡◌, drop}
use Rattle.std.specs.List.{flat_map}
use Rattle.doll_commit.specs.Refs.{with_refs}
use Rattle.doll_commit.specs.Removed.{children_under, dependents}
use Rattle.doll_commit.proofs.removal.add_dependents.Given as goal

-- what is added and what is left give the whole
abbrev pub invariant-loop-many : goal.invariant-loop-many
invariant-loop-many l = with_refs l.removed (flat_map (children_under l.table l.gone.1) (drop l.many-index l.many-items)) ≡ with_refs l.fn.removed (dependents l.table l.schema l.gone)
