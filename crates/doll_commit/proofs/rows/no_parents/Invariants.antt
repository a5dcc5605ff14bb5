use Rattle.std.proofs.Common.{◌≡◌, ℕ, List, Option, None, map, take}
use Rattle.doll_schema.specs.declared.model.BelongsTo.{BelongsTo}
use Rattle.doll_commit.proofs.rows.no_parents.Given as goal

-- each association passed has no key
abbrev pub invariant-loop-association : goal.invariant-loop-association
invariant-loop-association l = ◌≡◌ {A = List (Option ℕ)} l.parents (map (λ (b : BelongsTo). None) (take l._association-index l.associations))
