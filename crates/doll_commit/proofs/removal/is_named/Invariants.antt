use Rattle.std.proofs.Common.{◌≡◌, ℕ, not, drop}
use Rattle.std.specs.List.{list_any, flat_map, enumerate_from}
use Rattle.doll_schema.specs.declared.model.Model.{Model}
use Rattle.doll_commit.specs.Refs.{Ref, has}
use Rattle.doll_commit.specs.Removed.{naming, naming_by}
use Rattle.doll_commit.proofs.removal.is_named.Given as goal

-- what is left decides
abbrev pub invariant-loop-number : goal.invariant-loop-number
invariant-loop-number l =
    list_any (λ (ref : Ref). not (has l.removed ref)) (flat_map (λ (m : ℕ × Model). flat_map (naming_by l.table l.gone m.0) (enumerate_from 0 m.1.belongs_to)) (enumerate_from l.number (drop l.number l.schema.models)))
    ≡ list_any (λ (ref : Ref). not (has l.removed ref)) (naming l.table l.schema l.gone)
