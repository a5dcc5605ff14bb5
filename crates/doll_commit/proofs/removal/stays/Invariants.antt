use Rattle.std.proofs.Common.{◌≡◌, ℕ, not, map, drop}
use Rattle.std.specs.List.{list_any}
use Rattle.doll_commit.specs.Refs.{Ref, has}
use Rattle.doll_commit.proofs.removal.stays.Given as goal

-- what is left decides
abbrev pub invariant-loop-id : goal.invariant-loop-id
invariant-loop-id l = list_any (λ (ref : Ref). not (has l.removed ref)) (map (λ (id : ℕ). (l.model, id)) (drop l.id-index l.ids)) ≡ list_any (λ (ref : Ref). not (has l.removed ref)) (map (λ (id : ℕ). (l.model, id)) l.ids)
