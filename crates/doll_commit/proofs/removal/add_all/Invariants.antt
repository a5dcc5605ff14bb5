use Rattle.std.proofs.Common.{◌≡◌, ℕ, map, drop}
use Rattle.doll_commit.specs.Refs.{with_refs}
use Rattle.doll_commit.proofs.removal.add_all.Given as goal

-- what is added and what is left give the whole
abbrev pub invariant-loop-id : goal.invariant-loop-id
invariant-loop-id l = with_refs l.refs (map (λ (id : ℕ). (l.model, id)) (drop l.id-index l.ids)) ≡ with_refs l.fn.refs (map (λ (id : ℕ). (l.model, id)) l.ids)
