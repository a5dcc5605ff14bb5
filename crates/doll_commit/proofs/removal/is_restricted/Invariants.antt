use Rattle.std.proofs.Common.{◌≡◌, not, drop}
use Rattle.std.specs.List.{list_any}
use Rattle.doll_commit.specs.Refs.{Ref, has}
use Rattle.doll_commit.specs.Removed.{naming, is_restricted}
use Rattle.doll_commit.proofs.removal.is_restricted.Given as goal

-- what is left decides
abbrev pub invariant-loop-gone : goal.invariant-loop-gone
invariant-loop-gone l = list_any (λ (gone : Ref). list_any (λ (ref : Ref). not (has l.removed ref)) (naming l.table l.schema gone)) (drop l.gone-index l.removed) ≡ is_restricted l.table l.schema l.removed
