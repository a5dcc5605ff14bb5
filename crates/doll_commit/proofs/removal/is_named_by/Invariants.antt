use Rattle.std.proofs.Common.{◌≡◌, not, drop}
use Rattle.std.specs.List.{list_any, flat_map, enumerate_from}
use Rattle.doll_commit.specs.Refs.{Ref, has}
use Rattle.doll_commit.specs.Removed.{naming_by}
use Rattle.doll_commit.proofs.removal.is_named_by.Given as goal

-- what is left decides
abbrev pub invariant-loop-place : goal.invariant-loop-place
invariant-loop-place l =
    list_any (λ (ref : Ref). not (has l.removed ref)) (flat_map (naming_by l.table l.gone l.model) (enumerate_from l.place (drop l.place l.parents)))
    ≡ list_any (λ (ref : Ref). not (has l.removed ref)) (flat_map (naming_by l.table l.gone l.model) (enumerate_from 0 l.parents))
