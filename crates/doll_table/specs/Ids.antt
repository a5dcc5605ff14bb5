-- Sets of ids as finite maps to nothing, and the ascending lists that keep them (this project's own).
use Rattle.std.specs.Prelude.{ℕ, Bool, List, map, T}
use Rattle.std.specs.Ordering.{nat_cmp}
use Rattle.std.specs.FinMap as finite

-- a set of ids
abbrev pub IdSet : Type 0
IdSet = finite.FinMap nat_cmp (Unit {0})

-- the set with one more id
abbrev pub with_id : IdSet → ℕ → IdSet
with_id set id = finite.insert set id tt

-- the set without an id
abbrev pub without_id : IdSet → ℕ → IdSet
without_id set id = finite.remove set id

-- whether the set has an id
abbrev pub has_id : IdSet → ℕ → Bool
has_id set id = finite.contains_key set id

-- ids as the entries of their set
abbrev pub marked : List ℕ → List (ℕ × Unit {0})
marked = map (λ id. (id, tt))

-- the ids ascend
abbrev pub Ascend : List ℕ → Type 0
Ascend ids = T (finite.is_sorted nat_cmp (marked ids))

-- the set of ascending ids
abbrev pub set_of : List ℕ → IdSet
set_of ids = finite.from_sorted {R = nat_cmp} (marked ids)
