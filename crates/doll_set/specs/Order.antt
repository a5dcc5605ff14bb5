-- The order of names (this project's own).
use Rattle.std.specs.Prelude.{ℕ, Bool, List}
use Rattle.std.specs.Cmp.Lexicographic.{slice_cmp}
use Rattle.std.specs.List.{insert, prefix_len}
use Rattle.std.specs.List.Sorted.{IsStrictlySortedBy}
use Rattle.std.specs.Ordering.{is_le, nat_cmp}

-- a name isn't above another, by their bytes
abbrev pub isnt_above : List ℕ → List ℕ → Bool
isnt_above a b = is_le (slice_cmp nat_cmp a b)

-- one more of what has names, behind those whose names aren't above its own, so that equal names keep their order
abbrev pub put_by_name : {X : Type 0} → (X → List ℕ) → List X → X → List X
put_by_name name ones one = insert ones (prefix_len (λ other. isnt_above (name other) (name one)) ones) one

-- names ascend, each once
abbrev pub Ascend : List (List ℕ) → Type 0
Ascend names = IsStrictlySortedBy (slice_cmp nat_cmp) names
