-- What the calls of a source and of a sink do to the bytes that are left in the one and held by the other. Either
-- tells its bytes or tells nothing, and that never changes (this project's own).
use Rattle.std.specs.Prelude.{◌≡◌, ◌≤◌, ℕ, List, [], ◌++◌, length, take, drop, Option, Some, None}

-- These bytes were taken off the front of what was left.
abbrev pub Took : Option (List ℕ) → Option (List ℕ) → List ℕ → Type 0
Took None None bytes = Unit {0}
Took None (Some new) bytes = ⊥
Took (Some old) None bytes = ⊥
Took (Some old) (Some new) bytes = old ≡ bytes ++ new

-- This many bytes were taken off the front of what was left.
abbrev pub TookCount : ℕ → Option (List ℕ) → Option (List ℕ) → Type 0
TookCount count None None = Unit {0}
TookCount count None (Some new) = ⊥
TookCount count (Some old) None = ⊥
TookCount count (Some old) (Some new) = (count ≤ length old) × (new ≡ drop count old)

-- At most this many bytes were taken off the front of what was left.
abbrev pub TookAtMost : ℕ → Option (List ℕ) → Option (List ℕ) → Type 0
TookAtMost most old new = (count : ℕ) × (count ≤ most) × TookCount count old new

-- Nothing is left, where that is told.
abbrev pub IsAtEnd : Option (List ℕ) → Type 0
IsAtEnd None = Unit {0}
IsAtEnd (Some left) = left ≡ []

-- These items were added at the end of what was held or given.
abbrev pub Appended : Option (List ℕ) → Option (List ℕ) → List ℕ → Type 0
Appended None None items = Unit {0}
Appended None (Some new) items = ⊥
Appended (Some old) None items = ⊥
Appended (Some old) (Some new) items = new ≡ old ++ items

-- A first part of these items was added at the end, perhaps none or all of them.
abbrev pub AppendedPart : Option (List ℕ) → Option (List ℕ) → List ℕ → Type 0
AppendedPart old new items = (count : ℕ) × Appended old new (take count items)
