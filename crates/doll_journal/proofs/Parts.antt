-- How long the bytes of the parts are.
use Rattle.std.proofs.Common.{◌≡◌, ℕ, ◌<◌, ◌≤◌, List, [], ◌∷◌, ◌++◌, length, get_or, ap, length-append, arith}
use Rattle.std.specs.Int.{w32, to_be_bytes}
use Rattle.std.specs.List.{flat_map}
use Rattle.std.proofs.lemmas.List.Concat.{flat_map-cons}
use Rattle.std.proofs.lemmas.List.Folds.{length-flat_map-take}
use Rattle.doll_schema.specs.declared.value.Value.{Value}
use Rattle.doll_journal.specs.declared.change.Change.{Change}
use Rattle.doll_journal.specs.declared.change.Change.TheVariants.{Create, Update, Destroy, Touch}
use Rattle.doll_journal.specs.Spelling.{text_bytes, value_bytes, pair_bytes, change_bytes}

-- each pair and each change has a byte at least
pub pair_long : (p : List ℕ × Value) → 1 ≤ length (pair_bytes p)
pair_long p = omega (arith, length-append (text_bytes p.0) (value_bytes p.1), length-append (to_be_bytes w32 (length p.0)) p.0)

pub change_long : (c : Change) → 1 ≤ length (change_bytes c)
change_long (Create model given) = omega arith
change_long (Update model id given) = omega arith
change_long (Destroy model id) = omega arith
change_long (Touch model id) = omega arith

-- there are no more items than bytes of them
pub count_le : {X : Type 0} (f : X → List ℕ) → ((x : X) → 1 ≤ length (f x)) → (xs : List X) → length xs ≤ length (flat_map f xs)
count_le f long [] = omega arith
count_le f long (x ∷ xs) = omega (arith, ap length (flat_map-cons f x xs), length-append (f x) (flat_map f xs), long x, count_le f long xs)

-- an item's bytes are no more than those of all items
pub item_below : {X : Type 0} (f : X → List ℕ) (xs : List X) (i : ℕ) (x : X) (limit : ℕ) → x ≡ get_or xs i x → i < length xs → length (flat_map f xs) < limit → length (f x) < limit
item_below f xs i x limit is lt below = omega (arith, length-flat_map-take f xs i x lt, ap (λ y. length (f y)) is)

-- what stands behind a count
pub behind_count : (n limit : ℕ) (bytes : List ℕ) → length (to_be_bytes w32 n ++ bytes) < limit → length bytes < limit
behind_count n limit bytes below = omega (arith, length-append (to_be_bytes w32 n) bytes)
