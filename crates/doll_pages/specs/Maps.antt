-- A map from 32-bit numbers in slots of slots, as a finite map (this project's own).
use Rattle.std.specs.Prelude.{ℕ, zero, suc, ◌*◌, ◌/◌, ◌%◌, List, length, Option, None, Some, option_and_then}
use Rattle.std.specs.Ordering.{nat_cmp}
use Rattle.std.specs.FinMap as finite
use Rattle.doll_pages.specs.Slots.{slot}

-- the map with this value under a key, or with none there
abbrev pub with_option : {A : Type 0} → finite.FinMap nat_cmp A → ℕ → Option A → finite.FinMap nat_cmp A
with_option map key None = finite.remove map key
with_option map key (Some value) = finite.insert map key value

-- the map with what stands under a key changed
abbrev pub altered : {A : Type 0} → finite.FinMap nat_cmp A → ℕ → (Option A → Option A) → finite.FinMap nat_cmp A
altered map key change = with_option map key (change (finite.get map key))

-- the map that has under each number below a bound what a function gives
unfoldable pub map_below : {A : Type 0} → (ℕ → Option A) → ℕ → finite.FinMap nat_cmp A
map_below value zero = finite.empty
map_below value (suc bound) = with_option (map_below value bound) bound (value bound)

-- what stands under a key of a part, where the part stands in a slot
abbrev pub under : {A B K : Type 0} → (A → K → Option B) → List (Option A) → ℕ × K → Option B
under look parts key = option_and_then (λ part. look part key.1) (slot parts key.0)

-- four lists of slots in one another
abbrev pub Root : Type 0 → Type 0
Root A = List (Option (List (Option (List (Option (List (Option A)))))))

-- the slots of a number, outermost first; the lists within the outermost have 64, 16 and 16
abbrev pub path : ℕ → ℕ × (ℕ × (ℕ × ℕ))
path id = (id / 16384, (id / 256 % 64, (id / 16 % 16, id % 16)))

-- what stands under a number
abbrev pub found : {A : Type 0} → Root A → ℕ → Option A
found root id = under (under (under slot)) root (path id)

-- the map of what stands under each number
abbrev pub map_of : {A : Type 0} → Root A → finite.FinMap nat_cmp A
map_of root = map_below (found root) (length root * 16384)
