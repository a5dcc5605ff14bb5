-- Lists of slots, each empty or with a value; past the last one all are empty (this project's own).
use Rattle.std.specs.Prelude.{ℕ, zero, suc, List, [], ◌∷◌, ◌++◌, slice_get, Option, None, option_and_then}

-- what stands in a slot
abbrev pub slot : {A : Type 0} → List (Option A) → ℕ → Option A
slot slots at = option_and_then (λ value. value) (slice_get slots at)

-- the slots with one of them changed, and with those before it where there were fewer
abbrev pub edited : {A : Type 0} → List (Option A) → ℕ → (Option A → Option A) → List (Option A)
edited [] zero change = change None ∷ []
edited [] (suc at) change = None ∷ edited [] at change
edited (value ∷ slots) zero change = change value ∷ slots
edited (value ∷ slots) (suc at) change = value ∷ edited slots at change

-- the slots with so many empty ones after them
abbrev pub padded : {A : Type 0} → List (Option A) → ℕ → List (Option A)
padded slots zero = slots
padded slots (suc more) = padded (slots ++ None ∷ []) more
