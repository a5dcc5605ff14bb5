-- The number that digits say grows with each digit.
use Rattle.std.proofs.Common.{◌≡◌, ℕ, ◌+◌, ◌-◌, ◌*◌, ◌^◌, ◌<◌, ◌≤◌, pos, ℤ, Option, Some, None, List, [], ◌∷◌, length, get_or, nat_lt, cond, refl, arith}
use Rattle.std.specs.List.{fold}
use Rattle.std.proofs.lemmas.Bool.{le-ltb}

digits_grow : (n : ℕ) (digits : List ℕ) → n ≤ fold (λ v digit. 10 * v + (digit - 48)) n digits
digits_grow n [] = omega arith
digits_grow n (d ∷ digits) = let h = digits_grow (10 * n + (d - 48)) digits in omega (arith, h)

pub too_many_tens : (n whole : ℕ) (digits : List ℕ) → 0 < length digits → 922337203685477580 < n → fold (λ v digit. 10 * v + (digit - 48)) n digits ≡ whole → 2 ^ 63 ≤ whole
too_many_tens n whole [] some large e = absurd (omega arith)
too_many_tens n whole (d ∷ digits) some large e = let h = digits_grow (10 * n + (d - 48)) digits in omega (arith, h, e)

pub too_large : (n k whole : ℕ) (digits : List ℕ) → 0 < length digits → k ≡ get_or digits 0 0 - 48 → 9223372036854775807 < 10 * n + k → fold (λ v digit. 10 * v + (digit - 48)) n digits ≡ whole → 2 ^ 63 ≤ whole
too_large n k whole [] some is large e = absurd (omega arith)
too_large n k whole (d ∷ digits) some is large e = let h = digits_grow (10 * n + (d - 48)) digits in omega (arith, h, e)

pub no_room : (n : ℕ) → 2 ^ 63 ≤ n → ◌≡◌ {A = Option ℤ} None (cond (nat_lt n (2 ^ 63)) (Some (pos n)) None)
no_room n large = rw (le-ltb n (2 ^ 63) large) refl
