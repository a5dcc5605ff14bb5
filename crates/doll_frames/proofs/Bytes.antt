-- Numbers that a key may have.
use Rattle.std.proofs.Common.{◌≡◌, ◌<◌, ℕ, suc, Bool, true, false, ◌&&◌, List, [], ◌∷◌, slice_index_or, refl, arith}
use Rattle.std.specs.Prelude.{nat_lt}
use Rattle.std.specs.List.{list_all}
use Rattle.std.proofs.lemmas.Bool.Decides.{nat_tests}
use Rattle.doll_run.specs.Keys.{are_bytes}

below : (n : ℕ) → n < 256 → nat_lt n 256 ≡ true
below n h = grind (arith, nat_tests)

both : (a b : Bool) → a ≡ true → b ≡ true → (a && b) ≡ true
both true b h k = k
both false b h k = h

-- numbers below 256 are bytes
pub all_bytes : (text : List ℕ) → ((i : ℕ) → slice_index_or text i 0 < 256) → are_bytes text ≡ true
unfolding are_bytes
all_bytes [] h = refl
all_bytes (b ∷ text) h = both (nat_lt b 256) (list_all (λ b. nat_lt b 256) text) (below b (h 0)) (all_bytes text (λ i. h (suc i)))
