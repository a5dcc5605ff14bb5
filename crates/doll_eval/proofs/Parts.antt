-- A whole number that fits.
use Rattle.std.proofs.Common.{◌≡◌, Bool, true, false, ℤ, pos, negsuc, Option, Some, None, arith, ap, refl}
use Rattle.std.specs.Option.{SomeIff}
use Rattle.std.specs.Prelude.{FitsSigned}
use Rattle.std.specs.Int.{w64}
use Rattle.std.proofs.lemmas.Bool.Decides.{nat_tests}
use Rattle.doll_eval.specs.Operations.{whole, whole_if, has_64_bits}

fits_has : (z : ℤ) → FitsSigned w64 z → has_64_bits z ≡ true
fits_has (pos n) h = grind (arith, nat_tests)
fits_has (negsuc n) h = grind (arith, nat_tests)

has_fits : (z : ℤ) → has_64_bits z ≡ true → FitsSigned w64 z
has_fits (pos n) h = record { sfits = grind (arith, nat_tests) }
has_fits (negsuc n) h = record { sfits = grind (arith, nat_tests) }

-- the number that a checked operation gives is the whole number that it stands for
pub whole_fits : (r : Option ℤ) (z : ℤ) → SomeIff r (FitsSigned w64 z) z → whole_if r ≡ whole z
whole_fits None z h = by_test z (has_64_bits z) refl h
  where
    by_test : (z : ℤ) (b : Bool) → has_64_bits z ≡ b → (FitsSigned w64 z → ⊥) → whole_if None ≡ whole z
    by_test z true e h = absurd (h (has_fits z e))
    by_test z false e h = rw e refl
whole_fits (Some x) z h = rw (fits_has z h.0) (ap (λ n. whole_if (Some n)) h.1)
