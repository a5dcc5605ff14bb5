-- The number that digits say.
use Rattle.std.proofs.Common.{◌≡◌, ◌≤◌, ◌<◌, ℕ, ◌+◌, ◌-◌, ◌*◌, List, [], ◌∷◌, length, drop, get_or, refl, false, nat_le, None, sym, ◌∙◌, arith}
use Rattle.std.proofs.lemmas.List.{at_drop_more}
use Rattle.std.proofs.lemmas.Bool.Decides.{nat_tests}
use Rattle.doll_script.specs.Numbers.{digits_from, number_in}

-- more digits say no smaller number
pub digits_from-grow : (number : ℕ) (digits : List ℕ) → number ≤ digits_from number digits
digits_from-grow number [] = omega arith
digits_from-grow number (digit ∷ digits) = omega (arith, digits_from-grow (10 * number + (digit - 48)) digits)

-- digits that say more than the greatest number are none
too_great : (digits : List ℕ) → 18446744073709551615 < digits_from 0 digits → number_in digits ≡ None
too_great digits over =
    let test : nat_le (digits_from 0 digits) 18446744073709551615 ≡ false = grind (arith, nat_tests) in
    rw test refl

-- nor are digits of which the first say more
pub number_in-over : (number at : ℕ) (digits : List ℕ) → digits_from number (drop at digits) ≡ digits_from 0 digits → at < length digits → 18446744073709551615 < 10 * number + (get_or digits at 0 - 48) → number_in digits ≡ None
number_in-over number at digits same within over =
    let next = 10 * number + (get_or digits at 0 - 48) in
    let more : digits_from number (drop at digits) ≡ digits_from next (drop (at + 1) digits) = at_drop_more (digits_from number) digits at 0 within in
    too_great digits (omega (arith, sym same ∙ more, digits_from-grow next (drop (at + 1) digits)))
