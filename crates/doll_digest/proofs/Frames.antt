-- What a framed text is made of can be told from it.
use Rattle.std.proofs.Common.{◌≡◌, ◌<◌, ◌^◌, ℕ, List, [], ◌∷◌, ◌++◌, length, get_or, append_assoc, length-append, Result, Ok, refl, sym, ap, ◌∙◌, arith}
use Rattle.std.specs.Fmt.{decimal}
use Rattle.std.specs.List.{AllByRecursion, flat_map}
use Rattle.std.specs.Result.{result_unwrap_or}
use Rattle.std.specs.Str.Parse.{AllDigits}
use Rattle.std.proofs.lemmas.Fmt.{decimal_injective, decimal_is_IsNumeral}
use Rattle.std.proofs.lemmas.Str.Parse.{digit_from_value}
use Rattle.hex.specs.Hex.{IsBytes, decode_of, lower_digits}
use Rattle.hex.specs.declared.error.FromHexError.{FromHexError}
use Rattle.hex.proofs.HexLemmas.{decode_of-encode_lower, length-encode_with}
use Rattle.doll_digest.specs.Framing.{IsDependency, OneTemplate, framed_dependency, framed_text, hex_digits, net}

abbrev tail : List ℕ → List ℕ
tail [] = []
tail (x ∷ xs) = xs

-- what stands before a colon that is the first, and behind it
up_to_colon : (xs ys r s : List ℕ) → AllByRecursion (λ x. x ≡ 58 → ⊥) xs → AllByRecursion (λ y. y ≡ 58 → ⊥) ys → xs ++ 58 ∷ r ≡ ys ++ 58 ∷ s → (xs ≡ ys) × (r ≡ s)
up_to_colon [] [] r s xs_plain ys_plain e = (refl, ap tail e)
up_to_colon [] (y ∷ ys) r s xs_plain ys_plain e = absurd (ys_plain.0 (sym (ap (λ l. get_or l 0 0) e)))
up_to_colon (x ∷ xs) [] r s xs_plain ys_plain e = absurd (xs_plain.0 (ap (λ l. get_or l 0 0) e))
up_to_colon (x ∷ xs) (y ∷ ys) r s xs_plain ys_plain e =
    let rest = up_to_colon xs ys r s xs_plain.1 ys_plain.1 (ap tail e) in
    let first : x ≡ y = ap (λ l. get_or l 0 0) e in
    ((λ i. first i ∷ rest.0 i), rest.1)

-- no digit is a colon
digits_plain : (ds : List ℕ) → AllDigits 10 ds → AllByRecursion (λ d. d ≡ 58 → ⊥) ds
digits_plain [] all = tt
digits_plain (d ∷ ds) all = ((λ e. omega (arith, digit_from_value d all.0, e)), digits_plain ds all.1)

decimal_plain : (n : ℕ) → n < 2 ^ 64 → AllByRecursion (λ d. d ≡ 58 → ⊥) (decimal n)
decimal_plain n fits = digits_plain (decimal n) (decimal_is_IsNumeral n fits).0.1

-- what stands before a place, and behind it
up_to_length : (xs ys r s : List ℕ) → length xs ≡ length ys → xs ++ r ≡ ys ++ s → (xs ≡ ys) × (r ≡ s)
up_to_length [] [] r s same e = (refl, e)
up_to_length [] (y ∷ ys) r s same e = absurd (omega (arith, same))
up_to_length (x ∷ xs) [] r s same e = absurd (omega (arith, same))
up_to_length (x ∷ xs) (y ∷ ys) r s same e =
    let rest = up_to_length xs ys r s (omega (arith, same)) (ap tail e) in
    let first : x ≡ y = ap (λ l. get_or l 0 0) e in
    ((λ i. first i ∷ rest.0 i), rest.1)

net_before : (bytes r : List ℕ) → net bytes ++ r ≡ decimal (length bytes) ++ 58 ∷ (bytes ++ 44 ∷ r)
unfolding net
net_before bytes r =
    append_assoc (decimal (length bytes) ++ (58 ∷ bytes)) (44 ∷ []) r ∙ append_assoc (decimal (length bytes)) (58 ∷ bytes) (44 ∷ r)

-- the bytes of a frame, and what stands behind it
first_net : (a b r s : List ℕ) → length a < 2 ^ 64 → length b < 2 ^ 64 → net a ++ r ≡ net b ++ s → (a ≡ b) × (r ≡ s)
first_net a b r s a_fits b_fits e =
    let lengths = up_to_colon (decimal (length a)) (decimal (length b)) (a ++ 44 ∷ r) (b ++ 44 ∷ s) (decimal_plain (length a) a_fits) (decimal_plain (length b) b_fits)
    (sym (net_before a r) ∙ e ∙ net_before b s) in
    let bytes = up_to_length a b (44 ∷ r) (44 ∷ s) (decimal_injective (length a) (length b) a_fits b_fits lengths.0) lengths.1 in
    (bytes.0, ap tail bytes.1)

same_bytes : (a b : List ℕ) → IsBytes a → IsBytes b → hex_digits a ≡ hex_digits b → a ≡ b
same_bytes a b a_bytes b_bytes e =
    let read : (let given : Result (List ℕ) FromHexError = Ok a in given ≡ Ok b) = sym (decode_of-encode_lower a a_bytes) ∙ ap decode_of e ∙ decode_of-encode_lower b b_bytes in
    ap (λ r. result_unwrap_or r a) read

digits_fit : (digest : List ℕ) → length digest ≡ 16 → length (hex_digits digest) < 2 ^ 64
digits_fit digest len = omega (arith, length-encode_with lower_digits digest, len)

-- a dependency, and what stands behind it
first_dependency : (a b : List ℕ × List ℕ) (r s : List ℕ) → IsDependency a → IsDependency b → framed_dependency a ++ r ≡ framed_dependency b ++ s → (a ≡ b) × (r ≡ s)
first_dependency a b r s of_a of_b e =
    let names = first_net a.0 b.0 (net (hex_digits a.1) ++ r) (net (hex_digits b.1) ++ s) of_a.0 of_b.0
    (sym (append_assoc (net a.0) (net (hex_digits a.1)) r) ∙ e ∙ append_assoc (net b.0) (net (hex_digits b.1)) s) in
    let digests = first_net (hex_digits a.1) (hex_digits b.1) r s (digits_fit a.1 of_a.1.0) (digits_fit b.1 of_b.1.0) names.1 in
    let same = same_bytes a.1 b.1 of_a.1.1 of_b.1.1 digests.0 in
    ((λ i. (names.0 i, same i)), digests.1)

some_bytes : (a : List ℕ × List ℕ) (r : List ℕ) → 0 < length (framed_dependency a ++ r)
some_bytes a r =
    let front = ap length (append_assoc (net a.0) (net (hex_digits a.1)) r ∙ net_before a.0 (net (hex_digits a.1) ++ r)) in
    omega (arith, front, length-append (decimal (length a.0)) (58 ∷ (a.0 ++ 44 ∷ (net (hex_digits a.1) ++ r))))

all_dependencies : (of_a of_b : List (List ℕ × List ℕ)) → AllByRecursion IsDependency of_a → AllByRecursion IsDependency of_b
    → flat_map framed_dependency of_a ≡ flat_map framed_dependency of_b → of_a ≡ of_b
all_dependencies [] [] all_a all_b e = refl
all_dependencies [] (b ∷ of_b) all_a all_b e = absurd (omega (arith, ap length e, some_bytes b (flat_map framed_dependency of_b)))
all_dependencies (a ∷ of_a) [] all_a all_b e = absurd (omega (arith, ap length e, some_bytes a (flat_map framed_dependency of_a)))
all_dependencies (a ∷ of_a) (b ∷ of_b) all_a all_b e =
    let first = first_dependency a b (flat_map framed_dependency of_a) (flat_map framed_dependency of_b) all_a.0 all_b.0 e in
    let rest = all_dependencies of_a of_b all_a.1 all_b.1 first.1 in
    λ i. first.0 i ∷ rest i

pub one_template : OneTemplate
unfolding framed_text
one_template a b of_a of_b a_fits b_fits all_a all_b e =
    let first = first_net a b (flat_map framed_dependency of_a) (flat_map framed_dependency of_b) a_fits b_fits e in
    (first.0, all_dependencies of_a of_b all_a all_b first.1)
