-- What equal keys tell: the template, and each part of the key.
use Rattle.std.proofs.Common.{◌≡◌, ℕ, zero, suc, true, false, List, [], ◌∷◌, refl, ap, sym, subst, ◌∙◌}
use Rattle.std.specs.Cmp.Lexicographic.{slice_cmp}
use Rattle.std.specs.declared.cmp.Ordering.TheVariants.{Less}
use Rattle.std.specs.List.{AllByRecursion, slice_index_or}
use Rattle.std.specs.List.Sorted.{IsStrictlySortedBy}
use Rattle.std.specs.Ordering.{nat_cmp, ordering_reverse}
use Rattle.std.proofs.lemmas.Cmp.{nat_list_cmp_total}
use Rattle.doll_text.specs.Segments.{is_virtual_path}
use Rattle.doll_key.proofs.Uniqueness.{one_key}
use Rattle.doll_sound.specs.Keys.{KeysTellTemplates, key_of}

pub keys_tell_templates : KeysTellTemplates
keys_tell_templates set other schema others block twin table later vars more text versions updated has had =
    let same = one_key (key_of set schema block table vars) (key_of other others twin later more) has.is_key had.is_key (has.text_is ∙ sym had.text_is) in
    ((λ i. (same i).path), (λ i. (same i).digest))

-- ---- names

-- nothing is no path
no_path : (n : ℕ) → is_virtual_path (slice_index_or [] n []) ≡ false
unfolding is_virtual_path
no_path n = refl

-- names that ascend stand once each
above : (x : List ℕ) (names : List (List ℕ)) → AllByRecursion (λ y. slice_cmp nat_cmp x y ≡ Less) names → (n : ℕ) → is_virtual_path x ≡ true → x ≡ slice_index_or names n [] → ⊥
above x [] all n path e = absurd (cc (sym path ∙ ap is_virtual_path e ∙ no_path n))
above x (y ∷ ys) all zero path e =
    let here : slice_cmp nat_cmp x x ≡ Less = subst (λ z. slice_cmp nat_cmp x z ≡ Less) (sym e) all.0 in
    absurd (cc (sym here ∙ nat_list_cmp_total.antisymm x x ∙ ap ordering_reverse here))
above x (y ∷ ys) all (suc n) path e = above x ys all.1 n path e

pub one_place : (names : List (List ℕ)) → IsStrictlySortedBy (slice_cmp nat_cmp) names → (m n : ℕ) → is_virtual_path (slice_index_or names m []) ≡ true → slice_index_or names m [] ≡ slice_index_or names n [] → m ≡ n
unfolding IsStrictlySortedBy
one_place [] sorted m n path e = absurd (cc (sym path ∙ no_path m))
one_place (x ∷ xs) sorted zero zero path e = refl
one_place (x ∷ xs) sorted zero (suc n) path e = absurd (above x xs sorted.0 n path e)
one_place (x ∷ xs) sorted (suc m) zero path e = absurd (above x xs sorted.0 m (subst (λ name. is_virtual_path name ≡ true) e path) (sym e))
one_place (x ∷ xs) sorted (suc m) (suc n) path e = ap suc (one_place xs sorted.1 m n path e)
