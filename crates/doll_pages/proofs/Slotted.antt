-- What stands in slots after a change of one.
use Rattle.std.proofs.Common.{◌≡◌, ℕ, zero, suc, ◌+◌, ◌-◌, ◌<◌, ◌≤◌, false, cond, List, [], ◌∷◌, ◌++◌, length, set, Option, None, get_or, eqb, refl, sym, ◌∙◌, ap, arith}
use Rattle.std.proofs.lemmas.Bool.Decides.{nat_tests}
use Rattle.doll_pages.specs.Slots.{slot, edited, padded}

later : (q : ℕ) → eqb (suc q) 0 ≡ false
later q = grind (arith, nat_tests)

sooner : (at : ℕ) → eqb 0 (suc at) ≡ false
sooner at = grind (arith, nat_tests)

shifted : (q at : ℕ) → eqb (suc q) (suc at) ≡ eqb q at
shifted q at = grind (arith, nat_tests)

module _ {A : Type 0} where
  pub padded_more : (xs : List (Option A)) (more at : ℕ) → at < more → padded xs (more - at) ≡ padded (xs ++ None ∷ []) (more - (at + 1))
  padded_more xs more at h = let e : more - at ≡ suc (more - (at + 1)) = omega arith in rw e refl

  edited_end : (xs : List (Option A)) (f : Option A → Option A) → edited xs (length xs) f ≡ xs ++ f None ∷ []
  edited_end [] f = refl
  edited_end (x ∷ xs) f = ap (λ t. x ∷ t) (edited_end xs f)

  edited_more : (xs : List (Option A)) (at : ℕ) (f : Option A → Option A) → length xs < at → edited xs at f ≡ edited (xs ++ None ∷ []) at f
  edited_more [] zero f h = absurd (omega arith)
  edited_more [] (suc at) f h = refl
  edited_more (x ∷ xs) zero f h = absurd (omega arith)
  edited_more (x ∷ xs) (suc at) f h = ap (λ t. x ∷ t) (edited_more xs at f (omega arith))

  -- a change of a slot past the last one
  pub edited_padded : (xs : List (Option A)) (more : ℕ) (f : Option A → Option A) → edited xs (length xs + more) f ≡ padded xs more ++ f None ∷ []
  edited_padded xs zero f = let e : length xs + 0 ≡ length xs = omega arith in rw e (edited_end xs f)
  edited_padded xs (suc more) f = let e : length xs + suc more ≡ length (xs ++ None ∷ []) + more = grind (arith, length_more) in edited_more xs (length xs + suc more) f (omega arith) ∙ (ap (λ n. edited (xs ++ None ∷ []) n f) e ∙ edited_padded (xs ++ None ∷ []) more f)
    where
      length_more : (xs : List (Option A)) → length (xs ++ None ∷ []) ≡ suc (length xs)
      length_more [] = refl
      length_more (x ∷ xs) = ap suc (length_more xs)

  -- a change of a slot that is there
  pub edited_within : (xs : List (Option A)) (at : ℕ) (f : Option A → Option A) (d : Option A) → at < length xs → edited xs at f ≡ set xs at (f (get_or xs at d))
  edited_within [] at f d h = absurd (omega arith)
  edited_within (x ∷ xs) zero f d h = refl
  edited_within (x ∷ xs) (suc at) f d h = ap (λ t. x ∷ t) (edited_within xs at f d (omega arith))

  pub slot-edited : (xs : List (Option A)) (at : ℕ) (f : Option A → Option A) (q : ℕ) → slot (edited xs at f) q ≡ cond (eqb q at) (f (slot xs at)) (slot xs q)
  slot-edited [] zero f zero = refl
  slot-edited [] zero f (suc q) = rw (later q) refl
  slot-edited [] (suc at) f zero = rw (sooner at) refl
  slot-edited [] (suc at) f (suc q) = rw (shifted q at) (slot-edited [] at f q)
  slot-edited (x ∷ xs) zero f zero = refl
  slot-edited (x ∷ xs) zero f (suc q) = rw (later q) refl
  slot-edited (x ∷ xs) (suc at) f zero = rw (sooner at) refl
  slot-edited (x ∷ xs) (suc at) f (suc q) = rw (shifted q at) (slot-edited xs at f q)

  -- slots that were padded, and then got their last
  pub edited_past : (xs ys zs : List (Option A)) (at len : ℕ) (f : Option A → Option A) (last : Option A) → ys ≡ xs → zs ≡ padded ys (at - len) → last ≡ f None → len ≡ length xs → len ≤ at → zs ++ last ∷ [] ≡ edited xs at f
  edited_past xs ys zs at len f last same made is long past =
      let e : length xs + (at - len) ≡ at = omega arith in
      rw (made, same, is) (sym (edited_padded xs (at - len) f) ∙ ap (λ n. edited xs n f) e)
