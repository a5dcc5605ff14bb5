-- The end of a loop over pairs.
use Rattle.std.proofs.Common.{◌≡◌, Bool, List, [], ◌∷◌, ◌++◌, map, refl, sym, ◌∙◌, ap, ◌⊎◌, inl, inr}
use Rattle.std.specs.List.{list_any, zip}
use Rattle.std.proofs.lemmas.List.{append-nil}

zip_none : {A B : Type 0} (xs : List A) (ys : List B) → (xs ≡ []) ⊎ (ys ≡ []) → zip xs ys ≡ []
zip_none xs ys (inl e) = ap (λ zs. zip zs ys) e
zip_none [] ys (inr e) = refl
zip_none (x ∷ xs) ys (inr e) = ap (λ zs. zip (x ∷ xs) zs) e

-- what was made is all of it
pub all_mapped : {A B C : Type 0} (f : A × B → C) (made whole : List C) (xs : List A) (ys : List B) → (xs ≡ []) ⊎ (ys ≡ []) → made ++ map f (zip xs ys) ≡ whole → made ≡ whole
all_mapped f made whole xs ys none is = sym (append-nil made) ∙ (ap (λ zs. made ++ map f zs) (sym (zip_none xs ys none)) ∙ is)

-- nothing passed the test
pub none_passed : {A B : Type 0} (test : A × B → Bool) (whole : Bool) (xs : List A) (ys : List B) → (xs ≡ []) ⊎ (ys ≡ []) → list_any test (zip xs ys) ≡ whole → list_any test [] ≡ whole
none_passed test whole xs ys none is = ap (list_any test) (sym (zip_none xs ys none)) ∙ is
