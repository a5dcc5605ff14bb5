-- The numbers beside tags where one of the two lists has ended.
use Rattle.std.proofs.Common.{◌≡◌, ℕ, List, [], ◌∷◌, ◌++◌, ◌⊎◌, inl, inr, refl, ap, sym, ◌∙◌}
use Rattle.std.proofs.lemmas.List.{append-nil}
use Rattle.doll_set.specs.Dependencies.{rendered}
use Rattle.doll_set.specs.declared.dependencies.PartialTag.{PartialTag}

none_beside : (tags : List PartialTag) → rendered tags [] ≡ []
none_beside [] = refl
none_beside (tag ∷ tags) = refl

pub all_rendered : (ids whole : List ℕ) (tags : List PartialTag) (numbers : List ℕ) → (tags ≡ []) ⊎ (numbers ≡ []) → ids ++ rendered tags numbers ≡ whole → ids ≡ whole
all_rendered ids whole tags numbers ended so_far = sym (ap (λ more. ids ++ more) (nothing ended) ∙ append-nil ids) ∙ so_far
  where
    nothing : (tags ≡ []) ⊎ (numbers ≡ []) → rendered tags numbers ≡ []
    nothing (inl none) = ap (λ ts. rendered ts numbers) none
    nothing (inr none) = ap (rendered tags) none ∙ none_beside tags
