-- Making something of each of some things, one after another.
use Rattle.std.proofs.Common.{◌≡◌, ℕ, ◌+◌, ◌<◌, ◌≤◌, List, [], ◌∷◌, ◌++◌, length, drop, get_or, Result, Ok, Err, refl, ap, sym, ◌∙◌}
use Rattle.std.proofs.lemmas.List.{append-nil, append_assoc, at_drop_more, at_drop_all}
use Rattle.doll_text.specs.Steps.{◌>>=◌}
use Rattle.doll_set.specs.Dependencies.{each_made}

-- what was made before, and what more is made
abbrev pub with_more : {Y F : Type 0} → List Y → Result (List Y) F → Result (List Y) F
with_more made (Ok more) = Ok (made ++ more)
with_more made (Err fault) = Err fault

module _ {X Y F : Type 0} (make : X → Result Y F) where
  -- what was made so far, and what is made of what is left
  abbrev pub made_with : List Y → List X → Result (List Y) F
  made_with made left = with_more made (each_made make left)

  pub none_made : (xs : List X) → made_with [] xs ≡ each_made make xs
  none_made xs = by (each_made make xs)
    where
      by : (r : Result (List Y) F) → with_more [] r ≡ r
      by (Ok more) = refl
      by (Err fault) = refl

  moved : (made : List Y) (y : Y) (xs : List X) → with_more made (each_made make xs >>= (λ ys. Ok (y ∷ ys))) ≡ made_with (made ++ y ∷ []) xs
  moved made y xs = by (each_made make xs)
    where
      by : (r : Result (List Y) F) → with_more made (r >>= (λ ys. Ok (y ∷ ys))) ≡ with_more (made ++ y ∷ []) r
      by (Ok more) = ap Ok (sym (append_assoc made (y ∷ []) more))
      by (Err fault) = refl

  pub one_made : (xs : List X) (at : ℕ) (x : X) (y : Y) (made after : List Y) (whole : Result (List Y) F) → at < length xs → x ≡ get_or xs at x → make x ≡ Ok y → after ≡ made ++ y ∷ [] → made_with made (drop at xs) ≡ whole → made_with after (drop (at + 1) xs) ≡ whole
  one_made xs at x y made after whole within is makes pushed so_far =
      ap (λ m. made_with m (drop (at + 1) xs)) pushed
      ∙ sym (moved made y (drop (at + 1) xs))
      ∙ ap (λ r. with_more made (r >>= (λ first. each_made make (drop (at + 1) xs) >>= (λ ys. Ok (first ∷ ys))))) (sym makes ∙ ap make is)
      ∙ sym (at_drop_more (made_with made) xs at x within)
      ∙ so_far

  pub one_fails : (xs : List X) (at : ℕ) (x : X) (fault : F) (made : List Y) (whole : Result (List Y) F) → at < length xs → x ≡ get_or xs at x → make x ≡ Err fault → made_with made (drop at xs) ≡ whole → whole ≡ Err fault
  one_fails xs at x fault made whole within is fails so_far =
      sym so_far
      ∙ at_drop_more (made_with made) xs at x within
      ∙ ap (λ r. with_more made (r >>= (λ first. each_made make (drop (at + 1) xs) >>= (λ ys. Ok (first ∷ ys))))) (sym (ap make is) ∙ fails)

  pub all_made : (xs : List X) (at : ℕ) (made : List Y) (whole : Result (List Y) F) → length xs ≤ at → made_with made (drop at xs) ≡ whole → whole ≡ Ok made
  all_made xs at made whole past so_far = sym so_far ∙ at_drop_all (made_with made) xs at past ∙ ap Ok (append-nil made)
