-- What is said of the numbers below one, one number more.
use Rattle.std.proofs.Common.{◌≡◌, ℕ, ◌+◌, List, [], ◌∷◌, ◌++◌, map, ap, sym, ◌∙◌, arith}
use Rattle.std.specs.List.{range_with_len}
use Rattle.std.proofs.lemmas.List.FromFn.{map-range_with_len_more}

pub one_more : {X : Type 0} (f : ℕ → X) (n : ℕ) (made after : List X) (last : X) → made ≡ map f (range_with_len 0 n) → last ≡ f n → after ≡ made ++ last ∷ [] → after ≡ map f (range_with_len 0 (n + 1))
one_more f n made after last so_far is pushed =
    pushed ∙ ap (λ xs. xs ++ last ∷ []) so_far ∙ ap (λ x. map f (range_with_len 0 n) ++ x ∷ []) is ∙ sym (map-range_with_len_more f 0 n n (omega arith))
