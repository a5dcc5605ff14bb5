-- Searches over the numbers from one on.
use Rattle.std.proofs.Common.{◌≡◌, ℕ, suc, ◌+◌, ◌-◌, ◌<◌, Bool, true, false, cond, not, ◌∷◌, Some, ap, ◌∙◌, arith}
use Rattle.std.specs.List.{find, filter, prefix_len, range_with_len}

-- the numbers from n on up to a count, by the first
front : (n count : ℕ) → n < count → range_with_len n (count - n) ≡ n ∷ range_with_len (n + 1) (count - (n + 1))
front n count within = ap (range_with_len n) enough
  where
    enough : count - n ≡ suc (count - (n + 1))
    enough = omega arith

pub find_past : (p : ℕ → Bool) (n count : ℕ) → n < count → p n ≡ false → find p (range_with_len n (count - n)) ≡ find p (range_with_len (n + 1) (count - (n + 1)))
find_past p n count within fails =
    ap (find p) (front n count within) ∙ ap (λ b. cond b (Some n) (find p (range_with_len (n + 1) (count - (n + 1))))) fails

pub find_here : (p : ℕ → Bool) (n count : ℕ) → n < count → p n ≡ true → find p (range_with_len n (count - n)) ≡ Some n
find_here p n count within passes =
    ap (find p) (front n count within) ∙ ap (λ b. cond b (Some n) (find p (range_with_len (n + 1) (count - (n + 1))))) passes

pub prefix_past : (p : ℕ → Bool) (n count : ℕ) → n < count → p n ≡ false → n + prefix_len (λ k. not (p k)) (range_with_len n (count - n)) ≡ (n + 1) + prefix_len (λ k. not (p k)) (range_with_len (n + 1) (count - (n + 1)))
prefix_past p n count within fails =
    ap (λ ks. n + prefix_len (λ k. not (p k)) ks) (front n count within)
    ∙ ap (λ b. n + cond (not b) (1 + more) 0) fails
    ∙ omega arith
  where
    more : ℕ
    more = prefix_len (λ k. not (p k)) (range_with_len (n + 1) (count - (n + 1)))

pub prefix_here : (p : ℕ → Bool) (n count : ℕ) → n < count → p n ≡ true → n + prefix_len (λ k. not (p k)) (range_with_len n (count - n)) ≡ n
prefix_here p n count within passes =
    ap (λ ks. n + prefix_len (λ k. not (p k)) ks) (front n count within)
    ∙ ap (λ b. n + cond (not b) (1 + prefix_len (λ k. not (p k)) (range_with_len (n + 1) (count - (n + 1)))) 0) passes
    ∙ omega arith

pub filter_past : (p : ℕ → Bool) (n count : ℕ) → n < count → p n ≡ false → filter p (range_with_len n (count - n)) ≡ filter p (range_with_len (n + 1) (count - (n + 1)))
filter_past p n count within fails =
    ap (filter p) (front n count within)
    ∙ ap (λ b. cond b (n ∷ filter p (range_with_len (n + 1) (count - (n + 1)))) (filter p (range_with_len (n + 1) (count - (n + 1))))) fails

pub filter_here : (p : ℕ → Bool) (n count : ℕ) → n < count → p n ≡ true → filter p (range_with_len n (count - n)) ≡ n ∷ filter p (range_with_len (n + 1) (count - (n + 1)))
filter_here p n count within passes =
    ap (filter p) (front n count within)
    ∙ ap (λ b. cond b (n ∷ filter p (range_with_len (n + 1) (count - (n + 1)))) (filter p (range_with_len (n + 1) (count - (n + 1))))) passes
