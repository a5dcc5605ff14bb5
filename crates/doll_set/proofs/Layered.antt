-- Numbers of a range that pass a test, and things that have digests.
use Rattle.std.proofs.Common.{◌≡◌, ℕ, zero, suc, ◌+◌, ◌<◌, ◌≤◌, ◌⊎◌, inl, inr, Bool, true, false, cond, not, ◌&&◌, ◌||◌, true≢false, List, [], ◌∷◌, length, None, Some, refl, ap, sym, subst, ◌∙◌, arith}
use Rattle.std.proofs.Math.Nat.{eq-or-lt_of_le}
use Rattle.std.specs.List.{AllByRecursion, filter, find, list_any, range_with_len}
use Rattle.std.proofs.lemmas.List.{get_or-map}
use Rattle.doll_graph.specs.Graphs.{Graph, dependencies, ends_at, has_longer, layer}

-- where nothing of a range is found, no number of it passes
pub none_passes : (p : ℕ → Bool) (start len number : ℕ) → find p (range_with_len start len) ≡ None → start ≤ number → number < start + len → p number ≡ false
none_passes p start zero number none from within = absurd (omega arith)
none_passes p start (suc len) number none from within =
    by (λ e (later : start < number). none_passes p (start + 1) len number e (omega arith) (omega arith)) (p start) refl none (eq-or-lt_of_le from)
  where
    by : (find p (range_with_len (start + 1) len) ≡ None → start < number → p number ≡ false) → (b : Bool) → p start ≡ b → cond b (Some start) (find p (range_with_len (start + 1) len)) ≡ None → (start ≡ number) ⊎ (start < number) → p number ≡ false
    by more true is e place = absurd (cc e)
    by more false is e (inl same) = subst (λ n. p n ≡ false) same is
    by more false is e (inr later) = more e later

-- what holds of all of a range that pass holds of each
pub each_passing : (P : ℕ → Type 0) (p : ℕ → Bool) (start len number : ℕ) → AllByRecursion P (filter p (range_with_len start len)) → start ≤ number → number < start + len → p number ≡ true → P number
each_passing P p start zero number all from within passes = absurd (omega arith)
each_passing P p start (suc len) number all from within passes =
    by (λ rest (later : start < number). each_passing P p (start + 1) len number rest (omega arith) (omega arith) passes) (p start) refl all (eq-or-lt_of_le from)
  where
    by : (AllByRecursion P (filter p (range_with_len (start + 1) len)) → start < number → P number) → (b : Bool) → p start ≡ b → AllByRecursion P (cond b (start ∷ filter p (range_with_len (start + 1) len)) (filter p (range_with_len (start + 1) len))) → (start ≡ number) ⊎ (start < number) → P number
    by more true is all (inl same) = subst P same all.0
    by more true is all (inr later) = more all.1 later
    by more false is all (inl same) = absurd (true≢false (sym passes ∙ ap p (sym same) ∙ is))
    by more false is all (inr later) = more all later

-- what holds of each of a range that passes holds of all of them
pub all_passing : (P : ℕ → Type 0) (p : ℕ → Bool) (start len end : ℕ) → start + len ≤ end → ((n : ℕ) → n < end → p n ≡ true → P n) → AllByRecursion P (filter p (range_with_len start len))
all_passing P p start zero end within holds = tt
all_passing P p start (suc len) end within holds = by (all_passing P p (start + 1) len end (omega arith) holds) (p start) refl
  where
    by : AllByRecursion P (filter p (range_with_len (start + 1) len)) → (b : Bool) → p start ≡ b → AllByRecursion P (cond b (start ∷ filter p (range_with_len (start + 1) len)) (filter p (range_with_len (start + 1) len)))
    by more true is = (holds start (omega arith) is, more)
    by more false is = more

-- ---- layers

right_false : (a b : Bool) → (a && not b) ≡ true → b ≡ false
right_false true true e = sym e
right_false true false e = refl
right_false false b e = absurd (true≢false (sym e))

-- no chain that is longer begins in a layer
pub no_longer : (graph : Graph) (n number : ℕ) → ends_at graph n number ≡ true → has_longer graph (suc n) number ≡ false
no_longer graph n number ends = right_false (has_longer graph n number) (has_longer graph (suc n) number) ends

ends_here : (a b : Bool) → a ≡ true → b ≡ false → (a && not b) ≡ true
ends_here true false is isnt = refl
ends_here true true is isnt = absurd (true≢false isnt)
ends_here false b is isnt = absurd (true≢false (sym is))

none_of : (ps qs : Bool) → (ps || qs) ≡ false → (ps ≡ false) × (qs ≡ false)
none_of true qs e = absurd (true≢false e)
none_of false qs e = (refl, e)

-- where no number passes, each fails
all_fail : (p : ℕ → Bool) (ns : List ℕ) → list_any p ns ≡ false → AllByRecursion (λ n. p n ≡ false) ns
all_fail p [] none = tt
all_fail p (n ∷ ns) none = ((none_of (p n) (list_any p ns) none).0, all_fail p ns (none_of (p n) (list_any p ns) none).1)

-- of a thing from which no longer chain begins, no dependency begins one that is as long
pub shorter : (graph : Graph) (n number : ℕ) → number < length graph → has_longer graph (suc n) number ≡ false → AllByRecursion (λ d. has_longer graph n d ≡ false) (dependencies graph number)
shorter graph n number within none =
    all_fail (has_longer graph n) (dependencies graph number) (sym (get_or-map (list_any (has_longer graph n)) graph number [] false within) ∙ none)

-- what holds where no chain of more than n things begins, and in the layer of those with n + 1, holds where none of more than n + 1 begins
pub next_layer : (P : ℕ → Type 0) (graph : Graph) (n : ℕ) → ((d : ℕ) → d < length graph → has_longer graph n d ≡ false → P d) → AllByRecursion P (layer graph n) → (d : ℕ) → d < length graph → has_longer graph (suc n) d ≡ false → P d
next_layer P graph n before here d within none = by (has_longer graph n d) refl
  where
    by : (b : Bool) → has_longer graph n d ≡ b → P d
    by false is = before d within is
    by true is = each_passing P (ends_at graph n) 0 (length graph) d here (omega arith) (omega arith) (ends_here (has_longer graph n d) (has_longer graph (suc n) d) is none)
