-- Routes of different patterns stand together in a router, each in a row of its own.
use Rattle.std.proofs.Common.{◌≡◌, ◌≢◌, ◌⊎◌, inl, inr, ℕ, zero, suc, ◌≤◌, List, [], ◌∷◌, length, drop, get_or, Option, Some, None, Bool, true, false, cond, refl, ap, arith, ◌==◌, ◌&&◌, ◌||◌}
use Rattle.std.proofs.lemmas.Bool.Decides.{nat_tests}
use Rattle.matchit.specs.Rows.{RowsOf, comes_before}
use Rattle.matchit.specs.Seek.{same_text}
use Rattle.matchit.specs.Order.{lookup, placed, common_len}
use Rattle.matchit.specs.Conflict.{conflicts, param_place, next_place, at_clash, segment_start, wild_clash}
use Rattle.matchit.specs.Router.{nearest}
use Rattle.matchit.proofs.CountLemmas.{same-common}
use Rattle.matchit.proofs.ParamLemmas.{same_text-self}
use Rattle.doll_route.specs.Rows.{IsPattern, HavePatterns}

-- no token of a pattern is a catch-all
within : (starts : Bool) (t : List ℕ) (k : ℕ) → IsPattern starts t → get_or t k 0 ≤ 256
within starts [] k p = omega arith
within starts (x ∷ t) zero (inl p) = omega (arith, p.1)
within starts (x ∷ t) zero (inr p) = omega (arith, p.0)
within starts (x ∷ t) (suc k) (inl p) = rw p.2 (omega arith)
within starts (x ∷ t) (suc k) (inr p) = within (x == 47) t k p.2

no-clash : (x y : ℕ) → x ≤ 256 → y ≤ 256 → wild_clash x y ≡ false
no-clash x y h g =
    let a : (x == 257) ≡ false = grind (arith, nat_tests) in
    let b : (y == 257) ≡ false = grind (arith, nat_tests) in
    rw (a, b) (by (x == 256))
  where
    by : (v : Bool) → ((v && false) || (false && (y == 256))) ≡ false
    by true = refl
    by false = refl

-- a parameter stands where a segment starts, or there is none in it
abbrev IsAtStart : Option ℕ → Type 0
IsAtStart place = (place ≡ None) ⊎ (place ≡ Some 0)

none-within : (t : List ℕ) → IsPattern false t → param_place t ≡ None
none-within [] p = refl
none-within (x ∷ t) (inl p) = absurd (cc p.0)
none-within (x ∷ t) (inr p) =
    let a : (x == 257) ≡ false = grind (arith, nat_tests, p.0) in
    let b : (x == 256) ≡ false = grind (arith, nat_tests, p.0) in
    rw (a, b) (by (x == 47) refl (none-within t) p.2)
  where
    by : (v : Bool) → (x == 47) ≡ v → (IsPattern false t → param_place t ≡ None) → IsPattern (x == 47) t → cond v None (next_place (param_place t)) ≡ None
    by true e ih q = refl
    by false e ih q = rw (ih (rw e at q)) refl

at-start : (starts : Bool) (t : List ℕ) → IsPattern starts t → IsAtStart (param_place t)
at-start false t p = inl (none-within t p)
at-start true [] p = inl refl
at-start true (x ∷ t) (inl p) =
    let a : (x == 257) ≡ false = grind (arith, nat_tests, p.1) in
    let b : (x == 256) ≡ true = grind (arith, nat_tests, p.1) in
    inr (rw (a, b) refl)
at-start true (x ∷ t) (inr p) =
    let a : (x == 257) ≡ false = grind (arith, nat_tests, p.0) in
    let b : (x == 256) ≡ false = grind (arith, nat_tests, p.0) in
    inl (rw (a, b) (by (x == 47) refl p.2))
  where
    by : (v : Bool) → (x == 47) ≡ v → IsPattern (x == 47) t → cond v None (next_place (param_place t)) ≡ None
    by true e q = refl
    by false e q = rw (none-within t (rw e at q)) refl

at-start-from : (starts : Bool) (n : ℕ) (t : List ℕ) → IsPattern starts t → IsAtStart (param_place (drop n t))
at-start-from starts zero t p = at-start starts t p
at-start-from starts (suc n) [] p = inl refl
at-start-from starts (suc n) (x ∷ t) (inl p) = rw p.2 (at-start-from true n [] tt)
at-start-from starts (suc n) (x ∷ t) (inr p) = at-start-from (x == 47) n t p.2

no-at-clash : (a b : List ℕ) (x y : Option ℕ) → IsAtStart x → IsAtStart y → at_clash a b x y ≡ false
no-at-clash a b x y (inl p) q = rw p refl
no-at-clash a b x y (inr p) (inl q) = rw (p, q) refl
no-at-clash a b x y (inr p) (inr q) = rw (p, q) refl

-- different patterns don't conflict
no-conflict : (s r : Bool) (a b : List ℕ) → IsPattern s a → IsPattern r b → a ≢ b → conflicts a b ≡ false
no-conflict s r a b p q differ =
    let n = common_len a b in
    let from = segment_start a n in
    rw (
      no-clash (get_or a n 0) (get_or b n 0) (within s a n p) (within r b n q),
      no-at-clash (drop from a) (drop from b) (param_place (drop from a)) (param_place (drop from b)) (at-start-from s from a p) (at-start-from r from b q),
    )
    (whole (common_len a b == length a) (common_len a b == length b) refl refl)
  where
    whole : (u v : Bool) → (common_len a b == length a) ≡ u → (common_len a b == length b) ≡ v → ((u && v) || false || false) ≡ false
    whole false v e f = refl
    whole true false e f = refl
    whole true true e f =
        let left : common_len a b ≡ length a = grind (arith, nat_tests) in
        let right : common_len a b ≡ length b = grind (arith, nat_tests) in
        absurd (differ (same-common a b (omega arith) right))

module _ {K : Type 0} where
  -- so a new one conflicts with no row
  pub none-near : (starts : Bool) (p : List ℕ) (rows : RowsOf K) → IsPattern starts p → HavePatterns starts rows → lookup p rows ≡ None → nearest p rows ≡ None
  none-near starts p [] is have fresh = refl
  none-near starts p ((t, k) ∷ rows) is have fresh = by (same_text t p) refl fresh (none-near starts p rows is have.1)
    where
      by : (v : Bool) → same_text t p ≡ v → cond v (Some k) (lookup p rows) ≡ None → (lookup p rows ≡ None → nearest p rows ≡ None) → nearest p ((t, k) ∷ rows) ≡ None
      by true e none more = absurd (cc none)
      by false e none more =
          let differ : p ≢ t = λ same. absurd (cc (e, same, same_text-self t)) in
          rw (no-conflict starts starts p t is have.0 differ) (more none)

  pub placed-patterns : (starts : Bool) (p : List ℕ) (k : K) (rows : RowsOf K) → IsPattern starts p → HavePatterns starts rows → HavePatterns starts (placed (p, k) rows)
  placed-patterns starts p k [] is have = (is, tt)
  placed-patterns starts p k ((t, l) ∷ rows) is have = by (comes_before p t) (placed-patterns starts p k rows is have.1)
    where
      by : (v : Bool) → HavePatterns starts (placed (p, k) rows) → HavePatterns starts (cond v ((p, k) ∷ (t, l) ∷ rows) ((t, l) ∷ placed (p, k) rows))
      by true more = (is, have)
      by false more = (have.0, more)

  pub lookup-placed : (p : List ℕ) (k : K) (rows : RowsOf K) → lookup p rows ≡ None → lookup p (placed (p, k) rows) ≡ Some k
  lookup-placed p k [] fresh = rw (same_text-self p) refl
  lookup-placed p k ((t, l) ∷ rows) fresh = by (comes_before p t) (same_text t p) refl fresh (lookup-placed p k rows)
    where
      by : (u v : Bool) → same_text t p ≡ v → cond v (Some l) (lookup p rows) ≡ None → (lookup p rows ≡ None → lookup p (placed (p, k) rows) ≡ Some k) → lookup p (cond u ((p, k) ∷ (t, l) ∷ rows) ((t, l) ∷ placed (p, k) rows)) ≡ Some k
      by true v e none more = rw (same_text-self p) refl
      by false true e none more = absurd (cc none)
      by false false e none more = rw e (more none)

  pub lookup-other : (q p : List ℕ) (k : K) (rows : RowsOf K) → same_text p q ≡ false → lookup q (placed (p, k) rows) ≡ lookup q rows
  lookup-other q p k [] other = rw other refl
  lookup-other q p k ((t, l) ∷ rows) other = by (comes_before p t) (lookup-other q p k rows other)
    where
      by : (u : Bool) → lookup q (placed (p, k) rows) ≡ lookup q rows → lookup q (cond u ((p, k) ∷ (t, l) ∷ rows) ((t, l) ∷ placed (p, k) rows)) ≡ lookup q ((t, l) ∷ rows)
      by true more = rw other refl
      by false more = ap (λ r. cond (same_text t q) (Some l) r) more
