-- Entries in the order of their keys: what a search by key finds, and what an edit at its place makes of them.
use Rattle.std.proofs.Common.{◌≡◌, ℕ, zero, suc, ◌<◌, ◌≤◌, Bool, true, false, not, ◌&&◌, List, [], ◌∷◌, map, length, get_or, take, drop, set, Some, None, refl, sym, ◌∙◌, ap, subst, arith}
use Rattle.std.specs.Prelude.{T}
use Rattle.std.specs.List.{insert, remove}
use Rattle.std.specs.Ordering.{nat_cmp, is_lt, eq_by_cmp}
use Rattle.std.specs.declared.cmp.Ordering.TheVariants.{Less, Equal, Greater}
use Rattle.std.specs.FinMap.Entries.{put, where_key, find, below_all, is_sorted}
use Rattle.std.proofs.lemmas.List.{map-append, take-map, drop-map}
use Rattle.std.proofs.lemmas.Bool.Decides.{nat_tests}

pub cmp_less : (a b : ℕ) → a < b → nat_cmp a b ≡ Less
cmp_less a b h = grind (arith, nat_tests)

pub cmp_equal : (a b : ℕ) → a ≡ b → nat_cmp a b ≡ Equal
cmp_equal a b h = grind (arith, nat_tests)

pub cmp_greater : (a b : ℕ) → b < a → nat_cmp a b ≡ Greater
cmp_greater a b h = grind (arith, nat_tests)

pub less_from : (a b : ℕ) → T (is_lt (nat_cmp a b)) → a < b
less_from a b h = grind (arith, nat_tests)

pub and_first : (a b : Bool) → T (a && b) → T a
and_first true b h = tt
and_first false b h = h

pub and_second : (a b : Bool) → T (a && b) → T b
and_second true b h = h
and_second false b h = absurd h

pub and_both : (a b : Bool) → T a → T b → T (a && b)
and_both true b p q = q
and_both false b p q = p

module _ {X : Type 0} where
  pub below_at : (x : ℕ) (es : List (ℕ × X)) (i : ℕ) (d : ℕ × X) → T (below_all nat_cmp x es) → i < length es → x < (get_or es i d).0
  below_at x [] i d h l = absurd (omega arith)
  below_at x (e ∷ es) zero d h l = less_from x e.0 (and_first (is_lt (nat_cmp x e.0)) (below_all nat_cmp x es) h)
  below_at x (e ∷ es) (suc i) d h l = below_at x es i d (and_second (is_lt (nat_cmp x e.0)) (below_all nat_cmp x es) h) (omega arith)

  -- the key of an entry finds it
  pub found_at : (es : List (ℕ × X)) (i k : ℕ) (d : ℕ × X) → T (is_sorted nat_cmp es) → i < length es → (get_or es i d).0 ≡ k → find nat_cmp k es ≡ Some (get_or es i d).1
  found_at [] i k d s l at = absurd (omega arith)
  found_at (e ∷ es) zero k d s l at = rw (cmp_equal k e.0 (sym at)) refl
  found_at (e ∷ es) (suc i) k d s l at =
      let above = below_at e.0 es i d (and_first (below_all nat_cmp e.0 es) (is_sorted nat_cmp es) s) (omega arith) in
      rw (cmp_greater k e.0 (omega (arith, above, at))) (found_at es i k d (and_second (below_all nat_cmp e.0 es) (is_sorted nat_cmp es) s) (omega arith) at)

  -- a row under a key that is there takes the place of that key's
  pub put_at : (es : List (ℕ × X)) (i k : ℕ) (v : X) (d : ℕ × X) → T (is_sorted nat_cmp es) → i < length es → (get_or es i d).0 ≡ k → put nat_cmp k v es ≡ set es i (k, v)
  put_at [] i k v d s l at = absurd (omega arith)
  put_at (e ∷ es) zero k v d s l at = rw (cmp_equal k e.0 (sym at), at) refl
  put_at (e ∷ es) (suc i) k v d s l at =
      let above = below_at e.0 es i d (and_first (below_all nat_cmp e.0 es) (is_sorted nat_cmp es) s) (omega arith) in
      rw (cmp_greater k e.0 (omega (arith, above, at))) (ap (λ t. e ∷ t) (put_at es i k v d (and_second (below_all nat_cmp e.0 es) (is_sorted nat_cmp es) s) (omega arith) at))

  none_below : (k : ℕ) (es : List (ℕ × X)) → T (below_all nat_cmp k es) → where_key nat_cmp (λ x. not (eq_by_cmp nat_cmp k x)) es ≡ es
  none_below k [] h = refl
  none_below k (e ∷ es) h =
      rw (cmp_less k e.0 (less_from k e.0 (and_first (is_lt (nat_cmp k e.0)) (below_all nat_cmp k es) h))) (ap (λ t. e ∷ t) (none_below k es (and_second (is_lt (nat_cmp k e.0)) (below_all nat_cmp k es) h)))

  -- the entries without a key that is there
  pub without_at : (es : List (ℕ × X)) (i k : ℕ) (d : ℕ × X) → T (is_sorted nat_cmp es) → i < length es → (get_or es i d).0 ≡ k → where_key nat_cmp (λ x. not (eq_by_cmp nat_cmp k x)) es ≡ remove es i
  without_at [] i k d s l at = absurd (omega arith)
  without_at (e ∷ es) zero k d s l at = rw (cmp_equal k e.0 (sym at)) (none_below k es (subst (λ x. T (below_all nat_cmp x es)) at (and_first (below_all nat_cmp e.0 es) (is_sorted nat_cmp es) s)))
  without_at (e ∷ es) (suc i) k d s l at =
      let above = below_at e.0 es i d (and_first (below_all nat_cmp e.0 es) (is_sorted nat_cmp es) s) (omega arith) in
      rw (cmp_greater k e.0 (omega (arith, above, at))) (ap (λ t. e ∷ t) (without_at es i k d (and_second (below_all nat_cmp e.0 es) (is_sorted nat_cmp es) s) (omega arith) at))

  -- a key between those before a place and those from it on goes in there
  pub put_between : (es : List (ℕ × X)) (i k : ℕ) (v : X) → i ≤ length es → ((j : ℕ) (d : ℕ × X) → j < i → (get_or es j d).0 < k) → ((j : ℕ) (d : ℕ × X) → i ≤ j → j < length es → k < (get_or es j d).0) → put nat_cmp k v es ≡ insert es i (k, v)
  put_between [] zero k v l before after = refl
  put_between [] (suc i) k v l before after = absurd (omega arith)
  put_between (e ∷ es) zero k v l before after = rw (cmp_less k e.0 (after 0 e (omega arith) (omega arith))) refl
  put_between (e ∷ es) (suc i) k v l before after =
      rw (cmp_greater k e.0 (before 0 e (omega arith))) (ap (λ t. e ∷ t) (put_between es i k v (omega arith) (λ j d h. before (suc j) d (omega arith)) (λ j d h m. after (suc j) d (omega arith) (omega arith))))

  -- such a key isn't there
  pub missed_between : (es : List (ℕ × X)) (i k : ℕ) → i ≤ length es → ((j : ℕ) (d : ℕ × X) → j < i → (get_or es j d).0 < k) → ((j : ℕ) (d : ℕ × X) → i ≤ j → j < length es → k < (get_or es j d).0) → find nat_cmp k es ≡ None
  missed_between [] i k l before after = refl
  missed_between (e ∷ es) zero k l before after =
      rw (cmp_less k e.0 (after 0 e (omega arith) (omega arith))) (missed_between es zero k (omega arith) (λ j d h. absurd (omega arith)) (λ j d h m. after (suc j) d (omega arith) (omega arith)))
  missed_between (e ∷ es) (suc i) k l before after =
      rw (cmp_greater k e.0 (before 0 e (omega arith))) (missed_between es i k (omega arith) (λ j d h. before (suc j) d (omega arith)) (λ j d h m. after (suc j) d (omega arith) (omega arith)))

  -- the entries without a key that isn't there
  pub without_between : (es : List (ℕ × X)) (i k : ℕ) → i ≤ length es → ((j : ℕ) (d : ℕ × X) → j < i → (get_or es j d).0 < k) → ((j : ℕ) (d : ℕ × X) → i ≤ j → j < length es → k < (get_or es j d).0) → where_key nat_cmp (λ x. not (eq_by_cmp nat_cmp k x)) es ≡ es
  without_between [] i k l before after = refl
  without_between (e ∷ es) zero k l before after =
      rw (cmp_less k e.0 (after 0 e (omega arith) (omega arith))) (ap (λ t. e ∷ t) (without_between es zero k (omega arith) (λ j d h. absurd (omega arith)) (λ j d h m. after (suc j) d (omega arith) (omega arith))))
  without_between (e ∷ es) (suc i) k l before after =
      rw (cmp_greater k e.0 (before 0 e (omega arith))) (ap (λ t. e ∷ t) (without_between es i k (omega arith) (λ j d h. before (suc j) d (omega arith)) (λ j d h m. after (suc j) d (omega arith) (omega arith))))

  -- in order, the keys rise with their places
  pub rise : (es : List (ℕ × X)) (i j : ℕ) (d : ℕ × X) → T (is_sorted nat_cmp es) → i < j → j < length es → (get_or es i d).0 < (get_or es j d).0
  rise [] i j d s l m = absurd (omega arith)
  rise (e ∷ es) zero zero d s l m = absurd (omega arith)
  rise (e ∷ es) zero (suc j) d s l m = below_at e.0 es j d (and_first (below_all nat_cmp e.0 es) (is_sorted nat_cmp es) s) (omega arith)
  rise (e ∷ es) (suc i) zero d s l m = absurd (omega arith)
  rise (e ∷ es) (suc i) (suc j) d s l m = rise es i j d (and_second (below_all nat_cmp e.0 es) (is_sorted nat_cmp es) s) (omega arith) (omega arith)

module _ {A B : Type 0} (f : A → B) where
  pub map_insert : (xs : List A) (i : ℕ) (x : A) → map f (insert xs i x) ≡ insert (map f xs) i (f x)
  map_insert xs i x = map-append f (take i xs) (x ∷ drop i xs) ∙ rw (take-map f i xs, drop-map f i xs) refl

  pub map_remove : (xs : List A) (i : ℕ) → map f (remove xs i) ≡ remove (map f xs) i
  map_remove xs i = map-append f (take i xs) (drop (suc i) xs) ∙ rw (take-map f i xs, drop-map f (suc i) xs) refl
