-- What is put in its place one after another is what a stable sort gives.
use Rattle.std.proofs.Common.{◌≡◌, ℕ, suc, ◌+◌, ◌<◌, Bool, true, false, not, ◌&&◌, cond, true≢false, List, [], ◌∷◌, ◌++◌, length, take, drop, get_or, refl, ap, sym, subst, ◌∙◌, append_assoc, arith}
use Rattle.std.specs.Prelude.{fold, filter, ⊤}
use Rattle.std.specs.Cmp.{IsTotalOrder, eq_by_cmp_equiv, tied_itself, upto}
use Rattle.std.specs.List.{AllByRecursion, insert, prefix_len}
use Rattle.std.specs.List.Sorted.{IsSorted, IsStable}
use Rattle.std.specs.declared.cmp.Ordering.{Ordering}
use Rattle.std.specs.declared.cmp.Ordering.TheVariants.{Less, Equal, Greater}
use Rattle.std.specs.Ordering.{is_eq, is_gt, is_le, is_lt, ordering_reverse}
use Rattle.std.proofs.lemmas.List.{append-nil}
use Rattle.std.proofs.lemmas.List.Elements.{filter-append}

-- ---- orderings

not_above : (r : Ordering) → is_lt (ordering_reverse r) ≡ false → is_gt r ≡ false
not_above Less h = refl
not_above Equal h = refl
not_above Greater h = absurd (true≢false h)

le_not_gt : (r : Ordering) → is_le r ≡ true → is_gt r ≡ false
le_not_gt Less h = refl
le_not_gt Equal h = refl
le_not_gt Greater h = absurd (true≢false (sym h))

not_le : (r : Ordering) → is_le r ≡ false → r ≡ Greater
not_le Less h = absurd (true≢false h)
not_le Equal h = absurd (true≢false h)
not_le Greater h = refl

squeezed : (r s : Ordering) → r ≡ ordering_reverse s → is_gt r ≡ false → is_gt s ≡ false → is_eq r ≡ true
squeezed Less Less e h k = absurd (true≢false (ap is_lt e))
squeezed Less Equal e h k = absurd (true≢false (ap is_lt e))
squeezed Less Greater e h k = absurd (true≢false k)
squeezed Equal s e h k = refl
squeezed Greater s e h k = absurd (true≢false h)

level : (r : Ordering) → (not (is_lt r) && not (is_lt (ordering_reverse r))) ≡ is_eq r
level Less = refl
level Equal = refl
level Greater = refl

-- ---- lists

abbrev first_of : {X : Type 0} → X → List X → X
first_of x [] = x
first_of x (y ∷ ys) = y

abbrev rest_of : {X : Type 0} → List X → List X
rest_of [] = []
rest_of (y ∷ ys) = ys

one_more : (n : ℕ) → 1 + n ≡ suc n
one_more n = omega arith

module _ {X : Type 0} {R : X → X → Ordering} (o : IsTotalOrder R) where
  abbrev same : X → X → Bool
  same x y = is_eq (R x y)

  abbrev Above : X → List X → Type 0
  Above x xs = AllByRecursion (λ y. is_gt (R x y) ≡ false) xs

  abbrev Up : List X → Type 0
  Up [] = ⊤
  Up (x ∷ xs) = Above x xs × Up xs

  -- one put in its place
  abbrev put : List X → X → List X
  put xs x = insert xs (prefix_len (λ y. is_le (R y x)) xs) x

  put_by : (y : X) (ys : List X) (n : ℕ) (x : X) (b : Bool) → insert (y ∷ ys) (cond b (1 + n) 0) x ≡ cond b (y ∷ insert ys n x) (x ∷ y ∷ ys)
  put_by y ys n x true = ap (λ k. insert (y ∷ ys) k x) (one_more n)
  put_by y ys n x false = refl

  put_in : (y : X) (ys : List X) (x : X) → put (y ∷ ys) x ≡ cond (is_le (R y x)) (y ∷ put ys x) (x ∷ y ∷ ys)
  put_in y ys x = put_by y ys (prefix_len (λ z. is_le (R z x)) ys) x (is_le (R y x))

  -- ---- the order stays

  all_put : (P : X → Type 0) (ys : List X) (x : X) → AllByRecursion P ys → P x → AllByRecursion P (put ys x)
  all_put P [] x all one = (one, tt)
  all_put P (y ∷ ys) x all one = subst (AllByRecursion P) (sym (put_in y ys x)) (by (is_le (R y x)) (all_put P ys x all.1 one))
    where
      by : (b : Bool) → AllByRecursion P (put ys x) → AllByRecursion P (cond b (y ∷ put ys x) (x ∷ y ∷ ys))
      by true more = (all.0, more)
      by false more = (one, all)

  all_above : (x y : X) (zs : List X) → is_gt (R x y) ≡ false → Above y zs → Above x zs
  all_above x y [] below all = tt
  all_above x y (z ∷ zs) below all = (upto o x y z below all.0, all_above x y zs below all.1)

  turned : (x y : X) → is_le (R y x) ≡ false → is_gt (R x y) ≡ false
  turned x y e = ap is_gt (o.antisymm x y ∙ ap ordering_reverse (not_le (R y x) e))

  up_put : (ys : List X) (x : X) → Up ys → Up (put ys x)
  up_put [] x up = (tt, tt)
  up_put (y ∷ ys) x up = subst Up (sym (put_in y ys x)) (by (is_le (R y x)) refl (up_put ys x up.1))
    where
      by : (b : Bool) → is_le (R y x) ≡ b → Up (put ys x) → Up (cond b (y ∷ put ys x) (x ∷ y ∷ ys))
      by true e more = (all_put (λ z. is_gt (R y z) ≡ false) ys x up.0 (le_not_gt (R y x) e), more)
      by false e more = ((turned x y e, all_above x y ys (turned x y e) up.0), up)

  -- ---- those that the order doesn't tell apart stay in theirs

  other : (w x y : X) → is_eq (R w x) ≡ true → R y x ≡ Greater → same w y ≡ false
  other w x y tie e = ap is_eq (o.congr w x y (is (R w x) tie) ∙ o.antisymm x y ∙ ap ordering_reverse e)
    where
      is : (r : Ordering) → is_eq r ≡ true → r ≡ Equal
      is Less h = absurd (true≢false (sym h))
      is Equal h = refl
      is Greater h = absurd (true≢false (sym h))

  none_above : (w x : X) (zs : List X) → same w x ≡ true → AllByRecursion (λ z. R z x ≡ Greater) zs → filter (same w) zs ≡ []
  none_above w x [] tie all = refl
  none_above w x (z ∷ zs) tie all = ap (λ b. cond b (z ∷ filter (same w) zs) (filter (same w) zs)) (other w x z tie all.0) ∙ none_above w x zs tie all.1

  higher : (x y z : X) → R y x ≡ Greater → is_gt (R y z) ≡ false → R z x ≡ Greater
  higher x y z e above = not_le (R z x) (by (is_le (R z x)) refl)
    where
      by : (b : Bool) → is_le (R z x) ≡ b → is_le (R z x) ≡ false
      by true h = absurd (true≢false (sym (ap is_gt e) ∙ upto o y z x above (le_not_gt (R z x) h)))
      by false h = h

  all_higher : (x y : X) (zs : List X) → R y x ≡ Greater → Above y zs → AllByRecursion (λ z. R z x ≡ Greater) zs
  all_higher x y [] e all = tt
  all_higher x y (z ∷ zs) e all = (higher x y z e all.0, all_higher x y zs e all.1)

  moved : (w x : X) (zs : List X) → AllByRecursion (λ z. R z x ≡ Greater) zs → filter (same w) (x ∷ zs) ≡ filter (same w) (zs ++ x ∷ [])
  moved w x zs all = by (same w x) refl ∙ sym (filter-append (same w) zs (x ∷ []))
    where
      by : (b : Bool) → same w x ≡ b → cond (same w x) (x ∷ filter (same w) zs) (filter (same w) zs) ≡ filter (same w) zs ++ cond (same w x) (x ∷ []) []
      by true e =
          ap (λ b. cond b (x ∷ filter (same w) zs) (filter (same w) zs)) e
          ∙ ap (λ l. x ∷ l) (none_above w x zs e all)
          ∙ sym (ap (λ b. filter (same w) zs ++ cond b (x ∷ []) []) e ∙ ap (λ l. l ++ x ∷ []) (none_above w x zs e all))
      by false e =
          ap (λ b. cond b (x ∷ filter (same w) zs) (filter (same w) zs)) e
          ∙ sym (append-nil (filter (same w) zs))
          ∙ sym (ap (λ b. filter (same w) zs ++ cond b (x ∷ []) []) e)

  stable_put : (w : X) (ys : List X) (x : X) → Up ys → filter (same w) (put ys x) ≡ filter (same w) (ys ++ x ∷ [])
  stable_put w [] x up = refl
  stable_put w (y ∷ ys) x up = ap (filter (same w)) (put_in y ys x) ∙ by (is_le (R y x)) refl (stable_put w ys x up.1)
    where
      by : (b : Bool) → is_le (R y x) ≡ b → filter (same w) (put ys x) ≡ filter (same w) (ys ++ x ∷ []) → filter (same w) (cond b (y ∷ put ys x) (x ∷ y ∷ ys)) ≡ filter (same w) (y ∷ ys ++ x ∷ [])
      by true e more = ap (λ l. cond (same w y) (y ∷ l) l) more
      by false e more = moved w x (y ∷ ys) (not_le (R y x) e, all_higher x y ys (not_le (R y x) e) up.0)

  -- ---- one after another

  up_all : (ys xs : List X) → Up ys → Up (fold put ys xs)
  up_all ys [] up = up
  up_all ys (x ∷ xs) up = up_all (put ys x) xs (up_put ys x up)

  stable_all : (w : X) (ys xs : List X) → Up ys → filter (same w) (fold put ys xs) ≡ filter (same w) (ys ++ xs)
  stable_all w ys [] up = ap (filter (same w)) (sym (append-nil ys))
  stable_all w ys (x ∷ xs) up =
      stable_all w (put ys x) xs (up_put ys x up)
      ∙ filter-append (same w) (put ys x) xs
      ∙ ap (λ l. l ++ filter (same w) xs) (stable_put w ys x up)
      ∙ sym (filter-append (same w) (ys ++ x ∷ []) xs)
      ∙ ap (filter (same w)) (append_assoc ys (x ∷ []) xs)

  -- ---- no other list is in order and has them so

  there : (P : X → Type 0) (t : X → Bool) (y : X) (rest ws : List X) → AllByRecursion P ws → y ∷ rest ≡ filter t ws → P y
  there P t y rest [] all e = absurd (cc e)
  there P t y rest (w ∷ ws) all e = by (t w) e (there P t y rest ws all.1)
    where
      by : (b : Bool) → y ∷ rest ≡ cond b (w ∷ filter t ws) (filter t ws) → (y ∷ rest ≡ filter t ws → P y) → P y
      by true h more = subst P (sym (ap (first_of y) h)) all.0
      by false h more = more h

  itself : (x : X) → same x x ≡ true
  itself x = ap is_eq (tied_itself o x)

  kept_first : (y : X) (ys : List X) → filter (same y) (y ∷ ys) ≡ y ∷ filter (same y) ys
  kept_first y ys = ap (λ b. cond b (y ∷ filter (same y) ys) (filter (same y) ys)) (itself y)

  lowest : (y z : X) (rest zs : List X) → Up (z ∷ zs) → y ∷ rest ≡ filter (same y) (z ∷ zs) → is_gt (R z y) ≡ false
  lowest y z rest zs up e = there (λ w. is_gt (R z w) ≡ false) (same y) y rest (z ∷ zs) (ap is_gt (tied_itself o z), up.0) e

  dropped : (b : Bool) (y : X) (ys zs : List X) → cond b (y ∷ ys) ys ≡ cond b (y ∷ zs) zs → ys ≡ zs
  dropped true y ys zs e = ap rest_of e
  dropped false y ys zs e = e

  one_list : (ys zs : List X) → Up ys → Up zs → ((w : X) → filter (same w) ys ≡ filter (same w) zs) → ys ≡ zs
  one_list [] [] up rise e = refl
  one_list [] (z ∷ zs) up rise e = absurd (cc (e z ∙ kept_first z zs))
  one_list (y ∷ ys) [] up rise e = absurd (cc (sym (kept_first y ys) ∙ e y))
  one_list (y ∷ ys) (z ∷ zs) up rise e =
      ap (λ w. w ∷ ys) first ∙ ap (λ l. z ∷ l) (one_list ys zs up.1 rise.1 (λ w. dropped (same w y) y (filter (same w) ys) (filter (same w) zs) (e w ∙ ap (λ v. filter (same w) (v ∷ zs)) (sym first))))
    where
      tie : same y z ≡ true
      tie =
          squeezed (R y z) (R z y) (o.antisymm y z) (lowest z y (filter (same z) zs) ys up (sym (kept_first z zs) ∙ sym (e z)))
          (lowest y z (filter (same y) ys) zs rise (sym (kept_first y ys) ∙ e y))

      first : y ≡ z
      first = ap (first_of y) (sym (kept_first y ys) ∙ e y ∙ ap (λ b. cond b (z ∷ filter (same y) zs) (filter (same y) zs)) tie)

  -- ---- a stable sort

  up_from : (xs : List X) → IsSorted R xs → Up xs
  up_from [] h = tt
  up_from (x ∷ []) h = (tt, tt)
  up_from (x ∷ y ∷ ys) h =
      let below : is_gt (R x y) ≡ false = not_above (R x y) (ap is_lt (sym (o.antisymm y x)) ∙ h 0 x (omega arith) (omega arith)) in
      let more = up_from (y ∷ ys) (λ k d a b. subst (λ n. is_lt (R (get_or (x ∷ y ∷ ys) n d) (get_or (x ∷ y ∷ ys) (suc k) d)) ≡ false) (next k) (h (suc k) d (omega arith) (omega (arith, b)))) in
      ((below, all_above x y ys below more.0), more)
    where
      next : (k : ℕ) → suc k + 1 ≡ suc (k + 1)
      next k = omega arith

  pub sorted_is : (xs ys : List X) → IsSorted R ys → IsStable R xs ys → ys ≡ fold put [] xs
  sorted_is xs ys sorted stable = one_list ys (fold put [] xs) (up_from ys sorted) (up_all [] xs tt) (λ w. told w ys ∙ stable w ∙ sym (told w xs) ∙ sym (stable_all w [] xs tt))
    where
      told : (w : X) (zs : List X) → filter (same w) zs ≡ filter (λ z. not (is_lt (R w z)) && not (is_lt (R z w))) zs
      told w zs = λ i. filter (λ z. sym (ap (λ r. not (is_lt (R w z)) && not (is_lt r)) (o.antisymm z w) ∙ level (R w z)) i) zs
