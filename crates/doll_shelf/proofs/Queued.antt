-- Pairs with distinct keys, read from the oldest on and from the newest on.
use Rattle.std.proofs.Common.{◌≡◌, ◌≤◌, ℕ, ◌-◌, Bool, true, false, cond, ◌⊎◌, inl, inr, append_assoc, List, [], ◌∷◌, ◌++◌, length, take, drop, Option, None, Some, slice_get, refl, sym, ap, subst, ◌∙◌, arith}
use Rattle.std.specs.Prelude.{reverse}
use Rattle.std.specs.Cmp.Lexicographic.{nat_list_eq_equiv}
use Rattle.std.specs.List.{AllByRecursion, IsDistinct}
use Rattle.std.specs.Map.{keys_of, lookup, lookup_entry, remove_entry, set_value}
use Rattle.std.specs.Str.{bytes_eq}
use Rattle.std.proofs.lemmas.Grind.{reverse_onto}
use Rattle.std.proofs.lemmas.List.{append-nil, length-reverse, reverse-append, reverse-reverse, take_all, take_at}
use Rattle.std.proofs.lemmas.Map.{keys-set_value}
use Rattle.std.specs.Option.{option_map_or}
use Rattle.lru.specs.LruCache.{LruCache, last_entry, put_entries}
use Rattle.doll_shelf.specs.Queue.{IsEndless, queued}
use Rattle.doll_shelf.specs.declared.kept.Kept.{Kept}

module _ {A : Type 0} where
  -- one at the front of a list is the last from behind
  pub reverse_front : (x : A) (xs : List A) → reverse (x ∷ xs) ≡ reverse xs ++ x ∷ []
  reverse_front x xs = reverse_onto xs x []

  oldest_gone : (xs : List A) → reverse (take (length (reverse xs) - 1) (reverse xs)) ≡ drop 1 xs
  oldest_gone [] = refl
  oldest_gone (x ∷ xs) =
      let front = reverse_front x xs in
      let count : length (reverse xs) ≡ length (reverse (x ∷ xs)) - 1 = omega (arith, length-reverse xs, length-reverse (x ∷ xs)) in
      ap (λ l. reverse (take (length (reverse (x ∷ xs)) - 1) l)) front ∙ ap reverse (take_at (reverse xs) (x ∷ []) (length (reverse (x ∷ xs)) - 1) count) ∙ reverse-reverse xs

  -- all but the oldest
  pub without_oldest : (xs : List A) → reverse (take (length xs - 1) xs) ≡ drop 1 (reverse xs)
  without_oldest xs = subst (λ l. reverse (take (length l - 1) l) ≡ drop 1 (reverse xs)) (reverse-reverse xs) (oldest_gone (reverse xs))

  last_front : (xs : List A) → slice_get (reverse xs) (length (reverse xs) - 1) ≡ slice_get xs 0
  last_front [] = refl
  last_front (x ∷ xs) =
      let front = reverse_front x xs in
      let count : length (reverse (x ∷ xs)) - 1 ≡ length (reverse xs) = omega (arith, length-reverse xs, length-reverse (x ∷ xs)) in
      ap (slice_get (reverse (x ∷ xs))) count ∙ ap (λ l. slice_get l (length (reverse xs))) front ∙ at_seam (reverse xs) x
    where
      at_seam : (ys : List A) (y : A) → slice_get (ys ++ y ∷ []) (length ys) ≡ Some y
      at_seam [] y = refl
      at_seam (first ∷ more) y = at_seam more y

  -- the last is the oldest
  pub last_oldest : (xs : List A) → slice_get xs (length xs - 1) ≡ slice_get (reverse xs) 0
  last_oldest xs = subst (λ l. slice_get l (length l - 1) ≡ slice_get (reverse xs) 0) (reverse-reverse xs) (last_front (reverse xs))

module _ {X : Type 0} where
  -- no key passes
  abbrev pub Fail : (List ℕ → Bool) → List (List ℕ × X) → Type 0
  Fail test es = AllByRecursion (λ e. test e.0 ≡ false) es

  module _ (test : List ℕ → Bool) where
    fail_append : (xs ys : List (List ℕ × X)) → Fail test xs → Fail test ys → Fail test (xs ++ ys)
    fail_append [] ys none left = left
    fail_append (x ∷ xs) ys none left = (none.0, fail_append xs ys none.1 left)

    fail_reverse : (xs : List (List ℕ × X)) → Fail test xs → Fail test (reverse xs)
    fail_reverse [] none = tt
    fail_reverse (x ∷ xs) none = subst (Fail test) (sym (reverse_front x xs)) (fail_append (reverse xs) (x ∷ []) (fail_reverse xs none.1) (none.0, tt))

    found_past : (xs ys : List (List ℕ × X)) → Fail test xs → lookup_entry test (xs ++ ys) ≡ lookup_entry test ys
    found_past [] ys none = refl
    found_past (x ∷ xs) ys none = ap (λ b. cond b (Some x) (lookup_entry test (xs ++ ys))) none.0 ∙ found_past xs ys none.1

    value_past : (xs ys : List (List ℕ × X)) → Fail test xs → lookup test (xs ++ ys) ≡ lookup test ys
    value_past [] ys none = refl
    value_past (x ∷ xs) ys none = ap (λ b. cond b (Some x.1) (lookup test (xs ++ ys))) none.0 ∙ value_past xs ys none.1

    removed_past : (xs ys : List (List ℕ × X)) → Fail test xs → remove_entry test (xs ++ ys) ≡ xs ++ remove_entry test ys
    removed_past [] ys none = refl
    removed_past (x ∷ xs) ys none =
        ap (λ b. cond b (xs ++ ys) (x ∷ remove_entry test (xs ++ ys))) none.0 ∙ ap (λ l. x ∷ l) (removed_past xs ys none.1)

    set_past : (w : X) (xs ys : List (List ℕ × X)) → Fail test xs → set_value test (xs ++ ys) w ≡ xs ++ set_value test ys w
    set_past w [] ys none = refl
    set_past w (x ∷ xs) ys none =
        ap (λ b. cond b ((x.0, w) ∷ (xs ++ ys)) (x ∷ set_value test (xs ++ ys) w)) none.0 ∙ ap (λ l. x ∷ l) (set_past w xs ys none.1)

    -- What is found, removed and set is the same from both ends.
    pub record BothWays (es : List (List ℕ × X)) : Type 0 where
      pub found : lookup_entry test es ≡ lookup_entry test (reverse es)
      pub value : lookup test es ≡ lookup test (reverse es)
      pub removed : reverse (remove_entry test es) ≡ remove_entry test (reverse es)
      pub set : (w : X) → reverse (set_value test es w) ≡ set_value test (reverse es) w

    none_both : (es : List (List ℕ × X)) → Fail test es → BothWays es
    none_both es none =
        let back = fail_reverse es none in
        let plain = append-nil es in
        let turned = append-nil (reverse es) in
        record {
          found = ap (lookup_entry test) (sym plain) ∙ found_past es [] none ∙ sym (found_past (reverse es) [] back) ∙ ap (lookup_entry test) turned;
          value = ap (lookup test) (sym plain) ∙ value_past es [] none ∙ sym (value_past (reverse es) [] back) ∙ ap (lookup test) turned;
          removed = ap reverse (ap (remove_entry test) (sym plain) ∙ removed_past es [] none ∙ plain) ∙ sym (ap (remove_entry test) (sym turned) ∙ removed_past (reverse es) [] back ∙ turned);
          set = λ w. ap reverse (ap (λ l. set_value test l w) (sym plain) ∙ set_past w es [] none ∙ plain) ∙ sym (ap (λ l. set_value test l w) (sym turned) ∙ set_past w (reverse es) [] back ∙ turned);
        }

    -- the same list from its other end
    turned_at : (xs : List (List ℕ × X)) (e : List ℕ × X) (ys : List (List ℕ × X)) → reverse (xs ++ e ∷ ys) ≡ reverse ys ++ e ∷ reverse xs
    turned_at xs e ys =
        reverse-append xs (e ∷ ys) ∙ ap (λ l. l ++ reverse xs) (reverse_front e ys) ∙ append_assoc (reverse ys) (e ∷ []) (reverse xs)

    here : {T : Type 0} (e : List ℕ × X) → test e.0 ≡ true → (then other : T) → cond (test e.0) then other ≡ then
    here e passes then other = ap (λ b. cond b then other) passes

    one_both : (xs : List (List ℕ × X)) (e : List ℕ × X) (ys : List (List ℕ × X)) → Fail test xs → test e.0 ≡ true → Fail test ys → BothWays (xs ++ e ∷ ys)
    one_both xs e ys before passes after =
        let es = xs ++ e ∷ ys in
        let turned = turned_at xs e ys in
        let back = fail_reverse ys after in
        let right = e ∷ reverse xs in
        record {
          found = found_past xs (e ∷ ys) before ∙ here e passes (Some e) (lookup_entry test ys)
              ∙ sym (ap (lookup_entry test) turned ∙ found_past (reverse ys) right back ∙ here e passes (Some e) (lookup_entry test (reverse xs)));
          value = value_past xs (e ∷ ys) before ∙ here e passes (Some e.1) (lookup test ys)
              ∙ sym (ap (lookup test) turned ∙ value_past (reverse ys) right back ∙ here e passes (Some e.1) (lookup test (reverse xs)));
          removed = ap reverse (removed_past xs (e ∷ ys) before ∙ ap (λ l. xs ++ l) (here e passes ys (e ∷ remove_entry test ys)))
              ∙ reverse-append xs ys
              ∙ sym (ap (remove_entry test) turned ∙ removed_past (reverse ys) right back ∙ ap (λ l. reverse ys ++ l) (here e passes (reverse xs) (e ∷ remove_entry test (reverse xs))));
          set = λ w.
              ap reverse (set_past w xs (e ∷ ys) before ∙ ap (λ l. xs ++ l) (here e passes ((e.0, w) ∷ ys) (e ∷ set_value test ys w)))
              ∙ turned_at xs (e.0, w) ys
              ∙ sym (ap (λ l. set_value test l w) turned ∙ set_past w (reverse ys) right back ∙ ap (λ l. reverse ys ++ l) (here e passes ((e.0, w) ∷ reverse xs) (e ∷ set_value test (reverse xs) w)));
        }

  -- a key that is unlike all of some keys
  apart : (key stored : List ℕ) → bytes_eq key stored ≡ true → (more : List (List ℕ × X)) → AllByRecursion (λ k. bytes_eq stored k ≡ false) (keys_of more) → Fail (bytes_eq key) more
  apart key stored same [] none = tt
  apart key stored same (first ∷ more) none = (nat_list_eq_equiv.congr key stored first.0 same ∙ none.0, apart key stored same more none.1)

  -- distinct keys: one passes at most
  pub record One (key : List ℕ) (es : List (List ℕ × X)) : Type 0 where
    pub xs : List (List ℕ × X)
    pub e : List ℕ × X
    pub ys : List (List ℕ × X)
    pub is : xs ++ e ∷ ys ≡ es
    pub before : Fail (bytes_eq key) xs
    pub passes : bytes_eq key e.0 ≡ true
    pub after : Fail (bytes_eq key) ys

  one_at_most : (key : List ℕ) (es : List (List ℕ × X)) → IsDistinct bytes_eq (keys_of es) → Fail (bytes_eq key) es ⊎ One key es
  unfolding IsDistinct
  one_at_most key [] distinct = inl tt
  one_at_most key (first ∷ more) distinct = by (bytes_eq key first.0) refl (one_at_most key more distinct.1)
    where
      by : (b : Bool) → bytes_eq key first.0 ≡ b → Fail (bytes_eq key) more ⊎ One key more → Fail (bytes_eq key) (first ∷ more) ⊎ One key (first ∷ more)
      by true passes rest = inr (record {
        xs = [];
        e = first;
        ys = more;
        is = refl;
        before = tt;
        passes = passes;
        after = apart key first.0 passes more distinct.0;
      })
      by false fails (inl none) = inl (fails, none)
      by false fails (inr one) = inr (record {
        xs = first ∷ one.xs;
        e = one.e;
        ys = one.ys;
        is = ap (λ l. first ∷ l) one.is;
        before = (fails, one.before);
        passes = one.passes;
        after = one.after;
      })

  both_of : (key : List ℕ) (es : List (List ℕ × X)) → Fail (bytes_eq key) es ⊎ One key es → BothWays (bytes_eq key) es
  both_of key es (inl none) = none_both (bytes_eq key) es none
  both_of key es (inr one) = subst (BothWays (bytes_eq key)) one.is (one_both (bytes_eq key) one.xs one.e one.ys one.before one.passes one.after)

  -- ---- keys stay distinct

  all_kept : (P : List ℕ → Type 0) (test : List ℕ → Bool) (es : List (List ℕ × X)) → AllByRecursion P (keys_of es) → AllByRecursion P (keys_of (remove_entry test es))
  all_kept P test [] all = tt
  all_kept P test (first ∷ more) all = by (test first.0) (all_kept P test more all.1)
    where
      by : (b : Bool) → AllByRecursion P (keys_of (remove_entry test more)) → AllByRecursion P (keys_of (cond b more (first ∷ remove_entry test more)))
      by true rest = all.1
      by false rest = (all.0, rest)

  pub distinct_less : (test : List ℕ → Bool) (es : List (List ℕ × X)) → IsDistinct bytes_eq (keys_of es) → IsDistinct bytes_eq (keys_of (remove_entry test es))
  unfolding IsDistinct
  distinct_less test [] distinct = tt
  distinct_less test (first ∷ more) distinct = by (test first.0) (distinct_less test more distinct.1)
    where
      by : (b : Bool) → IsDistinct bytes_eq (keys_of (remove_entry test more)) → IsDistinct bytes_eq (keys_of (cond b more (first ∷ remove_entry test more)))
      by true rest = distinct.1
      by false rest = (all_kept (λ k. bytes_eq first.0 k ≡ false) test more distinct.0, rest)

  pub distinct_set : (test : List ℕ → Bool) (es : List (List ℕ × X)) (w : X) → IsDistinct bytes_eq (keys_of es) → IsDistinct bytes_eq (keys_of (set_value test es w))
  distinct_set test es w distinct = subst (IsDistinct bytes_eq) (sym (keys-set_value test es w)) distinct

  pub distinct_rest : (es : List (List ℕ × X)) → IsDistinct bytes_eq (keys_of es) → IsDistinct bytes_eq (keys_of (drop 1 es))
  unfolding IsDistinct
  distinct_rest [] distinct = tt
  distinct_rest (first ∷ more) distinct = distinct.1

  all_more : (P : List ℕ → Type 0) (es : List (List ℕ × X)) (e : List ℕ × X) → AllByRecursion P (keys_of es) → P e.0 → AllByRecursion P (keys_of (es ++ e ∷ []))
  all_more P [] e all one = (one, tt)
  all_more P (first ∷ more) e all one = (all.0, all_more P more e all.1 one)

  absent : (key : List ℕ) (first : List ℕ × X) (more : List (List ℕ × X)) → lookup (bytes_eq key) (first ∷ more) ≡ None → (bytes_eq key first.0 ≡ false) × (lookup (bytes_eq key) more ≡ None)
  absent key first more = by (bytes_eq key first.0)
    where
      by : (b : Bool) → cond b (Some first.1) (lookup (bytes_eq key) more) ≡ None → (b ≡ false) × (lookup (bytes_eq key) more ≡ None)
      by true none = absurd (cc none)
      by false none = (refl, none)

  pub distinct_more : (es : List (List ℕ × X)) (key : List ℕ) (w : X) → IsDistinct bytes_eq (keys_of es) → lookup (bytes_eq key) es ≡ None → IsDistinct bytes_eq (keys_of (es ++ (key, w) ∷ []))
  unfolding IsDistinct
  distinct_more [] key w distinct none = (tt, tt)
  distinct_more (first ∷ more) key w distinct none =
      let gone = absent key first more none in
      (all_more (λ k. bytes_eq first.0 k ≡ false) more (key, w) distinct.0 (nat_list_eq_equiv.symm first.0 key ∙ gone.0), distinct_more more key w distinct.1 gone.1)

  distinct_back : (es : List (List ℕ × X)) → IsDistinct bytes_eq (keys_of es) → IsDistinct bytes_eq (keys_of (reverse es))
  unfolding IsDistinct
  distinct_back [] distinct = tt
  distinct_back (first ∷ more) distinct =
      let none : lookup (bytes_eq first.0) more ≡ None = gone (first.0) more distinct.0 in
      let back : lookup (bytes_eq first.0) (reverse more) ≡ None = sym ((both_of first.0 more (one_at_most first.0 more distinct.1)).value) ∙ none in
      subst (λ l. IsDistinct bytes_eq (keys_of l)) (sym (reverse_front first more)) (distinct_more (reverse more) first.0 first.1 (distinct_back more distinct.1) back)
    where
      gone : (key : List ℕ) (es : List (List ℕ × X)) → AllByRecursion (λ k. bytes_eq key k ≡ false) (keys_of es) → lookup (bytes_eq key) es ≡ None
      gone key [] all = refl
      gone key (e ∷ es) all = ap (λ b. cond b (Some e.1) (lookup (bytes_eq key) es)) all.0 ∙ gone key es all.1

  -- what is found under a key, removed and set, where keys are distinct from the oldest on
  pub both_ways : (key : List ℕ) (es : List (List ℕ × X)) → IsDistinct bytes_eq (keys_of (reverse es)) → BothWays (bytes_eq key) es
  both_ways key es distinct =
      both_of key es (one_at_most key es (subst (λ l. IsDistinct bytes_eq (keys_of l)) (reverse-reverse es) (distinct_back (reverse es) distinct)))

-- ---- a map and its list

module _ (map : Option (LruCache (List ℕ) Kept)) (known : LruCache (List ℕ) Kept) (is : map ≡ Some known) (now : List (List ℕ × Kept)) (view : queued map ≡ now)
    (distinct : IsDistinct bytes_eq (keys_of (queued map))) where
  pub seen : reverse known.entries ≡ now
  seen = sym (ap queued is) ∙ view

  pub now_distinct : IsDistinct bytes_eq (keys_of now)
  now_distinct = subst (λ l. IsDistinct bytes_eq (keys_of l)) view distinct

  both_here : (key : List ℕ) → BothWays (bytes_eq key) known.entries
  both_here key = both_ways key known.entries (subst (λ l. IsDistinct bytes_eq (keys_of l)) (ap queued is) distinct)

  pub still_endless : IsEndless map → IsEndless (Some known)
  still_endless endless = subst IsEndless is endless

  pub looked_up : (key : List ℕ) → lookup (bytes_eq key) known.entries ≡ lookup (bytes_eq key) now
  looked_up key = (both_here key).value ∙ ap (lookup (bytes_eq key)) seen

  pub found_there : (key : List ℕ) → lookup_entry (bytes_eq key) known.entries ≡ lookup_entry (bytes_eq key) now
  found_there key = (both_here key).found ∙ ap (lookup_entry (bytes_eq key)) seen

  pub removed_there : (key : List ℕ) → reverse (remove_entry (bytes_eq key) known.entries) ≡ remove_entry (bytes_eq key) now
  removed_there key = (both_here key).removed ∙ ap (remove_entry (bytes_eq key)) seen

  pub set_there : (key : List ℕ) (w : Kept) → reverse (set_value (bytes_eq key) known.entries w) ≡ set_value (bytes_eq key) now w
  set_there key w = (both_here key).set w ∙ ap (λ l. set_value (bytes_eq key) l w) seen

  pub oldest_less : reverse (take (length known.entries - 1) known.entries) ≡ drop 1 now
  oldest_less = without_oldest known.entries ∙ ap (drop 1) seen

  pub oldest_there : last_entry known.entries ≡ slice_get now 0
  oldest_there = last_oldest known.entries ∙ ap (λ l. slice_get l 0) seen

-- a list whose keys are distinct, by another name
pub still_distinct : (new now : List (List ℕ × Kept)) → new ≡ now → IsDistinct bytes_eq (keys_of now) → IsDistinct bytes_eq (keys_of new)
still_distinct new now same distinct = subst (λ l. IsDistinct bytes_eq (keys_of l)) (sym same) distinct

-- what isn't there isn't set
pub set_absent : (key : List ℕ) (es : List (List ℕ × Kept)) (w : Kept) → None ≡ lookup (bytes_eq key) es → set_value (bytes_eq key) es w ≡ es
set_absent key [] w none = refl
set_absent key (first ∷ more) w none = by (bytes_eq key first.0) none (set_absent key more w)
  where
    by : (b : Bool) → None ≡ cond b (Some first.1) (lookup (bytes_eq key) more) → (None ≡ lookup (bytes_eq key) more → set_value (bytes_eq key) more w ≡ more)
        → cond b ((first.0, w) ∷ more) (first ∷ set_value (bytes_eq key) more w) ≡ first ∷ more
    by true none rest = absurd (cc none)
    by false none rest = ap (λ l. first ∷ l) (rest none)

-- one that is put where there is none before it
pub put_behind : (map : LruCache (List ℕ) Kept) (key : List ℕ) (w : Kept) (now : List (List ℕ × Kept)) → reverse map.entries ≡ now → IsDistinct bytes_eq (keys_of now)
    → lookup (bytes_eq key) now ≡ None → length map.entries ≤ map.cap - 1 → reverse (put_entries bytes_eq map key w) ≡ now ++ (key, w) ∷ []
put_behind map key w now seen distinct none room =
    let both = both_ways key map.entries (subst (λ l. IsDistinct bytes_eq (keys_of l)) (sym seen) distinct) in
    let absent : lookup (bytes_eq key) map.entries ≡ None = both.value ∙ ap (lookup (bytes_eq key)) seen ∙ none in
    ap (λ o. reverse (option_map_or (λ e. (e.0, w) ∷ remove_entry (bytes_eq key) map.entries) o ((key, w) ∷ take (map.cap - 1) map.entries))) (nothing key map.entries absent)
    ∙ ap (λ l. reverse ((key, w) ∷ l)) (take_all (map.cap - 1) map.entries room)
    ∙ reverse_front (key, w) map.entries
    ∙ ap (λ l. l ++ (key, w) ∷ []) seen
  where
    nothing : (key : List ℕ) (es : List (List ℕ × Kept)) → lookup (bytes_eq key) es ≡ None → lookup_entry (bytes_eq key) es ≡ None
    nothing key [] none = refl
    nothing key (first ∷ more) none = by (bytes_eq key first.0) none (nothing key more)
      where
        by : (b : Bool) → cond b (Some first.1) (lookup (bytes_eq key) more) ≡ None → (lookup (bytes_eq key) more ≡ None → lookup_entry (bytes_eq key) more ≡ None)
            → cond b (Some first) (lookup_entry (bytes_eq key) more) ≡ None
        by true none rest = absurd (cc none)
        by false none rest = rest none
