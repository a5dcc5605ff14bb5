-- Weights up to a cap: what is more counts as the cap.
use Rattle.std.proofs.Common.{◌≡◌, ℕ, zero, suc, ◌+◌, ◌≤◌, ◌<◌, Bool, true, false, cond, min, nat_lt, List, [], ◌∷◌, length, map, Some, refl, ap, sym, ◌∙◌, arith}
use Rattle.std.specs.List.{find, range_with_len, slice_index_or, sum_by}
use Rattle.std.proofs.lemmas.Bool.{lt-ltb, ltb-true, le-ltb, ltb-false}
use Rattle.std.proofs.lemmas.List.{get_or_past, length-map}
use Rattle.std.proofs.lemmas.List.FromFn.{length-map-range_with_len}
use Rattle.std.proofs.lemmas.List.Sums.{sum_by-cons}
use Rattle.doll_graph.specs.Levels.{by_levels}
use Rattle.doll_set.specs.Weights.{level_capped, weight_in, weight_step}

module _ (cap : ℕ) where
  pub both : (a b x y : ℕ) → min a cap ≡ min b cap → min x cap ≡ min y cap → min (a + x) cap ≡ min (b + y) cap
  both a b x y e h = omega (arith, e, h)

  sums : {X : Type 0} (f g : X → ℕ) → ((x : X) → min (f x) cap ≡ min (g x) cap) → (xs : List X) → min (sum_by f xs) cap ≡ min (sum_by g xs) cap
  sums f g same [] = refl
  sums f g same (x ∷ xs) =
      ap (λ n. min n cap) (sum_by-cons f x xs)
      ∙ both (f x) (g x) (sum_by f xs) (sum_by g xs) (same x) (sums f g same xs)
      ∙ ap (λ n. min n cap) (sym (sum_by-cons g x xs))

  -- one level more
  pub one_level : (nodes others : List ℕ) (rendered : List (List ℕ)) (f g : ℕ → ℕ) → ((m : ℕ) → min (slice_index_or nodes m 0) cap ≡ min (slice_index_or others m 0) cap) → ((m : ℕ) → min (f m) cap ≡ min (g m) cap) → (m : ℕ) → min (weight_step nodes rendered m f) cap ≡ min (weight_step others rendered m g) cap
  one_level nodes others rendered f g own same m =
      both (slice_index_or nodes m 0) (slice_index_or others m 0) (sum_by f (slice_index_or rendered m [])) (sum_by g (slice_index_or rendered m [])) (own m) (sums f g same (slice_index_or rendered m []))

  -- nodes that count alike up to the cap give weights that do
  pub levels : (nodes others : List ℕ) (rendered : List (List ℕ)) → ((m : ℕ) → min (slice_index_or nodes m 0) cap ≡ min (slice_index_or others m 0) cap) → (n m : ℕ) → min (by_levels 0 (weight_step nodes rendered) n m) cap ≡ min (by_levels 0 (weight_step others rendered) n m) cap
  levels nodes others rendered own zero m = refl
  levels nodes others rendered own (suc n) m =
      one_level nodes others rendered (by_levels 0 (weight_step nodes rendered) n) (by_levels 0 (weight_step others rendered) n) own (levels nodes others rendered own n) m

  -- each of some numbers up to the cap
  pub capped_at : (xs : List ℕ) (m : ℕ) → slice_index_or (map (λ n. min n cap) xs) m 0 ≡ min (slice_index_or xs m 0) cap
  capped_at [] m = omega arith
  capped_at (x ∷ xs) zero = refl
  capped_at (x ∷ xs) (suc m) = capped_at xs m

-- what is said of the numbers from one on, at a place
pub at_place : (f : ℕ → ℕ) (from count m : ℕ) → (count ≤ m → f (from + m) ≡ 0) → slice_index_or (map f (range_with_len from count)) m 0 ≡ f (from + m)
at_place f from zero m past = sym (past (omega arith))
at_place f from (suc count) zero past = ap f (omega arith)
at_place f from (suc count) (suc m) past = at_place f (from + 1) count m (λ far. ap f (moved from m) ∙ past (omega arith)) ∙ ap f (moved from m)
  where
    moved : (a b : ℕ) → a + 1 + b ≡ a + suc b
    moved a b = omega arith

-- what isn't there has no weight
pub nothing_past : (nodes : List ℕ) (rendered : List (List ℕ)) (n m : ℕ) → length nodes ≤ m → length rendered ≤ m → by_levels 0 (weight_step nodes rendered) n m ≡ 0
nothing_past nodes rendered zero m far past = refl
nothing_past nodes rendered (suc n) m far past =
    ap (λ k. k + sum_by (by_levels 0 (weight_step nodes rendered) n) (slice_index_or rendered m [])) (get_or_past nodes m 0 far)
    ∙ ap (λ ks. 0 + sum_by (by_levels 0 (weight_step nodes rendered) n) ks) (get_or_past rendered m [] past)

-- a test that says the same of each finds the same
pub found : (p q : ℕ → Bool) → ((m : ℕ) → p m ≡ q m) → (xs : List ℕ) → find p xs ≡ find q xs
found p q same [] = refl
found p q same (x ∷ xs) = ap (λ b. cond b (Some x) (find p xs)) (same x) ∙ ap (λ o. cond (q x) (Some x) o) (found p q same xs)

map_same : (p q : ℕ → ℕ) → ((m : ℕ) → p m ≡ q m) → (xs : List ℕ) → map p xs ≡ map q xs
map_same p q same [] = refl
map_same p q same (x ∷ xs) = ap (λ y. y ∷ map p xs) (same x) ∙ ap (λ ys. q x ∷ ys) (map_same p q same xs)

module _ (cap : ℕ) (nodes : List ℕ) (rendered : List (List ℕ)) (as_many : length rendered ≡ length nodes) where
  -- the weight of each number is in the list of a level
  weight_at : (n : ℕ) (weights : List ℕ) → weights ≡ level_capped cap nodes rendered n → (m : ℕ) → weight_in weights m ≡ min (by_levels 0 (weight_step nodes rendered) n m) cap
  weight_at n weights is m =
      ap (λ ws. weight_in ws m) is
      ∙ at_place said 0 (length nodes) m none
      ∙ ap said from_nothing
    where
      said : ℕ → ℕ
      said number = min (by_levels 0 (weight_step nodes rendered) n number) cap

      from_nothing : 0 + m ≡ m
      from_nothing = omega arith

      none : length nodes ≤ m → said (0 + m) ≡ 0
      none far = ap said from_nothing ∙ ap (λ w. min w cap) (nothing_past nodes rendered n m far (omega (arith, as_many))) ∙ omega arith

  -- no template has a weight before the first level
  pub no_level : map (λ _. 0) (range_with_len 0 (length nodes)) ≡ level_capped cap nodes rendered 0
  no_level = map_same (λ _. 0) (λ _. min 0 cap) (λ m. omega arith) (range_with_len 0 (length nodes))

  -- the weights by those of a level are those of the next
  pub level_more : (n : ℕ) (weights next : List ℕ) → weights ≡ level_capped cap nodes rendered n → next ≡ map (λ number. min (weight_step nodes rendered number (weight_in weights)) cap) (range_with_len 0 (length nodes)) → next ≡ level_capped cap nodes rendered (n + 1)
  level_more n weights next is made =
      made
      ∙ map_same (λ number. min (weight_step nodes rendered number (weight_in weights)) cap) (λ number. min (by_levels 0 (weight_step nodes rendered) (suc n) number) cap)
      (one_level cap nodes nodes rendered (weight_in weights) (by_levels 0 (weight_step nodes rendered) n) (λ m. refl) (λ m. ap (λ w. min w cap) (weight_at n weights is m) ∙ twice (by_levels 0 (weight_step nodes rendered) n m)))
      (range_with_len 0 (length nodes))
      ∙ ap (level_capped cap nodes rendered) one_more
    where
      twice : (w : ℕ) → min (min w cap) cap ≡ min w cap
      twice w = omega arith

      one_more : suc n ≡ n + 1
      one_more = omega arith

-- a weight is too great where it is so up to a greater cap
test_capped : (most cap a b : ℕ) → most < cap → min a cap ≡ min b cap → nat_lt most a ≡ nat_lt most b
test_capped most cap a b less same = by (nat_lt most b) refl
  where
    by : (c : Bool) → nat_lt most b ≡ c → nat_lt most a ≡ c
    by true e = let low = ltb-true most b e in lt-ltb most a (omega arith)
    by false e = let high = ltb-false most b e in le-ltb most a (omega arith)

-- each template has a weight
pub as_long : (cap : ℕ) (nodes counted weights : List ℕ) (rendered : List (List ℕ)) (deep : ℕ) → counted ≡ map (λ n. min n cap) nodes → weights ≡ level_capped cap counted rendered deep → length weights ≡ length nodes
as_long cap nodes counted weights rendered deep counts is =
    ap length is
    ∙ length-map-range_with_len (λ number. min (by_levels 0 (weight_step counted rendered) deep number) cap) 0 (length counted)
    ∙ ap length counts
    ∙ length-map nodes (λ n. min n cap)

-- the first that is too heavy by the weights up to a cap is the first that is
pub first_found : (most cap : ℕ) → most < cap → (nodes : List ℕ) (rendered : List (List ℕ)) → length rendered ≡ length nodes → (counted weights : List ℕ) → counted ≡ map (λ n. min n cap) nodes → (levels_deep : ℕ) → weights ≡ level_capped cap counted rendered levels_deep → find (λ number. nat_lt most (weight_in weights number)) (range_with_len 0 (length weights)) ≡ find (λ number. nat_lt most (by_levels 0 (weight_step nodes rendered) levels_deep number)) (range_with_len 0 (length nodes))
first_found most cap less nodes rendered as_many counted weights counts deep is =
    found (λ number. nat_lt most (weight_in weights number)) (λ number. nat_lt most (by_levels 0 (weight_step nodes rendered) deep number)) each (range_with_len 0 (length weights))
    ∙ ap (λ n. find (λ number. nat_lt most (by_levels 0 (weight_step nodes rendered) deep number)) (range_with_len 0 n)) long
  where
    long_counted : length counted ≡ length nodes
    long_counted = ap length counts ∙ length-map nodes (λ n. min n cap)

    long : length weights ≡ length nodes
    long = as_long cap nodes counted weights rendered deep counts is

    own : (m : ℕ) → min (slice_index_or counted m 0) cap ≡ min (slice_index_or nodes m 0) cap
    own m = ap (λ ns. min (slice_index_or ns m 0) cap) counts ∙ ap (λ w. min w cap) (capped_at cap nodes m) ∙ twice (slice_index_or nodes m 0)
      where
        twice : (w : ℕ) → min (min w cap) cap ≡ min w cap
        twice w = omega arith

    each : (m : ℕ) → nat_lt most (weight_in weights m) ≡ nat_lt most (by_levels 0 (weight_step nodes rendered) deep m)
    each m =
        let at = weight_at cap counted rendered (as_many ∙ sym long_counted) deep weights is m in
        let same = levels cap counted nodes rendered own deep m in
        test_capped most cap (weight_in weights m) (by_levels 0 (weight_step nodes rendered) deep m) less (omega (arith, at, same))
