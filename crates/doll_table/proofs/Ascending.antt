-- Ascending ids as a set, and what an edit at its place makes of them.
use Rattle.std.proofs.Common.{◌≡◌, ℕ, zero, suc, ◌<◌, ◌≤◌, Bool, true, false, not, cond, List, [], ◌∷◌, map, filter, length, get_or, set, Option, Some, None, is_some, Result, Ok, Err, is_ok, eqb, refl, sym, ◌∙◌, ap, subst, arith, ◌⊎◌, inl, inr}
use Rattle.std.specs.Prelude.{T, MatchResult}
use Rattle.std.specs.List.{insert, remove}
use Rattle.std.specs.Ordering.{nat_cmp, eq_by_cmp}
use Rattle.std.specs.declared.cmp.Ordering.TheVariants.{Equal}
use Rattle.std.specs.Cmp.{nat_cmp_total}
use Rattle.std.specs.FinMap as finite
use Rattle.std.specs.FinMap.Entries.{put, where_key, find, is_sorted, is_sorted-put, is_sorted-where_key, find-where_key}
use Rattle.std.proofs.lemmas.Bool.{cases_order}
use Rattle.std.proofs.lemmas.Bool.Decides.{nat_tests}
use Rattle.std.proofs.lemmas.List.{set-get_or, length-map}
use Rattle.doll_table.specs.Ids.{IdSet, with_id, without_id, has_id, marked, Ascend, set_of}
use Rattle.doll_table.proofs.Placed.{found_at, missed_between, put_at, without_at, put_between, without_between, rise, map_insert, map_remove}

pub is_test : (a b : ℕ) → eq_by_cmp nat_cmp a b ≡ eqb a b
is_test a b = grind (arith, nat_tests)

turned : (a b : ℕ) → eqb a b ≡ eqb b a
turned a b = grind (arith, nat_tests)

equal_from : (x y : ℕ) → nat_cmp x y ≡ Equal → x ≡ y
equal_from x y h = grind (arith, nat_tests)

-- entries with one more, and without one, as a map
as_put : (es : List (ℕ × Unit {0})) (id : ℕ) → T (is_sorted nat_cmp es) → finite.from_sorted {R = nat_cmp} (put nat_cmp id tt es) ≡ finite.insert (finite.from_sorted {R = nat_cmp} es) id tt
as_put es id s =
    finite.same_entries_map (finite.from_sorted {R = nat_cmp} (put nat_cmp id tt es)) (finite.insert (finite.from_sorted {R = nat_cmp} es) id tt)
    (finite.entries-from_sorted nat_cmp (put nat_cmp id tt es) (is_sorted-put nat_cmp nat_cmp_total id tt es s)
    ∙ sym (finite.entries-insert nat_cmp_total (finite.from_sorted {R = nat_cmp} es) id tt ∙ ap (put nat_cmp id tt) (finite.entries-from_sorted nat_cmp es s)))

find_without : (es : List (ℕ × Unit {0})) (id q : ℕ) → find nat_cmp q (where_key nat_cmp (λ x. not (eq_by_cmp nat_cmp id x)) es) ≡ cond (eqb q id) None (find nat_cmp q es)
find_without es id q =
    find-where_key nat_cmp (λ x. not (eq_by_cmp nat_cmp id x)) q (λ x t. ap (λ y. not (eq_by_cmp nat_cmp id y)) (sym (equal_from q x t))) es
    ∙ (ap (λ b. cond (not b) (find nat_cmp q es) None) (is_test id q ∙ turned id q) ∙ by_test (eqb q id))
  where
    by_test : (b : Bool) → cond (not b) (find nat_cmp q es) None ≡ cond b None (find nat_cmp q es)
    by_test true = refl
    by_test false = refl

as_without : (es : List (ℕ × Unit {0})) (id : ℕ) → T (is_sorted nat_cmp es) → finite.from_sorted {R = nat_cmp} (where_key nat_cmp (λ x. not (eq_by_cmp nat_cmp id x)) es) ≡ finite.remove (finite.from_sorted {R = nat_cmp} es) id
as_without es id s =
    finite.same_map nat_cmp_total finite.nat_cmp-IsAntisymmetric (finite.from_sorted {R = nat_cmp} (where_key nat_cmp (λ x. not (eq_by_cmp nat_cmp id x)) es)) (finite.remove (finite.from_sorted {R = nat_cmp} es) id)
    (λ q. finite.get-from_sorted nat_cmp (where_key nat_cmp (λ x. not (eq_by_cmp nat_cmp id x)) es) q (is_sorted-where_key nat_cmp (λ x. not (eq_by_cmp nat_cmp id x)) es s)
    ∙ (find_without es id q ∙ sym (finite.get-remove nat_cmp_total (finite.from_sorted {R = nat_cmp} es) id q ∙ (ap (λ b. cond b None (finite.get (finite.from_sorted {R = nat_cmp} es) q)) (is_test q id) ∙ ap (λ o. cond (eqb q id) None o) (finite.get-from_sorted nat_cmp es q s)))))

-- entries whose keys pass a test, as a map
as_retained : (es : List (ℕ × Unit {0})) (p : ℕ → Bool) → T (is_sorted nat_cmp es) → finite.from_sorted {R = nat_cmp} (where_key nat_cmp p es) ≡ finite.retain_keys (finite.from_sorted {R = nat_cmp} es) p
as_retained es p s =
    finite.same_map nat_cmp_total finite.nat_cmp-IsAntisymmetric (finite.from_sorted {R = nat_cmp} (where_key nat_cmp p es)) (finite.retain_keys (finite.from_sorted {R = nat_cmp} es) p)
    (λ q. finite.get-from_sorted nat_cmp (where_key nat_cmp p es) q (is_sorted-where_key nat_cmp p es s)
    ∙ (find-where_key nat_cmp p q (tied q) es ∙ sym (finite.get-retain_keys (finite.from_sorted {R = nat_cmp} es) p q (tied q) ∙ ap (λ o. cond (p q) o None) (finite.get-from_sorted nat_cmp es q s))))
  where
    tied : (q x : ℕ) → nat_cmp q x ≡ Equal → p x ≡ p q
    tied q x t = ap p (sym (equal_from q x t))

marked_filter : (p : ℕ → Bool) (ids : List ℕ) → marked (filter p ids) ≡ where_key nat_cmp p (marked ids)
marked_filter p [] = refl
marked_filter p (x ∷ ids) = by_test (p x) (marked_filter p ids)
  where
    by_test : (b : Bool) → marked (filter p ids) ≡ where_key nat_cmp p (marked ids) → marked (cond b (x ∷ filter p ids) (filter p ids)) ≡ cond b ((x, tt) ∷ where_key nat_cmp p (marked ids)) (where_key nat_cmp p (marked ids))
    by_test true rest = ap (λ es. (x, tt) ∷ es) rest
    by_test false rest = rest

length_marked : (ids : List ℕ) → length (marked ids) ≡ length ids
length_marked ids = length-map ids (λ (id : ℕ). (id, tt))

mark_at : (ids : List ℕ) (i : ℕ) (d : ℕ × Unit {0}) → i < length ids → (get_or (marked ids) i d).0 ≡ get_or ids i 0
mark_at [] i d l = absurd (omega arith)
mark_at (x ∷ ids) zero d l = refl
mark_at (x ∷ ids) (suc i) d l = mark_at ids i d (omega arith)

-- ascending ids, as the slice that is searched, rise with their places
pub rise_searched : (ids s : List ℕ) → Ascend ids → s ≡ ids → (i j : ℕ) → i ≤ j → j < length s → get_or s i 0 ≤ get_or s j 0
rise_searched ids s sorted e i j o m = rw e (up (rw e at m) (cases_order i j))
  where
    up : j < length ids → (i ≡ j) ⊎ ((i < j) ⊎ (j < i)) → get_or ids i 0 ≤ get_or ids j 0
    up l (inl same) = rw same (omega arith)
    up l (inr (inl less)) =
        let far = rise (marked ids) i j (0, tt) sorted less (omega (arith, length_marked ids)) in
        omega (arith, far, mark_at ids i (0, tt) (omega arith), mark_at ids j (0, tt) l)
    up l (inr (inr more)) = absurd (omega arith)

-- where a search says that an id would go
abbrev pub WouldGo : List ℕ → ℕ → ℕ → Type 0
WouldGo s id i = (i ≤ length s) × ((k : ℕ) → k < i → get_or s k 0 < id) × ((k : ℕ) → i ≤ k → k < length s → id < get_or s k 0)

-- what an edit leaves: ascending ids that are this set
pub record Leaves (ids : List ℕ) (set : IdSet) : Type 0 where
  pub ascend : Ascend ids
  pub is : set_of ids ≡ set

module _ (ids s : List ℕ) (sorted : Ascend ids) (e : s ≡ ids) (id i : ℕ) where
  before_marked : WouldGo ids id i → (j : ℕ) (d : ℕ × Unit {0}) → j < i → (get_or (marked ids) j d).0 < id
  before_marked h j d l = rw (mark_at ids j d (omega (arith, h.0))) (h.1 j l)

  after_marked : WouldGo ids id i → (j : ℕ) (d : ℕ × Unit {0}) → i ≤ j → j < length (marked ids) → id < (get_or (marked ids) j d).0
  after_marked h j d l m = let inside : j < length ids = omega (arith, length_marked ids) in rw (mark_at ids j d inside) (h.2 j l inside)

  -- a new id goes in at its place
  pub inserted : (after : List ℕ) → WouldGo s id i → after ≡ insert ids i id → Leaves after (with_id (set_of ids) id)
  inserted after h made =
      let g : WouldGo ids id i = rw e at h in
      let entries : marked after ≡ put nat_cmp id tt (marked ids) =
      ap marked made ∙ (map_insert (λ (n : ℕ). (n, tt)) ids i id ∙ sym (put_between (marked ids) i id tt (omega (arith, g.0, length_marked ids)) (before_marked g) (after_marked g))) in
      record {
        ascend = subst (λ es. T (is_sorted nat_cmp es)) (sym entries) (is_sorted-put nat_cmp nat_cmp_total id tt (marked ids) sorted);
        is = ap (finite.from_sorted {R = nat_cmp}) entries ∙ as_put (marked ids) id sorted;
      }

  -- an id that is there stays
  pub stayed : (i < length s) × (get_or s i 0 ≡ id) → set_of ids ≡ with_id (set_of ids) id
  stayed h =
      let l : i < length ids = rw e at h.0 in
      let at : get_or ids i 0 ≡ id = rw e at h.1 in
      let same : put nat_cmp id tt (marked ids) ≡ marked ids =
      put_at (marked ids) i id tt (0, tt) sorted (omega (arith, length_marked ids)) (mark_at ids i (0, tt) l ∙ at)
      ∙ (ap (λ n. set (marked ids) i (n, tt)) (sym (mark_at ids i (0, tt) l ∙ at)) ∙ set-get_or (marked ids) i (0, tt)) in
      ap (finite.from_sorted {R = nat_cmp}) (sym same) ∙ as_put (marked ids) id sorted

  -- an id that goes
  pub removed : (after : List ℕ) → (i < length s) × (get_or s i 0 ≡ id) → after ≡ remove ids i → Leaves after (without_id (set_of ids) id)
  removed after h made =
      let l : i < length ids = rw e at h.0 in
      let at : get_or ids i 0 ≡ id = rw e at h.1 in
      let entries : marked after ≡ where_key nat_cmp (λ x. not (eq_by_cmp nat_cmp id x)) (marked ids) =
      ap marked made ∙ (map_remove (λ (n : ℕ). (n, tt)) ids i ∙ sym (without_at (marked ids) i id (0, tt) sorted (omega (arith, length_marked ids)) (mark_at ids i (0, tt) l ∙ at))) in
      record {
        ascend = subst (λ es. T (is_sorted nat_cmp es)) (sym entries) (is_sorted-where_key nat_cmp (λ x. not (eq_by_cmp nat_cmp id x)) (marked ids) sorted);
        is = ap (finite.from_sorted {R = nat_cmp}) entries ∙ as_without (marked ids) id sorted;
      }

  -- an id that isn't there needn't go
  pub missed : WouldGo s id i → set_of ids ≡ without_id (set_of ids) id
  missed h =
      let g : WouldGo ids id i = rw e at h in
      ap (finite.from_sorted {R = nat_cmp}) (sym (without_between (marked ids) i id (omega (arith, g.0, length_marked ids)) (before_marked g) (after_marked g))) ∙ as_without (marked ids) id sorted

  -- an id is there exactly where a search finds it
  pub found : (i < length s) × (get_or s i 0 ≡ id) → has_id (set_of ids) id ≡ true
  found h =
      let l : i < length ids = rw e at h.0 in
      let at : get_or ids i 0 ≡ id = rw e at h.1 in
      ap is_some (finite.get-from_sorted nat_cmp (marked ids) id sorted ∙ found_at (marked ids) i id (0, tt) sorted (omega (arith, length_marked ids)) (mark_at ids i (0, tt) l ∙ at))

  pub not_found : WouldGo s id i → has_id (set_of ids) id ≡ false
  not_found h =
      let g : WouldGo ids id i = rw e at h in
      ap is_some (finite.get-from_sorted nat_cmp (marked ids) id sorted ∙ missed_between (marked ids) i id (omega (arith, g.0, length_marked ids)) (before_marked g) (after_marked g))

-- whether an id is there, by what a search for it says
pub is_there : (ids s : List ℕ) → Ascend ids → s ≡ ids → (id : ℕ) (r : Result ℕ ℕ) → MatchResult r (λ i. (i < length s) × (get_or s i 0 ≡ id)) (WouldGo s id) → is_ok r ≡ has_id (set_of ids) id
is_there ids s sorted e id (Ok i) h = sym (found ids s sorted e id i h)
is_there ids s sorted e id (Err i) h = sym (not_found ids s sorted e id i h)

-- ids that pass a test
pub retained : (ids after : List ℕ) (p : ℕ → Bool) → Ascend ids → after ≡ filter p ids → Leaves after (finite.retain_keys (set_of ids) p)
retained ids after p sorted made =
    let entries : marked after ≡ where_key nat_cmp p (marked ids) = ap marked made ∙ marked_filter p ids in
    record {
      ascend = subst (λ es. T (is_sorted nat_cmp es)) (sym entries) (is_sorted-where_key nat_cmp p (marked ids) sorted);
      is = ap (finite.from_sorted {R = nat_cmp}) entries ∙ as_retained (marked ids) p sorted;
    }

keys_marked : (ids : List ℕ) → map (λ (e : ℕ × Unit {0}). e.0) (marked ids) ≡ ids
keys_marked [] = refl
keys_marked (x ∷ ids) = ap (λ t. x ∷ t) (keys_marked ids)

-- ascending ids are the keys of their set
pub keys_of : (ids : List ℕ) → Ascend ids → finite.keys (set_of ids) ≡ ids
keys_of ids s = ap (map (λ (e : ℕ × Unit {0}). e.0)) (finite.entries-from_sorted nat_cmp (marked ids) s) ∙ keys_marked ids

pub none_of : set_of [] ≡ finite.empty
none_of =
    finite.same_map nat_cmp_total finite.nat_cmp-IsAntisymmetric (set_of []) finite.empty
    (λ q. finite.get-from_sorted nat_cmp [] q tt ∙ sym (finite.get-empty nat_cmp q))

-- a set with the members of ascending ids has them for keys
pub same_members : (s : IdSet) (ids : List ℕ) → Ascend ids → ((q : ℕ) → has_id s q ≡ is_some (find nat_cmp q (marked ids))) → finite.keys s ≡ ids
same_members s ids sorted same =
    let one : s ≡ set_of ids =
    finite.same_map nat_cmp_total finite.nat_cmp-IsAntisymmetric s (set_of ids) (λ q. alike (finite.get s q) (finite.get (set_of ids) q) (same q ∙ sym (ap is_some (finite.get-from_sorted nat_cmp (marked ids) q sorted)))) in
    ap finite.keys one ∙ keys_of ids sorted
  where
    alike : (a b : Option (Unit {0})) → is_some a ≡ is_some b → a ≡ b
    alike None None h = refl
    alike None (Some u) h = absurd (cc h)
    alike (Some u) None h = absurd (cc h)
    alike (Some u) (Some v) h = refl
