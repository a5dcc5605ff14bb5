-- A model's ids and links beside its rows, and what an edit of the rows asks of them.
use Rattle.std.proofs.Common.{◌≡◌, ℕ, Bool, true, false, not, cond, ◌&&◌, ◌||◌, List, [], ◌∷◌, map, filter, Option, Some, None, is_some, eqb, refl, sym, ◌∙◌, ap, subst, arith}
use Rattle.std.specs.Prelude.{T, slice_get, option_and_then}
use Rattle.std.specs.Option.{option_map_or}
use Rattle.std.specs.Ordering.{nat_cmp, is_lt, eq_by_cmp}
use Rattle.std.specs.Cmp.{nat_cmp_total}
use Rattle.std.specs.FinMap as finite
use Rattle.std.specs.FinMap.Entries.{find, below_all, is_sorted}
use Rattle.std.proofs.lemmas.Bool.Decides.{nat_tests}
use Rattle.doll_schema.specs.declared.value.Row.{Row}
use Rattle.doll_table.specs.Ids.{IdSet, with_id, without_id, has_id, marked, Ascend}
use Rattle.doll_table.specs.Tables.{names_parent}
use Rattle.doll_table.specs.Links.{LinkMaps, linked, has_link, HasMore, HasLess, AreKept}
use Rattle.doll_table.proofs.Placed.{and_first, and_second, and_both, below_at, missed_between}
use Rattle.doll_table.proofs.Ascending.{is_test, same_members}
use Rattle.doll_table.proofs.Linking.{has-with, has-without, has-none}

equal_from : (a b : ℕ) → eqb a b ≡ true → a ≡ b
equal_from a b h = grind (arith, nat_tests)

-- the ids of the entries whose rows pass a test
module _ (test : Row → Bool) where
  abbrev passing : List (ℕ × Row) → List ℕ
  passing es = map (λ (e : ℕ × Row). e.0) (filter (λ (e : ℕ × Row). test e.1) es)

  below_passing : (x : ℕ) (es : List (ℕ × Row)) → T (below_all nat_cmp x es) → T (below_all nat_cmp x (marked (passing es)))
  below_passing x [] h = tt
  below_passing x (e ∷ es) h = by_test (test e.1) (below_passing x es (and_second (is_lt (nat_cmp x e.0)) (below_all nat_cmp x es) h))
    where
      by_test : (t : Bool) → T (below_all nat_cmp x (marked (passing es))) → T (below_all nat_cmp x (marked (map (λ (e : ℕ × Row). e.0) (cond t (e ∷ filter (λ (e : ℕ × Row). test e.1) es) (filter (λ (e : ℕ × Row). test e.1) es)))))
      by_test true rest = and_both (is_lt (nat_cmp x e.0)) (below_all nat_cmp x (marked (passing es))) (and_first (is_lt (nat_cmp x e.0)) (below_all nat_cmp x es) h) rest
      by_test false rest = rest

  sorted_passing : (es : List (ℕ × Row)) → T (is_sorted nat_cmp es) → Ascend (passing es)
  sorted_passing [] s = tt
  sorted_passing (e ∷ es) s = by_test (test e.1) (sorted_passing es (and_second (below_all nat_cmp e.0 es) (is_sorted nat_cmp es) s))
    where
      by_test : (t : Bool) → Ascend (passing es) → Ascend (map (λ (e : ℕ × Row). e.0) (cond t (e ∷ filter (λ (e : ℕ × Row). test e.1) es) (filter (λ (e : ℕ × Row). test e.1) es)))
      by_test true rest = and_both (below_all nat_cmp e.0 (marked (passing es))) (is_sorted nat_cmp (marked (passing es))) (below_passing e.0 es (and_first (below_all nat_cmp e.0 es) (is_sorted nat_cmp es) s)) rest
      by_test false rest = rest

  missed_below : (q : ℕ) (es : List (ℕ × Row)) → T (below_all nat_cmp q es) → find nat_cmp q es ≡ None
  missed_below q es h = missed_between es 0 q (omega arith) (λ j d l. absurd (omega arith)) (λ j d l m. below_at q es j d h m)

  find_passing : (q : ℕ) (es : List (ℕ × Row)) → T (is_sorted nat_cmp es) → is_some (find nat_cmp q (marked (passing es))) ≡ option_map_or test (find nat_cmp q es) false
  find_passing q [] s = refl
  find_passing q (e ∷ es) s = by_test (eq_by_cmp nat_cmp q e.0) (test e.1) refl refl (find_passing q es (and_second (below_all nat_cmp e.0 es) (is_sorted nat_cmp es) s))
    where
      equal : eq_by_cmp nat_cmp q e.0 ≡ true → e.0 ≡ q
      equal t = grind (arith, nat_tests)

      absent : eq_by_cmp nat_cmp q e.0 ≡ true → find nat_cmp q es ≡ None
      absent t = missed_below q es (subst (λ k. T (below_all nat_cmp k es)) (equal t) (and_first (below_all nat_cmp e.0 es) (is_sorted nat_cmp es) s))

      by_test : (t u : Bool) → eq_by_cmp nat_cmp q e.0 ≡ t → test e.1 ≡ u → is_some (find nat_cmp q (marked (passing es))) ≡ option_map_or test (find nat_cmp q es) false →
          is_some (find nat_cmp q (marked (map (λ (e : ℕ × Row). e.0) (cond u (e ∷ filter (λ (e : ℕ × Row). test e.1) es) (filter (λ (e : ℕ × Row). test e.1) es))))) ≡ option_map_or test (cond t (Some e.1) (find nat_cmp q es)) false
      by_test true true t u rest = rw (t, u) refl
      by_test true false t u rest = rw u (rest ∙ rw (absent t) refl)
      by_test false true t u rest = rw t rest
      by_test false false t u rest = rest

all_pass : (es : List (ℕ × Row)) → filter (λ (e : ℕ × Row). true) es ≡ es
all_pass [] = refl
all_pass (e ∷ es) = ap (λ t. e ∷ t) (all_pass es)

lives : (o : Option Row) → is_some o ≡ option_map_or (λ (r : Row). true) o false
lives None = refl
lives (Some r) = refl

none_linked : (place parent child : ℕ) → has_id (linked [] place parent) child ≡ false
none_linked place parent child = has-none child

-- no rows have no ids and no links
pub kept_none : (rows : finite.FinMap nat_cmp Row) (ids : IdSet) (links : LinkMaps) → rows ≡ finite.empty → ids ≡ finite.empty → links ≡ [] → AreKept rows ids links
kept_none rows ids links e f g = record {
  living = λ id. ap (λ s. has_id s id) f ∙ (has-none id ∙ sym (ap (λ m. finite.contains_key m id) e ∙ ap is_some (finite.get-empty nat_cmp id)));
  named = λ place parent id. ap (λ l. has_id (linked l place parent) id) g ∙ (none_linked place parent id ∙ sym (ap (λ m. has_link place parent (finite.get m id)) e ∙ ap (has_link place parent) (finite.get-empty nat_cmp id)));
}

module _ (rows : finite.FinMap nat_cmp Row) (ids : IdSet) (links : LinkMaps) (kept : AreKept rows ids links) where
  -- the ids kept are those of the rows
  pub ids_are : finite.keys ids ≡ finite.keys rows
  ids_are =
      same_members ids (passing (λ r. true) (finite.entries rows)) (sorted_passing (λ r. true) (finite.entries rows) (finite.entries_sorted rows))
      (λ q. kept.living q ∙ (lives (finite.get rows q) ∙ (ap (λ o. option_map_or (λ (r : Row). true) o false) (finite.get-entries rows q) ∙ sym (find_passing (λ r. true) q (finite.entries rows) (finite.entries_sorted rows)))))
      ∙ ap (map (λ (e : ℕ × Row). e.0)) (all_pass (finite.entries rows))

  -- the links kept of a parent are the rows that name it
  pub children_are : (place parent : ℕ) → finite.keys (linked links place parent) ≡ map (λ (e : ℕ × Row). e.0) (filter (λ (e : ℕ × Row). names_parent place parent e.1) (finite.entries rows))
  children_are place parent =
      same_members (linked links place parent) (passing (names_parent place parent) (finite.entries rows)) (sorted_passing (names_parent place parent) (finite.entries rows) (finite.entries_sorted rows))
      (λ q. kept.named place parent q ∙ (ap (has_link place parent) (finite.get-entries rows q) ∙ sym (find_passing (names_parent place parent) q (finite.entries rows) (finite.entries_sorted rows))))

  get_put : (id : ℕ) (row : Row) (q : ℕ) → finite.get (finite.insert rows id row) q ≡ cond (eqb q id) (Some row) (finite.get rows q)
  get_put id row q = finite.get-insert nat_cmp_total rows id row q ∙ ap (λ b. cond b (Some row) (finite.get rows q)) (is_test q id)

  get_without : (id q : ℕ) → finite.get (finite.remove rows id) q ≡ cond (eqb q id) None (finite.get rows q)
  get_without id q = finite.get-remove nat_cmp_total rows id q ∙ ap (λ b. cond b None (finite.get rows q)) (is_test q id)

  -- a new row
  pub kept_gained : (id : ℕ) (row : Row) (more : finite.FinMap nat_cmp Row) (all : IdSet) (after : LinkMaps) → None ≡ finite.get rows id → more ≡ finite.insert rows id row → all ≡ with_id ids id → HasMore links after row id → AreKept more all after
  kept_gained id row more all after none put ids_put gained = record {
    living = λ q. ap (λ s. has_id s q) ids_put ∙ (has-with ids id q ∙ (living_at q (eqb q id) ∙ sym (ap is_some (ap (λ m. finite.get m q) put ∙ get_put id row q))));
    named = λ place parent q. gained place parent q ∙ (named_at place parent q (eqb q id) refl ∙ sym (ap (has_link place parent) (ap (λ m. finite.get m q) put ∙ get_put id row q)));
  }
    where
      living_at : (q : ℕ) (t : Bool) → (t || has_id ids q) ≡ is_some (cond t (Some row) (finite.get rows q))
      living_at q true = refl
      living_at q false = kept.living q

      or_false : (a : Bool) → (a || false) ≡ a
      or_false true = refl
      or_false false = refl

      named_at : (place parent q : ℕ) (t : Bool) → eqb q id ≡ t → (has_id (linked links place parent) q || (t && names_parent place parent row)) ≡ has_link place parent (cond t (Some row) (finite.get rows q))
      named_at place parent q true t =
          ap (λ b. b || names_parent place parent row) (kept.named place parent q ∙ ap (has_link place parent) (ap (finite.get rows) (equal_from q id t) ∙ sym none))
      named_at place parent q false t = or_false (has_id (linked links place parent) q) ∙ kept.named place parent q

  living_stays : (id : ℕ) (row old : Row) (q : ℕ) → Some old ≡ finite.get rows id → has_id ids q ≡ finite.contains_key (finite.insert rows id row) q
  living_stays id row old q is = kept.living q ∙ (by_test (eqb q id) refl ∙ sym (ap is_some (get_put id row q)))
    where
      by_test : (t : Bool) → eqb q id ≡ t → is_some (finite.get rows q) ≡ is_some (cond t (Some row) (finite.get rows q))
      by_test true t = ap is_some (ap (finite.get rows) (equal_from q id t) ∙ sym is)
      by_test false t = refl

  -- a row in the place of another whose links were moved
  pub kept_moved : (id : ℕ) (row old : Row) (more : finite.FinMap nat_cmp Row) (after : LinkMaps) → Some old ≡ finite.get rows id → more ≡ finite.insert rows id row
      → ((place parent child : ℕ) → has_id (linked after place parent) child ≡ cond (eqb child id) (names_parent place parent row) (has_id (linked links place parent) child)) → AreKept more ids after
  kept_moved id row old more after is put moved = record {
    living = λ q. living_stays id row old q is ∙ sym (ap (λ m. finite.contains_key m q) put);
    named = λ place parent q. moved place parent q ∙ (named_at place parent q (eqb q id) ∙ sym (ap (has_link place parent) (ap (λ m. finite.get m q) put ∙ get_put id row q)));
  }
    where
      named_at : (place parent q : ℕ) (t : Bool) → cond t (names_parent place parent row) (has_id (linked links place parent) q) ≡ has_link place parent (cond t (Some row) (finite.get rows q))
      named_at place parent q true = refl
      named_at place parent q false = kept.named place parent q

  -- what the links say of a row that lives
  pub linked_at : (id : ℕ) (old : Row) → Some old ≡ finite.get rows id → (place parent : ℕ) → has_id (linked links place parent) id ≡ names_parent place parent old
  linked_at id old is place parent = kept.named place parent id ∙ ap (has_link place parent) (sym is)

  -- a row in the place of another with the same parents
  pub kept_same : (id : ℕ) (row old : Row) (more : finite.FinMap nat_cmp Row) → Some old ≡ finite.get rows id → more ≡ finite.insert rows id row → old.parents ≡ row.parents → AreKept more ids links
  kept_same id row old more is put same = kept_moved id row old more links is put (λ place parent q. by_test place parent q (eqb q id) refl)
    where
      names_same : (place parent : ℕ) → names_parent place parent old ≡ names_parent place parent row
      names_same place parent = ap (λ keys. option_map_or (λ k. eqb k parent) (option_and_then (λ k. k) (slice_get keys place)) false) same

      by_test : (place parent q : ℕ) (t : Bool) → eqb q id ≡ t → has_id (linked links place parent) q ≡ cond t (names_parent place parent row) (has_id (linked links place parent) q)
      by_test place parent q true t = ap (λ n. has_id (linked links place parent) n) (equal_from q id t) ∙ (linked_at id old is place parent ∙ names_same place parent)
      by_test place parent q false t = refl

  -- a row that goes
  pub kept_lost : (id : ℕ) (old : Row) (less : finite.FinMap nat_cmp Row) (left : IdSet) (after : LinkMaps) → Some old ≡ finite.get rows id → less ≡ finite.remove rows id → left ≡ without_id ids id → HasLess links after old id → AreKept less left after
  kept_lost id old less left after is taken ids_taken lost = record {
    living = λ q. ap (λ s. has_id s q) ids_taken ∙ (has-without ids id q ∙ (living_at q (eqb q id) ∙ sym (ap is_some (ap (λ m. finite.get m q) taken ∙ get_without id q))));
    named = λ place parent q. lost place parent q ∙ (named_at place parent q (eqb q id) refl ∙ sym (ap (has_link place parent) (ap (λ m. finite.get m q) taken ∙ get_without id q)));
  }
    where
      living_at : (q : ℕ) (t : Bool) → (not t && has_id ids q) ≡ is_some (cond t None (finite.get rows q))
      living_at q true = refl
      living_at q false = kept.living q

      and_true : (a : Bool) → (a && true) ≡ a
      and_true true = refl
      and_true false = refl

      cleared : (a : Bool) → (a && not a) ≡ false
      cleared true = refl
      cleared false = refl

      named_at : (place parent q : ℕ) (t : Bool) → eqb q id ≡ t → (has_id (linked links place parent) q && not (t && names_parent place parent old)) ≡ has_link place parent (cond t None (finite.get rows q))
      named_at place parent q true t =
          ap (λ b. b && not (names_parent place parent old)) (ap (λ n. has_id (linked links place parent) n) (equal_from q id t) ∙ linked_at id old is place parent) ∙ cleared (names_parent place parent old)
      named_at place parent q false t = and_true (has_id (linked links place parent) q) ∙ kept.named place parent q

-- nothing goes where nothing is
pub not_there : (rows : finite.FinMap nat_cmp Row) (id : ℕ) → None ≡ finite.get rows id → rows ≡ finite.remove rows id
not_there rows id none =
    finite.same_map nat_cmp_total finite.nat_cmp-IsAntisymmetric rows (finite.remove rows id)
    (λ q. by_test q (eqb q id) refl ∙ sym (finite.get-remove nat_cmp_total rows id q ∙ ap (λ b. cond b None (finite.get rows q)) (is_test q id)))
  where
    by_test : (q : ℕ) (t : Bool) → eqb q id ≡ t → finite.get rows q ≡ cond t None (finite.get rows q)
    by_test q true t = ap (finite.get rows) (equal_from q id t) ∙ sym none
    by_test q false t = refl
