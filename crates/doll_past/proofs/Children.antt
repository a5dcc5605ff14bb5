-- The children of a record in two tables, of which each row that names it is in both.
use Rattle.std.proofs.Common.{◌≡◌, ℕ, zero, suc, Bool, true, false, cond, List, [], ◌∷◌, map, filter, Option, Some, None, eqb, T, refl, sym, ◌∙◌, ap, subst, arith, ◌⊎◌, inl, inr}
use Rattle.std.specs.Prelude.{slice_get, zip}
use Rattle.std.specs.List.{flat_map}
use Rattle.std.specs.Option.{option_map_or, option_and_then}
use Rattle.std.specs.Ordering.{nat_cmp, eq_by_cmp, is_lt}
use Rattle.std.specs.Cmp.{nat_cmp_total}
use Rattle.std.specs.FinMap as finite
use Rattle.std.specs.FinMap.{find, is_sorted}
use Rattle.std.specs.FinMap.Entries.{where_key, is_sorted-where_key, find-where_key}
use Rattle.std.proofs.lemmas.Bool.{true≢false, or_left, eqb-true}
use Rattle.std.proofs.lemmas.Bool.Decides.{nat_tests}
use Rattle.doll_schema.specs.declared.model.BelongsTo.{BelongsTo}
use Rattle.doll_schema.specs.declared.model.HasMany.{HasMany}
use Rattle.doll_schema.specs.declared.model.Model.{Model}
use Rattle.doll_schema.specs.declared.model.Schema.{Schema}
use Rattle.doll_schema.specs.declared.value.Row.{Row}
use Rattle.doll_table.specs.Tables.{TableMap, rows_in, row_of, names_parent}
use Rattle.doll_table.proofs.Placed.{less_from, and_first, and_second}
use Rattle.doll_commit.specs.Refs.{is_ref, has}
use Rattle.doll_commit.specs.Commits.{touched_by, row_touches, touch_parents}
use Rattle.doll_commit.proofs.Closures.{is_ref_itself, has_left, has_right}
use Rattle.doll_past.specs.Facts.{Touches, HasSameChildren}

-- ---- what names a record is among its touch parents

zipped_has : (bs : List BelongsTo) (ks : List (Option ℕ)) (at : ℕ) (b : BelongsTo) (id : ℕ) → slice_get bs at ≡ Some b → slice_get ks at ≡ Some (Some id) → b.touch ≡ true → has (flat_map touched_by (zip bs ks)) (b.model, id) ≡ true
zipped_has [] ks at b id here key touch = absurd (cc here)
zipped_has (a ∷ bs) [] at b id here key touch = absurd (cc key)
zipped_has (a ∷ bs) (k ∷ ks) zero b id here key touch =
    let e : a ≡ b = cc in
    let f : k ≡ Some id = cc in
    has_left (touched_by (a, k)) (flat_map touched_by (zip bs ks)) (b.model, id)
    (ap (λ (x : BelongsTo). has (touched_by (x, k)) (b.model, id)) e
    ∙ (ap (λ x. has (touched_by (b, x)) (b.model, id)) f
    ∙ (ap (λ t. has (cond t ((b.model, id) ∷ []) []) (b.model, id)) touch ∙ or_left (is_ref (b.model, id) (b.model, id)) false (is_ref_itself (b.model, id)))))
zipped_has (a ∷ bs) (k ∷ ks) (suc at) b id here key touch = has_right (touched_by (a, k)) (flat_map touched_by (zip bs ks)) (b.model, id) (zipped_has bs ks at b id here key touch)

key_named : (row : Row) (place id : ℕ) → names_parent place id row ≡ true → slice_get row.parents place ≡ Some (Some id)
key_named row place id = by_key (slice_get row.parents place)
  where
    by_key : (o : Option (Option ℕ)) → option_map_or (λ k. eqb k id) (option_and_then (λ (k : Option ℕ). k) o) false ≡ true → o ≡ Some (Some id)
    by_key None h = absurd (true≢false (sym h))
    by_key (Some None) h = absurd (true≢false (sym h))
    by_key (Some (Some k)) h = ap (λ i. Some (Some i)) (eqb-true k id h)

pub names_touches : (schema : Schema) (table : TableMap) (m id child : ℕ) (many : HasMany) (row : Row) → Touches schema m many → row_of table many.model child ≡ Some row → names_parent many.inverse id row ≡ true → has (touch_parents table schema (many.model, child)) (m, id) ≡ true
names_touches schema table m id child many row touches here names =
    ap (λ o. has (option_map_or (λ (x : Model). option_map_or (row_touches x) (row_of table many.model child) []) o []) (m, id)) touches.is_child
    ∙ (ap (λ o. has (option_map_or (row_touches touches.child) o []) (m, id)) here
    ∙ (ap (λ n. has (row_touches touches.child row) (n, id)) (sym touches.to_model)
    ∙ zipped_has touches.child.belongs_to row.parents many.inverse touches.back id touches.leads_back (key_named row many.inverse id names) touches.touch))

-- ---- children by their ids

-- whether the row under an id passes a test
abbrev passes : (Row → Bool) → List (ℕ × Row) → ℕ → Bool
passes test es q = option_map_or test (find nat_cmp q es) false

not_tied : (x y : ℕ) → T (is_lt (nat_cmp x y)) → eq_by_cmp nat_cmp y x ≡ false
not_tied x y l = let less = less_from x y l in grind (arith, nat_tests)

-- entries behind a first key are found as without it
behind : (test : Row → Bool) (e : ℕ × Row) (all some : List (ℕ × Row)) → T (finite.Entries.below_all nat_cmp e.0 some) → filter (λ (x : ℕ × Row). passes test (e ∷ all) x.0) some ≡ filter (λ (x : ℕ × Row). passes test all x.0) some
behind test e all [] below = refl
behind test e all (x ∷ some) below =
    let off : eq_by_cmp nat_cmp x.0 e.0 ≡ false = not_tied e.0 x.0 (and_first (is_lt (nat_cmp e.0 x.0)) (finite.Entries.below_all nat_cmp e.0 some) below) in
    let rest = behind test e all some (and_second (is_lt (nat_cmp e.0 x.0)) (finite.Entries.below_all nat_cmp e.0 some) below) in
    rw off (ap (λ ys. cond (passes test all x.0) (x ∷ ys) ys) rest)

-- a test of the rows of entries is one of their keys
by_keys : (test : Row → Bool) (es : List (ℕ × Row)) → T (is_sorted nat_cmp es) → filter (λ (x : ℕ × Row). test x.1) es ≡ where_key nat_cmp (passes test es) es
by_keys test [] sorted = refl
by_keys test (e ∷ es) sorted =
    let tied : eq_by_cmp nat_cmp e.0 e.0 ≡ true = grind (arith, nat_tests) in
    let rest = by_keys test es (and_second (finite.Entries.below_all nat_cmp e.0 es) (is_sorted nat_cmp es) sorted) in
    rw tied (ap (λ ys. cond (test e.1) (e ∷ ys) ys) (rest ∙ sym (behind test e es es (and_first (finite.Entries.below_all nat_cmp e.0 es) (is_sorted nat_cmp es) sorted))))

-- the map of the entries that pass
abbrev passing : (Row → Bool) → List (ℕ × Row) → finite.FinMap nat_cmp Row
passing test es = finite.from_sorted (where_key nat_cmp (passes test es) es)

find_passing : (test : Row → Bool) (es : List (ℕ × Row)) → T (is_sorted nat_cmp es) → (q : ℕ) → finite.get (passing test es) q ≡ cond (passes test es q) (find nat_cmp q es) None
find_passing test es sorted q =
    finite.get-from_sorted nat_cmp (where_key nat_cmp (passes test es) es) q (is_sorted-where_key nat_cmp (passes test es) es sorted)
    ∙ find-where_key nat_cmp (passes test es) q (λ x t. ap (passes test es) (sym (finite.nat_cmp-IsAntisymmetric q x t))) es

-- in both tables a record is the same, or passes in neither
abbrev pub AreAlike : (Row → Bool) → Option Row → Option Row → Type 0
AreAlike test a b = (a ≡ b) ⊎ (((row : Row) → a ≡ Some row → test row ≡ false) × ((row : Row) → b ≡ Some row → test row ≡ false))

alike : (test : Row → Bool) (a b : Option Row) → AreAlike test a b → cond (option_map_or test a false) a None ≡ cond (option_map_or test b false) b None
alike test a b (inl same) = ap (λ o. cond (option_map_or test o false) o None) same
alike test a b (inr neither) = none a neither.0 ∙ sym (none b neither.1)
  where
    none : (o : Option Row) → ((row : Row) → o ≡ Some row → test row ≡ false) → cond (option_map_or test o false) o None ≡ None
    none None h = refl
    none (Some row) h = ap (λ t. cond t (Some row) None) (h row refl)

same_passing : (test : Row → Bool) (rows others : finite.FinMap nat_cmp Row) → ((q : ℕ) → AreAlike test (finite.get rows q) (finite.get others q)) → filter (λ (x : ℕ × Row). test x.1) (finite.entries rows) ≡ filter (λ (x : ℕ × Row). test x.1) (finite.entries others)
same_passing test rows others like =
    let s = finite.entries_sorted rows in
    let u = finite.entries_sorted others in
    let one : passing test (finite.entries rows) ≡ passing test (finite.entries others) =
    finite.same_map nat_cmp_total finite.nat_cmp-IsAntisymmetric (passing test (finite.entries rows)) (passing test (finite.entries others))
    (λ q. find_passing test (finite.entries rows) s q
    ∙ (alike test (find nat_cmp q (finite.entries rows)) (find nat_cmp q (finite.entries others)) (subst (λ o. AreAlike test o (find nat_cmp q (finite.entries others))) (finite.get-entries rows q) (subst (AreAlike test (finite.get rows q)) (finite.get-entries others q) (like q)))
    ∙ sym (find_passing test (finite.entries others) u q))) in
    by_keys test (finite.entries rows) s
    ∙ (sym (finite.entries-from_sorted nat_cmp (where_key nat_cmp (passes test (finite.entries rows)) (finite.entries rows)) (is_sorted-where_key nat_cmp (passes test (finite.entries rows)) (finite.entries rows) s))
    ∙ (ap finite.entries one
    ∙ (finite.entries-from_sorted nat_cmp (where_key nat_cmp (passes test (finite.entries others)) (finite.entries others)) (is_sorted-where_key nat_cmp (passes test (finite.entries others)) (finite.entries others) u)
    ∙ sym (by_keys test (finite.entries others) u))))

-- where each child is the same or names the record in neither table, the record has the same children
pub same_children : (before after : TableMap) (many : HasMany) (id : ℕ) → ((child : ℕ) → AreAlike (names_parent many.inverse id) (row_of before many.model child) (row_of after many.model child)) → HasSameChildren before after many id
same_children before after many id like = record {
  ids = ap (map (λ (e : ℕ × Row). e.0)) (same_passing (names_parent many.inverse id) (rows_in before many.model) (rows_in after many.model) like);
  rows = λ child row here names. by_like child row here names (like child);
}
  where
    by_like : (child : ℕ) (row : Row) → row_of before many.model child ≡ Some row → names_parent many.inverse id row ≡ true → AreAlike (names_parent many.inverse id) (row_of before many.model child) (row_of after many.model child) → row_of after many.model child ≡ Some row
    by_like child row here names (inl same) = sym same ∙ here
    by_like child row here names (inr neither) = absurd (true≢false (sym names ∙ neither.0 row here))
