-- A table without some of its records.
use Rattle.std.proofs.Common.{◌≡◌, ℕ, zero, suc, ◌+◌, ◌<◌, ◌≤◌, Bool, true, false, not, cond, ◌||◌, List, [], ◌∷◌, map, filter, length, drop, get_or, Option, Some, None, is_some, eqb, refl, sym, ◌∙◌, ap, subst, arith, ◌⊎◌, inl, inr}
use Rattle.std.specs.Prelude.{slice_get}
use Rattle.std.specs.List.{list_any, flat_map, enumerate_from}
use Rattle.std.specs.Option.{option_map_or}
use Rattle.std.specs.Ordering.{nat_cmp, eq_by_cmp}
use Rattle.std.specs.FinMap as finite
use Rattle.std.specs.FinMap.Entries.{find}
use Rattle.std.proofs.lemmas.Bool.{true≢false, or_cases, or_left, or_right, eq-eqb, false_from_ne_true}
use Rattle.std.proofs.lemmas.Bool.Decides.{nat_tests}
use Rattle.std.proofs.lemmas.List.{drop_more}
use Rattle.std.proofs.lemmas.Option.{same_Some, none-some}
use Rattle.doll_schema.specs.declared.value.Row.{Row}
use Rattle.doll_schema.specs.declared.model.BelongsTo.{BelongsTo}
use Rattle.doll_schema.specs.declared.model.Model.{Model}
use Rattle.doll_schema.specs.declared.model.Schema.{Schema}
use Rattle.doll_table.specs.Tables.{Extent, TableMap, row_of, rows_in, next_of, parent_of, names_parent, ids_under, without_row, without_rows}
use Rattle.doll_table.specs.Fits.{Fits, RowFits}
use Rattle.doll_table.proofs.Growing.{row_of_without, next_of_without, length_stays}
use Rattle.doll_commit.specs.Refs.{Ref, is_ref, has}
use Rattle.doll_commit.specs.Removed.{naming_by, naming, is_restricted}
use Rattle.doll_commit.proofs.Closures.{is_ref-true, is_ref_itself, has_left, has_right}

-- the rows of a table without some

joined : (a b : Bool) (o : Option Row) → cond a None (cond b None o) ≡ cond (a || b) None o
joined true b o = refl
joined false b o = refl

pub row_of_without_rows : (table : TableMap) (refs : List Ref) (m i : ℕ) → row_of (without_rows table refs) m i ≡ cond (has refs (m, i)) None (row_of table m i)
row_of_without_rows table [] m i = refl
row_of_without_rows table (r ∷ rs) m i =
    row_of_without (without_rows table rs) r.0 r.1 m i ∙ (ap (λ o. cond (is_ref (m, i) r) None o) (row_of_without_rows table rs m i) ∙ joined (is_ref (m, i) r) (has rs (m, i)) (row_of table m i))

pub next_of_without_rows : (table : TableMap) (refs : List Ref) (m : ℕ) → next_of (without_rows table refs) m ≡ next_of table m
next_of_without_rows table [] m = refl
next_of_without_rows table (r ∷ rs) m = next_of_without (without_rows table rs) r.0 r.1 m ∙ next_of_without_rows table rs m

length_without_rows : (table : TableMap) (refs : List Ref) → length (without_rows table refs).extents ≡ length table.extents
length_without_rows table [] = refl
length_without_rows table (r ∷ rs) = length_stays (without_rows table rs) r.0 (λ (x : Extent). record x { rows = finite.remove x.rows r.1 }) ∙ length_without_rows table rs

schema_without_rows : (table : TableMap) (refs : List Ref) → (without_rows table refs).schema ≡ table.schema
schema_without_rows table [] = refl
schema_without_rows table (r ∷ rs) = schema_without_rows table rs

pub without_at : (table : TableMap) (refs : List Ref) (at : ℕ) (d : Ref) → at < length refs → without_row (without_rows table (drop (at + 1) refs)) (get_or refs at d).0 (get_or refs at d).1 ≡ without_rows table (drop at refs)
without_at table refs at d l = ap (without_rows table) (sym (drop_more refs at d l))

-- a record that passes a test
pub member_any : (test : Ref → Bool) (xs : List Ref) (x : Ref) → has xs x ≡ true → test x ≡ true → list_any test xs ≡ true
member_any test [] x h t = h
member_any test (y ∷ xs) x h t = by_cases (λ u. member_any test xs x u t) (or_cases (is_ref x y) (has xs x) h)
  where
    by_cases : (has xs x ≡ true → list_any test xs ≡ true) → (is_ref x y ≡ true) ⊎ (has xs x ≡ true) → list_any test (y ∷ xs) ≡ true
    by_cases behind (inl u) = or_left (test y) (list_any test xs) (ap test (sym (is_ref-true x y u)) ∙ t)
    by_cases behind (inr u) = or_right (test y) (list_any test xs) (behind u)

-- a row that names a record is among those that name it

equal_from : (a b : ℕ) → eq_by_cmp nat_cmp a b ≡ true → a ≡ b
equal_from a b t = grind (arith, nat_tests)

found_filtered : (test : Row → Bool) (m i : ℕ) (row : Row) (es : List (ℕ × Row)) → find nat_cmp i es ≡ Some row → test row ≡ true → has (map (λ id. (m, id)) (map (λ (e : ℕ × Row). e.0) (filter (λ (e : ℕ × Row). test e.1) es))) (m, i) ≡ true
found_filtered test m i row [] h t = absurd (none-some row h)
found_filtered test m i row (e ∷ es) h t = by_test (eq_by_cmp nat_cmp i e.0) refl (λ u. found_filtered test m i row es u t) h
  where
    kept : List (ℕ × Row)
    kept = filter (λ (x : ℕ × Row). test x.1) es

    passed : (b : Bool) → test e.1 ≡ b → e.1 ≡ row → i ≡ e.0 → has (map (λ id. (m, id)) (map (λ (x : ℕ × Row). x.0) (cond b (e ∷ kept) kept))) (m, i) ≡ true
    passed true u here at = or_left (is_ref (m, i) (m, e.0)) (has (map (λ id. (m, id)) (map (λ (x : ℕ × Row). x.0) kept)) (m, i)) (ap (λ n. is_ref (m, i) (m, n)) (sym at) ∙ is_ref_itself (m, i))
    passed false u here at = absurd (true≢false (sym t ∙ (ap test (sym here) ∙ u)))

    over : (b : Bool) → has (map (λ id. (m, id)) (map (λ (x : ℕ × Row). x.0) kept)) (m, i) ≡ true → has (map (λ id. (m, id)) (map (λ (x : ℕ × Row). x.0) (cond b (e ∷ kept) kept))) (m, i) ≡ true
    over true u = or_right (is_ref (m, i) (m, e.0)) (has (map (λ id. (m, id)) (map (λ (x : ℕ × Row). x.0) kept)) (m, i)) u
    over false u = u

    by_test : (b : Bool) → eq_by_cmp nat_cmp i e.0 ≡ b → (find nat_cmp i es ≡ Some row → has (map (λ id. (m, id)) (map (λ (x : ℕ × Row). x.0) kept)) (m, i) ≡ true) → cond b (Some e.1) (find nat_cmp i es) ≡ Some row
        → has (map (λ id. (m, id)) (map (λ (x : ℕ × Row). x.0) (filter (λ (x : ℕ × Row). test x.1) (e ∷ es)))) (m, i) ≡ true
    by_test true u behind k = passed (test e.1) refl (same_Some e.1 row k) (equal_from i e.0 u)
    by_test false u behind k = over (test e.1) (behind k)

under_has : (table : TableMap) (m i place parent : ℕ) (row : Row) → row_of table m i ≡ Some row → names_parent place parent row ≡ true → has (map (λ id. (m, id)) (ids_under table m place parent)) (m, i) ≡ true
under_has table m i place parent row here names = found_filtered (names_parent place parent) m i row (finite.entries (rows_in table m)) (sym (finite.get-entries (rows_in table m) i) ∙ here) names

enumerated_has : {X : Type 0} (f : ℕ × X → List Ref) (first at n : ℕ) (xs : List X) (x : X) (r : Ref) → n ≡ at + first → slice_get xs at ≡ Some x → has (f (n, x)) r ≡ true → has (flat_map f (enumerate_from first xs)) r ≡ true
enumerated_has f first at n [] x r e here h = absurd (none-some x here)
enumerated_has f first zero n (y ∷ xs) x r e here h =
    let same : n ≡ first = omega arith in
    has_left (f (first, y)) (flat_map f (enumerate_from (first + 1) xs)) r (ap (λ k. has (f (k, y)) r) (sym same) ∙ (ap (λ z. has (f (n, z)) r) (same_Some y x here) ∙ h))
enumerated_has f first (suc at) n (y ∷ xs) x r e here h = has_right (f (first, y)) (flat_map f (enumerate_from (first + 1) xs)) r (enumerated_has f (first + 1) at n xs x r (omega arith) here h)

pub naming_has : (table : TableMap) (schema : Schema) (m i at id : ℕ) (model : Model) (b : BelongsTo) (row : Row) → row_of table m i ≡ Some row → slice_get schema.models m ≡ Some model → slice_get model.belongs_to at ≡ Some b → parent_of row at ≡ Some id → has (naming table schema (b.model, id)) (m, i) ≡ true
naming_has table schema m i at id model b row here is_model is_parent key =
    enumerated_has (λ (p : ℕ × Model). flat_map (naming_by table (b.model, id) p.0) (enumerate_from 0 p.1.belongs_to)) 0 m m schema.models model (m, i) (omega arith) is_model
    (enumerated_has (naming_by table (b.model, id) m) 0 at at model.belongs_to b (m, i) (omega arith) is_parent
    (ap (λ t. has (cond t (map (λ j. (m, j)) (ids_under table m at id)) []) (m, i)) (eq-eqb b.model b.model refl) ∙ under_has table m i at id row here (ap (λ o. option_map_or (λ k. eqb k id) o false) key ∙ eq-eqb id id refl)))

-- a table still fits without records that no other row names

lived : (b : Bool) (o : Option Row) → is_some (cond b None o) ≡ true → is_some o ≡ true
lived true o h = absurd (true≢false (sym h))
lived false o h = h

stayed : (b : Bool) (o : Option Row) (row : Row) → cond b None o ≡ Some row → (b ≡ false) × (o ≡ Some row)
stayed true o row h = absurd (none-some row h)
stayed false o row h = (refl, h)

unnamed : (table : TableMap) (schema : Schema) (removed : List Ref) (named by : Ref) → is_restricted table schema removed ≡ false → has removed by ≡ false → has (naming table schema named) by ≡ true → has removed named ≡ false
unnamed table schema removed named by free here names =
    false_from_ne_true (has removed named)
    (λ gone. true≢false (sym (member_any (λ r. list_any (λ ref. not (has removed ref)) (naming table schema r)) removed named gone (member_any (λ ref. not (has removed ref)) (naming table schema named) by names (ap not here))) ∙ free))

pub without_fits : (schema : Schema) (table : TableMap) (removed : List Ref) → Fits schema table → is_restricted table schema removed ≡ false → Fits schema (without_rows table removed)
without_fits schema table removed fits free = record {
  same = schema_without_rows table removed ∙ fits.same;
  extents = length_without_rows table removed ∙ fits.extents;
  nexts = λ m l. subst (λ n. 1 ≤ n) (sym (next_of_without_rows table removed m)) (fits.nexts m (subst (λ n. m < n) (length_without_rows table removed) l));
  ids = λ m i lives. let old = fits.ids m i (lived (has removed (m, i)) (row_of table m i) (ap is_some (sym (row_of_without_rows table removed m i)) ∙ lives)) in (old.0, subst (λ n. i < n) (sym (next_of_without_rows table removed m)) old.1);
  rows = λ m i model row is_model is. row_at m i model row is_model (stayed (has removed (m, i)) (row_of table m i) row (sym (row_of_without_rows table removed m i) ∙ is));
}
  where
    row_at : (m i : ℕ) (model : Model) (row : Row) → slice_get schema.models m ≡ Some model → (has removed (m, i) ≡ false) × (row_of table m i ≡ Some row) → RowFits (without_rows table removed) model row
    row_at m i model row is_model here =
        let old = fits.rows m i model row is_model here.1 in
        record {
          as_many_values = old.as_many_values;
          kinds = old.kinds;
          as_many_parents = old.as_many_parents;
          parents = λ at b id is_parent key.
              ap is_some (row_of_without_rows table removed b.model id)
              ∙ (ap (λ t. is_some (cond t None (row_of table b.model id))) (unnamed table schema removed (b.model, id) (m, i) free here.0 (naming_has table schema m i at id model b row here.1 is_model is_parent key)) ∙ old.parents at b id is_parent key);
        }
