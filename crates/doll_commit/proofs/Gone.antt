-- What goes with a record lives.
use Rattle.std.proofs.Common.{◌≡◌, ℕ, Bool, true, false, cond, ◌||◌, List, [], ◌∷◌, map, filter, Option, Some, None, IsSome, sym, ◌∙◌, ap, subst, arith, ◌⊎◌, inl, inr}
use Rattle.std.specs.Prelude.{slice_get}
use Rattle.std.specs.List.{list_any, flat_map}
use Rattle.std.specs.Option.{option_map_or}
use Rattle.std.specs.Ordering.{nat_cmp, eq_by_cmp}
use Rattle.std.specs.FinMap as finite
use Rattle.std.proofs.lemmas.Bool.{true≢false, or_cases, or_left, or_right}
use Rattle.std.proofs.lemmas.Bool.Decides.{nat_tests}
use Rattle.doll_schema.specs.declared.value.Row.{Row}
use Rattle.doll_schema.specs.declared.model.HasMany.{HasMany}
use Rattle.doll_schema.specs.declared.model.Model.{Model}
use Rattle.doll_schema.specs.declared.model.Schema.{Schema}
use Rattle.doll_table.specs.Tables.{TableMap, row_of, rows_in, names_parent, ids_under}
use Rattle.doll_commit.specs.Refs.{Ref, is_ref, has}
use Rattle.doll_commit.specs.Removed.{children_under, dependents}
use Rattle.doll_commit.proofs.Closures.{is_ref-true, has_cases}

-- a record among those of a model has an id among theirs
pub id_among : (model : ℕ) (ids : List ℕ) (r : Ref) → has (map (λ id. (model, id)) ids) r ≡ true → (r.0 ≡ model) × (list_any (eq_by_cmp nat_cmp r.1) ids ≡ true)
id_among model [] r h = absurd (true≢false (sym h))
id_among model (i ∷ ids) r h = by_cases (id_among model ids r) (or_cases (is_ref r (model, i)) (has (map (λ id. (model, id)) ids) r) h)
  where
    same : is_ref r (model, i) ≡ true → eq_by_cmp nat_cmp r.1 i ≡ true
    same t = let e : r.1 ≡ i = ap (λ (x : Ref). x.1) (is_ref-true r (model, i) t) in grind (arith, nat_tests)

    by_cases : (has (map (λ id. (model, id)) ids) r ≡ true → (r.0 ≡ model) × (list_any (eq_by_cmp nat_cmp r.1) ids ≡ true)) → (is_ref r (model, i) ≡ true) ⊎ (has (map (λ id. (model, id)) ids) r ≡ true)
        → (r.0 ≡ model) × (list_any (eq_by_cmp nat_cmp r.1) (i ∷ ids) ≡ true)
    by_cases behind (inl t) = (ap (λ (x : Ref). x.0) (is_ref-true r (model, i) t), or_left (eq_by_cmp nat_cmp r.1 i) (list_any (eq_by_cmp nat_cmp r.1) ids) (same t))
    by_cases behind (inr t) = ((behind t).0, or_right (eq_by_cmp nat_cmp r.1 i) (list_any (eq_by_cmp nat_cmp r.1) ids) (behind t).1)

filtered_among : (test : ℕ × Row → Bool) (id : ℕ) (entries : List (ℕ × Row)) → list_any (eq_by_cmp nat_cmp id) (map (λ (e : ℕ × Row). e.0) (filter test entries)) ≡ true → list_any (eq_by_cmp nat_cmp id) (map (λ (e : ℕ × Row). e.0) entries) ≡ true
filtered_among test id [] h = h
filtered_among test id (e ∷ entries) h = by_test (test e) (filtered_among test id entries) h
  where
    rest : List (ℕ × Row)
    rest = filter test entries

    by_cases : (list_any (eq_by_cmp nat_cmp id) (map (λ (x : ℕ × Row). x.0) rest) ≡ true → list_any (eq_by_cmp nat_cmp id) (map (λ (x : ℕ × Row). x.0) entries) ≡ true)
        → (eq_by_cmp nat_cmp id e.0 ≡ true) ⊎ (list_any (eq_by_cmp nat_cmp id) (map (λ (x : ℕ × Row). x.0) rest) ≡ true) → (eq_by_cmp nat_cmp id e.0 || list_any (eq_by_cmp nat_cmp id) (map (λ (x : ℕ × Row). x.0) entries)) ≡ true
    by_cases behind (inl t) = or_left (eq_by_cmp nat_cmp id e.0) (list_any (eq_by_cmp nat_cmp id) (map (λ (x : ℕ × Row). x.0) entries)) t
    by_cases behind (inr t) = or_right (eq_by_cmp nat_cmp id e.0) (list_any (eq_by_cmp nat_cmp id) (map (λ (x : ℕ × Row). x.0) entries)) (behind t)

    by_test : (b : Bool) → (list_any (eq_by_cmp nat_cmp id) (map (λ (x : ℕ × Row). x.0) rest) ≡ true → list_any (eq_by_cmp nat_cmp id) (map (λ (x : ℕ × Row). x.0) entries) ≡ true)
        → list_any (eq_by_cmp nat_cmp id) (map (λ (x : ℕ × Row). x.0) (cond b (e ∷ rest) rest)) ≡ true → list_any (eq_by_cmp nat_cmp id) (map (λ (x : ℕ × Row). x.0) (e ∷ entries)) ≡ true
    by_test true behind t = by_cases behind (or_cases (eq_by_cmp nat_cmp id e.0) (list_any (eq_by_cmp nat_cmp id) (map (λ (x : ℕ × Row). x.0) rest)) t)
    by_test false behind t = or_right (eq_by_cmp nat_cmp id e.0) (list_any (eq_by_cmp nat_cmp id) (map (λ (x : ℕ × Row). x.0) entries)) (behind t)

-- a record that names another lives
pub named_lives : (table : TableMap) (model place parent : ℕ) (r : Ref) → has (map (λ id. (model, id)) (ids_under table model place parent)) r ≡ true → IsSome (row_of table r.0 r.1)
named_lives table model place parent r h =
    let among = id_among model (ids_under table model place parent) r h in
    subst (λ m. IsSome (row_of table m r.1)) (sym among.0)
    (finite.contains_key-keys (rows_in table model) r.1 ∙ filtered_among (λ (e : ℕ × Row). names_parent place parent e.1) r.1 (finite.entries (rows_in table model)) among.1)

child_lives : (table : TableMap) (parent : ℕ) (many : HasMany) (r : Ref) → has (children_under table parent many) r ≡ true → IsSome (row_of table r.0 r.1)
child_lives table parent many r = by_test many.destroy
  where
    by_test : (b : Bool) → has (cond b (map (λ id. (many.model, id)) (ids_under table many.model many.inverse parent)) []) r ≡ true → IsSome (row_of table r.0 r.1)
    by_test true h = named_lives table many.model many.inverse parent r h
    by_test false h = absurd (true≢false (sym h))

children_live : (table : TableMap) (parent : ℕ) (manys : List HasMany) (r : Ref) → has (flat_map (children_under table parent) manys) r ≡ true → IsSome (row_of table r.0 r.1)
children_live table parent [] r h = absurd (true≢false (sym h))
children_live table parent (many ∷ manys) r h = by_cases (children_live table parent manys r) (has_cases (children_under table parent many) (flat_map (children_under table parent) manys) r h)
  where
    by_cases : (has (flat_map (children_under table parent) manys) r ≡ true → IsSome (row_of table r.0 r.1)) → (has (children_under table parent many) r ≡ true) ⊎ (has (flat_map (children_under table parent) manys) r ≡ true) → IsSome (row_of table r.0 r.1)
    by_cases behind (inl t) = child_lives table parent many r t
    by_cases behind (inr t) = behind t

pub dependents_live : (table : TableMap) (schema : Schema) (gone r : Ref) → has (dependents table schema gone) r ≡ true → IsSome (row_of table r.0 r.1)
dependents_live table schema gone r = by_model (slice_get schema.models gone.0)
  where
    by_model : (o : Option Model) → has (option_map_or (λ (m : Model). flat_map (children_under table gone.1) m.has_many) o []) r ≡ true → IsSome (row_of table r.0 r.1)
    by_model None h = absurd (true≢false (sym h))
    by_model (Some m) h = children_live table gone.1 m.has_many r h
