-- Of tables of one history: a record with the same row has the same children, where these touch it.
use Rattle.std.proofs.Common.{◌≡◌, ℕ, ◌==◌, Bool, true, false, cond, List, [], ◌∷◌, map, filter, get_or, Option, Some, None, All, inl, inr, true≢false, refl, ap, sym, subst, ◌∙◌}
use Rattle.std.specs.List.{AllByRecursion}
use Rattle.std.specs.Option.{option_map_or}
use Rattle.std.specs.FinMap as finite
use Rattle.std.proofs.lemmas.Bool.{eqb-true}
use Rattle.std.proofs.lemmas.List.Elements.{recursion_from_All}
use Rattle.doll_schema.specs.Models.{ModelList}
use Rattle.doll_schema.specs.declared.value.Row.{Row}
use Rattle.doll_table.specs.Tables.{TableMap, ids_under, names_parent, parent_of, row_of, rows_in}
use Rattle.doll_table.proofs.Placed.{found_at}
use Rattle.doll_past.specs.Facts.{HasSameChildren}
use Rattle.doll_agree.specs.Bodies.{AreOfOneHistory}
use Rattle.doll_agree.specs.Standing.{ChildrenAgree, IsSameChild}
use Rattle.doll_agree.proofs.Lists.{each_then}

-- an id with a row that names a parent
abbrev IsChild : TableMap → ℕ → ℕ → ℕ → ℕ → Type 0
IsChild table model place parent child = (row : Row) × (row_of table model child ≡ Some row) × (names_parent place parent row ≡ true)

kept : (table : TableMap) (model place parent : ℕ) (es : List (ℕ × Row)) → AllByRecursion (λ (e : ℕ × Row). row_of table model e.0 ≡ Some e.1) es
    → AllByRecursion (IsChild table model place parent) (map (λ (e : ℕ × Row). e.0) (filter (λ (e : ℕ × Row). names_parent place parent e.1) es))
kept table model place parent [] all = tt
kept table model place parent (e ∷ es) all = by (names_parent place parent e.1) refl (kept table model place parent es all.1)
  where
    by : (b : Bool) → names_parent place parent e.1 ≡ b → AllByRecursion (IsChild table model place parent) (map (λ (e : ℕ × Row). e.0) (filter (λ (e : ℕ × Row). names_parent place parent e.1) es))
        → AllByRecursion (IsChild table model place parent) (map (λ (e : ℕ × Row). e.0) (cond b (e ∷ filter (λ (e : ℕ × Row). names_parent place parent e.1) es) (filter (λ (e : ℕ × Row). names_parent place parent e.1) es)))
    by true names rest = ((e.1, all.0, names), rest)
    by false names rest = rest

entries_are : (table : TableMap) (model : ℕ) → All (λ (e : ℕ × Row). row_of table model e.0 ≡ Some e.1) (finite.entries (rows_in table model))
entries_are table model k d within =
    let rows = rows_in table model in
    finite.get-entries rows (get_or (finite.entries rows) k d).0
    ∙ found_at (finite.entries rows) k (get_or (finite.entries rows) k d).0 d (finite.entries_sorted rows) within refl

children_named : (table : TableMap) (model place parent : ℕ) → AllByRecursion (IsChild table model place parent) (ids_under table model place parent)
children_named table model place parent =
    kept table model place parent (finite.entries (rows_in table model))
    (recursion_from_All (λ (e : ℕ × Row). row_of table model e.0 ≡ Some e.1) (finite.entries (rows_in table model)) (entries_are table model))

parent_is : (row : Row) (place parent : ℕ) → names_parent place parent row ≡ true → parent_of row place ≡ Some parent
parent_is row place parent = by (parent_of row place)
  where
    by : (o : Option ℕ) → option_map_or (λ key. key == parent) o false ≡ true → o ≡ Some parent
    by None e = absurd (true≢false (sym e))
    by (Some key) e = ap Some (eqb-true key parent e)

pub children_agree : (schema : ModelList) (one other : TableMap) → AreOfOneHistory schema one other → ChildrenAgree schema one other
children_agree schema one other (inl later) model id many row here there touches = by (later.same_children model id 0 many row row here there refl touches)
  where
    by : HasSameChildren one other many id → (ids_under one many.model many.inverse id ≡ ids_under other many.model many.inverse id) × AllByRecursion (IsSameChild one other many id) (ids_under one many.model many.inverse id)
    by same = (
      same.ids,
      each_then (IsChild one many.model many.inverse id) (IsSameChild one other many id)
          (λ child is. record { row = is.0; lives = is.1; same = same.rows child is.0 is.1 is.2; names = parent_is is.0 many.inverse id is.2 })
          (ids_under one many.model many.inverse id) (children_named one many.model many.inverse id),
    )
children_agree schema one other (inr later) model id many row here there touches = by (later.same_children model id 0 many row row there here refl touches)
  where
    by : HasSameChildren other one many id → (ids_under one many.model many.inverse id ≡ ids_under other many.model many.inverse id) × AllByRecursion (IsSameChild one other many id) (ids_under one many.model many.inverse id)
    by same = (
      sym same.ids,
      subst (AllByRecursion (IsSameChild one other many id)) same.ids
          (each_then (IsChild other many.model many.inverse id) (IsSameChild one other many id)
          (λ child is. record { row = is.0; lives = same.rows child is.0 is.1 is.2; same = is.1; names = parent_is is.0 many.inverse id is.2 })
          (ids_under other many.model many.inverse id) (children_named other many.model many.inverse id)),
    )
