-- Values that are walked have the types of their items.
use Rattle.std.proofs.Common.{◌≡◌, ℕ, List, [], ◌∷◌, map, Result, Ok, Err, IsSome, refl, subst}
use Rattle.std.specs.List.{AllByRecursion}
use Rattle.std.proofs.lemmas.List.Elements.{recursion_from_All}
use Rattle.doll_text.specs.Steps.{◌>>=◌}
use Rattle.doll_expr.specs.declared.expr.Expr.{Expr}
use Rattle.doll_schema.specs.Models.{ModelList}
use Rattle.doll_schema.specs.declared.value.Val.{Val}
use Rattle.doll_schema.specs.declared.value.Val.TheVariants as val
use Rattle.doll_table.specs.Fits.{Fits}
use Rattle.doll_table.specs.Tables.{TableMap, row_of}
use Rattle.doll_eval.specs.Values.{value_of}
use Rattle.doll_plain.specs.Direct.{Variables, items_of}
use Rattle.doll_types.specs.declared.types.TypeKind.{TypeKind}
use Rattle.doll_types.specs.declared.types.ValueType.{ValueType}
use Rattle.doll_types.specs.declared.types.ValueType.TheVariants as type
use Rattle.doll_types.specs.Findings.{items_type}
use Rattle.doll_types.specs.Sound.{HasType, HaveTypes}
use Rattle.doll_types.specs.Types.{Typing, item_type, type_of}
use Rattle.doll_types.proofs.Values.{values}

-- records of a model that are in a table have its type
records : (table : TableMap) (model m : ℕ) (ids : List ℕ) → m ≡ model → AllByRecursion (λ id. IsSome (row_of table model id)) ids → AllByRecursion (HasType table (type.Record model)) (map (λ id. val.Record m id) ids)
records table model m [] same all = tt
records table model m (id ∷ ids) same all = ((same, all.0), records table model m ids same all.1)

same_type : (a b : ValueType) → ◌≡◌ {A = Result ValueType TypeKind} (Ok a) (Ok b) → a ≡ b
same_type a b e = cc e

-- the items of a value of a type whose items have one
pub items_typed : (table : TableMap) (of item : ValueType) (v : Val) → item_type of ≡ Ok item → HasType table of v → AllByRecursion (HasType table item) (items_of v)
items_typed table (type.List model) item (val.List m ids) is has =
    subst (λ t. AllByRecursion (HasType table t) (map (λ id. val.Record m id) ids)) (same_type (type.Record model) item is)
    (records table model m ids has.0 (recursion_from_All (λ id. IsSome (row_of table model id)) ids has.1))
items_typed table (type.List model) item (val.Plain v) is has = tt
items_typed table (type.List model) item (val.Record m id) is has = tt
items_typed table type.Nil item (val.Plain v) is has = tt
items_typed table type.Nil item (val.Record m id) is has = tt
items_typed table type.Nil item (val.List m ids) is has = absurd has
items_typed table type.Integer item v is has = absurd (cc is)
items_typed table type.Text item v is has = absurd (cc is)
items_typed table type.Boolean item v is has = absurd (cc is)
items_typed table (type.Record model) item v is has = absurd (cc is)

-- the items of the value of an expression
pub walked : (schema : ModelList) (table : TableMap) (typing : Typing) (vars : Variables) (list : Expr) (item : ValueType) → Fits schema table → HaveTypes table typing vars → items_type schema typing list ≡ Ok item
    → AllByRecursion (HasType table item) (items_of (value_of list vars schema table))
walked schema table typing vars list item fits have is = by (type_of schema typing list) refl is
  where
    by : (r : Result ValueType TypeKind) → type_of schema typing list ≡ r → (r >>= item_type) ≡ Ok item → AllByRecursion (HasType table item) (items_of (value_of list vars schema table))
    by (Err kind) typed e = absurd (cc e)
    by (Ok of) typed e = items_typed table of item (value_of list vars schema table) e (values schema table typing vars list of fits have typed)
