-- What types promise of values (this project's own).
use Rattle.std.specs.Prelude.{◌≡◌, ℕ, ◌++◌, ◌∷◌, [], List, map, All, IsSome, Some, Ok, true, ⊤}
use Rattle.doll_expr.specs.declared.expr.Expr.{Expr}
use Rattle.doll_erb.specs.declared.node.Local.{Local}
use Rattle.doll_schema.specs.declared.value.Value.{Value}
use Rattle.doll_schema.specs.declared.value.Value.TheVariants as value
use Rattle.doll_schema.specs.declared.value.Val.{Val}
use Rattle.doll_schema.specs.declared.value.Val.TheVariants as val
use Rattle.doll_schema.specs.Models.{ModelList}
use Rattle.doll_table.specs.Fits.{Fits}
use Rattle.doll_table.specs.Tables.{TableMap, row_of}
use Rattle.doll_eval.specs.Values.{value_of, variable}
use Rattle.doll_types.specs.declared.types.ValueType.{ValueType}
use Rattle.doll_types.specs.declared.types.ValueType.TheVariants.{Integer, Text, Boolean, Record, List as ListOf}
use Rattle.doll_types.specs.Findings.{locals_typing}
use Rattle.doll_types.specs.Types.{Typing, is_printable, item_type, type_of, variable_type}

-- a single value has a type; nil has each
abbrev pub ValueHasType : ValueType → Value → Type 0
ValueHasType t value.Nil = ⊤
ValueHasType Integer (value.Int n) = ⊤
ValueHasType Text (value.Text text) = ⊤
ValueHasType Boolean (value.Bool truth) = ⊤
ValueHasType t v = ⊥

-- A value has a type in a table: a record is of its model and in the table, and so is each record of a list.
abbrev pub HasType : TableMap → ValueType → Val → Type 0
HasType table t (val.Plain v) = ValueHasType t v
HasType table (Record model) (val.Record of id) = (of ≡ model) × IsSome (row_of table model id)
HasType table (ListOf model) (val.List of ids) = (of ≡ model) × All (λ id. IsSome (row_of table model id)) ids
HasType table t v = ⊥

-- each variable of a typing has its type
abbrev pub HaveTypes : TableMap → Typing → List (List ℕ × Val) → Type 0
HaveTypes table typing vars =
    (name : List ℕ) (t : ValueType) → variable_type typing name ≡ Some t → HasType table t (variable vars name)

-- where variables have their types, so has the value of each expression that is typed
abbrev pub ValuesHaveTypes : Type 0
ValuesHaveTypes =
    (schema : ModelList) (table : TableMap) (typing : Typing) (vars : List (List ℕ × Val)) (expr : Expr) (t : ValueType)
    → Fits schema table → HaveTypes table typing vars → type_of schema typing expr ≡ Ok t → HasType table t (value_of expr vars schema table)

-- the variables that a partial is rendered with, with their values
abbrev pub locals_values : ModelList → TableMap → List (List ℕ × Val) → List Local → List (List ℕ × Val)
locals_values schema table vars locals = map (λ (l : Local). (l.name, value_of l.value vars schema table)) locals

-- what a render hands on has the types of the partial's typing
abbrev pub LocalsHaveTypes : Type 0
LocalsHaveTypes =
    (schema : ModelList) (table : TableMap) (typing locals_types : Typing) (vars : List (List ℕ × Val)) (locals : List Local)
    → Fits schema table → HaveTypes table typing vars → locals_typing schema typing locals ≡ Ok locals_types
    → HaveTypes table locals_types (locals_values schema table vars locals)

-- a variable with its type behind others that have theirs
abbrev pub BoundHaveTypes : Type 0
BoundHaveTypes =
    (table : TableMap) (typing : Typing) (vars : List (List ℕ × Val)) (name : List ℕ) (t : ValueType) (v : Val)
    → HaveTypes table typing vars → HasType table t v → HaveTypes table (typing ++ (name, t) ∷ []) (vars ++ (name, v) ∷ [])

-- the items of a list have the type of its items
abbrev pub ItemsHaveTypes : Type 0
ItemsHaveTypes =
    (table : TableMap) (t item : ValueType) (model : ℕ) (ids : List ℕ)
    → item_type t ≡ Ok item → HasType table t (val.List model ids) → All (λ id. HasType table item (val.Record model id)) ids

-- what may be walked is a list or nil
abbrev pub IsListOrNil : Val → Type 0
IsListOrNil (val.List model ids) = ⊤
IsListOrNil (val.Plain value.Nil) = ⊤
IsListOrNil v = ⊥

abbrev pub WalkedAreLists : Type 0
WalkedAreLists = (table : TableMap) (t item : ValueType) (v : Val) → item_type t ≡ Ok item → HasType table t v → IsListOrNil v

-- what may be printed is a single value
abbrev pub IsSingle : Val → Type 0
IsSingle (val.Plain v) = ⊤
IsSingle v = ⊥

abbrev pub PrintedAreSingle : Type 0
PrintedAreSingle = (table : TableMap) (t : ValueType) (v : Val) → is_printable t ≡ true → HasType table t v → IsSingle v
