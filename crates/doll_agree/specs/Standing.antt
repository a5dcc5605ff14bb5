-- Values of two pages that stand at one path from the variables of a block, and what a key tells of them (this project's own).
use Rattle.std.specs.Prelude.{◌≡◌, ◌⊎◌, ℕ, true, List, [], ◌∷◌, Some, Ok, ⊤}
use Rattle.std.specs.List.{AllByRecursion, Contains, flat_map}
use Rattle.doll_expr.specs.declared.expr.Expr.{Expr}
use Rattle.doll_erb.specs.declared.node.KeyPart.{KeyPart}
use Rattle.doll_erb.specs.declared.node.KeyPart.TheVariants as part
use Rattle.doll_schema.specs.Lookups.{many_of}
use Rattle.doll_schema.specs.Models.{ModelList}
use Rattle.doll_schema.specs.declared.model.HasMany.{HasMany}
use Rattle.doll_schema.specs.declared.value.Row.{Row}
use Rattle.doll_schema.specs.declared.value.Val.{Val}
use Rattle.doll_schema.specs.declared.value.Val.TheVariants as val
use Rattle.doll_schema.specs.declared.value.Value.{Value}
use Rattle.doll_table.specs.Fits.{Fits}
use Rattle.doll_table.specs.Tables.{TableMap, ids_under, parent_of, row_of}
use Rattle.doll_eval.specs.declared.member.Member.TheVariants as member
use Rattle.doll_eval.specs.Values.{step, value_of, variable}
use Rattle.doll_plain.specs.Direct.{Variables}
use Rattle.doll_types.specs.declared.types.ValueType.{ValueType}
use Rattle.doll_types.specs.declared.types.ValueType.TheVariants as type
use Rattle.doll_types.specs.Findings.{is_key}
use Rattle.doll_types.specs.Sound.{HasType, HaveTypes}
use Rattle.doll_types.specs.Types.{Typing, type_of, variable_type}
use Rattle.doll_lint.specs.declared.path.Path.{Path}
use Rattle.doll_lint.specs.declared.path.PathStep.{PathStep}
use Rattle.doll_lint.specs.declared.path.PathStep.TheVariants as along
use Rattle.doll_lint.specs.declared.reading.Wanted.{Wanted}
use Rattle.doll_lint.specs.Blocks.{part_paths, scope_roots}
use Rattle.doll_lint.specs.Faults.{meets}
use Rattle.doll_lint.specs.Paths.{is_parent}
use Rattle.doll_lint.specs.Readings.{Standing, member_at, stands_for}
use Rattle.doll_past.specs.Facts.{Touches}
use Rattle.doll_agree.specs.Keys.{KeysAgree}

-- two pages over one schema: a table each, and the variables of a block
pub record Pages : Type 0 where
  pub schema : ModelList
  pub one : TableMap
  pub other : TableMap
  pub here : Variables
  pub there : Variables

-- ---- rows

-- each record that a value is or holds has the same row in two tables
abbrev pub HasSameRows : TableMap → TableMap → Val → Type 0
HasSameRows one other (val.Plain v) = ⊤
HasSameRows one other (val.Record model id) = row_of one model id ≡ row_of other model id
HasSameRows one other (val.List model ids) = AllByRecursion (λ id. row_of one model id ≡ row_of other model id) ids

-- a record's child has the same row in two tables
pub record IsSameChild (one other : TableMap) (many : HasMany) (owner child : ℕ) : Type 0 where
  pub row : Row
  pub lives : row_of one many.model child ≡ Some row
  pub same : row_of other many.model child ≡ Some row
  pub names : parent_of row many.inverse ≡ Some owner

-- a record with the same row in two tables has the same children where they touch it, and so are their rows
abbrev pub ChildrenAgree : ModelList → TableMap → TableMap → Type 0
ChildrenAgree schema one other =
    (model id : ℕ) (many : HasMany) (row : Row) → row_of one model id ≡ Some row → row_of other model id ≡ Some row → Touches schema model many
    → (ids_under one many.model many.inverse id ≡ ids_under other many.model many.inverse id)
    × AllByRecursion (IsSameChild one other many id) (ids_under one many.model many.inverse id)

-- ---- paths

-- values that a step to a parent leads to on both pages, from values of which the first is a record of a model, or nil
pub record AreParents (p : Pages) (model at : ℕ) (c d a b : Val) : Type 0 where
  pub name : List ℕ
  pub is : member_at p.schema model name ≡ member.Parent at
  pub typed : HasType p.one (type.Record model) c
  pub here : a ≡ step p.schema p.one c name
  pub there : b ≡ step p.schema p.other d name

-- the lists of children that a step leads to on both pages
pub record AreChildren (p : Pages) (model at : ℕ) (c d a b : Val) : Type 0 where
  pub name : List ℕ
  pub is : member_at p.schema model name ≡ member.Children at
  pub typed : HasType p.one (type.Record model) c
  pub here : a ≡ step p.schema p.one c name
  pub there : b ≡ step p.schema p.other d name

-- one and the same child of one and the same record on both pages, with the same row, which it touches
pub record AreChild (p : Pages) (model at : ℕ) (c d a b : Val) : Type 0 where
  pub many : HasMany
  pub is : many_of p.schema model at ≡ Some many
  pub touches : Touches p.schema model many
  pub owner : ℕ
  pub child : ℕ
  pub owner_here : c ≡ val.Record model owner
  pub owner_there : d ≡ val.Record model owner
  pub here : a ≡ val.Record many.model child
  pub there : b ≡ val.Record many.model child
  pub same : IsSameChild p.one p.other many owner child

-- Values that stand at a path on both pages: those of the variable, then step by step. A step to children leads to one of them.
abbrev pub At : Pages → List ℕ → List PathStep → Val → Val → Type 0
At p root [] a b = (a ≡ variable p.here root) × (b ≡ variable p.there root)
At p root (along.Parent model at ∷ before) a b = (c : Val) × (d : Val) × At p root before c d × AreParents p model at c d a b
At p root (along.Children model at ∷ before) a b = (c : Val) × (d : Val) × At p root before c d × AreChild p model at c d a b

-- lists likewise
abbrev pub ListAt : Pages → List ℕ → List PathStep → Val → Val → Type 0
ListAt p root [] a b = (a ≡ variable p.here root) × (b ≡ variable p.there root)
ListAt p root (along.Parent model at ∷ before) a b = ⊥
ListAt p root (along.Children model at ∷ before) a b = (c : Val) × (d : Val) × At p root before c d × AreChildren p model at c d a b

-- values that stand at some of these paths
abbrev pub AtSome : Pages → List Path → Val → Val → Type 0
AtSome p [] a b = ⊥
AtSome p (path ∷ paths) a b = At p path.root path.steps a b ⊎ AtSome p paths a b

abbrev pub ListAtSome : Pages → List Path → Val → Val → Type 0
ListAtSome p [] a b = ⊥
ListAtSome p (path ∷ paths) a b = ListAt p path.root path.steps a b ⊎ ListAtSome p paths a b

-- what holds of each record of a list
abbrev pub EachItem : (Val → Type 0) → Val → Type 0
EachItem holds (val.Plain v) = ⊤
EachItem holds (val.Record model id) = ⊤
EachItem holds (val.List model ids) = AllByRecursion (λ id. holds (val.Record model id)) ids

-- each of a list stands at a path, the same on both pages
abbrev pub ItemsAt : Pages → List ℕ → List PathStep → Val → Type 0
ItemsAt p root steps v = EachItem (λ item. At p root steps item item) v

-- each of a list stands at some of these paths
abbrev pub ItemsAtSome : Pages → List Path → Val → Type 0
ItemsAtSome p paths v = EachItem (λ item. AtSome p paths item item) v

-- ---- values by their types

-- one and the same single value, or nil
abbrev pub AreSingle : Val → Val → Type 0
AreSingle a b = (v : Value) × (a ≡ val.Plain v) × (b ≡ val.Plain v)

-- the values of an expression with a type that stands at these paths
abbrev pub Stand : Pages → ValueType → List Path → Val → Val → Type 0
Stand p (type.Record model) paths a b = AreSingle a b ⊎ AtSome p paths a b
Stand p (type.List model) paths a b = AreSingle a b ⊎ ListAtSome p paths a b
Stand p t paths a b = AreSingle a b

-- the values of a variable: what is single may also wait at a path
abbrev pub Wait : Pages → ValueType → List Path → Val → Val → Type 0
Wait p (type.List model) paths a b = AreSingle a b ⊎ ListAtSome p paths a b
Wait p t paths a b = AreSingle a b ⊎ AtSome p paths a b

-- ---- needs

-- a key tells each path of these as well as is wanted
abbrev pub AreMet : ModelList → List Path → List Wanted → Type 0
AreMet schema key wants = AllByRecursion (λ (w : Wanted). meets schema key w.grade w.path ≡ true) wants

-- Variables of both pages in an inner scope, each of which stands for paths from those of the block. On the first page they have their types.
pub record AreInScope (p : Pages) (typing : Typing) (standing : Standing) (here there : Variables) : Type 0 where
  pub have : HaveTypes p.one typing here
  pub wait : (name : List ℕ) (t : ValueType) → variable_type typing name ≡ Some t → Wait p t (stands_for standing name) (variable here name) (variable there name)

-- ---- keys

-- the paths that the parts of a key name, in the scope of these variables
abbrev pub named_paths : ModelList → Typing → List KeyPart → List Path
named_paths schema typing key = flat_map (part_paths schema typing (scope_roots typing)) key

-- a part that a key may have
abbrev pub IsKeyPart : ModelList → Typing → Expr → Type 0
IsKeyPart schema typing expr = (t : ValueType) × (type_of schema typing expr ≡ Ok t) × (is_key expr t ≡ true)

-- Two pages ask for a block under one key: their tables fit the schema, records have the same children where they are the same, on the first page
-- the variables have their types, and the parts of the key agree.
pub record AreAsked (p : Pages) (typing : Typing) (key : List KeyPart) : Type 0 where
  pub fits : Fits p.schema p.one
  pub fits_there : Fits p.schema p.other
  pub children : ChildrenAgree p.schema p.one p.other
  pub have : HaveTypes p.one typing p.here
  pub agree : KeysAgree p.schema p.one p.other p.here p.there key
  pub parts : (expr : Expr) → Contains key (part.Path expr) → IsKeyPart p.schema typing expr

-- The key has a part whose value is what stands at a path.
pub record IsTold (p : Pages) (key : List KeyPart) (root : List ℕ) (steps : List PathStep) : Type 0 where
  pub expr : Expr
  pub among : Contains key (part.Path expr)
  pub parents : AllByRecursion (λ s. is_parent s ≡ true) steps
  pub values : (a b : Val) → At p root steps a b → (a ≡ value_of expr p.here p.schema p.one) × (b ≡ value_of expr p.there p.schema p.other)
