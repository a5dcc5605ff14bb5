-- What typing a template finds: its faults, and the partials that it renders, each with the types of its variables (this project's own).
use Rattle.std.specs.Prelude.{ℕ, Bool, true, false, List, [], ◌∷◌, ◌++◌, Result, Ok, Err}
use Rattle.std.specs.List.{flat_map}
use Rattle.doll_text.specs.Steps.{◌>>=◌, ◌>>◌, check}
use Rattle.doll_expr.specs.declared.expr.Expr.{Expr, fold-Expr}
use Rattle.doll_expr.specs.declared.expr.Expr.TheOpen.{Expr-F}
use Rattle.doll_erb.specs.declared.node.Arm.{Arm-F}
use Rattle.doll_erb.specs.declared.node.KeyPart.{KeyPart}
use Rattle.doll_erb.specs.declared.node.KeyPart.TheVariants as part
use Rattle.doll_erb.specs.declared.node.Local.{Local}
use Rattle.doll_erb.specs.declared.node.Node.{Node, fold-Node}
use Rattle.doll_erb.specs.declared.node.Node.TheOpen.{Node-F}
use Rattle.doll_schema.specs.Models.{ModelList}
use Rattle.doll_set.specs.Dependencies.{each_made}
use Rattle.doll_types.specs.declared.findings.Finding.{Finding}
use Rattle.doll_types.specs.declared.findings.Finding.TheVariants.{Fault, Call}
use Rattle.doll_types.specs.declared.types.ValueType.{ValueType}
use Rattle.doll_types.specs.declared.types.ValueType.TheVariants.{Integer, Text, Boolean, Record, List as ListOf, Nil}
use Rattle.doll_types.specs.declared.types.TypeKind.{TypeKind}
use Rattle.doll_types.specs.declared.types.TypeKind.TheVariants.{BadKey}
use Rattle.doll_types.specs.Types.{Typing, type_of, printed_type, item_type}

-- ---- parts of keys

-- a variable
abbrev pub variable_step : Expr-F Bool → Bool
variable_step (Expr-F.Var name) = true
variable_step other = false

abbrev pub is_variable : Expr → Bool
is_variable = fold-Expr Bool variable_step

-- a variable and the steps from it
abbrev pub path_step : Expr-F Bool → Bool
path_step (Expr-F.Var name) = true
path_step (Expr-F.Step of name) = of
path_step other = false

abbrev pub is_path : Expr → Bool
is_path = fold-Expr Bool path_step

-- A part of a key is a path to a record, whose steps are belongs_to since no other leads from a record to a record, a path that is always
-- nil, or a variable with a single value.
abbrev pub is_key : Expr → ValueType → Bool
is_key expr (Record model) = is_path expr
is_key expr Nil = is_path expr
is_key expr (ListOf model) = false
is_key expr Integer = is_variable expr
is_key expr Text = is_variable expr
is_key expr Boolean = is_variable expr

abbrev pub key_checked : Expr → ValueType → Result ValueType TypeKind
key_checked expr t = check (is_key expr t) BadKey >> Ok t

-- the type of a part of a key
abbrev pub key_type : ModelList → Typing → Expr → Result ValueType TypeKind
key_type schema typing expr = type_of schema typing expr >>= key_checked expr

-- ---- what is found at one place

-- the fault of what has none of the types that it may have
abbrev pub failed : ℕ → Result ValueType TypeKind → List Finding
failed at (Ok t) = []
failed at (Err kind) = Fault at kind ∷ []

-- what is found with the type of the items of a list; with a faulty one nothing but its fault
abbrev pub with_items : ℕ → Result ValueType TypeKind → (ValueType → List Finding) → List Finding
with_items at (Ok t) found = found t
with_items at (Err kind) found = Fault at kind ∷ []

-- the type of the items of a list that an expression gives
abbrev pub items_type : ModelList → Typing → Expr → Result ValueType TypeKind
items_type schema typing list = type_of schema typing list >>= item_type

-- a local with its type
abbrev pub local_type : ModelList → Typing → Local → Result (List ℕ × ValueType) TypeKind
local_type schema typing local = do
  t ← type_of schema typing local.value
  Ok (local.name, t)

-- the variables that a partial is rendered with, with their types
abbrev pub locals_typing : ModelList → Typing → List Local → Result Typing TypeKind
locals_typing schema typing locals = each_made (local_type schema typing) locals

-- a partial that is rendered with variables of these types; with a faulty one it isn't
abbrev pub called : List ℕ → Result Typing TypeKind → List Finding
called name (Ok typing) = Call name typing ∷ []
called name (Err kind) = []

-- the fault of a part of a key
abbrev pub part_found : ModelList → Typing → ℕ → KeyPart → List Finding
part_found schema typing at (part.Path expr) = failed at (key_type schema typing expr)
part_found schema typing at (part.Literal text) = []

-- the fault of a local
abbrev pub local_found : ModelList → Typing → ℕ → Local → List Finding
local_found schema typing at local = failed at (type_of schema typing local.value)

-- the fault of what is written
abbrev pub printed_found : ModelList → Typing → ℕ → Expr → List Finding
printed_found schema typing at expr = failed at (type_of schema typing expr >>= printed_type)

-- a render: the faults of its locals, and where there are none the partial with these
abbrev pub render_found : ModelList → Typing → ℕ → List ℕ → List Local → List Finding
render_found schema typing at name locals = flat_map (local_found schema typing at) locals ++ called name (locals_typing schema typing locals)

-- a collection: the partial with its item, or the list's fault
abbrev pub collection_found : ModelList → Typing → ℕ → List ℕ → Expr → List ℕ → List Finding
collection_found schema typing at name list item = with_items at (items_type schema typing list) (λ t. Call name ((item, t) ∷ []) ∷ [])

-- ---- trees

-- what is found in a part of a template under a typing
abbrev pub Finds : Type 0
Finds = Typing → List Finding

-- parts one after another
abbrev pub in_order : List Finds → Finds
in_order parts typing = flat_map (λ part. part typing) parts

-- what is found in a node, by what is found in its parts, in the order of the text
abbrev pub found_step : ModelList → Node-F Finds Finds → Finds
found_step schema (Node-F.Text text) typing = []
found_step schema (Node-F.Write at expr) typing = printed_found schema typing at expr
found_step schema (Node-F.Raw at expr) typing = printed_found schema typing at expr
found_step schema (Node-F.If at arms otherwise) typing = in_order arms typing ++ in_order otherwise typing
found_step schema (Node-F.Each at list name body) typing =
    with_items at (items_type schema typing list) (λ t. in_order body (typing ++ (name, t) ∷ []))
found_step schema (Node-F.Cache at block key body) typing = flat_map (part_found schema typing at) key ++ in_order body typing
found_step schema (Node-F.Render at name locals) typing = render_found schema typing at name locals
found_step schema (Node-F.Collection at name list item cached) typing = collection_found schema typing at name list item
found_step schema (Node-F.Depends at name) typing = []

-- the fault of a test stands at the tag of its own arm
abbrev pub arm_found : ModelList → Arm-F Finds Finds → Finds
arm_found schema arm typing = failed arm.at (type_of schema typing arm.test) ++ in_order arm.body typing

-- what is found in a node under a typing
abbrev pub found_in : ModelList → Node → Finds
found_in schema = fold-Node Finds Finds (found_step schema) (arm_found schema)

-- the same of a tree
abbrev pub findings : ModelList → List Node → Finds
findings schema tree typing = flat_map (λ node. found_in schema node typing) tree
