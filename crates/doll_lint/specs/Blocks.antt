-- The cached blocks of a set: where they stand, what their keys name, and which of them may not share one (this project's own).
use Rattle.std.specs.Prelude.{ℕ, Bool, ◌-◌, ◌^◌, List, [], ◌∷◌, ◌++◌, map, codes, Option, None, Some, Result, Ok, Err, if◌then◌else◌}
use Rattle.std.specs.List.{flat_map}
use Rattle.std.specs.Option.{option_map_or}
use Rattle.doll_expr.specs.declared.expr.Expr.{Expr, fold-Expr}
use Rattle.doll_expr.specs.declared.expr.Expr.TheOpen.{Expr-F}
use Rattle.doll_expr.specs.declared.expr.Expr.TheVariants as expr
use Rattle.doll_schema.specs.Models.{ModelList}
use Rattle.doll_erb.specs.declared.node.Arm.{Arm, Arm-F}
use Rattle.doll_erb.specs.declared.node.KeyPart.{KeyPart}
use Rattle.doll_erb.specs.declared.node.KeyPart.TheVariants as part
use Rattle.doll_erb.specs.declared.node.Node.{Node, fold-Node}
use Rattle.doll_erb.specs.declared.node.Node as node
use Rattle.doll_erb.specs.declared.node.Node.TheOpen.{Node-F}
use Rattle.doll_set.specs.declared.template.Template.{Template}
use Rattle.doll_set.specs.Dependencies.{names_of, partial_of}
use Rattle.doll_set.specs.Digests.{name_at}
use Rattle.doll_types.specs.declared.types.TypeKind.{TypeKind}
use Rattle.doll_types.specs.declared.types.ValueType.{ValueType}
use Rattle.doll_types.specs.declared.types.ValueType.TheVariants as type
use Rattle.doll_types.specs.Findings.{items_type}
use Rattle.doll_types.specs.Types.{Typing, type_of}
use Rattle.doll_lint.specs.declared.block.PartShape.{PartShape}
use Rattle.doll_lint.specs.declared.block.PartShape.TheVariants as shape
use Rattle.doll_lint.specs.declared.path.Path.{Path}
use Rattle.doll_lint.specs.declared.reading.Reading.{Reading}
use Rattle.doll_lint.specs.Needs.{tree_at}
use Rattle.doll_lint.specs.Readings.{Standing, reading_of}
use Rattle.doll_lint.specs.Paths.{root_path}

-- A cached block: its template and its number among the blocks of that, the place of its tag, the variables in whose scope it stands with their types,
-- the parts of its key, and its body.
pub record Block : Type 0 where
  pub template : ℕ
  pub number : ℕ
  pub at : ℕ
  pub typing : Typing
  pub key : List KeyPart
  pub body : List Node

-- the number of the block that each item of a cached collection is, behind those of all tags
abbrev pub item_number : ℕ
item_number = 2 ^ 32 - 1

-- ---- where blocks stand

-- a node as it is, and the blocks in it under a typing
pub record Part : Type 0 where
  pub node : Node
  pub blocks : Typing → List Block

-- an arm likewise
pub record ArmPart : Type 0 where
  pub arm : Arm
  pub blocks : Typing → List Block

abbrev pub nodes_of : List Part → List Node
nodes_of parts = map (λ (p : Part). p.node) parts

abbrev pub arms_of : List ArmPart → List Arm
arms_of parts = map (λ (p : ArmPart). p.arm) parts

abbrev pub part_blocks : List Part → Typing → List Block
part_blocks parts typing = flat_map (λ (p : Part). p.blocks typing) parts

-- a node in which no block stands
abbrev pub without_blocks : Node → Part
without_blocks one = record { node = one; blocks = λ typing. [] }

-- the blocks of a body that is rendered for each item of a list
abbrev pub loop_blocks : Result ValueType TypeKind → List ℕ → List Part → Typing → List Block
loop_blocks (Ok t) name body typing = part_blocks body (typing ++ (name, t) ∷ [])
loop_blocks (Err kind) name body typing = []

-- each item of a cached collection is a block of the partial: its key is the item and the word `collection`
abbrev pub item_key : List ℕ → List KeyPart
item_key item = part.Path (expr.Var item) ∷ part.Literal (codes "collection") ∷ []

abbrev pub item_block : List Template → ℕ → List ℕ → ValueType → Block
item_block templates partial item t =
    record { template = partial; number = item_number; at = 0; typing = (item, t) ∷ []; key = item_key item; body = tree_at templates partial }

abbrev pub item_blocks : List Template → Option ℕ → Result ValueType TypeKind → List ℕ → List Block
item_blocks templates (Some partial) (Ok t) item = item_block templates partial item t ∷ []
item_blocks templates partial t item = []

-- those of a tag that renders a partial for each item of a list
unfoldable pub collection_blocks : ModelList → List Template → ℕ → List ℕ → Expr → List ℕ → Bool → Typing → List Block
collection_blocks schema templates number name list item cached typing =
    if cached then item_blocks templates (partial_of (names_of templates) (name_at templates number) name) (items_type schema typing list) item else []

-- the block that a tag opens
abbrev pub tag_block : ℕ → ℕ → ℕ → Typing → List KeyPart → List Node → Block
tag_block template number at typing key body = record { template = template; number = number; at = at; typing = typing; key = key; body = body }

-- the blocks that a node of the template with a number has, by its parts
abbrev pub part_step : ModelList → List Template → ℕ → Node-F Part ArmPart → Part
part_step schema templates number (Node-F.Text text) = without_blocks (node.Text text)
part_step schema templates number (Node-F.Write at value) = without_blocks (node.Write at value)
part_step schema templates number (Node-F.Raw at value) = without_blocks (node.Raw at value)
part_step schema templates number (Node-F.If at arms otherwise) = record {
  node = node.If at (arms_of arms) (nodes_of otherwise);
  blocks = λ typing. flat_map (λ (a : ArmPart). a.blocks typing) arms ++ part_blocks otherwise typing;
}
part_step schema templates number (Node-F.Each at list name body) = record {
  node = node.Each at list name (nodes_of body);
  blocks = λ typing. loop_blocks (items_type schema typing list) name body typing;
}
part_step schema templates number (Node-F.Cache at block key body) = record {
  node = node.Cache at block key (nodes_of body);
  blocks = λ typing. tag_block number block at typing key (nodes_of body) ∷ part_blocks body typing;
}
part_step schema templates number (Node-F.Render at name locals) = without_blocks (node.Render at name locals)
part_step schema templates number (Node-F.Collection at name list item cached) = record {
  node = node.Collection at name list item cached;
  blocks = λ typing. collection_blocks schema templates number name list item cached typing;
}
part_step schema templates number (Node-F.Depends at name) = without_blocks (node.Depends at name)

abbrev pub arm_part : Arm-F Part ArmPart → ArmPart
arm_part arm = record { arm = record { at = arm.at; test = arm.test; body = nodes_of arm.body }; blocks = λ typing. part_blocks arm.body typing }

abbrev pub part_of : ModelList → List Template → ℕ → Node → Part
part_of schema templates number = fold-Node Part ArmPart (part_step schema templates number) arm_part

-- the blocks in a node of the template with a number under a typing, in nodes and in the arms of an `if`, in the order of the text
abbrev pub node_blocks : ModelList → List Template → ℕ → Node → Typing → List Block
node_blocks schema templates number one typing = (part_of schema templates number one).blocks typing

abbrev pub nodes_blocks : ModelList → List Template → ℕ → List Node → Typing → List Block
nodes_blocks schema templates number nodes typing = flat_map (λ one. node_blocks schema templates number one typing) nodes

abbrev pub arms_blocks : ModelList → List Template → ℕ → List Arm → Typing → List Block
arms_blocks schema templates number arms typing = flat_map (λ (arm : Arm). nodes_blocks schema templates number arm.body typing) arms

-- those of the template itself
abbrev pub blocks_of : ModelList → List Template → ℕ → Typing → List Block
blocks_of schema templates number typing = nodes_blocks schema templates number (tree_at templates number) typing

-- ---- keys

-- the name of a variable that stands by itself
abbrev pub variable_step : Expr-F (Option (List ℕ)) → Option (List ℕ)
variable_step (Expr-F.Var name) = Some name
variable_step other = None

abbrev pub variable_in : Expr → Option (List ℕ)
variable_in = fold-Expr (Option (List ℕ)) variable_step

-- each variable of a scope stands for itself
abbrev pub scope_roots : Typing → Standing
scope_roots typing = map (λ (v : List ℕ × ValueType). (v.0, root_path v.0 ∷ [])) typing

abbrev pub paths_by : Result ValueType TypeKind → List Path → List Path
paths_by (Ok (type.Record model)) paths = paths
paths_by other paths = []

-- where a record stands; what is nil by its type stands nowhere
abbrev pub record_paths : Reading → List Path
record_paths reading = paths_by reading.of reading.paths

-- the paths that a part of a key names: a variable, whatever its type, or the record at the end of steps to parents
abbrev pub part_paths : ModelList → Typing → Standing → KeyPart → List Path
part_paths schema typing standing (part.Path value) =
    option_map_or (λ name. root_path name ∷ []) (variable_in value) (record_paths (reading_of schema typing standing value))
part_paths schema typing standing (part.Literal text) = []

-- those that the key of a block names
abbrev pub key_paths : ModelList → Block → List Path
key_paths schema block = flat_map (part_paths schema block.typing (scope_roots block.typing)) block.key

-- ---- shapes

-- the shape of a part of a key: a record of a model, a single value, or a literal
abbrev pub value_shape : Result ValueType TypeKind → PartShape
value_shape (Ok (type.Record model)) = shape.Record model
value_shape other = shape.Single

abbrev pub part_shape : ModelList → Typing → KeyPart → PartShape
part_shape schema typing (part.Path value) = value_shape (type_of schema typing value)
part_shape schema typing (part.Literal text) = shape.Literal text

-- the shape of a block's key; two blocks of one template whose keys have different shapes never share a key
abbrev pub shape_of : ModelList → Block → List PartShape
shape_of schema block = map (part_shape schema block.typing) block.key
