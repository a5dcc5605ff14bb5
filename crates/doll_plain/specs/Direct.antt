-- Direct rendering: what a template means over a table, with no cache (this project's own).
use Rattle.std.specs.Prelude.{ℕ, List, [], ◌∷◌, ◌++◌, map, Bool, true, false, if◌then◌else◌}
use Rattle.std.specs.List.{flat_map}
use Rattle.doll_schema.specs.declared.value.Val.{Val}
use Rattle.doll_schema.specs.declared.value.Val.TheVariants as val
use Rattle.doll_schema.specs.declared.model.Schema.{Schema}
use Rattle.doll_expr.specs.declared.expr.Expr.{Expr}
use Rattle.doll_erb.specs.declared.node.Node.{Node, fold-Node}
use Rattle.doll_erb.specs.declared.node.Node.TheOpen.{Node-F}
use Rattle.doll_erb.specs.declared.node.Arm.{Arm, Arm-F}
use Rattle.doll_erb.specs.declared.node.Local.{Local}
use Rattle.doll_table.specs.Tables.{TableMap}
use Rattle.doll_eval.specs.Operations as of
use Rattle.doll_eval.specs.Values.{value_of}

-- variables with their values; of one name the last stands
abbrev pub Variables : Type 0
Variables = List (List ℕ × Val)

-- what a template is rendered over: a schema, a table, and what each partial writes with its variables
pub record Scene : Type 0 where
  pub schema : Schema
  pub table : TableMap
  pub partial : List ℕ → Variables → List ℕ

-- what a part of a template writes under its variables
abbrev pub Writes : Type 0
Writes = Variables → List ℕ

-- an arm of an `if`: whether its test holds, and what it writes
pub record Choice : Type 0 where
  pub holds : Variables → Bool
  pub writes : Writes

-- parts one after another
abbrev pub in_order : List Writes → Writes
in_order parts variables = flat_map (λ part. part variables) parts

-- the first arm whose test holds, else the last part
abbrev pub chosen : List Choice → List Writes → Writes
chosen [] otherwise variables = in_order otherwise variables
chosen (arm ∷ arms) otherwise variables = if arm.holds variables then arm.writes variables else chosen arms otherwise variables

-- the items of a list as records; what is no list has none
abbrev pub items_of : Val → List Val
items_of (val.List model ids) = map (λ id. val.Record model id) ids
items_of v = []

-- the value of an expression here, under these variables
abbrev pub value_in : Scene → Expr → Variables → Val
value_in scene expr variables = value_of expr variables scene.schema scene.table

-- what a node writes, by what its parts write
abbrev pub node_step : Scene → Node-F Writes Choice → Writes
node_step scene (Node-F.Text text) variables = text
node_step scene (Node-F.Write at expr) variables = of.written false (value_in scene expr variables)
node_step scene (Node-F.Raw at expr) variables = of.written true (value_in scene expr variables)
node_step scene (Node-F.If at arms otherwise) variables = chosen arms otherwise variables
node_step scene (Node-F.Each at list name body) variables = flat_map (λ item. in_order body (variables ++ (name, item) ∷ [])) (items_of (value_in scene list variables))
node_step scene (Node-F.Cache at block key body) variables = in_order body variables
node_step scene (Node-F.Render at name locals) variables = scene.partial name (map (λ (l : Local). (l.name, value_in scene l.value variables)) locals)
node_step scene (Node-F.Collection at name list item cached) variables = flat_map (λ one. scene.partial name ((item, one) ∷ [])) (items_of (value_in scene list variables))
node_step scene (Node-F.Depends at name) variables = []

-- an arm by what its body writes
abbrev pub arm_step : Scene → Arm-F Writes Choice → Choice
arm_step scene arm = record { holds = λ variables. of.is_true (value_in scene arm.test variables); writes = in_order arm.body }

-- what a node writes
abbrev pub written : Scene → Node → Writes
written scene = fold-Node Writes Choice (node_step scene) (arm_step scene)

-- direct rendering of a tree
abbrev pub direct : Scene → List Node → Writes
direct scene tree variables = flat_map (λ node. written scene node variables) tree

-- ---- parts of nodes

-- an arm as a choice
abbrev pub choice : Scene → Arm → Choice
choice scene arm = record { holds = λ variables. of.is_true (value_in scene arm.test variables); writes = in_order (map (written scene) arm.body) }

-- what the first of some arms whose test holds writes, else the last part
unfoldable pub if_writes : Scene → List Arm → List Node → Writes
if_writes scene arms otherwise variables = chosen (map (choice scene) arms) (map (written scene) otherwise) variables

-- what a body writes for each item of a list, with the item under a name
unfoldable pub each_writes : Scene → Expr → List ℕ → List Node → Writes
each_writes scene list name body variables = flat_map (λ item. direct scene body (variables ++ (name, item) ∷ [])) (items_of (value_in scene list variables))

-- what a partial writes for each item of a list, with the item alone
unfoldable pub collection_writes : Scene → List ℕ → Expr → List ℕ → Writes
collection_writes scene name list item variables = flat_map (λ one. scene.partial name ((item, one) ∷ [])) (items_of (value_in scene list variables))

-- the variables that a partial is rendered with
abbrev pub locals_in : Scene → List Local → Variables → Variables
locals_in scene locals variables = map (λ (l : Local). (l.name, value_in scene l.value variables)) locals

-- what a tag that renders a partial writes; no other node is such a tag
abbrev pub tag_step : Scene → Node-F Writes Choice → Writes
tag_step scene (Node-F.Render at name locals) variables = scene.partial name (locals_in scene locals variables)
tag_step scene (Node-F.Collection at name list item cached) variables = collection_writes scene name list item variables
tag_step scene other variables = []

unfoldable pub tag_writes : Scene → Node → Writes
tag_writes scene = fold-Node Writes Choice (tag_step scene) (arm_step scene)
