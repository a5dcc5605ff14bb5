-- What a body needs of the key that it is kept under: the paths that it reads, by the recursion of direct rendering (this project's own).
use Rattle.std.specs.Prelude.{ℕ, List, [], ◌∷◌, ◌++◌, ◌-◌, map, take, length, slice_get, Option, Some, Result, Ok, Err}
use Rattle.std.specs.List.{flat_map}
use Rattle.std.specs.Option.{option_map_or}
use Rattle.doll_expr.specs.declared.expr.Expr.{Expr}
use Rattle.doll_schema.specs.Models.{ModelList}
use Rattle.doll_erb.specs.declared.node.Arm.{Arm, Arm-F}
use Rattle.doll_erb.specs.declared.node.Local.{Local}
use Rattle.doll_erb.specs.declared.node.Node.{Node, fold-Node}
use Rattle.doll_erb.specs.declared.node.Node.TheOpen.{Node-F}
use Rattle.doll_graph.specs.Levels.{by_levels}
use Rattle.doll_set.specs.declared.limits.TheConstants.{LONGEST_CHAIN}
use Rattle.doll_set.specs.declared.template.Template.{Template}
use Rattle.doll_set.specs.Dependencies.{names_of, partial_of}
use Rattle.doll_set.specs.Digests.{name_at}
use Rattle.doll_types.specs.declared.types.TypeKind.{TypeKind}
use Rattle.doll_types.specs.Findings.{items_type, locals_typing}
use Rattle.doll_types.specs.Types.{Typing}
use Rattle.doll_lint.specs.declared.needs.Need.{Need}
use Rattle.doll_lint.specs.declared.needs.Scope.{Scope}
use Rattle.doll_lint.specs.declared.needs.Setting.{Setting as CodeSetting}
use Rattle.doll_lint.specs.declared.path.Path.{Path}
use Rattle.doll_types.specs.declared.types.ValueType.{ValueType}
use Rattle.doll_lint.specs.declared.reading.Reading.{Reading}
use Rattle.doll_lint.specs.declared.reading.Wanted.{Wanted}
use Rattle.doll_lint.specs.Readings.{Standing, looked, reading_of}

-- ---- bodies

-- What a part of a template needs: by the tag of another template that led here, where there is one, under a typing, and where its variables stand
-- for these paths.
abbrev pub Needs : Type 0
Needs = Option ℕ → Typing → Standing → List Need

-- where a body is read: the schema, and what each partial needs by its name as it is written
pub record Setting : Type 0 where
  pub schema : ModelList
  pub partial : List ℕ → Needs

-- the place of a need: the tag's own, or that of the tag of the template with the block which leads there
abbrev pub place : Option ℕ → ℕ → ℕ
place outer at = option_map_or (λ other. other) outer at

abbrev pub needs_at : ℕ → List Wanted → List Need
needs_at at wants = map (λ (w : Wanted). record { path = w.path; grade = w.grade; at = at }) wants

-- what looking at the value of an expression needs
abbrev pub looking_wants : Reading → List Wanted
looking_wants reading = reading.wants ++ looked reading

-- one part after another
abbrev pub all_needs : List Needs → Needs
all_needs parts outer typing standing = flat_map (λ part. part outer typing standing) parts

-- what a local of a tag needs
abbrev pub local_needs : ModelList → Typing → Standing → ℕ → Local → List Need
local_needs schema typing standing at local = needs_at at (looking_wants (reading_of schema typing standing local.value))

-- the paths that the variables of a partial stand for
abbrev pub local_standing : ModelList → Typing → Standing → List Local → Standing
local_standing schema typing standing locals = map (λ (l : Local). (l.name, (reading_of schema typing standing l.value).paths)) locals

-- with the type of the items of a list, or the types of a tag's locals; what has none isn't read
abbrev pub with_type : {X : Type 0} → Result X TypeKind → (X → List Need) → List Need
with_type (Ok t) needs = needs t
with_type (Err kind) needs = []

-- what a loop over a list needs, by what its body needs
unfoldable pub each_needs : Setting → ℕ → Expr → List ℕ → Needs → Needs
each_needs setting at list name body outer typing standing =
    needs_at (place outer at) (looking_wants (reading_of setting.schema typing standing list))
    ++ with_type (items_type setting.schema typing list) (λ t. body outer (typing ++ (name, t) ∷ []) (standing ++ (name, (reading_of setting.schema typing standing list).paths) ∷ []))

-- what a tag needs that renders a partial with locals
unfoldable pub render_needs : Setting → ℕ → List ℕ → List Local → Needs
render_needs setting at name locals outer typing standing =
    flat_map (local_needs setting.schema typing standing (place outer at)) locals
    ++ with_type (locals_typing setting.schema typing locals) (λ types. setting.partial name (Some (place outer at)) types (local_standing setting.schema typing standing locals))

-- what a tag needs that renders a partial for each item of a list
unfoldable pub collection_needs : Setting → ℕ → List ℕ → Expr → List ℕ → Needs
collection_needs setting at name list item outer typing standing =
    needs_at (place outer at) (looking_wants (reading_of setting.schema typing standing list))
    ++ with_type (items_type setting.schema typing list) (λ t. setting.partial name (Some (place outer at)) ((item, t) ∷ []) ((item, (reading_of setting.schema typing standing list).paths) ∷ []))

-- a node by what its parts need
abbrev pub needs_step : Setting → Node-F Needs Needs → Needs
needs_step setting (Node-F.Text text) outer typing standing = []
needs_step setting (Node-F.Write at expr) outer typing standing = needs_at (place outer at) (reading_of setting.schema typing standing expr).wants
needs_step setting (Node-F.Raw at expr) outer typing standing = needs_at (place outer at) (reading_of setting.schema typing standing expr).wants
needs_step setting (Node-F.If at arms otherwise) outer typing standing = all_needs arms outer typing standing ++ all_needs otherwise outer typing standing
needs_step setting (Node-F.Each at list name body) outer typing standing = each_needs setting at list name (all_needs body) outer typing standing
needs_step setting (Node-F.Cache at block key body) outer typing standing = all_needs body outer typing standing
needs_step setting (Node-F.Render at name locals) outer typing standing = render_needs setting at name locals outer typing standing
needs_step setting (Node-F.Collection at name list item cached) outer typing standing = collection_needs setting at name list item outer typing standing
needs_step setting (Node-F.Depends at name) outer typing standing = []

-- an arm: its test is looked at, at its own tag
abbrev pub arm_needs : Setting → Arm-F Needs Needs → Needs
arm_needs setting arm outer typing standing =
    needs_at (place outer arm.at) (looking_wants (reading_of setting.schema typing standing arm.test)) ++ all_needs arm.body outer typing standing

abbrev pub node_needs : Setting → Node → Needs
node_needs setting = fold-Node Needs Needs (needs_step setting) (arm_needs setting)

-- what a tree needs
abbrev pub tree_needs : Setting → List Node → Needs
tree_needs setting tree outer typing standing = flat_map (λ node. node_needs setting node outer typing standing) tree

-- what the arms of an `if` need
abbrev pub arms_need : Setting → List Arm → Needs
arms_need setting arms outer typing standing =
    flat_map
    (λ (arm : Arm).
    needs_at (place outer arm.at) (looking_wants (reading_of setting.schema typing standing arm.test)) ++ tree_needs setting arm.body outer typing standing)
    arms

-- what a loop needs whose body is a tree
abbrev pub each_body_needs : Setting → ℕ → Expr → List ℕ → List Node → Needs
each_body_needs setting at list name body outer typing standing = each_needs setting at list name (tree_needs setting body) outer typing standing

-- a scope with a variable more, and without its last one
abbrev pub bound : List ℕ → ValueType → List Path → Scope → Scope
bound name t paths scope = record { typing = scope.typing ++ (name, t) ∷ []; standing = scope.standing ++ (name, paths) ∷ [] }

abbrev pub unbound : Scope → Scope
unbound scope = record { typing = take (length scope.typing - 1) scope.typing; standing = take (length scope.standing - 1) scope.standing }

-- a scope of one variable
abbrev pub only : List ℕ → ValueType → List Path → Scope
only name t paths = record { typing = (name, t) ∷ []; standing = (name, paths) ∷ [] }

-- ---- sets

-- what the partial that a template means by a name needs, by what each template needs; nothing where there is no such partial
abbrev pub partial_needs : List Template → (ℕ → Needs) → ℕ → List ℕ → Needs
partial_needs templates needs number name outer typing standing =
    option_map_or (λ partial. needs partial outer typing standing) (partial_of (names_of templates) (name_at templates number) name) []

abbrev pub setting_in : ModelList → List Template → (ℕ → Needs) → ℕ → Setting
setting_in schema templates needs number = record { schema = schema; partial = partial_needs templates needs number }

-- the tree of the template with a number, nothing where there is none
abbrev pub tree_at : List Template → ℕ → List Node
tree_at templates number = option_map_or (λ (t : Template). t.tree) (slice_get templates number) []

-- what a template needs by so many levels of partials, with these put in their places; no level needs nothing
unfoldable pub levels_need : ModelList → List Template → ℕ → ℕ → Needs
levels_need schema templates levels number =
    by_levels (λ outer typing standing. []) (λ number needs. tree_needs (setting_in schema templates needs number) (tree_at templates number)) levels number

-- what a template of a set needs: no chain of partials has more levels
abbrev pub template_needs : ModelList → List Template → ℕ → Needs
template_needs schema templates number = levels_need schema templates LONGEST_CHAIN number

-- what the code's setting stands for
abbrev pub setting_of : CodeSetting → Setting
setting_of code = setting_in code.schema.now code.set.now.templates (levels_need code.schema.now code.set.now.templates code.levels) code.number
