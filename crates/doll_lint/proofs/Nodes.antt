-- What nodes with parts need, by what their parts need.
use Rattle.doll_text.specs.declared.memory.Memory.{Memory}
use Rattle.std.proofs.Common.{◌≡◌, ℕ, List, [], ◌∷◌, ◌++◌, map, Option, Some, Result, Ok, Err, OnOk, refl, ap, sym, ◌∙◌}
use Rattle.std.proofs.lemmas.List.{append-nil, append_assoc}
use Rattle.std.specs.List.{flat_map}
use Rattle.std.proofs.lemmas.List.Folds.{flat_map-map}
use Rattle.doll_expr.specs.declared.expr.Expr.{Expr}
use Rattle.doll_erb.specs.declared.node.Node.{Node}
use Rattle.doll_erb.specs.declared.node.Node as node
use Rattle.doll_erb.specs.declared.node.Node.TheFolds.{fold-roll-Node, fold_out-Arm}
use Rattle.doll_erb.specs.declared.node.Node.TheVariants.{rolls-If, rolls-Each, rolls-Cache, rolls-Render, rolls-Collection}
use Rattle.doll_erb.specs.declared.node.Node.TheOpen.{Node-F}
use Rattle.doll_erb.specs.declared.node.Arm.{Arm, fold-Arm}
use Rattle.doll_erb.specs.declared.node.Local.{Local}
use Rattle.doll_types.specs.declared.types.ValueType.{ValueType}
use Rattle.doll_types.specs.declared.types.TypeKind.{TypeKind}
use Rattle.doll_types.specs.Findings.{items_type, locals_typing}
use Rattle.doll_types.specs.Types.{Typing}
use Rattle.doll_lint.specs.declared.needs.Need.{Need}
use Rattle.doll_lint.specs.Needs.{Needs, Setting, all_needs, arm_needs, arms_need, collection_needs, each_body_needs, each_needs, local_needs, local_standing, looking_wants, needs_at, needs_step, node_needs, place, render_needs, tree_needs, with_type}
use Rattle.doll_lint.specs.Readings.{Standing, reading_of}

module _ (setting : Setting) where
  by_step : (layer : Node-F Node Arm) (whole : Node) (outer : Option ℕ) (typing : Typing) (standing : Standing) → node.roll-Node layer ≡ whole → node_needs setting whole outer typing standing ≡ node_needs setting (node.roll-Node layer) outer typing standing
  by_step layer whole outer typing standing rolls = ap (λ n. node_needs setting n outer typing standing) (sym rolls)

  parts : (body : List Node) (outer : Option ℕ) (typing : Typing) (standing : Standing) → all_needs (map (node_needs setting) body) outer typing standing ≡ tree_needs setting body outer typing standing
  parts body outer typing standing = flat_map-map (λ (part : Needs). part outer typing standing) (node_needs setting) body

  arms_parts : (arms : List Arm) (outer : Option ℕ) (typing : Typing) (standing : Standing) → all_needs (map (fold-Arm Needs Needs (needs_step setting) (arm_needs setting)) arms) outer typing standing ≡ arms_need setting arms outer typing standing
  arms_parts [] outer typing standing = refl
  arms_parts (arm ∷ arms) outer typing standing =
      ap (λ needs. needs ++ all_needs (map (fold-Arm Needs Needs (needs_step setting) (arm_needs setting)) arms) outer typing standing)
      (ap (λ (f : Needs). f outer typing standing) (fold_out-Arm Needs Needs (needs_step setting) (arm_needs setting) arm)
      ∙ ap (λ needs. needs_at (place outer arm.at) (looking_wants (reading_of setting.schema typing standing arm.test)) ++ needs) (parts arm.body outer typing standing))
      ∙ ap (λ needs. (needs_at (place outer arm.at) (looking_wants (reading_of setting.schema typing standing arm.test)) ++ tree_needs setting arm.body outer typing standing) ++ needs) (arms_parts arms outer typing standing)

  pub needed_if : (at : ℕ) (arms : List Arm) (otherwise : List Node) (outer : Option ℕ) (typing : Typing) (standing : Standing) → node_needs setting (node.If at arms otherwise) outer typing standing ≡ arms_need setting arms outer typing standing ++ tree_needs setting otherwise outer typing standing
  needed_if at arms otherwise outer typing standing =
      by_step (Node-F.If at arms otherwise) (node.If at arms otherwise) outer typing standing (rolls-If at arms otherwise)
      ∙ ap (λ (f : Needs). f outer typing standing) (fold-roll-Node Needs Needs (needs_step setting) (arm_needs setting) (Node-F.If at arms otherwise))
      ∙ ap (λ needs. needs ++ all_needs (map (node_needs setting) otherwise) outer typing standing) (arms_parts arms outer typing standing)
      ∙ ap (λ needs. arms_need setting arms outer typing standing ++ needs) (parts otherwise outer typing standing)

  pub needed_each : (at : ℕ) (list : Expr) (name : List ℕ) (body : List Node) (outer : Option ℕ) (typing : Typing) (standing : Standing) → node_needs setting (node.Each at list name body) outer typing standing ≡ each_body_needs setting at list name body outer typing standing
  needed_each at list name body outer typing standing =
      by_step (Node-F.Each at list name body) (node.Each at list name body) outer typing standing (rolls-Each at list name body)
      ∙ ap (λ (f : Needs). f outer typing standing) (fold-roll-Node Needs Needs (needs_step setting) (arm_needs setting) (Node-F.Each at list name body))
      ∙ ap (λ (f : Needs). each_needs setting at list name f outer typing standing) (λ i o t s. parts body o t s i)

  pub needed_cache : (at block : ℕ) (key : _) (body : List Node) (outer : Option ℕ) (typing : Typing) (standing : Standing) → node_needs setting (node.Cache at block key body) outer typing standing ≡ tree_needs setting body outer typing standing
  needed_cache at block key body outer typing standing =
      by_step (Node-F.Cache at block key body) (node.Cache at block key body) outer typing standing (rolls-Cache at block key body)
      ∙ ap (λ (f : Needs). f outer typing standing) (fold-roll-Node Needs Needs (needs_step setting) (arm_needs setting) (Node-F.Cache at block key body))
      ∙ parts body outer typing standing

  pub needed_render : (at : ℕ) (name : List ℕ) (locals : List Local) (outer : Option ℕ) (typing : Typing) (standing : Standing) → node_needs setting (node.Render at name locals) outer typing standing ≡ render_needs setting at name locals outer typing standing
  needed_render at name locals outer typing standing =
      by_step (Node-F.Render at name locals) (node.Render at name locals) outer typing standing (rolls-Render at name locals)
      ∙ ap (λ (f : Needs). f outer typing standing) (fold-roll-Node Needs Needs (needs_step setting) (arm_needs setting) (Node-F.Render at name locals))

  pub needed_collection : (at : ℕ) (name : List ℕ) (list : Expr) (item : List ℕ) (cached : _) (outer : Option ℕ) (typing : Typing) (standing : Standing) → node_needs setting (node.Collection at name list item cached) outer typing standing ≡ collection_needs setting at name list item outer typing standing
  needed_collection at name list item cached outer typing standing =
      by_step (Node-F.Collection at name list item cached) (node.Collection at name list item cached) outer typing standing (rolls-Collection at name list item cached)
      ∙ ap (λ (f : Needs). f outer typing standing) (fold-roll-Node Needs Needs (needs_step setting) (arm_needs setting) (Node-F.Collection at name list item cached))

  -- ---- loops

  -- a loop over what has no items needs what its list does
  pub each_none : (at : ℕ) (list : Expr) (name : List ℕ) (body : List Node) (outer : Option ℕ) (typing : Typing) (standing : Standing) (kind : TypeKind) → items_type setting.schema typing list ≡ Err kind → needs_at (place outer at) (looking_wants (reading_of setting.schema typing standing list)) ≡ each_body_needs setting at list name body outer typing standing
  unfolding each_needs
  each_none at list name body outer typing standing kind none =
      sym (ap (λ t. needs_at (place outer at) (looking_wants (reading_of setting.schema typing standing list)) ++ with_type t (λ t. tree_needs setting body outer (typing ++ (name, t) ∷ []) (standing ++ (name, (reading_of setting.schema typing standing list).paths) ∷ []))) none
      ∙ append-nil (needs_at (place outer at) (looking_wants (reading_of setting.schema typing standing list))))

  pub each_some : (at : ℕ) (list : Expr) (name : List ℕ) (body : List Node) (outer : Option ℕ) (typing : Typing) (standing : Standing) (item : ValueType) → items_type setting.schema typing list ≡ Ok item
      → needs_at (place outer at) (looking_wants (reading_of setting.schema typing standing list)) ++ tree_needs setting body outer (typing ++ (name, item) ∷ []) (standing ++ (name, (reading_of setting.schema typing standing list).paths) ∷ []) ≡ each_body_needs setting at list name body outer typing standing
  unfolding each_needs
  each_some at list name body outer typing standing item is =
      sym (ap (λ t. needs_at (place outer at) (looking_wants (reading_of setting.schema typing standing list)) ++ with_type t (λ t. tree_needs setting body outer (typing ++ (name, t) ∷ []) (standing ++ (name, (reading_of setting.schema typing standing list).paths) ∷ []))) is)

  -- ---- partials

  pub render_none : (at : ℕ) (name : List ℕ) (locals : List Local) (outer : Option ℕ) (typing : Typing) (standing : Standing) (kind : TypeKind) → locals_typing setting.schema typing locals ≡ Err kind → flat_map (local_needs setting.schema typing standing (place outer at)) locals ≡ render_needs setting at name locals outer typing standing
  unfolding render_needs
  render_none at name locals outer typing standing kind none =
      sym (ap (λ t. flat_map (local_needs setting.schema typing standing (place outer at)) locals ++ with_type t (λ types. setting.partial name (Some (place outer at)) types (local_standing setting.schema typing standing locals))) none
      ∙ append-nil (flat_map (local_needs setting.schema typing standing (place outer at)) locals))

  pub render_some : (at : ℕ) (name : List ℕ) (locals : List Local) (outer : Option ℕ) (typing : Typing) (standing : Standing) (types : Typing) → locals_typing setting.schema typing locals ≡ Ok types
      → flat_map (local_needs setting.schema typing standing (place outer at)) locals ++ setting.partial name (Some (place outer at)) types (local_standing setting.schema typing standing locals) ≡ render_needs setting at name locals outer typing standing
  unfolding render_needs
  render_some at name locals outer typing standing types is =
      sym (ap (λ t. flat_map (local_needs setting.schema typing standing (place outer at)) locals ++ with_type t (λ types. setting.partial name (Some (place outer at)) types (local_standing setting.schema typing standing locals))) is)

  pub collection_none : (at : ℕ) (name : List ℕ) (list : Expr) (item : List ℕ) (outer : Option ℕ) (typing : Typing) (standing : Standing) (kind : TypeKind) → items_type setting.schema typing list ≡ Err kind → needs_at (place outer at) (looking_wants (reading_of setting.schema typing standing list)) ≡ collection_needs setting at name list item outer typing standing
  unfolding collection_needs
  collection_none at name list item outer typing standing kind none =
      sym (ap (λ t. needs_at (place outer at) (looking_wants (reading_of setting.schema typing standing list)) ++ with_type t (λ t. setting.partial name (Some (place outer at)) ((item, t) ∷ []) ((item, (reading_of setting.schema typing standing list).paths) ∷ []))) none
      ∙ append-nil (needs_at (place outer at) (looking_wants (reading_of setting.schema typing standing list))))

  pub collection_some : (at : ℕ) (name : List ℕ) (list : Expr) (item : List ℕ) (outer : Option ℕ) (typing : Typing) (standing : Standing) (t : ValueType) → items_type setting.schema typing list ≡ Ok t
      → needs_at (place outer at) (looking_wants (reading_of setting.schema typing standing list)) ++ setting.partial name (Some (place outer at)) ((item, t) ∷ []) ((item, (reading_of setting.schema typing standing list).paths) ∷ []) ≡ collection_needs setting at name list item outer typing standing
  unfolding collection_needs
  collection_some at name list item outer typing standing t is =
      sym (ap (λ t. needs_at (place outer at) (looking_wants (reading_of setting.schema typing standing list)) ++ with_type t (λ t. setting.partial name (Some (place outer at)) ((item, t) ∷ []) ((item, (reading_of setting.schema typing standing list).paths) ∷ []))) is)

-- ---- one after another

pub then_is : (new before middle first more added all : List Need) → new ≡ middle ++ more → middle ≡ before ++ first → more ≡ added → first ++ added ≡ all → new ≡ before ++ all
then_is new before middle first more added all is starts goes whole =
    is ∙ ap (λ m. m ++ more) starts ∙ ap (λ m. (before ++ first) ++ m) goes ∙ append_assoc before first added ∙ ap (λ m. before ++ m) whole

pub then_ok : (r : Result (Unit {0}) Memory) (new before middle first more added all : List Need) → OnOk r (new ≡ middle ++ more) → middle ≡ before ++ first → more ≡ added → first ++ added ≡ all → OnOk r (new ≡ before ++ all)
then_ok (Ok x) new before middle first more added all is starts goes whole = then_is new before middle first more added all is starts goes whole
then_ok (Err e) new before middle first more added all is starts goes whole = tt
