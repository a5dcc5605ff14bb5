-- The blocks of nodes, by those of their parts.
use Rattle.std.proofs.Common.{◌≡◌, ℕ, ◌+◌, ◌<◌, Bool, true, false, List, [], ◌∷◌, ◌++◌, length, take, get_or, map, Option, None, Some, Result, Ok, Err, OnOk, true≢false, refl, ap, sym, subst, ◌∙◌}
use Rattle.std.proofs.lemmas.Grind.{flat_map-append}
use Rattle.std.proofs.lemmas.List.{append-nil, append_assoc, flat_map_more, map-append, take_more}
use Rattle.std.proofs.lemmas.List.Folds.{flat_map-map}
use Rattle.std.specs.List.{flat_map}
use Rattle.doll_erb.specs.declared.node.Arm.{Arm, Arm-F, fold-Arm, map-Arm, roll-Arm}
use Rattle.doll_erb.specs.declared.node.KeyPart.{KeyPart}
use Rattle.doll_erb.specs.declared.node.Local.{Local}
use Rattle.doll_erb.specs.declared.node.Node.{Node}
use Rattle.doll_erb.specs.declared.node.Node as node
use Rattle.doll_erb.specs.declared.node.Node.TheFolds.{fold-roll-Node, fold_out-Arm, ind-Node, map-Node}
use Rattle.doll_erb.specs.declared.node.Node.TheOpen.{Node-F}
use Rattle.doll_erb.specs.declared.node.Node.TheVariants.{rolls-Text, rolls-Write, rolls-Raw, rolls-If, rolls-Each, rolls-Cache, rolls-Render, rolls-Collection, rolls-Depends}
use Rattle.doll_expr.specs.declared.expr.Expr.{Expr}
use Rattle.doll_schema.specs.Models.{ModelList}
use Rattle.doll_set.specs.Dependencies.{names_of, partial_of}
use Rattle.doll_set.specs.Digests.{name_at}
use Rattle.doll_set.specs.Sets.{ReadSet}
use Rattle.doll_set.specs.declared.template.Template.{Template}
use Rattle.doll_text.specs.declared.memory.Memory.{Memory}
use Rattle.doll_types.specs.declared.types.TypeKind.{TypeKind}
use Rattle.doll_types.specs.declared.types.ValueType.{ValueType}
use Rattle.doll_types.specs.Findings.{items_type}
use Rattle.doll_types.specs.Types.{Typing}
use Rattle.doll_lint.specs.declared.found.Found.{Found}
use Rattle.doll_lint.specs.Blocks.{ArmPart, Block, Part, arm_part, arms_blocks, arms_of, collection_blocks, item_block, item_blocks, loop_blocks, node_blocks, nodes_blocks, nodes_of, part_blocks, part_of, part_step, tag_block}
use Rattle.doll_lint.specs.Found.{Grows, block_faults, note_of}

module _ (schema : ModelList) (templates : List Template) (number : ℕ) where
  abbrev step : Node-F Part ArmPart → Part
  step = part_step schema templates number

  abbrev whole : Node → Part
  whole = part_of schema templates number

  abbrev arm_whole : Arm → ArmPart
  arm_whole = fold-Arm Part ArmPart step arm_part

  opened : (layer : Node-F Node Arm) (one : Node) → node.roll-Node layer ≡ one → whole one ≡ step (map-Node Node Arm Part ArmPart whole arm_whole layer)
  opened layer one rolls = ap whole (sym rolls) ∙ fold-roll-Node Part ArmPart step arm_part layer

  -- ---- each node is carried along as it is

  abbrev Same : Node → Type 0
  Same one = (whole one).node ≡ one

  abbrev SameArm : Arm → Type 0
  SameArm arm = (arm_whole arm).arm ≡ arm

  abbrev Known : Type 0
  Known = (one : Node) × Same one

  abbrev KnownArm : Type 0
  KnownArm = (arm : Arm) × SameArm arm

  abbrev known_nodes : List Known → List Node
  known_nodes = map (λ k. k.0)

  abbrev known_arms : List KnownArm → List Arm
  known_arms = map (λ k. k.0)

  same_known : (known : List Known) → nodes_of (map whole (known_nodes known)) ≡ known_nodes known
  same_known [] = refl
  same_known (k ∷ known) = ap (λ one. one ∷ nodes_of (map whole (known_nodes known))) k.1 ∙ ap (λ more. k.0 ∷ more) (same_known known)

  same_known_arms : (known : List KnownArm) → arms_of (map arm_whole (known_arms known)) ≡ known_arms known
  same_known_arms [] = refl
  same_known_arms (k ∷ known) = ap (λ one. one ∷ arms_of (map arm_whole (known_arms known))) k.1 ∙ ap (λ more. k.0 ∷ more) (same_known_arms known)

  abbrev open_node : Node-F Known KnownArm → Node-F Node Arm
  open_node = map-Node Known KnownArm Node Arm (λ k. k.0) (λ k. k.0)

  abbrev StepSame : Node-F Node Arm → Type 0
  StepSame layer = (step (map-Node Node Arm Part ArmPart whole arm_whole layer)).node ≡ node.roll-Node layer

  layer_same : (layer : Node-F Known KnownArm) → StepSame (open_node layer)
  layer_same (Node-F.Text text) = sym (rolls-Text text)
  layer_same (Node-F.Write at value) = sym (rolls-Write at value)
  layer_same (Node-F.Raw at value) = sym (rolls-Raw at value)
  layer_same (Node-F.If at arms otherwise) =
      ap (λ a. node.If at a (nodes_of (map whole (known_nodes otherwise)))) (same_known_arms arms)
      ∙ ap (λ o. node.If at (known_arms arms) o) (same_known otherwise)
      ∙ sym (rolls-If at (known_arms arms) (known_nodes otherwise))
  layer_same (Node-F.Each at list name body) = ap (λ b. node.Each at list name b) (same_known body) ∙ sym (rolls-Each at list name (known_nodes body))
  layer_same (Node-F.Cache at block key body) = ap (λ b. node.Cache at block key b) (same_known body) ∙ sym (rolls-Cache at block key (known_nodes body))
  layer_same (Node-F.Render at name locals) = sym (rolls-Render at name locals)
  layer_same (Node-F.Collection at name list item cached) = sym (rolls-Collection at name list item cached)
  layer_same (Node-F.Depends at name) = sym (rolls-Depends at name)

  rolled_same : (layer : Node-F Node Arm) → StepSame layer → Same (node.roll-Node layer)
  rolled_same layer same = ap (λ (p : Part). p.node) (fold-roll-Node Part ArmPart step arm_part layer) ∙ same

  abbrev known_arm : Arm-F Known KnownArm → Arm
  known_arm layer = roll-Arm (map-Arm Known KnownArm Node Arm (λ k. k.0) (λ k. k.0) layer)

  arm_same : (layer : Arm-F Known KnownArm) → SameArm (known_arm layer)
  arm_same layer =
      ap (λ (p : ArmPart). p.arm) (fold_out-Arm Part ArmPart step arm_part (known_arm layer))
      ∙ ap (λ b. record { at = layer.at; test = layer.test; body = b }) (same_known layer.body)

  same_node : (one : Node) → Same one
  same_node = ind-Node Same SameArm
      (λ x y is. subst (λ z. Same (node.roll-Node z)) is (rolled_same (open_node y) (layer_same y)))
      (λ x y is. subst (λ z. SameArm (roll-Arm z)) is (arm_same y))

  same_nodes : (nodes : List Node) → nodes_of (map whole nodes) ≡ nodes
  same_nodes [] = refl
  same_nodes (one ∷ nodes) = ap (λ n. n ∷ nodes_of (map whole nodes)) (same_node one) ∙ ap (λ more. one ∷ more) (same_nodes nodes)

  -- ---- blocks of parts

  parts : (body : List Node) (typing : Typing) → part_blocks (map whole body) typing ≡ nodes_blocks schema templates number body typing
  parts body typing = flat_map-map (λ (p : Part). p.blocks typing) whole body

  arms_parts : (arms : List Arm) (typing : Typing) → flat_map (λ (a : ArmPart). a.blocks typing) (map arm_whole arms) ≡ arms_blocks schema templates number arms typing
  arms_parts [] typing = refl
  arms_parts (arm ∷ arms) typing =
      ap (λ first. first ++ flat_map (λ (a : ArmPart). a.blocks typing) (map arm_whole arms))
      (ap (λ (a : ArmPart). a.blocks typing) (fold_out-Arm Part ArmPart step arm_part arm) ∙ parts arm.body typing)
      ∙ ap (λ more. nodes_blocks schema templates number arm.body typing ++ more) (arms_parts arms typing)

  by_layer : (layer : Node-F Node Arm) (one : Node) (typing : Typing) → node.roll-Node layer ≡ one → node_blocks schema templates number one typing ≡ (step (map-Node Node Arm Part ArmPart whole arm_whole layer)).blocks typing
  by_layer layer one typing rolls = ap (λ (p : Part). p.blocks typing) (opened layer one rolls)

  pub text_blocks : (text : List ℕ) (typing : Typing) → node_blocks schema templates number (node.Text text) typing ≡ []
  text_blocks text typing = by_layer (Node-F.Text text) (node.Text text) typing (rolls-Text text)

  pub write_blocks : (at : ℕ) (value : Expr) (typing : Typing) → node_blocks schema templates number (node.Write at value) typing ≡ []
  write_blocks at value typing = by_layer (Node-F.Write at value) (node.Write at value) typing (rolls-Write at value)

  pub raw_blocks : (at : ℕ) (value : Expr) (typing : Typing) → node_blocks schema templates number (node.Raw at value) typing ≡ []
  raw_blocks at value typing = by_layer (Node-F.Raw at value) (node.Raw at value) typing (rolls-Raw at value)

  pub render_blocks : (at : ℕ) (name : List ℕ) (locals : List Local) (typing : Typing) → node_blocks schema templates number (node.Render at name locals) typing ≡ []
  render_blocks at name locals typing = by_layer (Node-F.Render at name locals) (node.Render at name locals) typing (rolls-Render at name locals)

  pub depends_blocks : (at : ℕ) (name : List ℕ) (typing : Typing) → node_blocks schema templates number (node.Depends at name) typing ≡ []
  depends_blocks at name typing = by_layer (Node-F.Depends at name) (node.Depends at name) typing (rolls-Depends at name)

  pub if_blocks : (at : ℕ) (arms : List Arm) (otherwise : List Node) (typing : Typing) → node_blocks schema templates number (node.If at arms otherwise) typing ≡ arms_blocks schema templates number arms typing ++ nodes_blocks schema templates number otherwise typing
  if_blocks at arms otherwise typing =
      by_layer (Node-F.If at arms otherwise) (node.If at arms otherwise) typing (rolls-If at arms otherwise)
      ∙ ap (λ first. first ++ part_blocks (map whole otherwise) typing) (arms_parts arms typing)
      ∙ ap (λ more. arms_blocks schema templates number arms typing ++ more) (parts otherwise typing)

  each_by : (at : ℕ) (list : Expr) (name : List ℕ) (body : List Node) (typing : Typing) → node_blocks schema templates number (node.Each at list name body) typing ≡ loop_blocks (items_type schema typing list) name (map whole body) typing
  each_by at list name body typing = by_layer (Node-F.Each at list name body) (node.Each at list name body) typing (rolls-Each at list name body)

  pub each_none : (at : ℕ) (list : Expr) (name : List ℕ) (body : List Node) (typing : Typing) (kind : TypeKind) → items_type schema typing list ≡ Err kind → node_blocks schema templates number (node.Each at list name body) typing ≡ []
  each_none at list name body typing kind is = each_by at list name body typing ∙ ap (λ of. loop_blocks of name (map whole body) typing) is

  pub each_some : (at : ℕ) (list : Expr) (name : List ℕ) (body : List Node) (typing : Typing) (item : ValueType) → items_type schema typing list ≡ Ok item → node_blocks schema templates number (node.Each at list name body) typing ≡ nodes_blocks schema templates number body (typing ++ (name, item) ∷ [])
  each_some at list name body typing item is =
      each_by at list name body typing ∙ ap (λ of. loop_blocks of name (map whole body) typing) is ∙ parts body (typing ++ (name, item) ∷ [])

  pub cache_blocks : (at block : ℕ) (key : List KeyPart) (body : List Node) (typing : Typing) → node_blocks schema templates number (node.Cache at block key body) typing ≡ tag_block number block at typing key body ∷ nodes_blocks schema templates number body typing
  cache_blocks at block key body typing =
      by_layer (Node-F.Cache at block key body) (node.Cache at block key body) typing (rolls-Cache at block key body)
      ∙ ap (λ b. tag_block number block at typing key b ∷ part_blocks (map whole body) typing) (same_nodes body)
      ∙ ap (λ more. tag_block number block at typing key body ∷ more) (parts body typing)

  pub items_blocks : (at : ℕ) (name : List ℕ) (list : Expr) (item : List ℕ) (cached : Bool) (typing : Typing) → node_blocks schema templates number (node.Collection at name list item cached) typing ≡ collection_blocks schema templates number name list item cached typing
  items_blocks at name list item cached typing =
      by_layer (Node-F.Collection at name list item cached) (node.Collection at name list item cached) typing (rolls-Collection at name list item cached)

  -- ---- collections

  pub not_cached : (name : List ℕ) (list : Expr) (item : List ℕ) (cached : Bool) (typing : Typing) → cached ≡ false → collection_blocks schema templates number name list item cached typing ≡ []
  unfolding collection_blocks
  not_cached name list item true typing is = absurd (true≢false is)
  not_cached name list item false typing is = refl

  pub no_items : (name : List ℕ) (list : Expr) (item : List ℕ) (cached : Bool) (typing : Typing) (kind : TypeKind) → items_type schema typing list ≡ Err kind → collection_blocks schema templates number name list item cached typing ≡ []
  unfolding collection_blocks
  no_items name list item false typing kind is = refl
  no_items name list item true typing kind is =
      ap (λ of. item_blocks templates (partial_of (names_of templates) (name_at templates number) name) of item) is ∙ none (partial_of (names_of templates) (name_at templates number) name)
    where
      none : (partial : Option ℕ) → item_blocks templates partial (Err kind) item ≡ []
      none None = refl
      none (Some partial) = refl

  pub no_partial_there : (name : List ℕ) (list : Expr) (item : List ℕ) (cached : Bool) (typing : Typing) → partial_of (names_of templates) (name_at templates number) name ≡ None → collection_blocks schema templates number name list item cached typing ≡ []
  unfolding collection_blocks
  no_partial_there name list item false typing is = refl
  no_partial_there name list item true typing is = ap (λ partial. item_blocks templates partial (items_type schema typing list) item) is

  pub item_there : (name : List ℕ) (list : Expr) (item : List ℕ) (cached : Bool) (typing : Typing) (partial : ℕ) (of : ValueType) → cached ≡ true → partial_of (names_of templates) (name_at templates number) name ≡ Some partial → items_type schema typing list ≡ Ok of
      → collection_blocks schema templates number name list item cached typing ≡ item_block templates partial item of ∷ []
  unfolding collection_blocks
  item_there name list item false typing partial of is there types = absurd (true≢false (sym is))
  item_there name list item true typing partial of is there types =
      ap (λ p. item_blocks templates p (items_type schema typing list) item) there ∙ ap (λ t. item_blocks templates (Some partial) t item) types

-- ---- one after another

module _ (set : ReadSet) (schema : ModelList) where
  pub none_grows : (found : Found) → Grows set schema [] found found
  none_grows found = record { faults = sym (append-nil found.faults.items); notes = sym (append-nil found.notes.items) }

  pub then_grows : (xs ys : List Block) (before middle after : Found) → Grows set schema xs before middle → Grows set schema ys middle after → Grows set schema (xs ++ ys) before after
  then_grows xs ys before middle after first more = record {
    faults =
        more.faults ∙ ap (λ f. f ++ flat_map (block_faults set schema) ys) first.faults
        ∙ append_assoc before.faults.items (flat_map (block_faults set schema) xs) (flat_map (block_faults set schema) ys)
        ∙ ap (λ f. before.faults.items ++ f) (sym (flat_map-append (block_faults set schema) xs ys));
    notes =
        more.notes ∙ ap (λ n. n ++ map (note_of schema) ys) first.notes
        ∙ append_assoc before.notes.items (map (note_of schema) xs) (map (note_of schema) ys)
        ∙ ap (λ n. before.notes.items ++ n) (sym (map-append (note_of schema) xs ys));
  }

  pub grows_as : (xs ys : List Block) (before after : Found) → xs ≡ ys → Grows set schema xs before after → Grows set schema ys before after
  grows_as xs ys before after same grows = subst (λ bs. Grows set schema bs before after) same grows

  -- the blocks of one thing more
  pub more_grows : {X : Type 0} (blocks : X → List Block) (xs : List X) (at : ℕ) (one : X) (before middle after : Found) → at < length xs → one ≡ get_or xs at one
      → Grows set schema (flat_map blocks (take at xs)) before middle → Grows set schema (blocks one) middle after → Grows set schema (flat_map blocks (take (at + 1) xs)) before after
  more_grows blocks xs at one before middle after within is first more =
      grows_as (flat_map blocks (take at xs) ++ blocks one) (flat_map blocks (take (at + 1) xs)) before after
      (ap (λ o. flat_map blocks (take at xs) ++ blocks o) is
      ∙ flat_map_more blocks [] (take at xs) (get_or xs at one)
      ∙ ap (λ done. flat_map blocks done) (sym (take_more xs at one within)))
      (then_grows (flat_map blocks (take at xs)) (blocks one) before middle after first more)

  pub grows_ok : (r : Result (Unit {0}) Memory) (xs ys all : List Block) (before middle after : Found) → Grows set schema xs before middle → OnOk r (Grows set schema ys middle after) → xs ++ ys ≡ all → OnOk r (Grows set schema all before after)
  grows_ok (Ok x) xs ys all before middle after first more whole = grows_as (xs ++ ys) all before after whole (then_grows xs ys before middle after first more)
  grows_ok (Err e) xs ys all before middle after first more whole = tt
