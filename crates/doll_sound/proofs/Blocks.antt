-- Two blocks of one template with one number are one block of the text.
use Rattle.std.proofs.Common.{◌≡◌, ◌<◌, ◌≤◌, ℕ, Bool, true, false, List, [], ◌∷◌, ◌++◌, map, Option, None, Some, Result, Ok, Err, ◌⊎◌, inl, inr, ⊎_elim, refl, sym, ap, subst, ◌∙◌, arith}
use Rattle.std.specs.List.{Contains}
use Rattle.std.proofs.lemmas.List.Elements.{Contains-append_cases, Contains-append_left, Contains-append_right}
use Rattle.doll_expr.specs.declared.expr.Expr.{Expr}
use Rattle.doll_schema.specs.Models.{ModelList}
use Rattle.doll_erb.specs.declared.node.Arm.{Arm, roll-Arm}
use Rattle.doll_erb.specs.declared.node.KeyPart.{KeyPart}
use Rattle.doll_erb.specs.declared.node.Node.{Node, roll-Node}
use Rattle.doll_erb.specs.declared.node.Node as node
use Rattle.doll_erb.specs.declared.node.Node.TheFolds.{ind-Node, map-Node}
use Rattle.doll_erb.specs.declared.node.Node.TheOpen.{Node-F}
use Rattle.doll_erb.specs.declared.node.Node.TheVariants.{rolls-Text, rolls-Write, rolls-Raw, rolls-If, rolls-Each, rolls-Cache, rolls-Render, rolls-Collection, rolls-Depends}
use Rattle.doll_set.specs.declared.template.Template.{Template}
use Rattle.doll_set.specs.Dependencies.{names_of, partial_of}
use Rattle.doll_set.specs.Digests.{name_at}
use Rattle.doll_types.specs.declared.types.TypeKind.{TypeKind}
use Rattle.doll_types.specs.declared.types.ValueType.{ValueType}
use Rattle.doll_types.specs.Findings.{items_type}
use Rattle.doll_types.specs.Types.{Typing}
use Rattle.doll_lint.specs.Blocks.{Block, arms_blocks, collection_blocks, item_block, item_blocks, node_blocks, nodes_blocks, tag_block}
use Rattle.doll_lint.proofs.Blocks.{cache_blocks, depends_blocks, each_none, each_some, if_blocks, items_blocks, raw_blocks, render_blocks, text_blocks, write_blocks}
use Rattle.doll_agree.proofs.Lists.{none_among, only_is}
use Rattle.doll_sound.proofs.Numbers.{IsRun, arms_numbers, cache_numbers, each_numbers, if_numbers, no_numbers, node_numbers, run_split, run_within, tree_numbers}

-- two blocks have one key and one body
abbrev pub HasSameTag : Block → Block → Type 0
HasSameTag one other = (one.key ≡ other.key) × (one.body ≡ other.body)

module _ (schema : ModelList) (templates : List Template) (number : ℕ) where
  -- an item of a cached collection
  abbrev pub IsItem : Block → Type 0
  IsItem block = (partial : ℕ) × (item : List ℕ) × (t : ValueType) × (block ≡ item_block templates partial item t)

  -- a tag of the template, with one of these numbers
  abbrev pub IsTag : List ℕ → Block → Type 0
  IsTag ns block = (block.template ≡ number) × Contains ns block.number

  -- Blocks under each typing, of which those that are tags have these numbers. Where each number stands once, so does each tag.
  pub record IsNumbered (blocks : Typing → List Block) (ns : List ℕ) : Type 0 where
    pub each : (typing : Typing) (block : Block) → Contains (blocks typing) block → IsItem block ⊎ IsTag ns block
    pub one : (from to : ℕ) → IsRun from ns to → (typing types : Typing) (a b : Block) → Contains (blocks typing) a → Contains (blocks types) b
        → (IsItem a → ⊥) → (IsItem b → ⊥) → a.number ≡ b.number → HasSameTag a b

  changed : (F G : Typing → List Block) (ns ms : List ℕ) → ((typing : Typing) → G typing ≡ F typing) → ns ≡ ms → IsNumbered F ns → IsNumbered G ms
  changed F G ns ms same numbers is = subst (IsNumbered G) numbers record {
    each = λ typing block among. is.each typing block (subst (λ bs. Contains bs block) (same typing) among);
    one = λ from to run typing types a b in_a in_b. is.one from to run typing types a b (subst (λ bs. Contains bs a) (same typing) in_a) (subst (λ bs. Contains bs b) (same types) in_b);
  }

  nothing : IsNumbered (λ typing. []) []
  nothing = record {
    each = λ typing block among. none_among block among;
    one = λ from to run typing types a b in_a in_b. none_among a in_a;
  }

  left : (ns ms : List ℕ) (block : Block) → IsItem block ⊎ IsTag ns block → IsItem block ⊎ IsTag (ns ++ ms) block
  left ns ms block (inl item) = inl item
  left ns ms block (inr tag) = inr (tag.0, Contains-append_left ns ms block.number tag.1)

  right : (ns ms : List ℕ) (block : Block) → IsItem block ⊎ IsTag ms block → IsItem block ⊎ IsTag (ns ++ ms) block
  right ns ms block (inl item) = inl item
  right ns ms block (inr tag) = inr (tag.0, Contains-append_right ns ms block.number tag.1)

  -- a tag has a number of its run
  ranged : (from to : ℕ) (ns : List ℕ) (block : Block) → IsRun from ns to → (IsItem block → ⊥) → IsItem block ⊎ IsTag ns block → (from ≤ block.number) × (block.number < to)
  ranged from to ns block run none (inl item) = absurd (none item)
  ranged from to ns block run none (inr tag) = run_within from to ns block.number run tag.1

  both : (F G : Typing → List Block) (ns ms : List ℕ) → IsNumbered F ns → IsNumbered G ms → IsNumbered (λ typing. F typing ++ G typing) (ns ++ ms)
  both F G ns ms first more = record {
    each = λ typing block among.
        ⊎_elim (λ h. left ns ms block (first.each typing block h)) (λ h. right ns ms block (more.each typing block h)) (Contains-append_cases (F typing) (G typing) block among);
    one = λ from to run typing types a b in_a in_b none_a none_b same.
        let split = run_split from to ns ms run in
        ⊎_elim
        (λ h. ⊎_elim
        (λ k. first.one from split.0 split.1 typing types a b h k none_a none_b same)
        (λ k. absurd (omega (arith, same, ranged from split.0 ns a split.1 none_a (first.each typing a h), ranged split.0 to ms b split.2 none_b (more.each types b k))))
        (Contains-append_cases (F types) (G types) b in_b))
        (λ h. ⊎_elim
        (λ k. absurd (omega (arith, same, ranged from split.0 ns b split.1 none_b (first.each types b k), ranged split.0 to ms a split.2 none_a (more.each typing a h))))
        (λ k. more.one split.0 to split.2 typing types a b h k none_a none_b same)
        (Contains-append_cases (F types) (G types) b in_b))
        (Contains-append_cases (F typing) (G typing) a in_a);
  }

  -- ---- tags

  the_tag : (at block : ℕ) (key : List KeyPart) (body : List Node) → IsNumbered (λ typing. tag_block number block at typing key body ∷ []) (block ∷ [])
  the_tag at block key body = record {
    each = λ typing b among. inr (ap (λ (b : Block). b.template) (only_is (tag_block number block at typing key body) b among), (0, omega arith, ap (λ (b : Block). b.number) (sym (only_is (tag_block number block at typing key body) b among))));
    one = λ from to run typing types a b in_a in_b none_a none_b same.
        let is_a = only_is (tag_block number block at typing key body) a in_a in
        let is_b = only_is (tag_block number block at types key body) b in_b in
        (ap (λ (b : Block). b.key) is_a ∙ sym (ap (λ (b : Block). b.key) is_b), ap (λ (b : Block). b.body) is_a ∙ sym (ap (λ (b : Block). b.body) is_b));
  }

  -- ---- items

  collected : (name : List ℕ) (list : Expr) (item : List ℕ) (cached : Bool) (typing : Typing) (block : Block) → Contains (collection_blocks schema templates number name list item cached typing) block → IsItem block
  unfolding collection_blocks
  collected name list item false typing block among = none_among block among
  collected name list item true typing block among = by (partial_of (names_of templates) (name_at templates number) name) (items_type schema typing list) among
    where
      by : (partial : Option ℕ) (r : Result ValueType TypeKind) → Contains (item_blocks templates partial r item) block → IsItem block
      by None r among = none_among block among
      by (Some partial) (Err kind) among = none_among block among
      by (Some partial) (Ok t) among = (partial, item, t, only_is (item_block templates partial item t) block among)

  items : (name : List ℕ) (list : Expr) (item : List ℕ) (cached : Bool) → IsNumbered (collection_blocks schema templates number name list item cached) []
  items name list item cached = record {
    each = λ typing block among. inl (collected name list item cached typing block among);
    one = λ from to run typing types a b in_a in_b none_a none_b same. absurd (none_a (collected name list item cached typing a in_a));
  }

  -- ---- nodes

  abbrev NodeNumbered : Node → Type 0
  NodeNumbered one = IsNumbered (node_blocks schema templates number one) (node_numbers one)

  abbrev ArmNumbered : Arm → Type 0
  ArmNumbered arm = IsNumbered (nodes_blocks schema templates number arm.body) (tree_numbers arm.body)

  abbrev Part : Type 0
  Part = (one : Node) × NodeNumbered one

  abbrev ArmPart : Type 0
  ArmPart = (arm : Arm) × ArmNumbered arm

  abbrev nodes : List Part → List Node
  nodes = map (λ p. p.0)

  abbrev arms_of : List ArmPart → List Arm
  arms_of = map (λ p. p.0)

  nodes_numbered : (parts : List Part) → IsNumbered (nodes_blocks schema templates number (nodes parts)) (tree_numbers (nodes parts))
  nodes_numbered [] = nothing
  nodes_numbered (p ∷ parts) =
      both (node_blocks schema templates number p.0) (nodes_blocks schema templates number (nodes parts)) (node_numbers p.0) (tree_numbers (nodes parts)) p.1 (nodes_numbered parts)

  arms_numbered : (arms : List ArmPart) → IsNumbered (arms_blocks schema templates number (arms_of arms)) (arms_numbers (arms_of arms))
  arms_numbered [] = nothing
  arms_numbered (p ∷ arms) =
      both (nodes_blocks schema templates number p.0.body) (arms_blocks schema templates number (arms_of arms)) (tree_numbers p.0.body) (arms_numbers (arms_of arms)) p.1 (arms_numbered arms)

  each_numbered : (at : ℕ) (list : Expr) (name : List ℕ) (body : List Node) → IsNumbered (nodes_blocks schema templates number body) (tree_numbers body)
      → IsNumbered (node_blocks schema templates number (node.Each at list name body)) (tree_numbers body)
  each_numbered at list name body is = record {
    each = λ typing block among. let h = inside typing (items_type schema typing list) refl block among in is.each h.0 block h.1;
    one = λ from to run typing types a b in_a in_b.
        let h = inside typing (items_type schema typing list) refl a in_a in
        let k = inside types (items_type schema types list) refl b in_b in
        is.one from to run h.0 k.0 a b h.1 k.1;
  }
    where
      inside : (typing : Typing) (r : Result ValueType TypeKind) → items_type schema typing list ≡ r → (block : Block) → Contains (node_blocks schema templates number (node.Each at list name body) typing) block
          → (inner : Typing) × Contains (nodes_blocks schema templates number body inner) block
      inside typing (Err kind) e block among = none_among block (subst (λ bs. Contains bs block) (each_none schema templates number at list name body typing kind e) among)
      inside typing (Ok item) e block among = (typing ++ (name, item) ∷ [], subst (λ bs. Contains bs block) (each_some schema templates number at list name body typing item e) among)

  abbrev open_node : Node-F Part ArmPart → Node-F Node Arm
  open_node = map-Node Part ArmPart Node Arm (λ p. p.0) (λ p. p.0)

  -- a node without blocks
  bare : (layer : Node-F Node Arm) (one : Node) → node.roll-Node layer ≡ one → ((typing : Typing) → node_blocks schema templates number one typing ≡ []) → node_numbers (node.roll-Node layer) ≡ [] → NodeNumbered (node.roll-Node layer)
  bare layer one rolls none numbers = subst NodeNumbered (sym rolls) (changed (λ typing. []) (node_blocks schema templates number one) [] (node_numbers one) none (sym numbers ∙ ap node_numbers rolls) nothing)

  layer_numbered : (y : Node-F Part ArmPart) → NodeNumbered (roll-Node (open_node y))
  layer_numbered (Node-F.Text text) = bare (Node-F.Text text) (node.Text text) (rolls-Text text) (text_blocks schema templates number text) (no_numbers (Node-F.Text text) refl)
  layer_numbered (Node-F.Write at value) = bare (Node-F.Write at value) (node.Write at value) (rolls-Write at value) (write_blocks schema templates number at value) (no_numbers (Node-F.Write at value) refl)
  layer_numbered (Node-F.Raw at value) = bare (Node-F.Raw at value) (node.Raw at value) (rolls-Raw at value) (raw_blocks schema templates number at value) (no_numbers (Node-F.Raw at value) refl)
  layer_numbered (Node-F.Render at name locals) =
      bare (Node-F.Render at name locals) (node.Render at name locals) (rolls-Render at name locals) (render_blocks schema templates number at name locals) (no_numbers (Node-F.Render at name locals) refl)
  layer_numbered (Node-F.Depends at name) = bare (Node-F.Depends at name) (node.Depends at name) (rolls-Depends at name) (depends_blocks schema templates number at name) (no_numbers (Node-F.Depends at name) refl)
  layer_numbered (Node-F.If at arms otherwise) =
      let rolls = rolls-If at (arms_of arms) (nodes otherwise) in
      subst NodeNumbered (sym rolls)
      (changed (λ typing. arms_blocks schema templates number (arms_of arms) typing ++ nodes_blocks schema templates number (nodes otherwise) typing) (node_blocks schema templates number (node.If at (arms_of arms) (nodes otherwise)))
      (arms_numbers (arms_of arms) ++ tree_numbers (nodes otherwise)) (node_numbers (node.If at (arms_of arms) (nodes otherwise)))
      (if_blocks schema templates number at (arms_of arms) (nodes otherwise)) (sym (if_numbers at (arms_of arms) (nodes otherwise)) ∙ ap node_numbers rolls)
      (both (arms_blocks schema templates number (arms_of arms)) (nodes_blocks schema templates number (nodes otherwise)) (arms_numbers (arms_of arms)) (tree_numbers (nodes otherwise)) (arms_numbered arms) (nodes_numbered otherwise)))
  layer_numbered (Node-F.Each at list name body) =
      let rolls = rolls-Each at list name (nodes body) in
      subst NodeNumbered (sym rolls)
      (changed (node_blocks schema templates number (node.Each at list name (nodes body))) (node_blocks schema templates number (node.Each at list name (nodes body))) (tree_numbers (nodes body))
      (node_numbers (node.Each at list name (nodes body))) (λ typing. refl) (sym (each_numbers at list name (nodes body)) ∙ ap node_numbers rolls) (each_numbered at list name (nodes body) (nodes_numbered body)))
  layer_numbered (Node-F.Cache at block key body) =
      let rolls = rolls-Cache at block key (nodes body) in
      subst NodeNumbered (sym rolls)
      (changed (λ typing. tag_block number block at typing key (nodes body) ∷ nodes_blocks schema templates number (nodes body) typing) (node_blocks schema templates number (node.Cache at block key (nodes body)))
      (block ∷ tree_numbers (nodes body)) (node_numbers (node.Cache at block key (nodes body)))
      (cache_blocks schema templates number at block key (nodes body)) (sym (cache_numbers at block key (nodes body)) ∙ ap node_numbers rolls)
      (both (λ typing. tag_block number block at typing key (nodes body) ∷ []) (nodes_blocks schema templates number (nodes body)) (block ∷ []) (tree_numbers (nodes body)) (the_tag at block key (nodes body)) (nodes_numbered body)))
  layer_numbered (Node-F.Collection at name list item cached) =
      let rolls = rolls-Collection at name list item cached in
      subst NodeNumbered (sym rolls)
      (changed (collection_blocks schema templates number name list item cached) (node_blocks schema templates number (node.Collection at name list item cached)) [] (node_numbers (node.Collection at name list item cached))
      (items_blocks schema templates number at name list item cached) (sym (no_numbers (Node-F.Collection at name list item cached) refl) ∙ ap node_numbers rolls) (items name list item cached))

  node_numbered : (one : Node) → NodeNumbered one
  node_numbered = ind-Node NodeNumbered ArmNumbered
      (λ x y is. subst (λ z. NodeNumbered (roll-Node z)) is (layer_numbered y))
      (λ x y is. subst (λ z. ArmNumbered (roll-Arm z)) is (nodes_numbered y.body))

  pub tree_numbered : (tree : List Node) → IsNumbered (nodes_blocks schema templates number tree) (tree_numbers tree)
  tree_numbered [] = nothing
  tree_numbered (one ∷ tree) = both (node_blocks schema templates number one) (nodes_blocks schema templates number tree) (node_numbers one) (tree_numbers tree) (node_numbered one) (tree_numbered tree)
