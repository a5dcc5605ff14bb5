-- In a typed set: no fault is found in what is reached, nor in the body of a block that is, and each part of a block's key has its type.
use Rattle.std.proofs.Common.{◌≡◌, ℕ, Bool, true, false, cond, List, [], ◌∷◌, ◌++◌, map, Option, None, Some, Result, Ok, Err, ⊎_elim, refl, ap, sym, subst, ◌∙◌, arith}
use Rattle.std.specs.Prelude.{slice_get, codes, option_map}
use Rattle.std.specs.List.{Contains, flat_map}
use Rattle.std.specs.Option.{ok_or, option_map_or}
use Rattle.std.proofs.lemmas.List.Elements.{Contains-append_cases}
use Rattle.std.proofs.lemmas.Slice.Eq.{bytes_eq-Decides}
use Rattle.doll_text.specs.Steps.{◌>>=◌, ◌>>◌, check}
use Rattle.doll_expr.specs.declared.expr.Expr.{Expr}
use Rattle.doll_expr.specs.declared.expr.Expr.TheFolds.{fold-roll-Expr}
use Rattle.doll_expr.specs.declared.expr.Expr.TheOpen.{Expr-F}
use Rattle.doll_expr.specs.declared.expr.Expr.TheVariants as expr
use Rattle.doll_expr.specs.declared.expr.Expr.TheVariants.{rolls-Var}
use Rattle.doll_erb.specs.declared.node.Arm.{Arm, roll-Arm}
use Rattle.doll_erb.specs.declared.node.KeyPart.{KeyPart}
use Rattle.doll_erb.specs.declared.node.KeyPart.TheVariants as part
use Rattle.doll_erb.specs.declared.node.Node.{Node, roll-Node}
use Rattle.doll_erb.specs.declared.node.Node as node
use Rattle.doll_erb.specs.declared.node.Node.TheFolds.{fold-roll-Node, ind-Node, map-Node}
use Rattle.doll_erb.specs.declared.node.Node.TheOpen.{Node-F}
use Rattle.doll_erb.specs.declared.node.Node.TheVariants.{rolls-Text, rolls-Write, rolls-Raw, rolls-If, rolls-Each, rolls-Cache, rolls-Render, rolls-Collection, rolls-Depends}
use Rattle.doll_schema.specs.Models.{ModelList}
use Rattle.doll_route.specs.declared.route.Route.{Route}
use Rattle.doll_set.specs.Dependencies.{names_of, partial_of}
use Rattle.doll_set.specs.Digests.{name_at}
use Rattle.doll_set.specs.Sets.{ReadSet}
use Rattle.doll_set.specs.declared.template.Template.{Template}
use Rattle.doll_types.specs.declared.fault.TypeFault.{TypeFault}
use Rattle.doll_types.specs.declared.findings.Finding.{Finding}
use Rattle.doll_types.specs.declared.findings.Finding.TheVariants.{Fault, Call}
use Rattle.doll_types.specs.declared.reached.Reached.{Reached}
use Rattle.doll_types.specs.declared.types.TypeKind.{TypeKind}
use Rattle.doll_types.specs.declared.types.TypeKind.TheVariants.{BadKey, UnknownVariable}
use Rattle.doll_types.specs.declared.types.ValueType.{ValueType}
use Rattle.doll_types.specs.declared.types.ValueType.TheVariants as type
use Rattle.doll_types.specs.Faults.{IsTyped, IsTypeFault, fault_at, faults_of}
use Rattle.doll_types.specs.Findings.{Finds, arm_found, collection_found, failed, found_in, found_step, findings, is_key, is_path, items_type, key_checked, part_found, path_step, with_items}
use Rattle.doll_types.specs.Reached.{IsReached, called_at, called_by, findings_at}
use Rattle.doll_types.specs.Types.{Typing, item_type, type_of, type_step}
use Rattle.doll_types.proofs.Nodes.{arms_found, cache_found, each_found, if_found}
use Rattle.doll_lint.specs.Blocks.{Block, arms_blocks, collection_blocks, item_block, item_blocks, node_blocks, nodes_blocks, tag_block}
use Rattle.doll_lint.specs.Faults.{IsBlock}
use Rattle.doll_lint.specs.Needs.{tree_at}
use Rattle.doll_lint.proofs.Blocks.{cache_blocks, depends_blocks, each_none, each_some, if_blocks, items_blocks, raw_blocks, render_blocks, text_blocks, write_blocks}
use Rattle.doll_agree.specs.Standing.{IsKeyPart}
use Rattle.doll_agree.proofs.Lists.{back, each_of, front, into_flat, none_among, only_is}
use Rattle.doll_agree.proofs.Parts.{AreGood, IsGood}
use Rattle.doll_agree.proofs.Told.{ok_same}

module _ (set : ReadSet) (schema : ModelList) (routes : List Route) (typed : IsTyped set schema routes) where
  -- ---- what is reached

  module _ (number : ℕ) (types : Typing) (reached : IsReached set schema routes (record { template = number; typing = types })) where
    abbrev own : Reached
    own = record { template = number; typing = types }

    fault_there : (at : ℕ) (kind : TypeKind) → Contains (findings_at set schema own) (Fault at kind) → ⊥
    unfolding faults_of
    fault_there at kind among =
        let fault : TypeFault = record { template = name_at set.templates number; at = at; kind = kind } in
        typed fault (IsTypeFault.of_template own fault reached (into_flat (fault_at (name_at set.templates number)) (findings_at set schema own) (Fault at kind) fault among (0, omega arith, refl)))

    call_there : (name : List ℕ) (called : Typing) → Contains (findings_at set schema own) (Call name called) → IsGood set schema routes number (Call name called)
    unfolding called_by
    call_there name called among partial is =
        let one : Reached = record { template = partial; typing = called } in
        IsReached.by_call own one reached
        (into_flat (called_at set number) (findings_at set schema own) (Call name called) one among
        (subst (λ o. Contains (option_map_or (λ partial. record { template = partial; typing = called } ∷ []) o []) one) (sym is) (0, omega arith, refl)))

    finding_good : (f : Finding) → Contains (findings_at set schema own) f → IsGood set schema routes number f
    finding_good (Fault at kind) among = fault_there at kind among
    finding_good (Call name called) among = call_there name called among

    -- no fault is in the tree, and the partials that it renders are reached
    pub reached_good : AreGood set schema routes number (findings schema (tree_at set.templates number) types)
    reached_good = by (slice_get set.templates number) refl
      where
        by : (o : Option Template) → slice_get set.templates number ≡ o → AreGood set schema routes number (findings schema (option_map_or (λ (t : Template). t.tree) o []) types)
        by None is = tt
        by (Some t) is =
            each_of (IsGood set schema routes number) (findings schema t.tree types)
            (λ f among. finding_good f (subst (λ (o : Option Template). Contains (option_map_or (λ (t : Template). findings schema t.tree types) o []) f) (sym is) among))

  -- ---- blocks

  -- no fault is in a block's body, and each part of its key has its type
  pub record IsFine (block : Block) : Type 0 where
    pub good : AreGood set schema routes block.template (findings schema block.body block.typing)
    pub parts : (value : Expr) → Contains block.key (part.Path value) → IsKeyPart schema block.typing value

  module _ (number : ℕ) where
    abbrev Good : List Finding → Type 0
    Good found = AreGood set schema routes number found

    abbrev good : Finding → Type 0
    good = IsGood set schema routes number

    -- ---- parts of keys

    flat_part : {X : Type 0} (go : X → List Finding) (xs : List X) (x : X) → Good (flat_map go xs) → Contains xs x → Good (go x)
    flat_part go [] x goods among = none_among x among
    flat_part go (y ∷ xs) x goods among =
        ⊎_elim (λ first. subst (λ y. Good (go y)) (sym (only_is y x first)) (front good (go y) (flat_map go xs) goods))
        (λ more. flat_part go xs x (back good (go y) (flat_map go xs) goods) more)
        (Contains-append_cases (y ∷ []) xs x among)

    part_typed : (types : Typing) (at : ℕ) (value : Expr) → Good (part_found schema types at (part.Path value)) → IsKeyPart schema types value
    part_typed types at value = by (type_of schema types value) refl
      where
        tested : (t : ValueType) → type_of schema types value ≡ Ok t → (b : Bool) → is_key value t ≡ b → Good (failed at (check b BadKey >> Ok t)) → IsKeyPart schema types value
        tested t is true key goods = (t, is, key)
        tested t is false key goods = absurd goods.0

        by : (r : Result ValueType TypeKind) → type_of schema types value ≡ r → Good (failed at (r >>= key_checked value)) → IsKeyPart schema types value
        by (Err kind) is goods = absurd goods.0
        by (Ok t) is goods = tested t is (is_key value t) refl goods

    -- ---- the blocks of nodes

    abbrev NodeFine : Node → Type 0
    NodeFine one = (types : Typing) → Good (found_in schema one types) → (block : Block) → Contains (node_blocks schema set.templates number one types) block → IsFine block

    abbrev ArmFine : Arm → Type 0
    ArmFine arm = (types : Typing) → Good (findings schema arm.body types) → (block : Block) → Contains (nodes_blocks schema set.templates number arm.body types) block → IsFine block

    abbrev Part : Type 0
    Part = (one : Node) × NodeFine one

    abbrev ArmPart : Type 0
    ArmPart = (arm : Arm) × ArmFine arm

    abbrev nodes : List Part → List Node
    nodes = map (λ p. p.0)

    abbrev arms_of : List ArmPart → List Arm
    arms_of = map (λ p. p.0)

    nodes_fine : (parts : List Part) (types : Typing) → Good (findings schema (nodes parts) types) → (block : Block) → Contains (nodes_blocks schema set.templates number (nodes parts) types) block → IsFine block
    nodes_fine [] types goods block among = none_among block among
    nodes_fine (p ∷ parts) types goods block among =
        ⊎_elim (λ first. p.1 types (front good (found_in schema p.0 types) (findings schema (nodes parts) types) goods) block first)
        (λ more. nodes_fine parts types (back good (found_in schema p.0 types) (findings schema (nodes parts) types) goods) block more)
        (Contains-append_cases (node_blocks schema set.templates number p.0 types) (nodes_blocks schema set.templates number (nodes parts) types) block among)

    arms_fine : (arms : List ArmPart) (types : Typing) → Good (arms_found schema (arms_of arms) types) → (block : Block) → Contains (arms_blocks schema set.templates number (arms_of arms) types) block → IsFine block
    arms_fine [] types goods block among = none_among block among
    arms_fine (p ∷ arms) types goods block among =
        let tested : List Finding = failed p.0.at (type_of schema types p.0.test) in
        let body : List Finding = findings schema p.0.body types in
        ⊎_elim (λ first. p.1 types (back good tested body (front good (tested ++ body) (arms_found schema (arms_of arms) types) goods)) block first)
        (λ more. arms_fine arms types (back good (tested ++ body) (arms_found schema (arms_of arms) types) goods) block more)
        (Contains-append_cases (nodes_blocks schema set.templates number p.0.body types) (arms_blocks schema set.templates number (arms_of arms) types) block among)

    -- a node without blocks
    no_blocks : (one : Node) (types : Typing) (block : Block) → node_blocks schema set.templates number one types ≡ [] → Contains (node_blocks schema set.templates number one types) block → IsFine block
    no_blocks one types block none among = none_among block (subst (λ bs. Contains bs block) none among)

    if_fine : (at : ℕ) (arms : List ArmPart) (otherwise : List Part) → NodeFine (node.If at (arms_of arms) (nodes otherwise))
    if_fine at arms otherwise types goods block among =
        let split = subst Good (if_found schema at (arms_of arms) (nodes otherwise) types) goods in
        let tests = arms_found schema (arms_of arms) types in
        ⊎_elim (λ first. arms_fine arms types (front good tests (findings schema (nodes otherwise) types) split) block first)
        (λ more. nodes_fine otherwise types (back good tests (findings schema (nodes otherwise) types) split) block more)
        (Contains-append_cases (arms_blocks schema set.templates number (arms_of arms) types) (nodes_blocks schema set.templates number (nodes otherwise) types) block
        (subst (λ bs. Contains bs block) (if_blocks schema set.templates number at (arms_of arms) (nodes otherwise) types) among))

    each_fine : (at : ℕ) (list : Expr) (name : List ℕ) (body : List Part) → NodeFine (node.Each at list name (nodes body))
    each_fine at list name body types goods block among = by (items_type schema types list) refl
      where
        by : (r : Result ValueType TypeKind) → items_type schema types list ≡ r → IsFine block
        by (Err kind) is = no_blocks (node.Each at list name (nodes body)) types block (each_none schema set.templates number at list name (nodes body) types kind is) among
        by (Ok item) is =
            nodes_fine body (types ++ (name, item) ∷ []) (subst Good (each_found schema at list name (nodes body) types item is) goods) block
            (subst (λ bs. Contains bs block) (each_some schema set.templates number at list name (nodes body) types item is) among)

    tag_fine : (at number_of : ℕ) (parts : List KeyPart) (body : List Node) (types : Typing) → Good (flat_map (part_found schema types at) parts) → Good (findings schema body types) → IsFine (tag_block number number_of at types parts body)
    tag_fine at number_of parts body types parts_good goods = record {
      good = goods;
      parts = λ value among. part_typed types at value (flat_part (part_found schema types at) parts (part.Path value) parts_good among);
    }

    cache_fine : (at number_of : ℕ) (parts : List KeyPart) (body : List Part) → NodeFine (node.Cache at number_of parts (nodes body))
    cache_fine at number_of parts body types goods block among =
        let split = subst Good (cache_found schema at number_of parts (nodes body) types) goods in
        let keyed = flat_map (part_found schema types at) parts in
        ⊎_elim
        (λ first. subst IsFine (sym (only_is (tag_block number number_of at types parts (nodes body)) block first))
        (tag_fine at number_of parts (nodes body) types (front good keyed (findings schema (nodes body) types) split) (back good keyed (findings schema (nodes body) types) split)))
        (λ more. nodes_fine body types (back good keyed (findings schema (nodes body) types) split) block more)
        (Contains-append_cases (tag_block number number_of at types parts (nodes body) ∷ []) (nodes_blocks schema set.templates number (nodes body) types) block
        (subst (λ bs. Contains bs block) (cache_blocks schema set.templates number at number_of parts (nodes body) types) among))

    -- ---- collections

    collection_is : (at : ℕ) (name : List ℕ) (list : Expr) (item : List ℕ) (cached : Bool) (types : Typing) → found_in schema (node.Collection at name list item cached) types ≡ collection_found schema types at name list item
    collection_is at name list item cached types =
        ap (λ n. found_in schema n types) (sym (rolls-Collection at name list item cached))
        ∙ ap (λ (f : Finds). f types) (fold-roll-Node Finds Finds (found_step schema) (arm_found schema) (Node-F.Collection at name list item cached))

    -- the variable of an item as a part of a key
    variable_typed : (item : List ℕ) (t : ValueType) → type_of schema ((item, t) ∷ []) (expr.Var item) ≡ Ok t
    variable_typed item t =
        ap (type_of schema ((item, t) ∷ [])) (sym (rolls-Var item))
        ∙ fold-roll-Expr (Result ValueType TypeKind) (type_step schema ((item, t) ∷ [])) (Expr-F.Var item)
        ∙ ap (λ b. ok_or (option_map (λ (v : List ℕ × ValueType). v.1) (cond b (Some (item, t)) None)) (UnknownVariable item)) ((bytes_eq-Decides item item).1 refl)

    variable_path : (item : List ℕ) → is_path (expr.Var item) ≡ true
    variable_path item = ap is_path (sym (rolls-Var item)) ∙ fold-roll-Expr Bool path_step (Expr-F.Var item)

    item_key : (item : List ℕ) (of t : ValueType) → item_type of ≡ Ok t → IsKeyPart schema ((item, t) ∷ []) (expr.Var item)
    item_key item of t e = (t, variable_typed item t, by of e)
      where
        by : (of : ValueType) → item_type of ≡ Ok t → is_key (expr.Var item) t ≡ true
        by type.Integer e = absurd (cc e)
        by type.Text e = absurd (cc e)
        by type.Boolean e = absurd (cc e)
        by (type.Record m) e = absurd (cc e)
        by (type.List m) e = subst (λ t. is_key (expr.Var item) t ≡ true) (ok_same e) (variable_path item)
        by type.Nil e = subst (λ t. is_key (expr.Var item) t ≡ true) (ok_same e) (variable_path item)

    item_fine : (partial : ℕ) (item : List ℕ) (t : ValueType) → IsKeyPart schema ((item, t) ∷ []) (expr.Var item) → IsReached set schema routes (record { template = partial; typing = (item, t) ∷ [] }) → IsFine (item_block set.templates partial item t)
    item_fine partial item t typed_item reached = record {
      good = reached_good partial ((item, t) ∷ []) reached;
      parts = λ value among.
          ⊎_elim (λ first. subst (IsKeyPart schema ((item, t) ∷ [])) (sym (path_same (only_is (part.Path (expr.Var item)) (part.Path value) first))) typed_item)
          (λ more. absurd (no_path (only_is (part.Literal (codes "collection")) (part.Path value) more)))
          (Contains-append_cases (part.Path (expr.Var item) ∷ []) (part.Literal (codes "collection") ∷ []) (part.Path value) among);
    }
      where
        path_same : {a b : Expr} → part.Path a ≡ part.Path b → a ≡ b
        path_same e = cc e

        no_path : {text : List ℕ} {a : Expr} → part.Path a ≡ part.Literal text → ⊥
        no_path e = cc e

    collection_fine : (at : ℕ) (name : List ℕ) (list : Expr) (item : List ℕ) (cached : Bool) (types : Typing) → Good (collection_found schema types at name list item)
        → (block : Block) → Contains (collection_blocks schema set.templates number name list item cached types) block → IsFine block
    unfolding collection_blocks
    collection_fine at name list item false types goods block among = none_among block among
    collection_fine at name list item true types goods block among = by (type_of schema types list) goods among
      where
        of_item : (of : ValueType) (r : Result ValueType TypeKind) → item_type of ≡ r → Good (with_items at r (λ t. Call name ((item, t) ∷ []) ∷ [])) → (partial : Option ℕ) → partial_of (names_of set.templates) (name_at set.templates number) name ≡ partial
            → Contains (item_blocks set.templates partial r item) block → IsFine block
        of_item of r is goods None there among = none_among block among
        of_item of (Err kind) is goods (Some partial) there among = none_among block among
        of_item of (Ok t) is goods (Some partial) there among =
            subst IsFine (sym (only_is (item_block set.templates partial item t) block among)) (item_fine partial item t (item_key item of t is) (goods.0 partial there))

        by : (r : Result ValueType TypeKind) → Good (with_items at (r >>= item_type) (λ t. Call name ((item, t) ∷ []) ∷ []))
            → Contains (item_blocks set.templates (partial_of (names_of set.templates) (name_at set.templates number) name) (r >>= item_type) item) block → IsFine block
        by (Err kind) goods among = absurd goods.0
        by (Ok of) goods among = of_item of (item_type of) refl goods (partial_of (names_of set.templates) (name_at set.templates number) name) refl among

    -- ---- nodes

    abbrev open_node : Node-F Part ArmPart → Node-F Node Arm
    open_node = map-Node Part ArmPart Node Arm (λ p. p.0) (λ p. p.0)

    layer : (y : Node-F Part ArmPart) → NodeFine (roll-Node (open_node y))
    layer (Node-F.Text text) = subst NodeFine (sym (rolls-Text text)) (λ types goods block among. no_blocks (node.Text text) types block (text_blocks schema set.templates number text types) among)
    layer (Node-F.Write at value) = subst NodeFine (sym (rolls-Write at value)) (λ types goods block among. no_blocks (node.Write at value) types block (write_blocks schema set.templates number at value types) among)
    layer (Node-F.Raw at value) = subst NodeFine (sym (rolls-Raw at value)) (λ types goods block among. no_blocks (node.Raw at value) types block (raw_blocks schema set.templates number at value types) among)
    layer (Node-F.If at arms otherwise) = subst NodeFine (sym (rolls-If at (arms_of arms) (nodes otherwise))) (if_fine at arms otherwise)
    layer (Node-F.Each at list name body) = subst NodeFine (sym (rolls-Each at list name (nodes body))) (each_fine at list name body)
    layer (Node-F.Cache at number_of parts body) = subst NodeFine (sym (rolls-Cache at number_of parts (nodes body))) (cache_fine at number_of parts body)
    layer (Node-F.Render at name locals) = subst NodeFine (sym (rolls-Render at name locals)) (λ types goods block among. no_blocks (node.Render at name locals) types block (render_blocks schema set.templates number at name locals types) among)
    layer (Node-F.Collection at name list item cached) =
        subst NodeFine (sym (rolls-Collection at name list item cached))
        (λ types goods block among.
        collection_fine at name list item cached types (subst Good (collection_is at name list item cached types) goods) block
        (subst (λ bs. Contains bs block) (items_blocks schema set.templates number at name list item cached types) among))
    layer (Node-F.Depends at name) = subst NodeFine (sym (rolls-Depends at name)) (λ types goods block among. no_blocks (node.Depends at name) types block (depends_blocks schema set.templates number at name types) among)

    node_fine : (one : Node) → NodeFine one
    node_fine = ind-Node NodeFine ArmFine
        (λ x y is. subst (λ z. NodeFine (roll-Node z)) is (layer y))
        (λ x y is. subst (λ z. ArmFine (roll-Arm z)) is (λ types goods block among. nodes_fine y.body types goods block among))

    tree_fine : (tree : List Node) (types : Typing) → Good (findings schema tree types) → (block : Block) → Contains (nodes_blocks schema set.templates number tree types) block → IsFine block
    tree_fine [] types goods block among = none_among block among
    tree_fine (one ∷ tree) types goods block among =
        ⊎_elim (λ first. node_fine one types (front good (found_in schema one types) (findings schema tree types) goods) block first)
        (λ more. tree_fine tree types (back good (found_in schema one types) (findings schema tree types) goods) block more)
        (Contains-append_cases (node_blocks schema set.templates number one types) (nodes_blocks schema set.templates number tree types) block among)

  -- the block of what a page reaches
  pub block_fine : (block : Block) → IsBlock set schema routes block → IsFine block
  block_fine block is = tree_fine is.reached.template (tree_at set.templates is.reached.template) is.reached.typing (reached_good is.reached.template is.reached.typing is.is_reached) block is.stands
