-- What a renderer takes for the key of a block that a page reaches is its key, in a set with names.
use Rattle.std.proofs.Common.{◌≡◌, ◌<◌, ◌^◌, ℕ, zero, suc, Bool, true, false, ◌&&◌, List, [], ◌∷◌, ◌++◌, length, map, Option, None, Some, Result, Ok, Err, refl, sym, ap, subst, ◌∙◌, arith}
use Rattle.std.specs.Prelude.{⊤, nat_lt, slice_get}
use Rattle.std.specs.Int.Signed.{mag}
use Rattle.std.specs.List.{AllByRecursion, Contains, flat_map, list_all, slice_index_or}
use Rattle.std.specs.Option.{option_map_or}
use Rattle.std.proofs.lemmas.Bool.Decides.{nat_tests}
use Rattle.std.proofs.lemmas.List.{length-map}
use Rattle.doll_text.specs.Names.{is_name}
use Rattle.doll_expr.specs.declared.expr.Expr.{Expr}
use Rattle.doll_schema.specs.declared.model.Model.{Model}
use Rattle.doll_schema.specs.declared.value.Val.{Val}
use Rattle.doll_schema.specs.declared.value.Value.{Value}
use Rattle.doll_schema.specs.declared.value.Value.TheVariants as value
use Rattle.doll_schema.specs.Models.{ModelList}
use Rattle.doll_erb.specs.declared.node.Arm.{Arm, Arm-F, fold-Arm, map-Arm, roll-Arm}
use Rattle.doll_erb.specs.declared.node.KeyPart.{KeyPart}
use Rattle.doll_erb.specs.declared.node.KeyPart.TheVariants as part
use Rattle.doll_erb.specs.declared.node.Local.{Local}
use Rattle.doll_erb.specs.declared.node.Node.{Node, roll-Node}
use Rattle.doll_erb.specs.declared.node.Node as node
use Rattle.doll_erb.specs.declared.node.Node.TheFolds.{fold-roll-Node, fold_out-Arm, ind-Node, map-Node}
use Rattle.doll_erb.specs.declared.node.Node.TheOpen.{Node-F}
use Rattle.doll_erb.specs.declared.node.Node.TheVariants.{rolls-Text, rolls-Write, rolls-Raw, rolls-If, rolls-Each, rolls-Cache, rolls-Render, rolls-Collection, rolls-Depends}
use Rattle.doll_route.specs.declared.route.Route.{Route}
use Rattle.doll_set.specs.declared.template.Template.{Template}
use Rattle.doll_set.specs.Dependencies.{names_of, number_of, partial_of}
use Rattle.doll_set.specs.Digests.{name_at}
use Rattle.doll_set.specs.Sets.{ReadSet, tree_at}
use Rattle.doll_set.proofs.Depending.{position_within}
use Rattle.doll_table.specs.Tables.{TableMap}
use Rattle.doll_eval.specs.Values.{value_of}
use Rattle.doll_plain.specs.Direct.{Variables}
use Rattle.doll_types.specs.declared.findings.Finding.{Finding}
use Rattle.doll_types.specs.declared.findings.Finding.TheVariants.{Fault, Call}
use Rattle.doll_types.specs.declared.reached.Reached.{Reached}
use Rattle.doll_types.specs.declared.types.TypeKind.{TypeKind}
use Rattle.doll_types.specs.declared.types.ValueType.{ValueType}
use Rattle.doll_types.specs.declared.types.ValueType.TheVariants as type
use Rattle.doll_types.specs.Findings.{Finds, arm_found, called, failed, found_in, found_step, findings, in_order, items_type, key_type, local_found, locals_typing, part_found, with_items}
use Rattle.doll_types.specs.Reached.{IsReached, called_at, called_by, findings_at, opened_by, route_typing}
use Rattle.doll_types.specs.Types.{Typing, type_of}
use Rattle.doll_lint.specs.Blocks.{Block, arms_blocks, collection_blocks, item_blocks, node_blocks, nodes_blocks}
use Rattle.doll_lint.specs.Faults.{IsBlock}
use Rattle.doll_lint.proofs.Blocks.{cache_blocks, depends_blocks, each_none, each_some, if_blocks, items_blocks, raw_blocks, render_blocks, text_blocks, write_blocks}
use Rattle.doll_agree.proofs.Lists.{from_flat, none_among, of_each, only_is}
use Rattle.doll_key.specs.declared.components.Component.{Component}
use Rattle.doll_key.specs.Keys.{key_text}
use Rattle.doll_key.specs.Uniqueness.{IsComponent, IsId, IsValue}
use Rattle.doll_run.specs.Keys.{are_bytes, component_by, id_of, is_bounded, is_id, is_value, keyed_over, part_component, plural_of, single_of}
use Rattle.doll_sound.specs.Names.{HasNames, KeysAreKeys}
use Rattle.doll_sound.proofs.Types.{AreKnown, IsKnown, bound_known, items_known, joined, locals_known, route_known, type_known}

-- ---- what pages reach

module _ (set : ReadSet) (schema : ModelList) (names : HasNames set schema) where
  abbrev Known : Typing → Type 0
  Known = AreKnown schema names.models

  -- a partial is rendered with variables of such types
  abbrev IsCalled : Finding → Type 0
  IsCalled (Fault at kind) = ⊤
  IsCalled (Call name typing) = Known typing

  -- the template of a block is there, and its variables have such types
  abbrev IsKnownBlock : Block → Type 0
  IsKnownBlock block = (block.template < length set.templates) × Known block.typing

  abbrev Calls : List Finding → Type 0
  Calls found = AllByRecursion IsCalled found

  abbrev Blocks : List Block → Type 0
  Blocks blocks = AllByRecursion IsKnownBlock blocks

  number_within : (name : List ℕ) (number : ℕ) → number_of (names_of set.templates) name ≡ Some number → number < length set.templates
  number_within name number is = subst (λ n. number < n) (length-map set.templates (λ (t : Template). t.name)) (position_within _ (names_of set.templates) number is)

  failed_calls : (at : ℕ) (r : Result ValueType TypeKind) → Calls (failed at r)
  failed_calls at (Ok t) = tt
  failed_calls at (Err kind) = (tt, tt)

  parts_calls : (typing : Typing) (at : ℕ) (parts : List KeyPart) → Calls (flat_map (part_found schema typing at) parts)
  parts_calls typing at [] = tt
  parts_calls typing at (part.Path expr ∷ parts) = joined IsCalled (failed at (key_type schema typing expr)) (flat_map (part_found schema typing at) parts) (failed_calls at (key_type schema typing expr)) (parts_calls typing at parts)
  parts_calls typing at (part.Literal text ∷ parts) = parts_calls typing at parts

  locals_calls : (typing : Typing) (at : ℕ) (locals : List Local) → Calls (flat_map (local_found schema typing at) locals)
  locals_calls typing at [] = tt
  locals_calls typing at (l ∷ locals) = joined IsCalled (failed at (type_of schema typing l.value)) (flat_map (local_found schema typing at) locals) (failed_calls at (type_of schema typing l.value)) (locals_calls typing at locals)

  render_calls : (typing : Typing) → Known typing → (name : List ℕ) (locals : List Local) (r : Result Typing TypeKind) → locals_typing schema typing locals ≡ r → Calls (called name r)
  render_calls typing known name locals (Err kind) is = tt
  render_calls typing known name locals (Ok types) is = (locals_known schema names.models typing known locals types is, tt)

  module _ (number : ℕ) (within : number < length set.templates) where
    abbrev NodeKnown : Node → Type 0
    NodeKnown one = (typing : Typing) → Known typing → Calls (found_in schema one typing) × Blocks (node_blocks schema set.templates number one typing)

    abbrev arm_finds : Arm → Finds
    arm_finds = fold-Arm Finds Finds (found_step schema) (arm_found schema)

    abbrev ArmKnown : Arm → Type 0
    ArmKnown arm = (typing : Typing) → Known typing → Calls (arm_finds arm typing) × Blocks (nodes_blocks schema set.templates number arm.body typing)

    abbrev Part : Type 0
    Part = (one : Node) × NodeKnown one

    abbrev ArmPart : Type 0
    ArmPart = (arm : Arm) × ArmKnown arm

    abbrev nodes : List Part → List Node
    nodes = map (λ p. p.0)

    abbrev arms_of : List ArmPart → List Arm
    arms_of = map (λ p. p.0)

    nodes_known : (parts : List Part) (typing : Typing) → Known typing → Calls (in_order (map (found_in schema) (nodes parts)) typing) × Blocks (nodes_blocks schema set.templates number (nodes parts) typing)
    nodes_known [] typing known = (tt, tt)
    nodes_known (p ∷ parts) typing known =
        let first = p.1 typing known in
        let more = nodes_known parts typing known in (
          joined IsCalled (found_in schema p.0 typing) (in_order (map (found_in schema) (nodes parts)) typing) first.0 more.0,
          joined IsKnownBlock (node_blocks schema set.templates number p.0 typing) (nodes_blocks schema set.templates number (nodes parts) typing) first.1 more.1,
        )

    arms_known : (arms : List ArmPart) (typing : Typing) → Known typing → Calls (in_order (map arm_finds (arms_of arms)) typing) × Blocks (arms_blocks schema set.templates number (arms_of arms) typing)
    arms_known [] typing known = (tt, tt)
    arms_known (p ∷ arms) typing known =
        let first = p.1 typing known in
        let more = arms_known arms typing known in (
          joined IsCalled (arm_finds p.0 typing) (in_order (map arm_finds (arms_of arms)) typing) first.0 more.0,
          joined IsKnownBlock (nodes_blocks schema set.templates number p.0.body typing) (arms_blocks schema set.templates number (arms_of arms) typing) first.1 more.1,
        )

    abbrev open_node : Node-F Part ArmPart → Node-F Node Arm
    open_node = map-Node Part ArmPart Node Arm (λ p. p.0) (λ p. p.0)

    abbrev finds_layer : Node-F Node Arm → Node-F Finds Finds
    finds_layer = map-Node Node Arm Finds Finds (found_in schema) arm_finds

    -- the same of a node by its parts
    abbrev Layer : Node-F Node Arm → Type 0
    Layer x = (typing : Typing) → Known typing → Calls (found_step schema (finds_layer x) typing) × Blocks (node_blocks schema set.templates number (roll-Node x) typing)

    rolled : (x : Node-F Node Arm) → Layer x → NodeKnown (roll-Node x)
    rolled x is typing known = let both = is typing known in (subst (λ (f : Finds). Calls (f typing)) (sym (fold-roll-Node Finds Finds (found_step schema) (arm_found schema) x)) both.0, both.1)

    -- the blocks of a node that is rolled so
    blocks_as : (x one : Node) (typing : Typing) (blocks : List Block) → x ≡ one → node_blocks schema set.templates number one typing ≡ blocks → Blocks blocks → Blocks (node_blocks schema set.templates number x typing)
    blocks_as x one typing blocks rolls is all = subst Blocks (sym (ap (λ n. node_blocks schema set.templates number n typing) rolls ∙ is)) all

    each_known : (at : ℕ) (list : Expr) (name : List ℕ) (body : List Part) (typing : Typing) → Known typing → (r : Result ValueType TypeKind) → items_type schema typing list ≡ r
        → Calls (with_items at r (λ t. in_order (map (found_in schema) (nodes body)) (typing ++ (name, t) ∷ []))) × Blocks (node_blocks schema set.templates number (node.Each at list name (nodes body)) typing)
    each_known at list name body typing known (Err kind) is = ((tt, tt), subst Blocks (sym (each_none schema set.templates number at list name (nodes body) typing kind is)) tt)
    each_known at list name body typing known (Ok t) is =
        let more = nodes_known body (typing ++ (name, t) ∷ []) (bound_known schema names.models typing name t known (items_known schema names.models typing known list t is)) in
        (more.0, subst Blocks (sym (each_some schema set.templates number at list name (nodes body) typing t is)) more.1)

    collection_calls : (at : ℕ) (name : List ℕ) (list : Expr) (item : List ℕ) (typing : Typing) → Known typing → (r : Result ValueType TypeKind) → items_type schema typing list ≡ r → Calls (with_items at r (λ t. Call name ((item, t) ∷ []) ∷ []))
    collection_calls at name list item typing known (Err kind) is = (tt, tt)
    collection_calls at name list item typing known (Ok t) is = ((items_known schema names.models typing known list t is, tt), tt)

    item_known : (list : Expr) (item name : List ℕ) (typing : Typing) → Known typing → (partial : Option ℕ) (r : Result ValueType TypeKind) → partial_of (names_of set.templates) (name_at set.templates number) name ≡ partial → items_type schema typing list ≡ r
        → Blocks (item_blocks set.templates partial r item)
    item_known list item name typing known None r there is = tt
    item_known list item name typing known (Some partial) (Err kind) there is = tt
    item_known list item name typing known (Some partial) (Ok t) there is = ((number_within _ partial there, (items_known schema names.models typing known list t is, tt)), tt)

    collection_known : (name : List ℕ) (list : Expr) (item : List ℕ) (cached : Bool) (typing : Typing) → Known typing → Blocks (collection_blocks schema set.templates number name list item cached typing)
    unfolding collection_blocks
    collection_known name list item false typing known = tt
    collection_known name list item true typing known =
        item_known list item name typing known (partial_of (names_of set.templates) (name_at set.templates number) name) (items_type schema typing list) refl refl

    layer : (y : Node-F Part ArmPart) → Layer (open_node y)
    layer (Node-F.Text text) typing known = (tt, blocks_as _ (node.Text text) typing [] (rolls-Text text) (text_blocks schema set.templates number text typing) tt)
    layer (Node-F.Write at expr) typing known = (failed_calls at _, blocks_as _ (node.Write at expr) typing [] (rolls-Write at expr) (write_blocks schema set.templates number at expr typing) tt)
    layer (Node-F.Raw at expr) typing known = (failed_calls at _, blocks_as _ (node.Raw at expr) typing [] (rolls-Raw at expr) (raw_blocks schema set.templates number at expr typing) tt)
    layer (Node-F.If at arms otherwise) typing known =
        let first = arms_known arms typing known in
        let more = nodes_known otherwise typing known in (
          joined IsCalled (in_order (map arm_finds (arms_of arms)) typing) (in_order (map (found_in schema) (nodes otherwise)) typing) first.0 more.0,
          blocks_as _ (node.If at (arms_of arms) (nodes otherwise)) typing _ (rolls-If at (arms_of arms) (nodes otherwise)) (if_blocks schema set.templates number at (arms_of arms) (nodes otherwise) typing)
              (joined IsKnownBlock (arms_blocks schema set.templates number (arms_of arms) typing) (nodes_blocks schema set.templates number (nodes otherwise) typing) first.1 more.1),
        )
    layer (Node-F.Each at list name body) typing known =
        let is = each_known at list name body typing known (items_type schema typing list) refl in
        (is.0, subst Blocks (sym (ap (λ n. node_blocks schema set.templates number n typing) (rolls-Each at list name (nodes body)))) is.1)
    layer (Node-F.Cache at block key body) typing known =
        let more = nodes_known body typing known in (
          joined IsCalled (flat_map (part_found schema typing at) key) (in_order (map (found_in schema) (nodes body)) typing) (parts_calls typing at key) more.0,
          blocks_as _ (node.Cache at block key (nodes body)) typing _ (rolls-Cache at block key (nodes body)) (cache_blocks schema set.templates number at block key (nodes body) typing) ((within, known), more.1),
        )
    layer (Node-F.Render at name locals) typing known = (
      joined IsCalled (flat_map (local_found schema typing at) locals) (called name (locals_typing schema typing locals)) (locals_calls typing at locals) (render_calls typing known name locals (locals_typing schema typing locals) refl),
      blocks_as _ (node.Render at name locals) typing [] (rolls-Render at name locals) (render_blocks schema set.templates number at name locals typing) tt,
    )
    layer (Node-F.Collection at name list item cached) typing known = (
      collection_calls at name list item typing known (items_type schema typing list) refl,
      blocks_as _ (node.Collection at name list item cached) typing _ (rolls-Collection at name list item cached) (items_blocks schema set.templates number at name list item cached typing) (collection_known name list item cached typing known),
    )
    layer (Node-F.Depends at name) typing known = (tt, blocks_as _ (node.Depends at name) typing [] (rolls-Depends at name) (depends_blocks schema set.templates number at name typing) tt)

    abbrev known_arm : Arm-F Part ArmPart → Arm
    known_arm y = roll-Arm (map-Arm Part ArmPart Node Arm (λ p. p.0) (λ p. p.0) y)

    arm_known : (y : Arm-F Part ArmPart) → ArmKnown (known_arm y)
    arm_known y typing known =
        let body = nodes_known y.body typing known in (
          subst (λ (f : Finds). Calls (f typing)) (sym (fold_out-Arm Finds Finds (found_step schema) (arm_found schema) (known_arm y)))
              (joined IsCalled (failed y.at (type_of schema typing y.test)) (in_order (map (found_in schema) (nodes y.body)) typing) (failed_calls y.at (type_of schema typing y.test)) body.0),
          body.1,
        )

    node_known : (one : Node) → NodeKnown one
    node_known = ind-Node NodeKnown ArmKnown
        (λ x y is. subst (λ z. NodeKnown (roll-Node z)) is (rolled (open_node y) (layer y)))
        (λ x y is. subst (λ z. ArmKnown (roll-Arm z)) is (arm_known y))

    tree_known : (tree : List Node) (typing : Typing) → Known typing → Calls (findings schema tree typing) × Blocks (nodes_blocks schema set.templates number tree typing)
    tree_known [] typing known = (tt, tt)
    tree_known (one ∷ tree) typing known =
        let first = node_known one typing known in
        let more = tree_known tree typing known in (
          joined IsCalled (found_in schema one typing) (findings schema tree typing) first.0 more.0,
          joined IsKnownBlock (node_blocks schema set.templates number one typing) (nodes_blocks schema set.templates number tree typing) first.1 more.1,
        )

  abbrev IsKnownPlace : Reached → Type 0
  IsKnownPlace one = (one.template < length set.templates) × Known one.typing

  calls_at : (one : Reached) → IsKnownPlace one → Calls (findings_at set schema one)
  calls_at one is = by (slice_get set.templates one.template)
    where
      by : (o : Option Template) → Calls (option_map_or (λ (t : Template). findings schema t.tree one.typing) o [])
      by None = tt
      by (Some t) = (tree_known one.template is.0 t.tree one.typing is.1).0

  opened_known : (route : Route) (one : Reached) (o : Option ℕ) → number_of (names_of set.templates) route.template ≡ o
      → Contains (option_map_or (λ number. record { template = number; typing = route_typing schema route } ∷ []) o []) one → IsKnownPlace one
  opened_known route one None is among = none_among one among
  opened_known route one (Some number) is among =
      subst IsKnownPlace (sym (only_is (record { template = number; typing = route_typing schema route }) one among)) (number_within route.template number is, route_known schema names.models route)

  called_known : (number : ℕ) (name : List ℕ) (typing : Typing) (one : Reached) → Known typing → (o : Option ℕ) → partial_of (names_of set.templates) (name_at set.templates number) name ≡ o
      → Contains (option_map_or (λ partial. record { template = partial; typing = typing } ∷ []) o []) one → IsKnownPlace one
  called_known number name typing one known None is among = none_among one among
  called_known number name typing one known (Some partial) is among =
      subst IsKnownPlace (sym (only_is (record { template = partial; typing = typing }) one among)) (number_within _ partial is, known)

  found_known : (number : ℕ) (f : Finding) (one : Reached) → IsCalled f → Contains (called_at set number f) one → IsKnownPlace one
  found_known number (Fault at kind) one known among = none_among one among
  found_known number (Call name typing) one known among = called_known number name typing one known (partial_of (names_of set.templates) (name_at set.templates number) name) refl among

  reached_known : (routes : List Route) (one : Reached) → IsReached set schema routes one → IsKnownPlace one
  unfolding called_by
  reached_known routes one (IsReached.by_route x among) =
      let found = from_flat (opened_by set schema) routes one among in
      opened_known found.0 one (number_of (names_of set.templates) found.0.template) refl found.2
  reached_known routes one (IsReached.by_call caller x reached among) =
      let found = from_flat (called_at set caller.template) (findings_at set schema caller) one among in
      found_known caller.template found.0 one (of_each IsCalled (findings_at set schema caller) found.0 (calls_at caller (reached_known routes caller reached)) found.1) found.2

  pub block_known : (routes : List Route) (block : Block) → IsBlock set schema routes block → IsKnownBlock block
  block_known routes block is =
      let place = reached_known routes is.reached is.is_reached in
      of_each IsKnownBlock _ block (tree_known is.reached.template place.0 (tree_at set.templates is.reached.template) is.reached.typing place.1).1 is.stands

-- ---- parts

both_true : (a b : Bool) → (a && b) ≡ true → (a ≡ true) × (b ≡ true)
both_true true b e = (refl, e)
both_true false b e = absurd (cc e)

below : (n limit : ℕ) → nat_lt n limit ≡ true → n < limit
below n limit e = grind (arith, nat_tests)

bytes_there : (text : List ℕ) → list_all (λ b. nat_lt b 256) text ≡ true → (i : ℕ) → slice_index_or text i 0 < 256
bytes_there [] all i = omega arith
bytes_there (b ∷ text) all zero = below b 256 (both_true (nat_lt b 256) _ all).0
bytes_there (b ∷ text) all (suc i) = bytes_there text (both_true (nat_lt b 256) _ all).1 i

bytes_are : (text : List ℕ) → are_bytes text ≡ true → (i : ℕ) → slice_index_or text i 0 < 256
unfolding are_bytes
bytes_are text all = bytes_there text all

id_is : (id : Option ℕ) → is_id id ≡ true → IsId id
id_is (Some id) e = below id (2 ^ 32) e
id_is None e = tt

value_is : (v : Value) → is_value v ≡ true → IsValue v
value_is value.Nil e = tt
value_is (value.Bool truth) e = tt
value_is (value.Int number) e = below (mag number) (2 ^ 63) e
value_is (value.Text text) e = bytes_are text e

module _ (set : ReadSet) (schema : ModelList) (names : HasNames set schema) (table : TableMap) (typing : Typing) (known : AreKnown schema names.models typing) (vars : Variables) where
  plural_is : (model : ℕ) → model < length schema.models → is_name (plural_of schema model) ≡ true
  plural_is model within = by (slice_get schema.models model) refl
    where
      none_there : (xs : List Model) (n : ℕ) → n < length xs → slice_get xs n ≡ None → ⊥
      none_there [] n within e = absurd (omega (arith, within))
      none_there (x ∷ xs) zero within e = absurd (cc e)
      none_there (x ∷ xs) (suc n) within e = none_there xs n (omega (arith, within)) e

      by : (o : Option Model) → slice_get schema.models model ≡ o → is_name (option_map_or (λ (m : Model). m.plural) o []) ≡ true
      by None is = absurd (none_there schema.models model within is)
      by (Some m) is = (names.models model m is).plural

  component_is : (r : Result ValueType TypeKind) (v : Val) → ((t : ValueType) → r ≡ Ok t → IsKnown schema names.models t) → is_bounded (component_by schema r v) ≡ true → IsComponent (component_by schema r v)
  component_is (Ok (type.Record model)) v known e = (plural_is model (known (type.Record model) refl), id_is (id_of v) e)
  component_is (Ok type.Integer) v known e = value_is (single_of v) e
  component_is (Ok type.Text) v known e = value_is (single_of v) e
  component_is (Ok type.Boolean) v known e = value_is (single_of v) e
  component_is (Ok (type.List model)) v known e = value_is (single_of v) e
  component_is (Ok type.Nil) v known e = value_is (single_of v) e
  component_is (Err kind) v known e = value_is (single_of v) e

  part_is : (p : KeyPart) → is_bounded (part_component schema table typing vars p) ≡ true → IsComponent (part_component schema table typing vars p)
  part_is (part.Path expr) e = component_is (type_of schema typing expr) (value_of expr vars schema table) (λ t is. type_known schema names.models typing known expr t is) e
  part_is (part.Literal text) e = bytes_are text e

  pub parts_are : (parts : List KeyPart) → list_all is_bounded (map (part_component schema table typing vars) parts) ≡ true → AllByRecursion IsComponent (map (part_component schema table typing vars) parts)
  parts_are [] e = tt
  parts_are (p ∷ parts) e = let both = both_true (is_bounded (part_component schema table typing vars p)) _ e in (part_is p both.0, parts_are parts both.1)

-- ---- keys

-- in a set each template has its text
text_there : (templates : List Template) (digests : List (List ℕ)) (number : ℕ) (components : List Component) → number < length templates → number < length digests
    → key_text (record { path = name_at templates number; digest = slice_index_or digests number []; components = components })
    ≡ option_map_or (λ digest. option_map_or (λ (t : Template). key_text (record { path = t.name; digest = digest; components = components })) (slice_get templates number) []) (slice_get digests number) []
text_there [] digests number components within short = absurd (omega (arith, within))
text_there (t ∷ templates) [] number components within short = absurd (omega (arith, short))
text_there (t ∷ templates) (d ∷ digests) zero components within short = refl
text_there (t ∷ templates) (d ∷ digests) (suc number) components within short = text_there templates digests number components (omega (arith, within)) (omega (arith, short))

digest_there : (digests : List (List ℕ)) (number : ℕ) → length (slice_index_or digests number []) ≡ 16 → number < length digests
digest_there [] number long = absurd (cc long)
digest_there (d ∷ digests) zero long = omega arith
digest_there (d ∷ digests) (suc number) long = omega (arith, digest_there digests number long)

pub keys_are_keys : KeysAreKeys
unfolding keyed_over
keys_are_keys set schema routes block table vars names is have key =
    let known = block_known set schema names routes block is in
    let path = names.paths block.template known.0 in
    record {
      types = have;
      is_key = record { path = path.0; digest = path.1; components = parts_are set schema names table block.typing known.1 vars block.key key };
      text_is = text_there set.templates set.digests block.template (map (part_component schema table block.typing vars) block.key) known.0 (digest_there set.digests block.template path.1.0);
      versions_are = refl;
    }
