-- Each partial that a template renders is named by one of its tags.
use Rattle.std.proofs.Common.{◌≡◌, ℕ, true, List, [], ◌∷◌, ◌++◌, map, Result, Ok, Err, refl, sym, subst, arith}
use Rattle.std.specs.List.{AllByRecursion, Contains, flat_map}
use Rattle.std.proofs.lemmas.List.Elements.{Contains-append_left, Contains-append_right}
use Rattle.doll_text.specs.Steps.{◌>>=◌}
use Rattle.doll_erb.specs.declared.node.Arm.{Arm, Arm-F, fold-Arm, map-Arm, roll-Arm}
use Rattle.doll_erb.specs.declared.node.KeyPart.{KeyPart}
use Rattle.doll_erb.specs.declared.node.KeyPart.TheVariants as part
use Rattle.doll_erb.specs.declared.node.Local.{Local}
use Rattle.doll_erb.specs.declared.node.Node.{Node, roll-Node}
use Rattle.doll_erb.specs.declared.node.Node.TheFolds.{fold-roll-Node, fold_out-Arm, ind-Node, map-Node}
use Rattle.doll_erb.specs.declared.node.Node.TheOpen.{Node-F}
use Rattle.doll_schema.specs.Models.{ModelList}
use Rattle.doll_set.specs.Dependencies.{arm_tags, joined, node_tags, tags_of, tags_step}
use Rattle.doll_set.specs.declared.dependencies.PartialTag.{PartialTag}
use Rattle.doll_types.specs.declared.findings.Finding.{Finding}
use Rattle.doll_types.specs.declared.findings.Finding.TheVariants.{Fault, Call}
use Rattle.doll_types.specs.declared.types.ValueType.{ValueType}
use Rattle.doll_types.specs.declared.types.TypeKind.{TypeKind}
use Rattle.doll_types.specs.Findings.{Finds, arm_found, called, failed, found_in, found_step, findings, in_order, items_type, key_type, local_found, locals_typing, part_found, with_items}
use Rattle.doll_types.specs.Types.{Typing, type_of, printed_type}

-- ---- lists

all_append : {X : Type 0} (P : X → Type 0) (xs ys : List X) → AllByRecursion P xs → AllByRecursion P ys → AllByRecursion P (xs ++ ys)
all_append P [] ys all more = more
all_append P (x ∷ xs) ys all more = (all.0, all_append P xs ys all.1 more)

all_along : {X : Type 0} (P Q : X → Type 0) → ((x : X) → P x → Q x) → (xs : List X) → AllByRecursion P xs → AllByRecursion Q xs
all_along P Q go [] all = tt
all_along P Q go (x ∷ xs) all = (go x all.0, all_along P Q go xs all.1)

-- ---- tags

-- a partial that is rendered is named by one of these tags
abbrev pub IsNamedBy : List PartialTag → Finding → Type 0
IsNamedBy tags (Fault at kind) = Unit {0}
IsNamedBy tags (Call name typing) = (tag : PartialTag) × Contains tags tag × (tag.name ≡ name)

abbrev pub AreNamedBy : List PartialTag → List Finding → Type 0
AreNamedBy tags found = AllByRecursion (IsNamedBy tags) found

left : (tags more : List PartialTag) (found : List Finding) → AreNamedBy tags found → AreNamedBy (tags ++ more) found
left tags more found all = all_along (IsNamedBy tags) (IsNamedBy (tags ++ more)) go found all
  where
    go : (f : Finding) → IsNamedBy tags f → IsNamedBy (tags ++ more) f
    go (Fault at kind) h = tt
    go (Call name typing) h = (h.0, Contains-append_left tags more h.0 h.1, h.2)

right : (before tags : List PartialTag) (found : List Finding) → AreNamedBy tags found → AreNamedBy (before ++ tags) found
right before tags found all = all_along (IsNamedBy tags) (IsNamedBy (before ++ tags)) go found all
  where
    go : (f : Finding) → IsNamedBy tags f → IsNamedBy (before ++ tags) f
    go (Fault at kind) h = tt
    go (Call name typing) h = (h.0, Contains-append_right before tags h.0 h.1, h.2)

both : (tags more : List PartialTag) (found others : List Finding) → AreNamedBy tags found → AreNamedBy more others → AreNamedBy (tags ++ more) (found ++ others)
both tags more found others one other = all_append (IsNamedBy (tags ++ more)) found others (left tags more found one) (right tags more others other)

failed_named : (tags : List PartialTag) (at : ℕ) (r : Result ValueType TypeKind) → AreNamedBy tags (failed at r)
failed_named tags at (Ok t) = tt
failed_named tags at (Err kind) = (tt, tt)

first_is : (tag : PartialTag) → Contains (tag ∷ []) tag
first_is tag = (0, omega arith, refl)

module _ (schema : ModelList) where
  key_named : (tags : List PartialTag) (typing : Typing) (at : ℕ) (key : List KeyPart) → AreNamedBy tags (flat_map (part_found schema typing at) key)
  key_named tags typing at [] = tt
  key_named tags typing at (part.Path expr ∷ key) =
      all_append (IsNamedBy tags) (failed at (key_type schema typing expr)) (flat_map (part_found schema typing at) key) (failed_named tags at (key_type schema typing expr)) (key_named tags typing at key)
  key_named tags typing at (part.Literal text ∷ key) = key_named tags typing at key

  locals_named : (tags : List PartialTag) (typing : Typing) (at : ℕ) (locals : List Local) → AreNamedBy tags (flat_map (local_found schema typing at) locals)
  locals_named tags typing at [] = tt
  locals_named tags typing at (l ∷ locals) =
      all_append (IsNamedBy tags) (failed at (type_of schema typing l.value)) (flat_map (local_found schema typing at) locals) (failed_named tags at (type_of schema typing l.value)) (locals_named tags typing at locals)

  called_named : (at : ℕ) (name : List ℕ) (r : Result Typing TypeKind) → AreNamedBy (record { at = at; name = name; renders = true } ∷ []) (called name r)
  called_named at name (Ok typing) = ((record { at = at; name = name; renders = true }, first_is (record { at = at; name = name; renders = true }), refl), tt)
  called_named at name (Err kind) = tt

  items_named : (tags : List PartialTag) (at : ℕ) (r : Result ValueType TypeKind) (found : ValueType → List Finding) → ((t : ValueType) → AreNamedBy tags (found t)) → AreNamedBy tags (with_items at r found)
  items_named tags at (Ok t) found each = each t
  items_named tags at (Err kind) found each = (tt, tt)

  abbrev NodeNamed : Node → Type 0
  NodeNamed node = (typing : Typing) → AreNamedBy (node_tags node) (found_in schema node typing)

  abbrev arm_finds : Arm → Finds
  arm_finds = fold-Arm Finds Finds (found_step schema) (arm_found schema)

  abbrev arm_names : Arm → List PartialTag
  arm_names = fold-Arm (List PartialTag) (List PartialTag) tags_step arm_tags

  abbrev ArmNamed : Arm → Type 0
  ArmNamed arm = (typing : Typing) → AreNamedBy (arm_names arm) (arm_finds arm typing)

  abbrev Part : Type 0
  Part = (node : Node) × NodeNamed node

  abbrev ArmPart : Type 0
  ArmPart = (arm : Arm) × ArmNamed arm

  nodes_named : (parts : List Part) (typing : Typing) → AreNamedBy (joined (map node_tags (map (λ p. p.0) parts))) (in_order (map (found_in schema) (map (λ p. p.0) parts)) typing)
  nodes_named [] typing = tt
  nodes_named (p ∷ parts) typing =
      both (node_tags p.0) (joined (map node_tags (map (λ p. p.0) parts))) (found_in schema p.0 typing) (in_order (map (found_in schema) (map (λ p. p.0) parts)) typing) (p.1 typing) (nodes_named parts typing)

  arms_named : (parts : List ArmPart) (typing : Typing) → AreNamedBy (joined (map arm_names (map (λ p. p.0) parts))) (in_order (map arm_finds (map (λ p. p.0) parts)) typing)
  arms_named [] typing = tt
  arms_named (p ∷ parts) typing =
      both (arm_names p.0) (joined (map arm_names (map (λ p. p.0) parts))) (arm_finds p.0 typing) (in_order (map arm_finds (map (λ p. p.0) parts)) typing) (p.1 typing) (arms_named parts typing)

  abbrev open_node : Node-F Part ArmPart → Node-F Node Arm
  open_node = map-Node Part ArmPart Node Arm (λ p. p.0) (λ p. p.0)

  abbrev Made : Node-F Node Arm → Type 0
  Made x = (typing : Typing) → AreNamedBy (tags_step (map-Node Node Arm (List PartialTag) (List PartialTag) node_tags arm_names x)) (found_step schema (map-Node Node Arm Finds Finds (found_in schema) arm_finds x) typing)

  rolled : (x : Node-F Node Arm) → Made x → NodeNamed (roll-Node x)
  rolled x made typing =
      subst (λ tags. AreNamedBy tags (found_in schema (roll-Node x) typing)) (sym (fold-roll-Node (List PartialTag) (List PartialTag) tags_step arm_tags x))
      (subst (λ (f : Finds). AreNamedBy (tags_step (map-Node Node Arm (List PartialTag) (List PartialTag) node_tags arm_names x)) (f typing)) (sym (fold-roll-Node Finds Finds (found_step schema) (arm_found schema) x)) (made typing))

  layer : (y : Node-F Part ArmPart) → Made (open_node y)
  layer (Node-F.Text text) typing = tt
  layer (Node-F.Write at expr) typing = failed_named [] at (type_of schema typing expr >>= printed_type)
  layer (Node-F.Raw at expr) typing = failed_named [] at (type_of schema typing expr >>= printed_type)
  layer (Node-F.If at arms otherwise) typing =
      both (joined (map arm_names (map (λ p. p.0) arms))) (joined (map node_tags (map (λ p. p.0) otherwise)))
      (in_order (map arm_finds (map (λ p. p.0) arms)) typing) (in_order (map (found_in schema) (map (λ p. p.0) otherwise)) typing) (arms_named arms typing) (nodes_named otherwise typing)
  layer (Node-F.Each at list name body) typing =
      items_named (joined (map node_tags (map (λ p. p.0) body))) at (items_type schema typing list) (λ t. in_order (map (found_in schema) (map (λ p. p.0) body)) (typing ++ (name, t) ∷ []))
      (λ t. nodes_named body (typing ++ (name, t) ∷ []))
  layer (Node-F.Cache at block key body) typing =
      all_append (IsNamedBy (joined (map node_tags (map (λ p. p.0) body)))) (flat_map (part_found schema typing at) key) (in_order (map (found_in schema) (map (λ p. p.0) body)) typing)
      (key_named (joined (map node_tags (map (λ p. p.0) body))) typing at key) (nodes_named body typing)
  layer (Node-F.Render at name locals) typing =
      all_append (IsNamedBy (record { at = at; name = name; renders = true } ∷ [])) (flat_map (local_found schema typing at) locals) (called name (locals_typing schema typing locals))
      (locals_named (record { at = at; name = name; renders = true } ∷ []) typing at locals) (called_named at name (locals_typing schema typing locals))
  layer (Node-F.Collection at name list item cached) typing =
      items_named (record { at = at; name = name; renders = true } ∷ []) at (items_type schema typing list) (λ t. Call name ((item, t) ∷ []) ∷ [])
      (λ t. ((record { at = at; name = name; renders = true }, first_is (record { at = at; name = name; renders = true }), refl), tt))
  layer (Node-F.Depends at name) typing = tt

  arm_layer : (y : Arm-F Part ArmPart) (typing : Typing) → AreNamedBy (joined (map node_tags (map (λ p. p.0) y.body))) (failed y.at (type_of schema typing y.test) ++ in_order (map (found_in schema) (map (λ p. p.0) y.body)) typing)
  arm_layer y typing =
      all_append (IsNamedBy (joined (map node_tags (map (λ p. p.0) y.body)))) (failed y.at (type_of schema typing y.test)) (in_order (map (found_in schema) (map (λ p. p.0) y.body)) typing)
      (failed_named (joined (map node_tags (map (λ p. p.0) y.body))) y.at (type_of schema typing y.test)) (nodes_named y.body typing)

  arm_rolled : (arm : Arm) → ((typing : Typing) → AreNamedBy (joined (map node_tags arm.body)) (failed arm.at (type_of schema typing arm.test) ++ in_order (map (found_in schema) arm.body) typing)) → ArmNamed arm
  arm_rolled arm made typing =
      subst (λ tags. AreNamedBy tags (arm_finds arm typing)) (sym (fold_out-Arm (List PartialTag) (List PartialTag) tags_step arm_tags arm))
      (subst (λ (f : Finds). AreNamedBy (joined (map node_tags arm.body)) (f typing)) (sym (fold_out-Arm Finds Finds (found_step schema) (arm_found schema) arm)) (made typing))

  each_named : (node : Node) → NodeNamed node
  each_named = ind-Node NodeNamed ArmNamed
      (λ x y is. subst (λ z. NodeNamed (roll-Node z)) is (rolled (open_node y) (layer y)))
      (λ x y is. subst (λ z. ArmNamed (roll-Arm z)) is (arm_rolled (roll-Arm (map-Arm Part ArmPart Node Arm (λ p. p.0) (λ p. p.0) y)) (arm_layer y)))

  pub tree_named : (tree : List Node) (typing : Typing) → AreNamedBy (tags_of tree) (findings schema tree typing)
  tree_named [] typing = tt
  tree_named (node ∷ tree) typing = both (node_tags node) (tags_of tree) (found_in schema node typing) (findings schema tree typing) (each_named node typing) (tree_named tree typing)
