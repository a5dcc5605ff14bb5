-- What a template of a set writes is the same by any number of levels from the longest chain on.
use Rattle.std.proofs.Common.{◌≡◌, ℕ, zero, suc, ◌+◌, ◌<◌, ◌≤◌, Bool, true, false, cond, List, [], ◌∷◌, ◌++◌, length, map, Option, Some, None, refl, ap, sym, subst, ◌∙◌, nat_lt, arith}
use Rattle.std.specs.List.{AllByRecursion, Contains, flat_map}
use Rattle.std.specs.Option.{option_map_or}
use Rattle.std.proofs.lemmas.Bool.{ltb-false, ltb-true}
use Rattle.std.proofs.lemmas.Option.{slice_get_past}
use Rattle.doll_erb.specs.declared.node.Arm.{Arm, Arm-F, fold-Arm, map-Arm, roll-Arm}
use Rattle.doll_erb.specs.declared.node.Local.{Local}
use Rattle.doll_erb.specs.declared.node.Node.{Node, roll-Node}
use Rattle.doll_erb.specs.declared.node.Node.TheFolds.{fold-roll-Node, fold_out-Arm, ind-Node, map-Node}
use Rattle.doll_erb.specs.declared.node.Node.TheOpen.{Node-F}
use Rattle.doll_graph.specs.Graphs.{Graph, dependencies}
use Rattle.doll_graph.proofs.Levels.{deep_enough}
use Rattle.doll_schema.specs.Models.{ModelList}
use Rattle.doll_table.specs.Tables.{TableMap}
use Rattle.doll_set.specs.declared.dependencies.PartialTag.{PartialTag}
use Rattle.doll_set.specs.declared.limits.TheConstants.{LONGEST_CHAIN}
use Rattle.doll_set.specs.declared.template.Template.{Template}
use Rattle.doll_set.specs.Dependencies.{arm_tags, joined, names_of, node_tags, partial_of, tags_of, tags_step}
use Rattle.doll_set.specs.Digests.{name_at}
use Rattle.doll_set.specs.Sets.{IsSet, tree_at}
use Rattle.doll_set.proofs.Depending.{tags_depend}
use Rattle.doll_set.proofs.Shallow.{each_there, graph_long, none_longer}
use Rattle.doll_plain.specs.Direct.{Choice, Scene, Variables, Writes, arm_step, chosen, direct, in_order, items_of, node_step, value_in, written}
use Rattle.doll_plain.specs.Pages.{MoreLevelsChangeNothing, levels_write, partial_writes, scene_in}
use Rattle.doll_plain.proofs.Templates.{no_template}

-- ---- lists

each_of : {X : Type 0} (P : X → Type 0) (xs : List X) → ((x : X) → Contains xs x → P x) → AllByRecursion P xs
each_of P [] all = tt
each_of P (x ∷ xs) all = (all x (0, omega arith, refl), each_of P xs (λ y h. all y (suc h.0, omega (arith, h.1), h.2)))

of_each : {X : Type 0} (P : X → Type 0) (xs : List X) (x : X) → AllByRecursion P xs → Contains xs x → P x
of_each P [] x all h = absurd (omega (arith, h.1))
of_each P (y ∷ xs) x all (zero, within, is) = subst P is all.0
of_each P (y ∷ xs) x all (suc k, within, is) = of_each P xs x all.1 (k, omega (arith, within), is)

front : {X : Type 0} (P : X → Type 0) (xs ys : List X) → AllByRecursion P (xs ++ ys) → AllByRecursion P xs
front P [] ys all = tt
front P (x ∷ xs) ys all = (all.0, front P xs ys all.1)

back : {X : Type 0} (P : X → Type 0) (xs ys : List X) → AllByRecursion P (xs ++ ys) → AllByRecursion P ys
back P [] ys all = all
back P (x ∷ xs) ys all = back P xs ys all.1

same_flat : {X : Type 0} (f g : X → List ℕ) (xs : List X) → ((x : X) → f x ≡ g x) → flat_map f xs ≡ flat_map g xs
same_flat f g [] same = refl
same_flat f g (x ∷ xs) same = ap (λ w. w ++ flat_map f xs) (same x) ∙ ap (λ w. g x ++ w) (same_flat f g xs same)

-- ---- a tree over two scenes

-- what a tag's partial writes is the same in both
module _ (schema : ModelList) (table : TableMap) (p q : List ℕ → Variables → List ℕ) where
  abbrev one : Scene
  one = record { schema = schema; table = table; partial = p }

  abbrev other : Scene
  other = record { schema = schema; table = table; partial = q }

  abbrev IsSame : PartialTag → Type 0
  IsSame tag = (variables : Variables) → p tag.name variables ≡ q tag.name variables

  abbrev NodeSame : Node → Type 0
  NodeSame node = AllByRecursion IsSame (node_tags node) → (variables : Variables) → written one node variables ≡ written other node variables

  abbrev arm_names : Arm → List PartialTag
  arm_names = fold-Arm (List PartialTag) (List PartialTag) tags_step arm_tags

  abbrev arm_one : Arm → Choice
  arm_one = fold-Arm Writes Choice (node_step one) (arm_step one)

  abbrev arm_other : Arm → Choice
  arm_other = fold-Arm Writes Choice (node_step other) (arm_step other)

  abbrev ArmSame : Arm → Type 0
  ArmSame arm = AllByRecursion IsSame (arm_names arm) → (variables : Variables) → ((arm_one arm).holds variables ≡ (arm_other arm).holds variables) × ((arm_one arm).writes variables ≡ (arm_other arm).writes variables)

  abbrev Part : Type 0
  Part = (node : Node) × NodeSame node

  abbrev ArmPart : Type 0
  ArmPart = (arm : Arm) × ArmSame arm

  parts_same : (parts : List Part) → AllByRecursion IsSame (joined (map node_tags (map (λ p. p.0) parts))) → (variables : Variables) → in_order (map (written one) (map (λ p. p.0) parts)) variables ≡ in_order (map (written other) (map (λ p. p.0) parts)) variables
  parts_same [] all variables = refl
  parts_same (part ∷ parts) all variables =
      ap (λ w. w ++ in_order (map (written one) (map (λ p. p.0) parts)) variables) (part.1 (front IsSame (node_tags part.0) (joined (map node_tags (map (λ p. p.0) parts))) all) variables)
      ∙ ap (λ w. written other part.0 variables ++ w) (parts_same parts (back IsSame (node_tags part.0) (joined (map node_tags (map (λ p. p.0) parts))) all) variables)

  chosen_same : (arms : List ArmPart) (otherwise : List Part) → AllByRecursion IsSame (joined (map arm_names (map (λ p. p.0) arms))) → AllByRecursion IsSame (joined (map node_tags (map (λ p. p.0) otherwise))) → (variables : Variables)
      → chosen (map arm_one (map (λ p. p.0) arms)) (map (written one) (map (λ p. p.0) otherwise)) variables ≡ chosen (map arm_other (map (λ p. p.0) arms)) (map (written other) (map (λ p. p.0) otherwise)) variables
  chosen_same [] otherwise arms_all all variables = parts_same otherwise all variables
  chosen_same (arm ∷ arms) otherwise arms_all all variables =
      let same = arm.1 (front IsSame (arm_names arm.0) (joined (map arm_names (map (λ p. p.0) arms))) arms_all) variables in
      ap (λ b. cond b ((arm_one arm.0).writes variables) (chosen (map arm_one (map (λ p. p.0) arms)) (map (written one) (map (λ p. p.0) otherwise)) variables)) same.0
      ∙ ap (λ w. cond ((arm_other arm.0).holds variables) w (chosen (map arm_one (map (λ p. p.0) arms)) (map (written one) (map (λ p. p.0) otherwise)) variables)) same.1
      ∙ ap (λ w. cond ((arm_other arm.0).holds variables) ((arm_other arm.0).writes variables) w)
      (chosen_same arms otherwise (back IsSame (arm_names arm.0) (joined (map arm_names (map (λ p. p.0) arms))) arms_all) all variables)

  abbrev open_node : Node-F Part ArmPart → Node-F Node Arm
  open_node = map-Node Part ArmPart Node Arm (λ p. p.0) (λ p. p.0)

  abbrev Made : Node-F Node Arm → Type 0
  Made x = AllByRecursion IsSame (tags_step (map-Node Node Arm (List PartialTag) (List PartialTag) node_tags arm_names x)) → (variables : Variables)
      → node_step one (map-Node Node Arm Writes Choice (written one) arm_one x) variables ≡ node_step other (map-Node Node Arm Writes Choice (written other) arm_other x) variables

  rolled : (x : Node-F Node Arm) → Made x → NodeSame (roll-Node x)
  rolled x made all variables =
      ap (λ (f : Writes). f variables) (fold-roll-Node Writes Choice (node_step one) (arm_step one) x)
      ∙ made (subst (AllByRecursion IsSame) (fold-roll-Node (List PartialTag) (List PartialTag) tags_step arm_tags x) all) variables
      ∙ sym (ap (λ (f : Writes). f variables) (fold-roll-Node Writes Choice (node_step other) (arm_step other) x))

  layer : (y : Node-F Part ArmPart) → Made (open_node y)
  layer (Node-F.Text text) all variables = refl
  layer (Node-F.Write at expr) all variables = refl
  layer (Node-F.Raw at expr) all variables = refl
  layer (Node-F.If at arms otherwise) all variables =
      chosen_same arms otherwise
      (front IsSame (joined (map arm_names (map (λ p. p.0) arms))) (joined (map node_tags (map (λ p. p.0) otherwise))) all)
      (back IsSame (joined (map arm_names (map (λ p. p.0) arms))) (joined (map node_tags (map (λ p. p.0) otherwise))) all)
      variables
  layer (Node-F.Each at list name body) all variables =
      same_flat (λ item. in_order (map (written one) (map (λ p. p.0) body)) (variables ++ (name, item) ∷ [])) (λ item. in_order (map (written other) (map (λ p. p.0) body)) (variables ++ (name, item) ∷ [])) (items_of (value_in one list variables))
      (λ item. parts_same body all (variables ++ (name, item) ∷ []))
  layer (Node-F.Cache at block key body) all variables = parts_same body all variables
  layer (Node-F.Render at name locals) all variables = all.0 (map (λ (l : Local). (l.name, value_in one l.value variables)) locals)
  layer (Node-F.Collection at name list item cached) all variables =
      same_flat (λ v. p name ((item, v) ∷ [])) (λ v. q name ((item, v) ∷ [])) (items_of (value_in one list variables)) (λ v. all.0 ((item, v) ∷ []))
  layer (Node-F.Depends at name) all variables = refl

  arm_layer : (y : Arm-F Part ArmPart) → AllByRecursion IsSame (joined (map node_tags (map (λ p. p.0) y.body))) → (variables : Variables)
      → in_order (map (written one) (map (λ p. p.0) y.body)) variables ≡ in_order (map (written other) (map (λ p. p.0) y.body)) variables
  arm_layer y all variables = parts_same y.body all variables

  arm_rolled : (arm : Arm) → (AllByRecursion IsSame (joined (map node_tags arm.body)) → (variables : Variables) → in_order (map (written one) arm.body) variables ≡ in_order (map (written other) arm.body) variables) → ArmSame arm
  arm_rolled arm made all variables =
      let opened_one = fold_out-Arm Writes Choice (node_step one) (arm_step one) arm in
      let opened_other = fold_out-Arm Writes Choice (node_step other) (arm_step other) arm in (
        ap (λ (c : Choice). c.holds variables) opened_one ∙ sym (ap (λ (c : Choice). c.holds variables) opened_other),
        ap (λ (c : Choice). c.writes variables) opened_one
            ∙ made (subst (AllByRecursion IsSame) (fold_out-Arm (List PartialTag) (List PartialTag) tags_step arm_tags arm) all) variables
            ∙ sym (ap (λ (c : Choice). c.writes variables) opened_other),
      )

  node_same : (node : Node) → NodeSame node
  node_same = ind-Node NodeSame ArmSame
      (λ x y is. subst (λ z. NodeSame (roll-Node z)) is (rolled (open_node y) (layer y)))
      (λ x y is. subst (λ z. ArmSame (roll-Arm z)) is (arm_rolled (roll-Arm (map-Arm Part ArmPart Node Arm (λ p. p.0) (λ p. p.0) y)) (arm_layer y)))

  pub tree_same : (tree : List Node) → AllByRecursion IsSame (tags_of tree) → (variables : Variables) → direct one tree variables ≡ direct other tree variables
  tree_same [] all variables = refl
  tree_same (node ∷ tree) all variables =
      ap (λ w. w ++ direct one tree variables) (node_same node (front IsSame (node_tags node) (tags_of tree) all) variables)
      ∙ ap (λ w. written other node variables ++ w) (tree_same tree (back IsSame (node_tags node) (tags_of tree) all) variables)

-- ---- levels

module _ (schema : ModelList) (table : TableMap) (templates : List Template) (graph : Graph) (digests : List (List ℕ)) (s : IsSet templates graph digests) where
  abbrev Agree : Writes → Writes → Type 0
  Agree f g = (variables : Variables) → f variables ≡ g variables

  partial_same : (number : ℕ) (f g : ℕ → Writes) (tag : PartialTag) → AllByRecursion (λ d. Agree (f d) (g d)) (dependencies graph number) → Contains (tags_of (tree_at templates number)) tag → (variables : Variables)
      → partial_writes templates f number tag.name variables ≡ partial_writes templates g number tag.name variables
  partial_same number f g tag all among variables = by (partial_of (names_of templates) (name_at templates number) tag.name) refl
    where
      by : (o : Option ℕ) → partial_of (names_of templates) (name_at templates number) tag.name ≡ o → option_map_or (λ partial. f partial variables) o [] ≡ option_map_or (λ partial. g partial variables) o []
      by None is = refl
      by (Some d) is = of_each (λ d. Agree (f d) (g d)) (dependencies graph number) d all (tags_depend templates graph digests s number tag d among is) variables

  respects : (number : ℕ) (f g : ℕ → Writes) → AllByRecursion (λ d. Agree (f d) (g d)) (dependencies graph number)
      → Agree (direct (scene_in schema table templates f number) (tree_at templates number)) (direct (scene_in schema table templates g number) (tree_at templates number))
  respects number f g all variables =
      tree_same schema table (partial_writes templates f number) (partial_writes templates g number) (tree_at templates number)
      (each_of (IsSame schema table (partial_writes templates f number) (partial_writes templates g number)) (tags_of (tree_at templates number)) (λ tag among. partial_same number f g tag all among))
      variables

  within_same : (k number : ℕ) (variables : Variables) → number < length templates → levels_write schema table templates (LONGEST_CHAIN + k) number variables ≡ levels_write schema table templates LONGEST_CHAIN number variables
  unfolding levels_write
  within_same k number variables within =
      ap (λ n. levels_write schema table templates n number variables) swapped
      ∙ sym (deep_enough Agree graph (λ variables. []) (λ number writes. direct (scene_in schema table templates writes number) (tree_at templates number))
      (each_there templates graph digests s) respects LONGEST_CHAIN number k inside (none_longer templates graph digests s number inside) variables)
    where
      swapped : LONGEST_CHAIN + k ≡ k + LONGEST_CHAIN
      swapped = omega arith

      inside : number < length graph
      inside = subst (λ n. number < n) (sym (graph_long templates graph digests s)) within

  past_same : (k number : ℕ) (variables : Variables) → length templates ≤ number → levels_write schema table templates (LONGEST_CHAIN + k) number variables ≡ levels_write schema table templates LONGEST_CHAIN number variables
  past_same k number variables past =
      let none = slice_get_past templates number past in
      no_template schema table templates (LONGEST_CHAIN + k) number variables none ∙ sym (no_template schema table templates LONGEST_CHAIN number variables none)

pub more_levels : MoreLevelsChangeNothing
more_levels schema table templates graph digests s more number variables = by (nat_lt number (length templates)) refl
  where
    by : (b : Bool) → nat_lt number (length templates) ≡ b → levels_write schema table templates (LONGEST_CHAIN + more) number variables ≡ levels_write schema table templates LONGEST_CHAIN number variables
    by true within = within_same schema table templates graph digests s more number variables (ltb-true number (length templates) within)
    by false past = past_same schema table templates graph digests s more number variables (ltb-false number (length templates) past)
