-- A body whose needs a key tells writes the same on both pages, where the partials do that it renders.
use Rattle.std.proofs.Common.{◌≡◌, ℕ, Bool, true, false, cond, List, [], ◌∷◌, ◌++◌, map, Option, None, Some, refl, ap, sym, subst, ◌∙◌}
use Rattle.std.specs.List.{flat_map}
use Rattle.std.specs.Option.{option_map_or}
use Rattle.doll_text.specs.Steps.{◌>>=◌}
use Rattle.doll_expr.specs.declared.expr.Expr.{Expr}
use Rattle.doll_erb.specs.declared.node.Arm.{Arm, Arm-F, fold-Arm, map-Arm, roll-Arm}
use Rattle.doll_erb.specs.declared.node.KeyPart.{KeyPart}
use Rattle.doll_erb.specs.declared.node.Node.{Node, roll-Node}
use Rattle.doll_erb.specs.declared.node.Node.TheFolds.{fold-roll-Node, fold_out-Arm, ind-Node, map-Node}
use Rattle.doll_erb.specs.declared.node.Node.TheOpen.{Node-F}
use Rattle.doll_eval.specs.Operations as of
use Rattle.doll_route.specs.declared.route.Route.{Route}
use Rattle.doll_set.specs.Dependencies.{names_of, partial_of}
use Rattle.doll_set.specs.Digests.{name_at}
use Rattle.doll_set.specs.Sets.{ReadSet}
use Rattle.doll_plain.specs.Direct as shown
use Rattle.doll_plain.specs.Direct.{Choice, Scene, Variables, Writes, arm_step, chosen, direct, node_step, value_in, written}
use Rattle.doll_plain.specs.Pages.{partial_writes, scene_in}
use Rattle.doll_types.specs.declared.findings.Finding.{Finding}
use Rattle.doll_types.specs.declared.findings.Finding.TheVariants.{Call}
use Rattle.doll_types.specs.Findings as type_faults
use Rattle.doll_types.specs.Findings.{Finds, arm_found, called, failed, found_in, found_step, findings, items_type, local_found, locals_typing, part_found}
use Rattle.doll_types.specs.Reached.{IsReached}
use Rattle.doll_types.specs.Types.{Typing, printed_type, type_of}
use Rattle.doll_lint.specs.declared.needs.Need.{Need}
use Rattle.doll_lint.specs.Needs.{Needs, Setting, all_needs, arm_needs, local_standing, looking_wants, needs_at, needs_step, node_needs, partial_needs, place, setting_in, tree_needs}
use Rattle.doll_lint.specs.Readings.{Standing, reading_of}
use Rattle.doll_agree.specs.Standing.{AreAsked, AreInScope, Pages}
use Rattle.doll_agree.proofs.Expressions.{same_value, stands}
use Rattle.doll_agree.proofs.Lists.{back, front}
use Rattle.doll_agree.proofs.Parts.{AreGood, AreTold, IsGood, collection_told, each_same, each_told, locals_told, locals_well, need_told, render_told, typed_well, walked_well, wants_told, written_well}
use Rattle.doll_agree.proofs.Scopes.{bound_scope, handed_here, handed_there, locals_scope, only_scope}
use Rattle.doll_agree.proofs.Stands.{simple_single, single_same}

module _ (p : Pages) (typing : Typing) (key : List KeyPart) (asked : AreAsked p typing key) (set : ReadSet) (routes : List Route) where
  -- templates write the same on both pages wherever they are reached and the key tells what they need
  abbrev pub TemplatesAgree : (ℕ → Needs) → (ℕ → Writes) → (ℕ → Writes) → Type 0
  TemplatesAgree needs one other =
      (number : ℕ) (outer : Option ℕ) (types : Typing) (standing : Standing) (here there : Variables) → AreInScope p types standing here there
      → IsReached set p.schema routes (record { template = number; typing = types }) → AreTold p typing key asked (needs number outer types standing) → one number here ≡ other number there

  module _ (needs : ℕ → Needs) (one other : ℕ → Writes) (agree : TemplatesAgree needs one other) (number : ℕ) where
    abbrev setting : Setting
    setting = setting_in p.schema set.templates needs number

    abbrev first : Scene
    first = scene_in p.schema p.one set.templates one number

    abbrev second : Scene
    second = scene_in p.schema p.other set.templates other number

    abbrev Good : List Finding → Type 0
    Good found = AreGood set p.schema routes number found

    abbrev good : Finding → Type 0
    good = IsGood set p.schema routes number

    abbrev Met : List Need → Type 0
    Met needed = AreTold p typing key asked needed

    -- what a partial writes
    partial_same : (name : List ℕ) (outer : Option ℕ) (types : Typing) (standing : Standing) (here there : Variables) → AreInScope p types standing here there → Good (Call name types ∷ [])
        → Met (partial_needs set.templates needs number name outer types standing) → partial_writes set.templates one number name here ≡ partial_writes set.templates other number name there
    partial_same name outer types standing here there scope goods met = by (partial_of (names_of set.templates) (name_at set.templates number) name) refl met
      where
        by : (o : Option ℕ) → partial_of (names_of set.templates) (name_at set.templates number) name ≡ o → Met (option_map_or (λ partial. needs partial outer types standing) o [])
            → option_map_or (λ partial. one partial here) o [] ≡ option_map_or (λ partial. other partial there) o []
        by None is met = refl
        by (Some partial) is met = agree partial outer types standing here there scope (goods.0 partial is) met

    -- ---- nodes

    abbrev found : Node → Finds
    found = found_in p.schema

    abbrev arm_faults : Arm → Finds
    arm_faults = fold-Arm Finds Finds (found_step p.schema) (arm_found p.schema)

    abbrev needed : Node → Needs
    needed = node_needs setting

    abbrev arm_needed : Arm → Needs
    arm_needed = fold-Arm Needs Needs (needs_step setting) (arm_needs setting)

    abbrev arm_first : Arm → Choice
    arm_first = fold-Arm Writes Choice (node_step first) (arm_step first)

    abbrev arm_second : Arm → Choice
    arm_second = fold-Arm Writes Choice (node_step second) (arm_step second)

    -- two meanings of a part agree in each scope where nothing is at fault and the key tells what is needed
    abbrev Same : Finds → Needs → (Variables → Variables → Type 0) → Type 0
    Same finds wanted same =
        (outer : Option ℕ) (types : Typing) (standing : Standing) (here there : Variables) → AreInScope p types standing here there → Good (finds types) → Met (wanted outer types standing) → same here there

    abbrev NodeSame : Node → Type 0
    NodeSame node = Same (found node) (needed node) (λ here there. written first node here ≡ written second node there)

    abbrev ArmSame : Arm → Type 0
    ArmSame arm = Same (arm_faults arm) (arm_needed arm) (λ here there. ((arm_first arm).holds here ≡ (arm_second arm).holds there) × ((arm_first arm).writes here ≡ (arm_second arm).writes there))

    abbrev Part : Type 0
    Part = (node : Node) × NodeSame node

    abbrev ArmPart : Type 0
    ArmPart = (arm : Arm) × ArmSame arm

    abbrev nodes : List Part → List Node
    nodes = map (λ p. p.0)

    abbrev arms_of : List ArmPart → List Arm
    arms_of = map (λ p. p.0)

    parts_same : (parts : List Part) → Same (type_faults.in_order (map found (nodes parts))) (all_needs (map needed (nodes parts))) (λ here there. shown.in_order (map (written first) (nodes parts)) here ≡ shown.in_order (map (written second) (nodes parts)) there)
    parts_same [] outer types standing here there scope goods met = refl
    parts_same (part ∷ parts) outer types standing here there scope goods met =
        ap (λ w. w ++ shown.in_order (map (written first) (nodes parts)) here)
        (part.1 outer types standing here there scope (front good (found part.0 types) (type_faults.in_order (map found (nodes parts)) types) goods)
        (front (need_told p typing key asked) (needed part.0 outer types standing) (all_needs (map needed (nodes parts)) outer types standing) met))
        ∙ ap (λ w. written second part.0 there ++ w)
        (parts_same parts outer types standing here there scope (back good (found part.0 types) (type_faults.in_order (map found (nodes parts)) types) goods)
        (back (need_told p typing key asked) (needed part.0 outer types standing) (all_needs (map needed (nodes parts)) outer types standing) met))

    chosen_same : (arms : List ArmPart) (otherwise : List Part) (outer : Option ℕ) (types : Typing) (standing : Standing) (here there : Variables) → AreInScope p types standing here there
        → Good (type_faults.in_order (map arm_faults (arms_of arms)) types) → Good (type_faults.in_order (map found (nodes otherwise)) types)
        → Met (all_needs (map arm_needed (arms_of arms)) outer types standing) → Met (all_needs (map needed (nodes otherwise)) outer types standing)
        → chosen (map arm_first (arms_of arms)) (map (written first) (nodes otherwise)) here ≡ chosen (map arm_second (arms_of arms)) (map (written second) (nodes otherwise)) there
    chosen_same [] otherwise outer types standing here there scope arms_good goods arms_met met = parts_same otherwise outer types standing here there scope goods met
    chosen_same (arm ∷ arms) otherwise outer types standing here there scope arms_good goods arms_met met =
        let same = arm.1 outer types standing here there scope (front good (arm_faults arm.0 types) (type_faults.in_order (map arm_faults (arms_of arms)) types) arms_good)
        (front (need_told p typing key asked) (arm_needed arm.0 outer types standing) (all_needs (map arm_needed (arms_of arms)) outer types standing) arms_met) in
        ap (λ b. cond b ((arm_first arm.0).writes here) (chosen (map arm_first (arms_of arms)) (map (written first) (nodes otherwise)) here)) same.0
        ∙ ap (λ w. cond ((arm_second arm.0).holds there) w (chosen (map arm_first (arms_of arms)) (map (written first) (nodes otherwise)) here)) same.1
        ∙ ap (λ w. cond ((arm_second arm.0).holds there) ((arm_second arm.0).writes there) w)
        (chosen_same arms otherwise outer types standing here there scope (back good (arm_faults arm.0 types) (type_faults.in_order (map arm_faults (arms_of arms)) types) arms_good) goods
        (back (need_told p typing key asked) (arm_needed arm.0 outer types standing) (all_needs (map arm_needed (arms_of arms)) outer types standing) arms_met) met)

    abbrev open_node : Node-F Part ArmPart → Node-F Node Arm
    open_node = map-Node Part ArmPart Node Arm (λ p. p.0) (λ p. p.0)

    abbrev Made : Node-F Node Arm → Type 0
    Made x =
        Same (found_step p.schema (map-Node Node Arm Finds Finds found arm_faults x)) (needs_step setting (map-Node Node Arm Needs Needs needed arm_needed x))
        (λ here there. node_step first (map-Node Node Arm Writes Choice (written first) arm_first x) here ≡ node_step second (map-Node Node Arm Writes Choice (written second) arm_second x) there)

    rolled : (x : Node-F Node Arm) → Made x → NodeSame (roll-Node x)
    rolled x made outer types standing here there scope goods met =
        ap (λ (f : Writes). f here) (fold-roll-Node Writes Choice (node_step first) (arm_step first) x)
        ∙ made outer types standing here there scope
        (subst (λ (f : Finds). Good (f types)) (fold-roll-Node Finds Finds (found_step p.schema) (arm_found p.schema) x) goods)
        (subst (λ (f : Needs). Met (f outer types standing)) (fold-roll-Node Needs Needs (needs_step setting) (arm_needs setting) x) met)
        ∙ sym (ap (λ (f : Writes). f there) (fold-roll-Node Writes Choice (node_step second) (arm_step second) x))

    -- what is written of an expression
    shown_same : (raw : Bool) (at : ℕ) (expr : Expr) → Same (λ types. failed at (type_of p.schema types expr >>= printed_type)) (λ outer types standing. needs_at (place outer at) (reading_of p.schema types standing expr).wants)
        (λ here there. of.written raw (value_in first expr here) ≡ of.written raw (value_in second expr there))
    shown_same raw at expr outer types standing here there scope goods met =
        let well = written_well set p.schema routes number at (type_of p.schema types expr) goods in
        let stood = stands p typing key asked types standing here there scope expr well.0 well.1 (wants_told p typing key asked (place outer at) (reading_of p.schema types standing expr).wants met) in
        ap (of.written raw) (single_same (value_in first expr here) (value_in second expr there) (simple_single p well.0 (reading_of p.schema types standing expr).paths (value_in first expr here) (value_in second expr there) well.2 stood))

    layer : (y : Node-F Part ArmPart) → Made (open_node y)
    layer (Node-F.Text text) outer types standing here there scope goods met = refl
    layer (Node-F.Write at expr) outer types standing here there scope goods met = shown_same false at expr outer types standing here there scope goods met
    layer (Node-F.Raw at expr) outer types standing here there scope goods met = shown_same true at expr outer types standing here there scope goods met
    layer (Node-F.If at arms otherwise) outer types standing here there scope goods met =
        let arms_found = type_faults.in_order (map arm_faults (arms_of arms)) types in
        let arms_wanted = all_needs (map arm_needed (arms_of arms)) outer types standing in
        chosen_same arms otherwise outer types standing here there scope
        (front good arms_found (type_faults.in_order (map found (nodes otherwise)) types) goods)
        (back good arms_found (type_faults.in_order (map found (nodes otherwise)) types) goods)
        (front (need_told p typing key asked) arms_wanted (all_needs (map needed (nodes otherwise)) outer types standing) met)
        (back (need_told p typing key asked) arms_wanted (all_needs (map needed (nodes otherwise)) outer types standing) met)
    layer (Node-F.Each at list name body) outer types standing here there scope goods met =
        let well = walked_well set p.schema routes number at (items_type p.schema types list) (λ t. type_faults.in_order (map found (nodes body)) (types ++ (name, t) ∷ [])) goods in
        let told = each_told p typing key asked setting at list name (all_needs (map needed (nodes body))) outer types standing well.0 well.1 met in
        each_same p typing key asked types standing here there scope list well.0
        (λ item. shown.in_order (map (written first) (nodes body)) (here ++ (name, item) ∷ [])) (λ item. shown.in_order (map (written second) (nodes body)) (there ++ (name, item) ∷ [])) well.1 told.0
        (λ x has waits.
        parts_same body outer (types ++ (name, well.0) ∷ []) (standing ++ (name, (reading_of p.schema types standing list).paths) ∷ []) (here ++ (name, x) ∷ []) (there ++ (name, x) ∷ [])
        (bound_scope p types standing here there name well.0 (reading_of p.schema types standing list).paths x x scope has waits) well.2 told.1)
    layer (Node-F.Cache at block parts body) outer types standing here there scope goods met =
        parts_same body outer types standing here there scope (back good (flat_map (part_found p.schema types at) parts) (type_faults.in_order (map found (nodes body)) types) goods) met
    layer (Node-F.Render at name locals) outer types standing here there scope goods met =
        let well = locals_well set p.schema routes number types at locals (front good (flat_map (local_found p.schema types at) locals) (called name (locals_typing p.schema types locals)) goods) in
        let told = render_told p typing key asked setting at name locals outer types standing well.0 well.1 met in
        partial_same name (Some (place outer at)) well.0 (local_standing p.schema types standing locals) (handed_here p typing key asked types standing here there scope locals) (handed_there p typing key asked types standing here there scope locals)
        (locals_scope p typing key asked types standing here there scope locals well.0 well.1 (locals_told p typing key asked types standing here there scope (place outer at) locals told.0))
        (subst (λ r. Good (called name r)) well.1 (back good (flat_map (local_found p.schema types at) locals) (called name (locals_typing p.schema types locals)) goods))
        told.1
    layer (Node-F.Collection at name list item cached) outer types standing here there scope goods met =
        let well = walked_well set p.schema routes number at (items_type p.schema types list) (λ t. Call name ((item, t) ∷ []) ∷ []) goods in
        let told = collection_told p typing key asked setting at name list item outer types standing well.0 well.1 met in
        each_same p typing key asked types standing here there scope list well.0
        (λ x. partial_writes set.templates one number name ((item, x) ∷ [])) (λ x. partial_writes set.templates other number name ((item, x) ∷ [])) well.1 told.0
        (λ x has waits.
        partial_same name (Some (place outer at)) ((item, well.0) ∷ []) ((item, (reading_of p.schema types standing list).paths) ∷ []) ((item, x) ∷ []) ((item, x) ∷ [])
        (only_scope p item well.0 (reading_of p.schema types standing list).paths x x has waits) well.2 told.1)
    layer (Node-F.Depends at name) outer types standing here there scope goods met = refl

    -- an arm with its test
    arm_layer : (y : Arm-F Part ArmPart) → Same (λ types. failed y.at (type_of p.schema types y.test) ++ type_faults.in_order (map found (nodes y.body)) types)
        (λ outer types standing. needs_at (place outer y.at) (looking_wants (reading_of p.schema types standing y.test)) ++ all_needs (map needed (nodes y.body)) outer types standing)
        (λ here there. (of.is_true (value_in first y.test here) ≡ of.is_true (value_in second y.test there)) × (shown.in_order (map (written first) (nodes y.body)) here ≡ shown.in_order (map (written second) (nodes y.body)) there))
    arm_layer y outer types standing here there scope goods met =
        let tested = failed y.at (type_of p.schema types y.test) in
        let wanted = needs_at (place outer y.at) (looking_wants (reading_of p.schema types standing y.test)) in
        let body_needs = all_needs (map needed (nodes y.body)) outer types standing in
        let well = typed_well set p.schema routes number y.at (type_of p.schema types y.test) (front good tested (type_faults.in_order (map found (nodes y.body)) types) goods) in (
          ap of.is_true
              (same_value p typing key asked types standing here there scope y.test well.0 well.1 (wants_told p typing key asked (place outer y.at) (looking_wants (reading_of p.schema types standing y.test)) (front (need_told p typing key asked) wanted body_needs met))),
          parts_same y.body outer types standing here there scope (back good tested (type_faults.in_order (map found (nodes y.body)) types) goods) (back (need_told p typing key asked) wanted body_needs met),
        )

    abbrev ArmMade : Arm → Type 0
    ArmMade arm =
        Same (λ types. failed arm.at (type_of p.schema types arm.test) ++ type_faults.in_order (map found arm.body) types)
        (λ outer types standing. needs_at (place outer arm.at) (looking_wants (reading_of p.schema types standing arm.test)) ++ all_needs (map needed arm.body) outer types standing)
        (λ here there. (of.is_true (value_in first arm.test here) ≡ of.is_true (value_in second arm.test there)) × (shown.in_order (map (written first) arm.body) here ≡ shown.in_order (map (written second) arm.body) there))

    arm_rolled : (arm : Arm) → ArmMade arm → ArmSame arm
    arm_rolled arm made outer types standing here there scope goods met =
        let opened_first = fold_out-Arm Writes Choice (node_step first) (arm_step first) arm in
        let opened_second = fold_out-Arm Writes Choice (node_step second) (arm_step second) arm in
        let same =
        made outer types standing here there scope
        (subst (λ (f : Finds). Good (f types)) (fold_out-Arm Finds Finds (found_step p.schema) (arm_found p.schema) arm) goods)
        (subst (λ (f : Needs). Met (f outer types standing)) (fold_out-Arm Needs Needs (needs_step setting) (arm_needs setting) arm) met) in (
          ap (λ (c : Choice). c.holds here) opened_first ∙ same.0 ∙ sym (ap (λ (c : Choice). c.holds there) opened_second),
          ap (λ (c : Choice). c.writes here) opened_first ∙ same.1 ∙ sym (ap (λ (c : Choice). c.writes there) opened_second),
        )

    node_same : (node : Node) → NodeSame node
    node_same = ind-Node NodeSame ArmSame
        (λ x y is. subst (λ z. NodeSame (roll-Node z)) is (rolled (open_node y) (layer y)))
        (λ x y is. subst (λ z. ArmSame (roll-Arm z)) is (arm_rolled (roll-Arm (map-Arm Part ArmPart Node Arm (λ p. p.0) (λ p. p.0) y)) (arm_layer y)))

    -- a tree writes the same on both pages
    pub tree_same : (tree : List Node) → Same (findings p.schema tree) (tree_needs setting tree) (λ here there. direct first tree here ≡ direct second tree there)
    tree_same [] outer types standing here there scope goods met = refl
    tree_same (node ∷ tree) outer types standing here there scope goods met =
        ap (λ w. w ++ direct first tree here)
        (node_same node outer types standing here there scope (front good (found node types) (findings p.schema tree types) goods)
        (front (need_told p typing key asked) (needed node outer types standing) (tree_needs setting tree outer types standing) met))
        ∙ ap (λ w. written second node there ++ w)
        (tree_same tree outer types standing here there scope (back good (found node types) (findings p.schema tree types) goods)
        (back (need_told p typing key asked) (needed node outer types standing) (tree_needs setting tree outer types standing) met))
