-- What a node runs writes what it writes directly.
use Rattle.std.proofs.Common.{◌≡◌, ℕ, Bool, true, false, cond, ◌&&◌, List, [], ◌∷◌, ◌++◌, map, Option, None, Some, Result, Ok, Err, refl, ap, sym, subst, ◌∙◌}
use Rattle.std.specs.Prelude.{IfSome}
use Rattle.std.specs.List.{AllByRecursion, flat_map, list_all}
use Rattle.std.specs.Option.{option_map_or}
use Rattle.std.proofs.lemmas.List.Folds.{flat_map-map}
use Rattle.doll_text.specs.Steps.{◌>>=◌}
use Rattle.doll_expr.specs.declared.expr.Expr.{Expr}
use Rattle.doll_erb.specs.declared.node.Arm.{Arm, Arm-F, fold-Arm, map-Arm, roll-Arm}
use Rattle.doll_erb.specs.declared.node.Local.{Local}
use Rattle.doll_erb.specs.declared.node.Node.{Node, roll-Node}
use Rattle.doll_erb.specs.declared.node.Node as node
use Rattle.doll_erb.specs.declared.node.Node.TheFolds.{fold-roll-Node, fold_out-Arm, ind-Node, map-Node}
use Rattle.doll_erb.specs.declared.node.Node.TheOpen.{Node-F}
use Rattle.doll_erb.specs.declared.node.Node.TheVariants.{rolls-If, rolls-Each, rolls-Cache, rolls-Collection}
use Rattle.doll_schema.specs.declared.value.Val.{Val}
use Rattle.doll_table.specs.Fits.{Fits}
use Rattle.doll_eval.specs.Operations as of
use Rattle.doll_set.specs.Dependencies.{names_of, partial_of}
use Rattle.doll_set.specs.Digests.{name_at}
use Rattle.doll_set.specs.Sets.{tree_at}
use Rattle.doll_plain.specs.Direct as plain
use Rattle.doll_plain.specs.Direct.{Scene, Variables, Writes, direct, items_of, node_step, value_in, written}
use Rattle.doll_plain.specs.Pages.{scene_in, template_writes}
use Rattle.doll_types.specs.declared.findings.Finding.{Finding}
use Rattle.doll_types.specs.declared.findings.Finding.TheVariants.{Fault, Call}
use Rattle.doll_types.specs.declared.types.TypeKind.{TypeKind}
use Rattle.doll_types.specs.declared.types.ValueType.{ValueType}
use Rattle.doll_types.specs.Findings as typing_of
use Rattle.doll_types.specs.Findings.{Finds, arm_found, called, failed, found_in, found_step, findings, items_type, local_found, locals_typing, part_found, with_items}
use Rattle.doll_types.specs.Sound.{HasType, HaveTypes}
use Rattle.doll_types.specs.Types.{Typing, type_of}
use Rattle.doll_types.proofs.Values.{bound, locals_fit}
use Rattle.doll_lint.specs.Blocks.{Block, arms_blocks, item_block, item_number, node_blocks, nodes_blocks}
use Rattle.doll_lint.proofs.Blocks.{cache_blocks, each_some, if_blocks, item_there, items_blocks}
use Rattle.doll_entry.specs.declared.asks.Ask.{Ask}
use Rattle.doll_entry.specs.declared.entry.Fresh.{Fresh}
use Rattle.doll_run.specs.Direct.{AreFound, Follows, IsRight, WritesOnly}
use Rattle.doll_run.specs.Pages.{Ground, stage_in}
use Rattle.doll_run.specs.Rendering.{Choice, Runs, Stage, after_looks, after_text, answers_to, arm_step, asked_items, block_run, chosen, collection_run, for_each, fresh, have_keys, in_turn, item_asked, item_keyed, item_plain, item_run, items_looks, items_run, locals_looks, locals_on, looks_on, node_runs, only, run_step, value_on, with_partial, with_type}
use Rattle.doll_run.specs.Runs.{Rest}
use Rattle.doll_run.proofs.Parts.{block_written, each_written, found_written, if_right, looks_first, nothing_written, one_then, text_written, written_as}
use Rattle.doll_run.proofs.Typed.{walked}

front : {X : Type 0} (P : X → Type 0) (xs ys : List X) → AllByRecursion P (xs ++ ys) → AllByRecursion P xs
front P [] ys all = tt
front P (x ∷ xs) ys all = (all.0, front P xs ys all.1)

back : {X : Type 0} (P : X → Type 0) (xs ys : List X) → AllByRecursion P (xs ++ ys) → AllByRecursion P ys
back P [] ys all = all
back P (x ∷ xs) ys all = back P xs ys all.1

no_texts : (items : List Val) → ◌≡◌ {A = List ℕ} (flat_map (λ one. []) items) []
no_texts [] = refl
no_texts (x ∷ items) = no_texts items

each_has : {X : Type 0} (P Q : X → Type 0) (xs : List X) → ((x : X) → P x → Q x) → AllByRecursion P xs → AllByRecursion Q xs
each_has P Q [] implies all = tt
each_has P Q (x ∷ xs) implies all = (implies x all.0, each_has P Q xs implies all.1)

-- where all pass, each does
each_passes : {X : Type 0} (p : X → Bool) (xs : List X) → list_all p xs ≡ true → AllByRecursion (λ x. p x ≡ true) xs
each_passes p [] all = tt
each_passes p (x ∷ xs) all = by (p x) refl (each_passes p xs) all
  where
    by : (b : Bool) → p x ≡ b → (list_all p xs ≡ true → AllByRecursion (λ x. p x ≡ true) xs) → (b && list_all p xs) ≡ true → (p x ≡ true) × AllByRecursion (λ x. p x ≡ true) xs
    by true is more all = (is, more all)
    by false is more all = absurd (cc all)

-- No fault is found, and each partial that is rendered writes what it writes directly.
abbrev pub IsSound : Ground → (ℕ → Runs) → (Ask → List ℕ → Type 0) → (Fresh → Type 0) → ℕ → Finding → Type 0
IsSound over runs Found Made number (Fault at kind) = ⊥
IsSound over runs Found Made number (Call name types) =
    (partial : ℕ) → partial_of (names_of over.templates) (name_at over.templates number) name ≡ Some partial → (vars : Variables) → HaveTypes over.table types vars
    → WritesOnly Found Made (template_writes over.schema over.table over.templates partial vars) (runs partial types vars)

module _ (over : Ground) (runs : ℕ → Runs) (Found : Ask → List ℕ → Type 0) (Made : Fresh → Type 0) (number : ℕ) (fits : Fits over.schema over.table)
    (whole_template : (partial : ℕ) (vars : Variables) → direct (scene_in over.schema over.table over.templates (template_writes over.schema over.table over.templates) partial) (tree_at over.templates partial) vars ≡ template_writes over.schema over.table over.templates partial vars) where
  abbrev stage : Stage
  stage = stage_in over runs number

  abbrev writes : ℕ → Writes
  writes = template_writes over.schema over.table over.templates

  abbrev scene : Scene
  scene = scene_in over.schema over.table over.templates writes number

  abbrev AreSound : List Finding → Type 0
  AreSound found = AllByRecursion (IsSound over runs Found Made number) found

  abbrev AreRight : List Block → Type 0
  AreRight blocks = AllByRecursion (IsRight over Found Made) blocks

  abbrev Only : List ℕ → (Rest → Rest) → Type 0
  Only = WritesOnly Found Made

  abbrev NodeWell : Node → Type 0
  NodeWell one = (typing : Typing) (vars : Variables) → AreSound (found_in over.schema one typing) → AreRight (node_blocks over.schema over.templates number one typing) → HaveTypes over.table typing vars
      → Only (written scene one vars) (node_runs stage one typing vars)

  abbrev arm_runs : Arm → Choice
  arm_runs = fold-Arm Runs Choice (run_step stage) arm_step

  abbrev arm_finds : Arm → Finds
  arm_finds = fold-Arm Finds Finds (found_step over.schema) (arm_found over.schema)

  abbrev arm_writes : Arm → plain.Choice
  arm_writes = fold-Arm Writes plain.Choice (node_step scene) (plain.arm_step scene)

  -- the body of an arm
  abbrev ArmWell : Arm → Type 0
  ArmWell arm = (typing : Typing) (vars : Variables) → AreSound (arm_finds arm typing) → AreRight (nodes_blocks over.schema over.templates number arm.body typing) → HaveTypes over.table typing vars
      → ((arm_writes arm).holds vars ≡ of.is_true (value_on stage (arm_runs arm).test vars)) × Only ((arm_writes arm).writes vars) ((arm_runs arm).runs typing vars)

  abbrev Part : Type 0
  Part = (one : Node) × NodeWell one

  abbrev ArmPart : Type 0
  ArmPart = (arm : Arm) × ArmWell arm

  abbrev nodes : List Part → List Node
  nodes = map (λ p. p.0)

  abbrev arms_of : List ArmPart → List Arm
  arms_of = map (λ p. p.0)

  -- ---- lists of nodes

  parts_well : (parts : List Part) (typing : Typing) (vars : Variables) → AreSound (typing_of.in_order (map (found_in over.schema) (nodes parts)) typing) → AreRight (nodes_blocks over.schema over.templates number (nodes parts) typing) → HaveTypes over.table typing vars
      → Only (plain.in_order (map (written scene) (nodes parts)) vars) (in_turn (map (node_runs stage) (nodes parts)) typing vars)
  parts_well [] typing vars sound right have = nothing_written Found Made
  parts_well (part ∷ parts) typing vars sound right have =
      one_then Found Made (written scene part.0 vars) (plain.in_order (map (written scene) (nodes parts)) vars) (node_runs stage part.0 typing vars) (in_turn (map (node_runs stage) (nodes parts)) typing vars)
      (part.1 typing vars (front (IsSound over runs Found Made number) (found_in over.schema part.0 typing) (typing_of.in_order (map (found_in over.schema) (nodes parts)) typing) sound)
      (front (IsRight over Found Made) (node_blocks over.schema over.templates number part.0 typing) (nodes_blocks over.schema over.templates number (nodes parts) typing) right) have)
      (parts_well parts typing vars (back (IsSound over runs Found Made number) (found_in over.schema part.0 typing) (typing_of.in_order (map (found_in over.schema) (nodes parts)) typing) sound)
      (back (IsRight over Found Made) (node_blocks over.schema over.templates number part.0 typing) (nodes_blocks over.schema over.templates number (nodes parts) typing) right) have)

  -- ---- arms

  choice_well : (text other : List ℕ) (run next : Rest → Rest) (held test : Bool) → held ≡ test → Only text run → Only other next → Only (cond held text other) (λ rest. cond test (run rest) (next rest))
  choice_well text other run next true true is first second = first
  choice_well text other run next true false is first second = absurd (cc is)
  choice_well text other run next false true is first second = absurd (cc is)
  choice_well text other run next false false is first second = second

  chosen_well : (arms : List ArmPart) (otherwise : List Part) (typing : Typing) (vars : Variables) → AreSound (typing_of.in_order (map arm_finds (arms_of arms)) typing) → AreRight (arms_blocks over.schema over.templates number (arms_of arms) typing)
      → AreSound (typing_of.in_order (map (found_in over.schema) (nodes otherwise)) typing) → AreRight (nodes_blocks over.schema over.templates number (nodes otherwise) typing) → HaveTypes over.table typing vars
      → Only (plain.chosen (map arm_writes (arms_of arms)) (map (written scene) (nodes otherwise)) vars) (chosen stage (map arm_runs (arms_of arms)) (in_turn (map (node_runs stage) (nodes otherwise))) typing vars)
  chosen_well [] otherwise typing vars sound right other_sound other_right have = parts_well otherwise typing vars other_sound other_right have
  chosen_well (arm ∷ arms) otherwise typing vars sound right other_sound other_right have =
      let well = arm.1 typing vars (front (IsSound over runs Found Made number) (arm_finds arm.0 typing) (typing_of.in_order (map arm_finds (arms_of arms)) typing) sound)
      (front (IsRight over Found Made) (nodes_blocks over.schema over.templates number arm.0.body typing) (arms_blocks over.schema over.templates number (arms_of arms) typing) right) have in
      looks_first Found Made (plain.chosen (map arm_writes (arms_of (arm ∷ arms))) (map (written scene) (nodes otherwise)) vars) (looks_on stage (arm_runs arm.0).test vars)
      (λ rest. cond (of.is_true (value_on stage (arm_runs arm.0).test vars)) ((arm_runs arm.0).runs typing vars rest) (chosen stage (map arm_runs (arms_of arms)) (in_turn (map (node_runs stage) (nodes otherwise))) typing vars rest))
      (choice_well ((arm_writes arm.0).writes vars) (plain.chosen (map arm_writes (arms_of arms)) (map (written scene) (nodes otherwise)) vars)
      ((arm_runs arm.0).runs typing vars) (chosen stage (map arm_runs (arms_of arms)) (in_turn (map (node_runs stage) (nodes otherwise))) typing vars)
      ((arm_writes arm.0).holds vars) (of.is_true (value_on stage (arm_runs arm.0).test vars)) well.0 well.1
      (chosen_well arms otherwise typing vars (back (IsSound over runs Found Made number) (arm_finds arm.0 typing) (typing_of.in_order (map arm_finds (arms_of arms)) typing) sound)
      (back (IsRight over Found Made) (nodes_blocks over.schema over.templates number arm.0.body typing) (arms_blocks over.schema over.templates number (arms_of arms) typing) right) other_sound other_right have))

  -- ---- partials

  no_types : HaveTypes over.table [] []
  no_types name t is = absurd (cc is)

  only_has : (name : List ℕ) (t : ValueType) (v : Val) → HasType over.table t v → HaveTypes over.table ((name, t) ∷ []) (only name v)
  only_has name t v has = bound over.table [] [] name t v no_types has

  -- a partial, where there is one, writes what it writes directly
  partial_well : (found : Option ℕ) (vars : Variables) (run : ℕ → Rest → Rest) → ((partial : ℕ) → found ≡ Some partial → Only (writes partial vars) (run partial)) → Only (option_map_or (λ partial. writes partial vars) found []) (with_partial found run)
  partial_well None vars run each = nothing_written Found Made
  partial_well (Some partial) vars run each = each partial refl

  -- locals without a fault have their types
  locals_well : (typing : Typing) (at : ℕ) (locals : List Local) → AreSound (flat_map (local_found over.schema typing at) locals) → (types : Typing) × (locals_typing over.schema typing locals ≡ Ok types)
  locals_well typing at [] sound = ([], refl)
  locals_well typing at (l ∷ locals) sound =
      by (type_of over.schema typing l.value) (locals_typing over.schema typing locals) (front (IsSound over runs Found Made number) (local_found over.schema typing at l) (flat_map (local_found over.schema typing at) locals) sound)
      (locals_well typing at locals (back (IsSound over runs Found Made number) (local_found over.schema typing at l) (flat_map (local_found over.schema typing at) locals) sound))
    where
      by : (r : Result ValueType TypeKind) (rs : Result Typing TypeKind) → AreSound (failed at r) → ((ts : Typing) × (rs ≡ Ok ts)) → (ts : Typing) × (((r >>= (λ t. Ok (l.name, t))) >>= (λ one. rs >>= (λ more. Ok (one ∷ more)))) ≡ Ok ts)
      by (Err kind) rs sound more = absurd sound.0
      by (Ok t) rs sound more = ((l.name, t) ∷ more.0, ap (λ (rs : Result Typing TypeKind). rs >>= (λ more. Ok ((l.name, t) ∷ more))) more.1)

  -- ---- cached items

  abbrev text_of : ℕ → List ℕ → Val → List ℕ
  text_of partial name one = writes partial (only name one)

  answered : (partial : ℕ) (name : List ℕ) (items : List Val) (found : List (Option (List ℕ))) → flat_map (λ (one : Val × Option (List ℕ)). text_of partial name one.0) (answers_to items found) ≡ flat_map (text_of partial name) items
  answered partial name [] found = refl
  answered partial name (x ∷ items) [] = ap (λ more. text_of partial name x ++ more) (answered partial name items [])
  answered partial name (x ∷ items) (one ∷ found) = ap (λ more. text_of partial name x ++ more) (answered partial name items found)

  item_well : (partial : ℕ) (name : List ℕ) (t : ValueType) → IsRight over Found Made (item_block over.templates partial name t) → ((vars : Variables) → HaveTypes over.table ((name, t) ∷ []) vars → Only (writes partial vars) (runs partial ((name, t) ∷ []) vars))
      → (x : Val) (found : Option (List ℕ)) → HasType over.table t x → (item_keyed stage partial name t x).is_key ≡ true → IfSome found (Found (item_asked stage partial name t x)) → Only (text_of partial name x) (item_run stage partial name t (x, found))
  item_well partial name t right sound x found has key is =
      let have = only_has name t x has in
      let same = whole_template partial (only name x) in
      found_written Found Made found (text_of partial name x) (runs partial ((name, t) ∷ []) (only name x)) (fresh stage.tree stage.moment partial item_number (item_keyed stage partial name t x) (only name x))
      (if_right Found Made (item_asked stage partial name t x) (text_of partial name x) (λ bytes may. right.found (only name x) have key bytes may ∙ same) found is)
      (subst (λ text. Made (fresh stage.tree stage.moment partial item_number (item_keyed stage partial name t x) (only name x) text)) same (right.made (only name x) have key))
      (sound (only name x) have)

  items_answered : (partial : ℕ) (name : List ℕ) (t : ValueType) → IsRight over Found Made (item_block over.templates partial name t) → ((vars : Variables) → HaveTypes over.table ((name, t) ∷ []) vars → Only (writes partial vars) (runs partial ((name, t) ∷ []) vars))
      → (items : List Val) (found : List (Option (List ℕ))) → AllByRecursion (HasType over.table t) items → AllByRecursion (λ one. (item_keyed stage partial name t one).is_key ≡ true) items → AreFound Found (map (item_asked stage partial name t) items) found
      → AllByRecursion (λ (one : Val × Option (List ℕ)). Only (text_of partial name one.0) (item_run stage partial name t one)) (answers_to items found)
  items_answered partial name t right sound [] found have keys are = tt
  items_answered partial name t right sound (x ∷ items) [] have keys are = (item_well partial name t right sound x None have.0 keys.0 tt, items_answered partial name t right sound items [] have.1 keys.1 (none_asked items))
    where
      none_asked : (items : List Val) → AreFound Found (map (item_asked stage partial name t) items) []
      none_asked [] = tt
      none_asked (y ∷ ys) = tt
  items_answered partial name t right sound (x ∷ items) (one ∷ found) have keys are = (item_well partial name t right sound x one have.0 keys.0 are.0, items_answered partial name t right sound items found have.1 keys.1 are.1)

  items_well : (partial : ℕ) (name : List ℕ) (t : ValueType) → IsRight over Found Made (item_block over.templates partial name t) → ((vars : Variables) → HaveTypes over.table ((name, t) ∷ []) vars → Only (writes partial vars) (runs partial ((name, t) ∷ []) vars))
      → (items : List Val) → AllByRecursion (HasType over.table t) items → Only (flat_map (text_of partial name) items) (items_run stage partial name t items)
  items_well partial name t right sound [] have = nothing_written Found Made
  items_well partial name t right sound (x ∷ items) have = by (have_keys stage partial name t (x ∷ items)) refl
    where
      by : (b : Bool) → have_keys stage partial name t (x ∷ items) ≡ b
          → Only (flat_map (text_of partial name) (x ∷ items))
          (λ rest looks out. cond b (asked_items stage partial name t (x ∷ items) rest looks out) (after_looks (items_looks stage partial name t (x ∷ items)) (for_each (item_plain stage partial name t) (x ∷ items) rest) looks out))
      by true is = λ page out rest follows looks found are.
          each_written Found Made (λ (one : Val × Option (List ℕ)). text_of partial name one.0) (item_run stage partial name t) (answers_to (x ∷ items) found)
          (items_answered partial name t right sound (x ∷ items) found have (each_passes (λ one. (item_keyed stage partial name t one).is_key) (x ∷ items) is) are) page out rest
          (subst (λ text. Follows Found Made page (out ++ text) rest) (sym (answered partial name (x ∷ items) found)) follows) 0
      by false is =
          looks_first Found Made (flat_map (text_of partial name) (x ∷ items)) (items_looks stage partial name t (x ∷ items)) (for_each (item_plain stage partial name t) (x ∷ items))
          (each_written Found Made (text_of partial name) (item_plain stage partial name t) (x ∷ items)
          (each_has (HasType over.table t) (λ one. Only (text_of partial name one) (item_plain stage partial name t one)) (x ∷ items) (λ one has. sound (only name one) (only_has name t one has)) have))

  -- ---- nodes

  abbrev open_node : Node-F Part ArmPart → Node-F Node Arm
  open_node = map-Node Part ArmPart Node Arm (λ p. p.0) (λ p. p.0)

  abbrev finds_layer : Node-F Node Arm → Node-F Finds Finds
  finds_layer = map-Node Node Arm Finds Finds (found_in over.schema) arm_finds

  abbrev writes_layer : Node-F Node Arm → Node-F Writes plain.Choice
  writes_layer = map-Node Node Arm Writes plain.Choice (written scene) arm_writes

  abbrev runs_layer : Node-F Node Arm → Node-F Runs Choice
  runs_layer = map-Node Node Arm Runs Choice (node_runs stage) arm_runs

  abbrev LayerWell : Node-F Node Arm → Type 0
  LayerWell x = (typing : Typing) (vars : Variables) → AreSound (found_step over.schema (finds_layer x) typing) → AreRight (node_blocks over.schema over.templates number (roll-Node x) typing) → HaveTypes over.table typing vars
      → Only (node_step scene (writes_layer x) vars) (run_step stage (runs_layer x) typing vars)

  rolled : (x : Node-F Node Arm) → LayerWell x → NodeWell (roll-Node x)
  rolled x well typing vars sound right have =
      subst (λ (w : Writes). Only (w vars) (node_runs stage (roll-Node x) typing vars)) (sym (fold-roll-Node Writes plain.Choice (node_step scene) (plain.arm_step scene) x))
      (subst (λ (r : Runs). Only (node_step scene (writes_layer x) vars) (r typing vars)) (sym (fold-roll-Node Runs Choice (run_step stage) arm_step x))
      (well typing vars (subst (λ (f : Finds). AreSound (f typing)) (fold-roll-Node Finds Finds (found_step over.schema) (arm_found over.schema) x) sound) right have))

  -- a loop
  each_well : (at : ℕ) (list : Expr) (name : List ℕ) (body : List Part) (typing : Typing) (vars : Variables) (r : Result ValueType TypeKind) → items_type over.schema typing list ≡ r
      → AreSound (with_items at r (λ t. typing_of.in_order (map (found_in over.schema) (nodes body)) (typing ++ (name, t) ∷ []))) → AreRight (node_blocks over.schema over.templates number (node.Each at list name (nodes body)) typing) → HaveTypes over.table typing vars
      → Only (flat_map (λ item. plain.in_order (map (written scene) (nodes body)) (vars ++ (name, item) ∷ [])) (items_of (value_on stage list vars)))
      (λ rest. with_type r (λ t. for_each (λ item. in_turn (map (node_runs stage) (nodes body)) (typing ++ (name, t) ∷ []) (vars ++ (name, item) ∷ [])) (items_of (value_on stage list vars))) rest)
  each_well at list name body typing vars (Err kind) is sound right have = absurd sound.0
  each_well at list name body typing vars (Ok t) is sound right have =
      each_written Found Made (λ item. plain.in_order (map (written scene) (nodes body)) (vars ++ (name, item) ∷ [])) (λ item. in_turn (map (node_runs stage) (nodes body)) (typing ++ (name, t) ∷ []) (vars ++ (name, item) ∷ [])) (items_of (value_on stage list vars))
      (each_has (HasType over.table t) (λ item. Only (plain.in_order (map (written scene) (nodes body)) (vars ++ (name, item) ∷ [])) (in_turn (map (node_runs stage) (nodes body)) (typing ++ (name, t) ∷ []) (vars ++ (name, item) ∷ []))) (items_of (value_on stage list vars))
      (λ item has. parts_well body (typing ++ (name, t) ∷ []) (vars ++ (name, item) ∷ []) sound (subst AreRight (each_some over.schema over.templates number at list name (nodes body) typing t is) right) (bound over.table typing vars name t item have has))
      (walked over.schema over.table typing vars list t fits have is))

  -- a partial with locals
  render_well : (at : ℕ) (name : List ℕ) (locals : List Local) (typing : Typing) (vars : Variables) (r : Result Typing TypeKind) → locals_typing over.schema typing locals ≡ r → ((types : Typing) × (r ≡ Ok types)) → AreSound (called name r) → HaveTypes over.table typing vars
      → Only (scene.partial name (locals_on stage locals vars)) (λ rest. with_type r (λ types. with_partial (stage.partial name) (λ partial. runs partial types (locals_on stage locals vars))) rest)
  render_well at name locals typing vars (Err kind) is typed sound have = absurd (cc typed.1)
  render_well at name locals typing vars (Ok types) is typed sound have =
      partial_well (stage.partial name) (locals_on stage locals vars) (λ partial. runs partial types (locals_on stage locals vars))
      (λ partial there. sound.0 partial there (locals_on stage locals vars) (locals_fit over.schema over.table typing types vars locals fits have is))

  -- a partial for each item
  collection_well : (at : ℕ) (name : List ℕ) (list : Expr) (item : List ℕ) (cached : Bool) (typing : Typing) (vars : Variables) (r : Result ValueType TypeKind) (found : Option ℕ) → items_type over.schema typing list ≡ r → stage.partial name ≡ found
      → AreSound (with_items at r (λ t. Call name ((item, t) ∷ []) ∷ [])) → AreRight (node_blocks over.schema over.templates number (node.Collection at name list item cached) typing) → HaveTypes over.table typing vars
      → Only (flat_map (λ one. option_map_or (λ partial. writes partial (only item one)) found []) (items_of (value_on stage list vars)))
      (λ rest. with_type r (λ t. with_partial found (λ partial. collection_run stage cached partial item t (items_of (value_on stage list vars)))) rest)
  collection_well at name list item cached typing vars (Err kind) found is there sound right have = absurd sound.0
  collection_well at name list item cached typing vars (Ok t) None is there sound right have =
      written_as Found Made [] (flat_map (λ one. []) (items_of (value_on stage list vars))) (λ rest. rest) (sym (no_texts (items_of (value_on stage list vars)))) (nothing_written Found Made)
  collection_well at name list item false typing vars (Ok t) (Some partial) is there sound right have =
      each_written Found Made (λ one. writes partial (only item one)) (λ one. runs partial ((item, t) ∷ []) (only item one)) (items_of (value_on stage list vars))
      (each_has (HasType over.table t) (λ one. Only (writes partial (only item one)) (runs partial ((item, t) ∷ []) (only item one))) (items_of (value_on stage list vars))
      (λ one has. sound.0 partial there (only item one) (only_has item t one has)) (walked over.schema over.table typing vars list t fits have is))
  collection_well at name list item true typing vars (Ok t) (Some partial) is there sound right have =
      let blocks = subst AreRight (items_blocks over.schema over.templates number at name list item true typing ∙ item_there over.schema over.templates number name list item true typing partial t refl there is) right in
      items_well partial item t blocks.0 (sound.0 partial there) (items_of (value_on stage list vars)) (walked over.schema over.table typing vars list t fits have is)

  layer : (y : Node-F Part ArmPart) → LayerWell (open_node y)
  layer (Node-F.Text text) typing vars sound right have = text_written Found Made text
  layer (Node-F.Write at expr) typing vars sound right have =
      looks_first Found Made (of.written false (value_on stage expr vars)) (looks_on stage expr vars) (λ rest. after_text (of.written false (value_on stage expr vars)) rest) (text_written Found Made (of.written false (value_on stage expr vars)))
  layer (Node-F.Raw at expr) typing vars sound right have =
      looks_first Found Made (of.written true (value_on stage expr vars)) (looks_on stage expr vars) (λ rest. after_text (of.written true (value_on stage expr vars)) rest) (text_written Found Made (of.written true (value_on stage expr vars)))
  layer (Node-F.If at arms otherwise) typing vars sound right have =
      let blocks = subst AreRight (ap (λ n. node_blocks over.schema over.templates number n typing) (rolls-If at (arms_of arms) (nodes otherwise)) ∙ if_blocks over.schema over.templates number at (arms_of arms) (nodes otherwise) typing) right in
      chosen_well arms otherwise typing vars
      (front (IsSound over runs Found Made number) (typing_of.in_order (map arm_finds (arms_of arms)) typing) (typing_of.in_order (map (found_in over.schema) (nodes otherwise)) typing) sound)
      (front (IsRight over Found Made) (arms_blocks over.schema over.templates number (arms_of arms) typing) (nodes_blocks over.schema over.templates number (nodes otherwise) typing) blocks)
      (back (IsSound over runs Found Made number) (typing_of.in_order (map arm_finds (arms_of arms)) typing) (typing_of.in_order (map (found_in over.schema) (nodes otherwise)) typing) sound)
      (back (IsRight over Found Made) (arms_blocks over.schema over.templates number (arms_of arms) typing) (nodes_blocks over.schema over.templates number (nodes otherwise) typing) blocks) have
  layer (Node-F.Each at list name body) typing vars sound right have =
      looks_first Found Made (flat_map (λ item. plain.in_order (map (written scene) (nodes body)) (vars ++ (name, item) ∷ [])) (items_of (value_on stage list vars))) (looks_on stage list vars)
      (λ rest. with_type (items_type over.schema typing list) (λ t. for_each (λ item. in_turn (map (node_runs stage) (nodes body)) (typing ++ (name, t) ∷ []) (vars ++ (name, item) ∷ [])) (items_of (value_on stage list vars))) rest)
      (each_well at list name body typing vars (items_type over.schema typing list) refl sound (subst AreRight (ap (λ n. node_blocks over.schema over.templates number n typing) (rolls-Each at list name (nodes body))) right) have)
  layer (Node-F.Cache at block key body) typing vars sound right have =
      let blocks = subst AreRight (ap (λ n. node_blocks over.schema over.templates number n typing) (rolls-Cache at block key (nodes body)) ∙ cache_blocks over.schema over.templates number at block key (nodes body) typing) right in
      let shown = flat_map-map (λ (part : Writes). part vars) (written scene) (nodes body) in
      written_as Found Made (direct scene (nodes body) vars) (plain.in_order (map (written scene) (nodes body)) vars) (block_run stage number block (over.keyed number typing key vars) vars (in_turn (map (node_runs stage) (nodes body)) typing vars)) (sym shown)
      (block_written Found Made stage number block (over.keyed number typing key vars) vars (direct scene (nodes body) vars) (in_turn (map (node_runs stage) (nodes body)) typing vars)
      (blocks.0.found vars have) (blocks.0.made vars have)
      (written_as Found Made (plain.in_order (map (written scene) (nodes body)) vars) (direct scene (nodes body) vars) (in_turn (map (node_runs stage) (nodes body)) typing vars) shown
      (parts_well body typing vars (back (IsSound over runs Found Made number) (flat_map (part_found over.schema typing at) key) (typing_of.in_order (map (found_in over.schema) (nodes body)) typing) sound) blocks.1 have)))
  layer (Node-F.Render at name locals) typing vars sound right have =
      looks_first Found Made (scene.partial name (locals_on stage locals vars)) (locals_looks stage locals vars)
      (λ rest. with_type (locals_typing over.schema typing locals) (λ types. with_partial (stage.partial name) (λ partial. runs partial types (locals_on stage locals vars))) rest)
      (render_well at name locals typing vars (locals_typing over.schema typing locals) refl
      (locals_well typing at locals (front (IsSound over runs Found Made number) (flat_map (local_found over.schema typing at) locals) (called name (locals_typing over.schema typing locals)) sound))
      (back (IsSound over runs Found Made number) (flat_map (local_found over.schema typing at) locals) (called name (locals_typing over.schema typing locals)) sound) have)
  layer (Node-F.Collection at name list item cached) typing vars sound right have =
      looks_first Found Made (flat_map (λ one. option_map_or (λ partial. writes partial (only item one)) (stage.partial name) []) (items_of (value_on stage list vars))) (looks_on stage list vars)
      (λ rest. with_type (items_type over.schema typing list) (λ t. with_partial (stage.partial name) (λ partial. collection_run stage cached partial item t (items_of (value_on stage list vars)))) rest)
      (collection_well at name list item cached typing vars (items_type over.schema typing list) (stage.partial name) refl refl sound (subst AreRight (ap (λ n. node_blocks over.schema over.templates number n typing) (rolls-Collection at name list item cached)) right) have)
  layer (Node-F.Depends at name) typing vars sound right have = nothing_written Found Made

  arm_layer : (y : Arm-F Part ArmPart) (typing : Typing) (vars : Variables) → AreSound (typing_of.in_order (map (found_in over.schema) (nodes y.body)) typing) → AreRight (nodes_blocks over.schema over.templates number (nodes y.body) typing) → HaveTypes over.table typing vars
      → Only (plain.in_order (map (written scene) (nodes y.body)) vars) (in_turn (map (node_runs stage) (nodes y.body)) typing vars)
  arm_layer y typing vars sound right have = parts_well y.body typing vars sound right have

  abbrev known_arm : Arm-F Part ArmPart → Arm
  known_arm y = roll-Arm (map-Arm Part ArmPart Node Arm (λ p. p.0) (λ p. p.0) y)

  arm_well : (y : Arm-F Part ArmPart) → ArmWell (known_arm y)
  arm_well y typing vars sound right have =
      let opened_runs = fold_out-Arm Runs Choice (run_step stage) arm_step (known_arm y) in
      let opened_writes = fold_out-Arm Writes plain.Choice (node_step scene) (plain.arm_step scene) (known_arm y) in
      let opened_finds = fold_out-Arm Finds Finds (found_step over.schema) (arm_found over.schema) (known_arm y) in (
        ap (λ (c : plain.Choice). c.holds vars) opened_writes ∙ sym (ap (λ (c : Choice). of.is_true (value_on stage c.test vars)) opened_runs),
        subst (λ (c : plain.Choice). Only (c.writes vars) ((arm_runs (known_arm y)).runs typing vars)) (sym opened_writes)
            (subst (λ (c : Choice). Only (plain.in_order (map (written scene) (nodes y.body)) vars) (c.runs typing vars)) (sym opened_runs)
            (arm_layer y typing vars
            (back (IsSound over runs Found Made number) (failed y.at (type_of over.schema typing y.test)) (typing_of.in_order (map (found_in over.schema) (nodes y.body)) typing) (subst (λ (f : Finds). AreSound (f typing)) opened_finds sound))
            right have)),
      )

  pub node_well : (one : Node) → NodeWell one
  node_well = ind-Node NodeWell ArmWell
      (λ x y is. subst (λ z. NodeWell (roll-Node z)) is (rolled (open_node y) (layer y)))
      (λ x y is. subst (λ z. ArmWell (roll-Arm z)) is (arm_well y))

  -- what nodes run writes what they write directly
  pub tree_well : (tree : List Node) (typing : Typing) (vars : Variables) → AreSound (findings over.schema tree typing) → AreRight (nodes_blocks over.schema over.templates number tree typing) → HaveTypes over.table typing vars
      → Only (direct scene tree vars) (in_turn (map (node_runs stage) tree) typing vars)
  tree_well [] typing vars sound right have = nothing_written Found Made
  tree_well (one ∷ tree) typing vars sound right have =
      one_then Found Made (written scene one vars) (direct scene tree vars) (node_runs stage one typing vars) (in_turn (map (node_runs stage) tree) typing vars)
      (node_well one typing vars (front (IsSound over runs Found Made number) (found_in over.schema one typing) (findings over.schema tree typing) sound)
      (front (IsRight over Found Made) (node_blocks over.schema over.templates number one typing) (nodes_blocks over.schema over.templates number tree typing) right) have)
      (tree_well tree typing vars (back (IsSound over runs Found Made number) (found_in over.schema one typing) (findings over.schema tree typing) sound)
      (back (IsRight over Found Made) (node_blocks over.schema over.templates number one typing) (nodes_blocks over.schema over.templates number tree typing) right) have)
