-- What nodes with parts write, by what their parts write.
use Rattle.std.proofs.Common.{◌≡◌, ℕ, ◌+◌, ◌<◌, ◌≤◌, suc, Bool, true, false, cond, List, [], ◌∷◌, ◌++◌, map, length, take, drop, get_or, refl, ap, sym, ◌∙◌, arith, drop-cons, Result, OnOk, subst}
use Rattle.std.specs.List.{flat_map}
use Rattle.std.proofs.lemmas.List.{drop_all, take_more, flat_map_more}
use Rattle.std.proofs.lemmas.List.Folds.{flat_map-map}
use Rattle.doll_schema.specs.declared.value.Val.{Val}
use Rattle.doll_schema.specs.declared.value.Val.TheVariants as val
use Rattle.doll_expr.specs.declared.expr.Expr.{Expr}
use Rattle.doll_eval.specs.Operations.{is_true}
use Rattle.doll_eval.specs.Values.{value_of}
use Rattle.doll_erb.specs.declared.node.Node.{Node}
use Rattle.doll_erb.specs.declared.node.Node as node
use Rattle.doll_erb.specs.declared.node.Node.TheFolds.{fold-roll-Node, fold_out-Arm, ind-Node, map-Node}
use Rattle.doll_erb.specs.declared.node.Node.TheVariants.{rolls-If, rolls-Each, rolls-Cache, rolls-Collection, rolls-Depends, rolls-Render}
use Rattle.doll_erb.specs.declared.node.Node.TheOpen.{Node-F}
use Rattle.doll_erb.specs.declared.node.Arm.{Arm, fold-Arm}
use Rattle.doll_text.specs.declared.memory.Memory.{Memory}
use Rattle.doll_schema.specs.declared.model.Schema.{Schema}
use Rattle.doll_table.specs.Tables.{TableMap}
use Rattle.doll_erb.specs.declared.node.Local.{Local}
use Rattle.doll_plain.specs.Direct.{Scene, Variables, Writes, Choice, choice, written, direct, chosen, value_in, in_order, items_of, node_step, arm_step, each_writes, collection_writes, if_writes, locals_in, tag_step, tag_writes}

-- what is written for each of these records
unfoldable pub for_records : (Val → List ℕ) → ℕ → List ℕ → List ℕ
for_records writes model ids = flat_map (λ id. writes (val.Record model id)) ids

-- what a node writes, by one step
by_step : (scene : Scene) (layer : Node-F Node Arm) (whole : Node) (variables : Variables) → node.roll-Node layer ≡ whole → written scene whole variables ≡ written scene (node.roll-Node layer) variables
by_step scene layer whole variables rolls = ap (λ n. written scene n variables) (sym rolls)

parts_direct : (scene : Scene) (body : List Node) (variables : Variables) → in_order (map (written scene) body) variables ≡ direct scene body variables
parts_direct scene body variables = flat_map-map (λ (part : Writes). part variables) (written scene) body

choices : (scene : Scene) (arms : List Arm) → map (fold-Arm Writes Choice (node_step scene) (arm_step scene)) arms ≡ map (choice scene) arms
choices scene [] = refl
choices scene (arm ∷ arms) =
    ap (λ c. c ∷ map (fold-Arm Writes Choice (node_step scene) (arm_step scene)) arms) (fold_out-Arm Writes Choice (node_step scene) (arm_step scene) arm)
    ∙ ap (λ cs. choice scene arm ∷ cs) (choices scene arms)

pub arm_writes : (scene : Scene) (arm : Arm) (variables : Variables) → (choice scene arm).writes variables ≡ direct scene arm.body variables
arm_writes scene arm variables = parts_direct scene arm.body variables

-- the arms from here on
here : (scene : Scene) (arms : List Arm) (otherwise : List Node) (variables : Variables) (at : ℕ) (arm : Arm) (held : Bool) → at < length arms → arm ≡ get_or arms at arm → held ≡ is_true (value_in scene arm.test variables) → if_writes scene (drop at arms) otherwise variables ≡ cond held (direct scene arm.body variables) (if_writes scene (drop (at + 1) arms) otherwise variables)
unfolding if_writes
here scene arms otherwise variables at arm held within is tested =
    ap (λ left. chosen (map (choice scene) left) (map (written scene) otherwise) variables) (drop-cons arms at arm within ∙ ap (λ a. a ∷ drop (suc at) arms) (sym is))
    ∙ ap (λ b. cond b ((choice scene arm).writes variables) (chosen (map (choice scene) (drop (suc at) arms)) (map (written scene) otherwise) variables)) (sym tested)
    ∙ ap (λ w. cond held w (chosen (map (choice scene) (drop (suc at) arms)) (map (written scene) otherwise) variables)) (arm_writes scene arm variables)
    ∙ ap (λ n. cond held (direct scene arm.body variables) (chosen (map (choice scene) (drop n arms)) (map (written scene) otherwise) variables)) after
  where
    after : suc at ≡ at + 1
    after = omega arith

pub choosing_here : (scene : Scene) (arms : List Arm) (otherwise : List Node) (variables : Variables) (at : ℕ) (arm : Arm) → at < length arms → arm ≡ get_or arms at arm → true ≡ is_true (value_in scene arm.test variables) → if_writes scene (drop at arms) otherwise variables ≡ direct scene arm.body variables
choosing_here scene arms otherwise variables at arm within is tested = here scene arms otherwise variables at arm true within is tested

pub choosing_on : (scene : Scene) (arms : List Arm) (otherwise : List Node) (variables : Variables) (at : ℕ) (arm : Arm) → at < length arms → arm ≡ get_or arms at arm → false ≡ is_true (value_in scene arm.test variables) → if_writes scene (drop at arms) otherwise variables ≡ if_writes scene (drop (at + 1) arms) otherwise variables
choosing_on scene arms otherwise variables at arm within is tested = here scene arms otherwise variables at arm false within is tested

pub choosing_last : (scene : Scene) (arms : List Arm) (otherwise : List Node) (variables : Variables) (at : ℕ) → length arms ≤ at → if_writes scene (drop at arms) otherwise variables ≡ direct scene otherwise variables
unfolding if_writes
choosing_last scene arms otherwise variables at past =
    ap (λ left. chosen (map (choice scene) left) (map (written scene) otherwise) variables) (drop_all at arms past)
    ∙ parts_direct scene otherwise variables

pub written_if : (scene : Scene) (at : ℕ) (arms : List Arm) (otherwise : List Node) (variables : Variables) → written scene (node.If at arms otherwise) variables ≡ if_writes scene arms otherwise variables
unfolding if_writes
written_if scene at arms otherwise variables =
    by_step scene (Node-F.If at arms otherwise) (node.If at arms otherwise) variables (rolls-If at arms otherwise)
    ∙ ap (λ (f : Writes). f variables) (fold-roll-Node Writes Choice (node_step scene) (arm_step scene) (Node-F.If at arms otherwise))
    ∙ ap (λ cs. chosen cs (map (written scene) otherwise) variables) (choices scene arms)

pub written_cache : (scene : Scene) (at block : ℕ) (key : _) (body : List Node) (variables : Variables) → written scene (node.Cache at block key body) variables ≡ direct scene body variables
written_cache scene at block key body variables =
    by_step scene (Node-F.Cache at block key body) (node.Cache at block key body) variables (rolls-Cache at block key body)
    ∙ ap (λ (f : Writes). f variables) (fold-roll-Node Writes Choice (node_step scene) (arm_step scene) (Node-F.Cache at block key body))
    ∙ parts_direct scene body variables

pub written_each : (scene : Scene) (at : ℕ) (list : Expr) (name : List ℕ) (body : List Node) (variables : Variables) → written scene (node.Each at list name body) variables ≡ each_writes scene list name body variables
unfolding each_writes
written_each scene at list name body variables =
    by_step scene (Node-F.Each at list name body) (node.Each at list name body) variables (rolls-Each at list name body)
    ∙ ap (λ (f : Writes). f variables) (fold-roll-Node Writes Choice (node_step scene) (arm_step scene) (Node-F.Each at list name body))
    ∙ bodies (items_of (value_in scene list variables))
  where
    bodies : (items : List Val) → flat_map (λ item. in_order (map (written scene) body) (variables ++ (name, item) ∷ [])) items ≡ flat_map (λ item. direct scene body (variables ++ (name, item) ∷ [])) items
    bodies [] = refl
    bodies (item ∷ items) = ap (λ w. w ++ flat_map (λ item. in_order (map (written scene) body) (variables ++ (name, item) ∷ [])) items) (parts_direct scene body (variables ++ (name, item) ∷ [])) ∙ ap (λ w. direct scene body (variables ++ (name, item) ∷ []) ++ w) (bodies items)

pub written_depends : (scene : Scene) (at : ℕ) (name : List ℕ) (variables : Variables) → written scene (node.Depends at name) variables ≡ []
written_depends scene at name variables =
    by_step scene (Node-F.Depends at name) (node.Depends at name) variables (rolls-Depends at name)
    ∙ ap (λ (f : Writes). f variables) (fold-roll-Node Writes Choice (node_step scene) (arm_step scene) (Node-F.Depends at name))

-- ---- tags that render a partial

module _ (scene : Scene) where
  abbrev opened : Node-F Node Arm → Node-F Writes Choice
  opened = map-Node Node Arm Writes Choice (tag_writes scene) (fold-Arm Writes Choice (tag_step scene) (arm_step scene))

  tag_is : (layer : Node-F Node Arm) (whole : Node) (variables : Variables) → node.roll-Node layer ≡ whole → tag_writes scene whole variables ≡ tag_step scene (opened layer) variables
  unfolding tag_writes
  tag_is layer whole variables rolls =
      ap (λ n. tag_writes scene n variables) (sym rolls)
      ∙ ap (λ (f : Writes). f variables) (fold-roll-Node Writes Choice (tag_step scene) (arm_step scene) layer)

  pub tag_partial : (at : ℕ) (name : List ℕ) (locals : List Local) (variables : Variables) → tag_writes scene (node.Render at name locals) variables ≡ scene.partial name (locals_in scene locals variables)
  tag_partial at name locals variables = tag_is (Node-F.Render at name locals) (node.Render at name locals) variables (rolls-Render at name locals)

  pub tag_collection : (at : ℕ) (name : List ℕ) (list : Expr) (item : List ℕ) (cached : Bool) (variables : Variables) → tag_writes scene (node.Collection at name list item cached) variables ≡ collection_writes scene name list item variables
  tag_collection at name list item cached variables =
      tag_is (Node-F.Collection at name list item cached) (node.Collection at name list item cached) variables (rolls-Collection at name list item cached)

  pub written_partial : (at : ℕ) (name : List ℕ) (locals : List Local) (variables : Variables) → written scene (node.Render at name locals) variables ≡ tag_writes scene (node.Render at name locals) variables
  written_partial at name locals variables =
      by_step scene (Node-F.Render at name locals) (node.Render at name locals) variables (rolls-Render at name locals)
      ∙ ap (λ (f : Writes). f variables) (fold-roll-Node Writes Choice (node_step scene) (arm_step scene) (Node-F.Render at name locals))
      ∙ sym (tag_partial at name locals variables)

  pub written_collection : (at : ℕ) (name : List ℕ) (list : Expr) (item : List ℕ) (cached : Bool) (variables : Variables) → written scene (node.Collection at name list item cached) variables ≡ tag_writes scene (node.Collection at name list item cached) variables
  unfolding collection_writes
  written_collection at name list item cached variables =
      by_step scene (Node-F.Collection at name list item cached) (node.Collection at name list item cached) variables (rolls-Collection at name list item cached)
      ∙ ap (λ (f : Writes). f variables) (fold-roll-Node Writes Choice (node_step scene) (arm_step scene) (Node-F.Collection at name list item cached))
      ∙ sym (tag_collection at name list item cached variables)

  -- another node is no such tag
  abbrev IsNoTag : Node → Type 0
  IsNoTag one = (variables : Variables) → ((at : ℕ) (name : List ℕ) (locals : List Local) → one ≡ node.Render at name locals → ⊥) → ((at : ℕ) (name : List ℕ) (list : Expr) (item : List ℕ) (cached : Bool) → one ≡ node.Collection at name list item cached → ⊥) → tag_writes scene one variables ≡ []

  no_tag_layer : (layer : Node-F Node Arm) → IsNoTag (node.roll-Node layer)
  no_tag_layer (Node-F.Text text) variables one other = tag_is (Node-F.Text text) (node.roll-Node (Node-F.Text text)) variables refl
  no_tag_layer (Node-F.Write at expr) variables one other = tag_is (Node-F.Write at expr) (node.roll-Node (Node-F.Write at expr)) variables refl
  no_tag_layer (Node-F.Raw at expr) variables one other = tag_is (Node-F.Raw at expr) (node.roll-Node (Node-F.Raw at expr)) variables refl
  no_tag_layer (Node-F.If at arms otherwise) variables one other = tag_is (Node-F.If at arms otherwise) (node.roll-Node (Node-F.If at arms otherwise)) variables refl
  no_tag_layer (Node-F.Each at list name body) variables one other = tag_is (Node-F.Each at list name body) (node.roll-Node (Node-F.Each at list name body)) variables refl
  no_tag_layer (Node-F.Cache at block key body) variables one other = tag_is (Node-F.Cache at block key body) (node.roll-Node (Node-F.Cache at block key body)) variables refl
  no_tag_layer (Node-F.Depends at name) variables one other = tag_is (Node-F.Depends at name) (node.roll-Node (Node-F.Depends at name)) variables refl
  no_tag_layer (Node-F.Render at name locals) variables one other = absurd (one at name locals (rolls-Render at name locals))
  no_tag_layer (Node-F.Collection at name list item cached) variables one other = absurd (other at name list item cached (rolls-Collection at name list item cached))

  pub no_tag : (one : Node) → IsNoTag one
  no_tag = ind-Node IsNoTag (λ arm. Unit {0})
      (λ x y is. subst (λ z. IsNoTag (node.roll-Node z)) is (no_tag_layer (map-Node ((one : Node) × IsNoTag one) ((arm : Arm) × Unit {0}) Node Arm (λ p. p.0) (λ p. p.0) y)))
      (λ x y is. tt)

-- ---- items

records_write : (writes : Val → List ℕ) (model : ℕ) (ids : List ℕ) (items : List Val) → map (λ id. val.Record model id) ids ≡ items → flat_map writes items ≡ for_records writes model ids
unfolding for_records
records_write writes model ids items are = ap (flat_map writes) (sym are) ∙ flat_map-map writes (λ id. val.Record model id) ids

-- a body for each record of a list
pub each_record : (scene : Scene) (list : Expr) (name : List ℕ) (body : List Node) (variables : Variables) (model : ℕ) (ids : List ℕ) → map (λ id. val.Record model id) ids ≡ items_of (value_in scene list variables) → each_writes scene list name body variables ≡ for_records (λ item. direct scene body (variables ++ (name, item) ∷ [])) model ids
unfolding each_writes
each_record scene list name body variables model ids are =
    records_write (λ item. direct scene body (variables ++ (name, item) ∷ [])) model ids (items_of (value_in scene list variables)) are

-- a partial for each record of a list
pub collection_record : (scene : Scene) (name : List ℕ) (list : Expr) (item : List ℕ) (variables : Variables) (model : ℕ) (ids : List ℕ) → map (λ id. val.Record model id) ids ≡ items_of (value_in scene list variables) → collection_writes scene name list item variables ≡ for_records (λ one. scene.partial name ((item, one) ∷ [])) model ids
unfolding collection_writes
collection_record scene name list item variables model ids are =
    records_write (λ one. scene.partial name ((item, one) ∷ [])) model ids (items_of (value_in scene list variables)) are

-- a partial that writes nothing writes nothing for a list
pub collection_none : (scene : Scene) (name : List ℕ) (list : Expr) (item : List ℕ) (variables : Variables) → ((variables : Variables) → scene.partial name variables ≡ []) → collection_writes scene name list item variables ≡ []
unfolding collection_writes
collection_none scene name list item variables nothing = none (items_of (value_in scene list variables))
  where
    none : (ones : List Val) → flat_map (λ one. scene.partial name ((item, one) ∷ [])) ones ≡ []
    none [] = refl
    none (one ∷ ones) = ap (λ w. w ++ flat_map (λ one. scene.partial name ((item, one) ∷ [])) ones) (nothing ((item, one) ∷ [])) ∙ none ones

pub no_records : (writes : Val → List ℕ) (model : ℕ) → for_records writes model [] ≡ []
unfolding for_records
no_records writes model = refl

-- one record more
pub record_more : (writes : Val → List ℕ) (model : ℕ) (ids before : List ℕ) (at : ℕ) → at < length ids → before ++ for_records writes model (take (at + 1) ids) ≡ (before ++ for_records writes model (take at ids)) ++ writes (val.Record model (get_or ids at 0))
unfolding for_records
record_more writes model ids before at within =
    let f : ℕ → List ℕ = λ id. writes (val.Record model id) in
    ap (λ done. before ++ flat_map f done) (take_more ids at 0 within) ∙ sym (flat_map_more f before (take at ids) (get_or ids at 0))

-- ---- in an equal table

-- a test's answer in an equal table, under equal variables
pub tested_along : (held answer : Bool) (test : Expr) (schema : Schema) {t u : TableMap} {vars same : Variables} → t ≡ u → vars ≡ same → held ≡ answer → held ≡ is_true (value_of test vars schema t) → answer ≡ is_true (value_of test same schema u)
tested_along held answer test schema {t = t} {same = same} tables variables_are is h =
    sym is ∙ h ∙ ap (λ v. is_true (value_of test v schema t)) variables_are ∙ ap (λ w. is_true (value_of test same schema w)) tables

-- what is written in an equal table, under equal variables, after equal bytes
pub moved : (r : Result (Unit {0}) Memory) (now : List ℕ) (scene : TableMap → Scene) {t u : TableMap} {vars same : Variables} {nodes others : List Node} {before first : List ℕ} → t ≡ u → vars ≡ same → nodes ≡ others → before ≡ first → OnOk r (now ≡ before ++ direct (scene t) nodes vars) → OnOk r (now ≡ first ++ direct (scene u) others same)
moved r now scene {u = u} {vars = vars} {same = same} {nodes = nodes} {others = others} {before = before} tables variables_are trees starts h =
    subst (λ b. OnOk r (now ≡ b ++ direct (scene u) others same)) starts
    (subst (λ n. OnOk r (now ≡ before ++ direct (scene u) n same)) trees
    (subst (λ v. OnOk r (now ≡ before ++ direct (scene u) nodes v)) variables_are
    (subst (λ w. OnOk r (now ≡ before ++ direct (scene w) nodes vars)) tables h)))

-- one node more
pub node_more : (scene : TableMap → Scene) (nodes : List Node) (at : ℕ) (one : Node) (first : List ℕ) {t u : TableMap} {vars same : Variables} {before : List ℕ} → t ≡ u → vars ≡ same → at < length nodes → one ≡ get_or nodes at one → before ≡ first ++ direct (scene u) (take at nodes) same → before ++ written (scene t) one vars ≡ first ++ direct (scene u) (take (at + 1) nodes) same
node_more scene nodes at one first {t = t} {u = u} {same = same} {before = before} tables variables_are within is so_far =
    ap (λ v. before ++ written (scene t) one v) variables_are
    ∙ ap (λ w. before ++ written (scene w) one same) tables
    ∙ ap (λ b. b ++ written (scene u) one same) so_far
    ∙ ap (λ node. (first ++ flat_map writes (take at nodes)) ++ writes node) is
    ∙ flat_map_more writes first (take at nodes) (get_or nodes at one)
    ∙ sym (ap (λ done. first ++ flat_map writes done) (take_more nodes at one within))
  where
    writes : Node → List ℕ
    writes node = written (scene u) node same
