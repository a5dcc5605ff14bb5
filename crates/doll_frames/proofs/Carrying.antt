-- Carrying each part of a template on, by what its parts come to.
use Rattle.std.proofs.Common.{◌≡◌, ◌≢◌, ℕ, ◌+◌, ◌-◌, ◌<◌, ◌≤◌, Bool, true, false, List, [], ◌∷◌, ◌++◌, length, get_or, None, Some, refl, ap, sym, subst, ◌∙◌}
use Rattle.std.specs.Prelude.{slice_get}
use Rattle.doll_expr.specs.declared.expr.Expr.{Expr}
use Rattle.doll_erb.specs.declared.node.Arm.{Arm}
use Rattle.doll_erb.specs.declared.node.KeyPart.{KeyPart}
use Rattle.doll_erb.specs.declared.node.Local.{Local}
use Rattle.doll_erb.specs.declared.node.Node.{Node}
use Rattle.doll_erb.specs.declared.node.Node as node
use Rattle.doll_eval.specs.Operations as of
use Rattle.doll_schema.specs.declared.value.Val.TheVariants as val
use Rattle.doll_set.specs.declared.template.Template.{Template}
use Rattle.doll_table.specs.Tables.{TableMap}
use Rattle.doll_run.specs.Pages.{Ground}
use Rattle.doll_run.specs.Rendering.{after_text, looks_on, value_on}
use Rattle.doll_types.specs.declared.types.ValueType.{ValueType}
use Rattle.doll_entry.specs.declared.entry.Fresh.{Fresh}
use Rattle.doll_frames.specs.Along.{Went}
use Rattle.doll_frames.specs.Arms.{arm_body, chosen_place, tests_looks}
use Rattle.doll_frames.specs.Carried.{BlockGoes, BodyGoes, CollectionGoes, EachGoes, IfGoes, NodeGoes, NodesGo, NodesGoFrom, NodesWentTo, PartialGoes, RenderGoes, TemplateGoes, WalkGoes, WalkWentTo}
use Rattle.doll_frames.specs.Contexts.{over_of}
use Rattle.doll_frames.specs.Flows.{block_id, fresh_of, is_done}
use Rattle.doll_frames.specs.Left.{block_left, each_left, node_left, nodes_left, render_left, stage_at}
use Rattle.doll_frames.specs.Stacks.{Stopped, first_is, given, is_arm, is_node}
use Rattle.doll_frames.specs.declared.context.Context.{Context}
use Rattle.doll_frames.specs.declared.flow.Flow.{Flow}
use Rattle.doll_frames.specs.declared.flow.Flow.TheVariants as flow
use Rattle.doll_frames.specs.declared.frame.Frame.{Frame}
use Rattle.doll_frames.specs.declared.frame.Frame.TheVariants as frame
use Rattle.doll_frames.specs.declared.keys.BlockKey.{BlockKey}
use Rattle.doll_frames.specs.declared.scope.Scope.{Scope}
use Rattle.doll_frames.specs.declared.walk.Walk.{Walk}
use Rattle.doll_frames.proofs.Alongs.{along_looks, along_stays, along_text, along_then, along_to}
use Rattle.doll_frames.proofs.Beginnings.{nodes_begin}
use Rattle.doll_frames.proofs.Blocks.{block_behind, block_found, block_missed, block_resumed, body_ends, body_stops}
use Rattle.doll_frames.proofs.Lefts.{behind_last, block_node, collection_node, depends_left, each_node, if_node, nodes_anew, nodes_past, raw_left, render_node, text_left, write_left}
use Rattle.doll_frames.proofs.Partials.{partial_stops, render_resumed}
use Rattle.doll_frames.proofs.Parts.{arm_stopped, each_resumed, from_more, from_stopped, if_chosen, if_resumed, nodes_on, nodes_stopped, template_in, template_missing, template_none}
use Rattle.doll_frames.proofs.Walking.{walk_more, walk_past, walk_stopped}
use Rattle.doll_frames.proofs.Wents.{went_after, went_done, went_ended, went_from}

module _ (context : Context) (table : TableMap) where
  abbrev over : Ground
  over = over_of context table

  -- ---- templates

  pub template_no_level : (number : ℕ) (scope : Scope) (old new : Stopped) (looks : ℕ) (before : List ℕ) → context.levels ≡ 0 → new.frames ≡ [] → TemplateGoes context table number scope old new looks looks before before flow.Done
  unfolding TemplateGoes
  template_no_level number scope old new looks before is none =
      went_from (template_none over context.levels number scope.typing scope.vars (given old.answer) old.frames is) (went_done (along_stays (λ rest. rest) looks before) none)

  pub template_gone : (number : ℕ) (scope : Scope) (old new : Stopped) (looks : ℕ) (before : List ℕ) → slice_get context.set.now.templates number ≡ None → new.frames ≡ [] → TemplateGoes context table number scope old new looks looks before before flow.Done
  unfolding TemplateGoes
  template_gone number scope old new looks before is none =
      went_from (template_missing over context.levels number scope.typing scope.vars (given old.answer) old.frames is) (went_done (along_stays (λ rest. rest) looks before) none)

  -- the same set, schema, moment and number of the set, in the template with a number, with a level less
  abbrev pub below : ℕ → Context
  below number = record { set = context.set; schema = context.schema; moment = context.moment; tree = context.tree; number = number; levels = context.levels - 1 }

  pub template_goes : (number : ℕ) (scope : Scope) (old new : Stopped) (looks later : ℕ) (before after : List ℕ) (stop : Flow) (template : Template) (tree : List Node) → context.levels ≢ 0 → slice_get context.set.now.templates number ≡ Some template → tree ≡ template.tree
      → NodesGo (below number) table tree scope old new looks later before after stop → TemplateGoes context table number scope old new looks later before after stop
  unfolding TemplateGoes NodesGo
  template_goes number scope old new looks later before after stop template tree some is same goes =
      subst (λ mean. Went (mean (given old.answer) old.frames) mean new looks later before after stop) (sym (template_in over context.levels number scope.typing scope.vars template tree some is same)) goes

  -- ---- lists of nodes

  pub nodes_stop : (nodes : List Node) (at : ℕ) (one : Node) (scope : Scope) (old popped inner new : Stopped) (looks later : ℕ) (before after : List ℕ) (stop : Flow) → slice_get nodes at ≡ Some one → old.frames ≡ frame.Node at ∷ popped.frames → popped.answer ≡ old.answer
      → new.frames ≡ frame.Node at ∷ inner.frames → is_done stop ≡ false → NodeGoes context table one scope popped inner looks later before after stop → NodesGo context table nodes scope old new looks later before after stop
  unfolding NodesGo NodeGoes
  nodes_stop nodes at one scope old popped inner new looks later before after stop there is same pushed stops goes =
      nodes_stopped over context.levels context.number scope.typing scope.vars nodes at one (given old.answer) popped.frames old.frames inner new looks later stop there is pushed stops
      (went_from (ap (λ a. node_left over context.levels context.number one scope.typing scope.vars (given a) popped.frames) (sym same)) goes)

  pub nodes_go_on : (nodes : List Node) (at : ℕ) (one : Node) (scope : Scope) (old popped inner new : Stopped) (looks mid later : ℕ) (before between after : List ℕ) (first stop : Flow) → slice_get nodes at ≡ Some one → old.frames ≡ frame.Node at ∷ popped.frames → popped.answer ≡ old.answer
      → is_done first ≡ true → NodeGoes context table one scope popped inner looks mid before between first → NodesGoFrom context table nodes (at + 1) scope new mid later between after stop → NodesGo context table nodes scope old new looks later before after stop
  unfolding NodesGo NodeGoes NodesGoFrom
  nodes_go_on nodes at one scope old popped inner new looks mid later before between after first stop there is same ends goes then =
      nodes_on over context.levels context.number scope.typing scope.vars nodes at one (given old.answer) popped.frames old.frames inner new looks mid later first stop there is ends
      (went_from (ap (λ a. node_left over context.levels context.number one scope.typing scope.vars (given a) popped.frames) (sym same)) goes) then

  pub nodes_gone : (nodes : List Node) (at : ℕ) (scope : Scope) (old popped new : Stopped) (looks : ℕ) (before : List ℕ) → slice_get nodes at ≡ None → length nodes ≤ at → old.frames ≡ frame.Node at ∷ popped.frames → new.frames ≡ [] → NodesGo context table nodes scope old new looks looks before before flow.Done
  unfolding NodesGo
  nodes_gone nodes at scope old popped new looks before is past popped_is none =
      went_from (ap (nodes_left over context.levels context.number nodes scope.typing scope.vars (given old.answer)) popped_is ∙ nodes_past over context.levels context.number scope.typing scope.vars nodes at (given old.answer) popped.frames is past)
      (went_done (along_stays (λ rest. rest) looks before) none)

  pub nodes_anew_go : (nodes : List Node) (scope : Scope) (old new : Stopped) (looks later : ℕ) (before after : List ℕ) (stop : Flow) → first_is is_node old.frames ≡ false → NodesGoFrom context table nodes 0 scope new looks later before after stop → NodesGo context table nodes scope old new looks later before after stop
  unfolding NodesGo NodesGoFrom
  nodes_anew_go nodes scope old new looks later before after stop other goes =
      went_from (nodes_begin over context.levels context.number scope.typing scope.vars (given old.answer) nodes old.frames other ∙ nodes_anew over context.levels context.number scope.typing scope.vars nodes (given old.answer)) goes

  pub nodes_here : (nodes : List Node) (first : ℕ) (scope : Scope) (looks : ℕ) (before : List ℕ) → NodesWentTo context table nodes first first scope looks looks before before
  unfolding NodesWentTo
  nodes_here nodes first scope looks before = along_stays _ looks before

  pub nodes_more : (nodes : List Node) (first at : ℕ) (one : Node) (scope : Scope) (old inner : Stopped) (looks mid later : ℕ) (before between after : List ℕ) (stop : Flow) → at < length nodes → one ≡ get_or nodes at one → old.frames ≡ [] → is_done stop ≡ true
      → NodesWentTo context table nodes first at scope looks mid before between → NodeGoes context table one scope old inner mid later between after stop → NodesWentTo context table nodes first (at + 1) scope looks later before after
  unfolding NodesWentTo NodeGoes
  nodes_more nodes first at one scope old inner looks mid later before between after stop within there none ends so_far goes =
      from_more over context.levels context.number scope.typing scope.vars nodes _ at one (given old.answer) old.frames inner looks mid later stop within there none ends so_far goes

  pub nodes_stop_at : (nodes : List Node) (first at : ℕ) (one : Node) (scope : Scope) (old inner new : Stopped) (looks mid later : ℕ) (before between after : List ℕ) (stop : Flow) → at < length nodes → one ≡ get_or nodes at one → slice_get nodes at ≡ Some one → old.frames ≡ []
      → new.frames ≡ frame.Node at ∷ inner.frames → is_done stop ≡ false → NodesWentTo context table nodes first at scope looks mid before between → NodeGoes context table one scope old inner mid later between after stop → NodesGoFrom context table nodes first scope new looks later before after stop
  unfolding NodesWentTo NodeGoes NodesGoFrom
  nodes_stop_at nodes first at one scope old inner new looks mid later before between after stop within is_one there none pushed stops so_far goes =
      from_stopped over context.levels context.number scope.typing scope.vars nodes _ at one (given old.answer) old.frames inner new looks mid later stop within is_one there none pushed stops so_far goes

  pub nodes_end : (nodes : List Node) (first at : ℕ) (scope : Scope) (new : Stopped) (looks later : ℕ) (before after : List ℕ) → length nodes ≤ at → new.frames ≡ [] → NodesWentTo context table nodes first at scope looks later before after → NodesGoFrom context table nodes first scope new looks later before after flow.Done
  unfolding NodesWentTo NodesGoFrom
  nodes_end nodes first at scope new looks later before after past none so_far =
      went_done (along_to (behind_last over context.levels context.number scope.typing scope.vars nodes at past) so_far) none

  -- ---- nodes

  pub text_goes : (text : List ℕ) (scope : Scope) (old new : Stopped) (looks : ℕ) (before after : List ℕ) → new.frames ≡ [] → after ≡ before ++ text → NodeGoes context table (node.Text text) scope old new looks looks before after flow.Done
  unfolding NodeGoes
  text_goes text scope old new looks before after none is =
      went_from (text_left over context.levels context.number scope.typing scope.vars text (given old.answer) old.frames) (went_done (along_text text (λ rest. rest) looks is) none)

  pub depends_goes : (at : ℕ) (name : List ℕ) (scope : Scope) (old new : Stopped) (looks : ℕ) (before : List ℕ) → new.frames ≡ [] → NodeGoes context table (node.Depends at name) scope old new looks looks before before flow.Done
  unfolding NodeGoes
  depends_goes at name scope old new looks before none =
      went_from (depends_left over context.levels context.number scope.typing scope.vars at name (given old.answer) old.frames) (went_done (along_stays (λ rest. rest) looks before) none)

  pub write_goes : (at : ℕ) (expr : Expr) (scope : Scope) (old new : Stopped) (looks later : ℕ) (before after : List ℕ) → new.frames ≡ [] → later ≤ looks + looks_on (stage_at over context.levels context.number) expr scope.vars
      → after ≡ before ++ of.written false (value_on (stage_at over context.levels context.number) expr scope.vars) → NodeGoes context table (node.Write at expr) scope old new looks later before after flow.Done
  unfolding NodeGoes
  write_goes at expr scope old new looks later before after none within is =
      went_from (write_left over context.levels context.number scope.typing scope.vars at expr (given old.answer) old.frames)
      (went_done (along_then (along_looks (after_text (of.written false (value_on (stage_at over context.levels context.number) expr scope.vars))) (looks_on (stage_at over context.levels context.number) expr scope.vars) looks later within refl)
      (along_text (of.written false (value_on (stage_at over context.levels context.number) expr scope.vars)) (λ rest. rest) later is)) none)

  pub raw_goes : (at : ℕ) (expr : Expr) (scope : Scope) (old new : Stopped) (looks later : ℕ) (before after : List ℕ) → new.frames ≡ [] → later ≤ looks + looks_on (stage_at over context.levels context.number) expr scope.vars
      → after ≡ before ++ of.written true (value_on (stage_at over context.levels context.number) expr scope.vars) → NodeGoes context table (node.Raw at expr) scope old new looks later before after flow.Done
  unfolding NodeGoes
  raw_goes at expr scope old new looks later before after none within is =
      went_from (raw_left over context.levels context.number scope.typing scope.vars at expr (given old.answer) old.frames)
      (went_done (along_then (along_looks (after_text (of.written true (value_on (stage_at over context.levels context.number) expr scope.vars))) (looks_on (stage_at over context.levels context.number) expr scope.vars) looks later within refl)
      (along_text (of.written true (value_on (stage_at over context.levels context.number) expr scope.vars)) (λ rest. rest) later is)) none)

  pub if_goes : (at : ℕ) (arms : List Arm) (otherwise : List Node) (scope : Scope) (old new : Stopped) (looks later : ℕ) (before after : List ℕ) (stop : Flow) → IfGoes context table arms otherwise scope old new looks later before after stop → NodeGoes context table (node.If at arms otherwise) scope old new looks later before after stop
  unfolding NodeGoes IfGoes
  if_goes at arms otherwise scope old new looks later before after stop goes =
      subst (λ mean. Went (mean (given old.answer) old.frames) mean new looks later before after stop) (sym (if_node over context.levels context.number scope.typing scope.vars at arms otherwise)) goes

  pub each_goes : (at : ℕ) (list : Expr) (name : List ℕ) (body : List Node) (scope : Scope) (old new : Stopped) (looks later : ℕ) (before after : List ℕ) (stop : Flow) → EachGoes context table list name body scope old new looks later before after stop → NodeGoes context table (node.Each at list name body) scope old new looks later before after stop
  unfolding NodeGoes EachGoes
  each_goes at list name body scope old new looks later before after stop goes =
      subst (λ mean. Went (mean (given old.answer) old.frames) mean new looks later before after stop) (sym (each_node over context.levels context.number scope.typing scope.vars at list name body)) goes

  pub block_goes : (at block : ℕ) (key : List KeyPart) (body : List Node) (scope : Scope) (old new : Stopped) (looks later : ℕ) (before after : List ℕ) (stop : Flow) → BlockGoes context table block key body scope old new looks later before after stop → NodeGoes context table (node.Cache at block key body) scope old new looks later before after stop
  unfolding NodeGoes BlockGoes
  block_goes at block key body scope old new looks later before after stop goes =
      subst (λ mean. Went (mean (given old.answer) old.frames) mean new looks later before after stop) (sym (block_node over context.levels context.number scope.typing scope.vars at block key body)) goes

  pub render_goes : (at : ℕ) (name : List ℕ) (locals : List Local) (scope : Scope) (old new : Stopped) (looks later : ℕ) (before after : List ℕ) (stop : Flow) → RenderGoes context table name locals scope old new looks later before after stop → NodeGoes context table (node.Render at name locals) scope old new looks later before after stop
  unfolding NodeGoes RenderGoes
  render_goes at name locals scope old new looks later before after stop goes =
      subst (λ mean. Went (mean (given old.answer) old.frames) mean new looks later before after stop) (sym (render_node over context.levels context.number scope.typing scope.vars at name locals)) goes

  pub collection_goes : (at : ℕ) (name : List ℕ) (list : Expr) (item : List ℕ) (cached : Bool) (scope : Scope) (old new : Stopped) (looks later : ℕ) (before after : List ℕ) (stop : Flow) → CollectionGoes context table name list item cached scope old new looks later before after stop
      → NodeGoes context table (node.Collection at name list item cached) scope old new looks later before after stop
  unfolding NodeGoes CollectionGoes
  collection_goes at name list item cached scope old new looks later before after stop goes =
      subst (λ mean. Went (mean (given old.answer) old.frames) mean new looks later before after stop) (sym (collection_node over context.levels context.number scope.typing scope.vars at name list item cached)) goes

  -- ---- the arms of an `if`

  pub if_goes_on : (arms : List Arm) (otherwise body : List Node) (place : ℕ) (scope : Scope) (old popped new : Stopped) (looks later : ℕ) (before after : List ℕ) (stop : Flow) → old.frames ≡ frame.Arm place ∷ popped.frames → popped.answer ≡ old.answer → body ≡ arm_body arms otherwise place
      → is_done stop ≡ true → NodesGo context table body scope popped new looks later before after stop → IfGoes context table arms otherwise scope old new looks later before after stop
  unfolding IfGoes NodesGo
  if_goes_on arms otherwise body place scope old popped new looks later before after stop is same body_is ends goes =
      went_from (if_resumed over context.levels context.number scope.typing scope.vars arms otherwise body place (given old.answer) popped.frames old.frames is body_is
      ∙ ap (λ a. nodes_left over context.levels context.number body scope.typing scope.vars (given a) popped.frames) (sym same))
      (went_ended ends goes)

  pub if_stops : (arms : List Arm) (otherwise body : List Node) (place : ℕ) (scope : Scope) (old popped inner new : Stopped) (looks later : ℕ) (before after : List ℕ) (stop : Flow) → old.frames ≡ frame.Arm place ∷ popped.frames → popped.answer ≡ old.answer → body ≡ arm_body arms otherwise place
      → new.frames ≡ frame.Arm place ∷ inner.frames → is_done stop ≡ false → NodesGo context table body scope popped inner looks later before after stop → IfGoes context table arms otherwise scope old new looks later before after stop
  unfolding IfGoes NodesGo
  if_stops arms otherwise body place scope old popped inner new looks later before after stop is same body_is pushed stops goes =
      went_from (if_resumed over context.levels context.number scope.typing scope.vars arms otherwise body place (given old.answer) popped.frames old.frames is body_is
      ∙ ap (λ a. nodes_left over context.levels context.number body scope.typing scope.vars (given a) popped.frames) (sym same))
      (arm_stopped over context.levels context.number scope.typing scope.vars arms otherwise body place inner new looks later stop pushed body_is stops goes)

  pub if_begins : (arms : List Arm) (otherwise body : List Node) (place : ℕ) (scope : Scope) (old popped new : Stopped) (looks mid later : ℕ) (before after : List ℕ) (stop : Flow) → first_is is_arm old.frames ≡ false → popped.frames ≡ []
      → place ≡ chosen_place over.schema table arms scope.vars → body ≡ arm_body arms otherwise place → mid ≤ looks + tests_looks over.schema table arms scope.vars → is_done stop ≡ true
      → NodesGo context table body scope popped new mid later before after stop → IfGoes context table arms otherwise scope old new looks later before after stop
  unfolding IfGoes NodesGo
  if_begins arms otherwise body place scope old popped new looks mid later before after stop other none chosen body_is within ends goes =
      went_after (if_chosen over context.levels context.number scope.typing scope.vars arms otherwise body place (given old.answer) (given popped.answer) popped.frames old.frames looks mid before other none chosen body_is within)
      (went_ended ends goes)

  pub if_begins_and_stops : (arms : List Arm) (otherwise body : List Node) (place : ℕ) (scope : Scope) (old popped inner new : Stopped) (looks mid later : ℕ) (before after : List ℕ) (stop : Flow) → first_is is_arm old.frames ≡ false → popped.frames ≡ []
      → place ≡ chosen_place over.schema table arms scope.vars → body ≡ arm_body arms otherwise place → mid ≤ looks + tests_looks over.schema table arms scope.vars → new.frames ≡ frame.Arm place ∷ inner.frames → is_done stop ≡ false
      → NodesGo context table body scope popped inner mid later before after stop → IfGoes context table arms otherwise scope old new looks later before after stop
  unfolding IfGoes NodesGo
  if_begins_and_stops arms otherwise body place scope old popped inner new looks mid later before after stop other none chosen body_is within pushed stops goes =
      went_after (if_chosen over context.levels context.number scope.typing scope.vars arms otherwise body place (given old.answer) (given popped.answer) popped.frames old.frames looks mid before other none chosen body_is within)
      (arm_stopped over context.levels context.number scope.typing scope.vars arms otherwise body place inner new mid later stop pushed body_is stops goes)

  -- ---- an `each`

  pub each_goes_on : (list : Expr) (name : List ℕ) (body : List Node) (walk : Walk) (scope : Scope) (old popped new : Stopped) (looks later : ℕ) (before after : List ℕ) (stop : Flow) → old.frames ≡ frame.Item walk ∷ popped.frames → popped.answer ≡ old.answer
      → WalkGoes context table name body walk scope popped new looks later before after stop → EachGoes context table list name body scope old new looks later before after stop
  unfolding EachGoes WalkGoes
  each_goes_on list name body walk scope old popped new looks later before after stop is same goes =
      subst (λ a. Went (each_left over context.levels context.number list name body scope.typing scope.vars (given a) old.frames) (each_left over context.levels context.number list name body scope.typing scope.vars) new looks later before after stop) same
      (went_from (each_resumed over context.levels context.number scope.typing scope.vars list name body walk (given popped.answer) popped.frames old.frames is) (goes list))

  pub walk_here : (name : List ℕ) (body : List Node) (walk : Walk) (scope : Scope) (old : Stopped) (looks : ℕ) (before : List ℕ) → WalkWentTo context table name body walk walk scope old old looks looks before before
  unfolding WalkWentTo
  walk_here name body walk scope old looks before = along_stays _ looks before

  pub walk_ends : (name : List ℕ) (body : List Node) (walk : Walk) (of : ValueType) (model : ℕ) (ids : List ℕ) (at : ℕ) (scope : Scope) (old now new : Stopped) (looks later : ℕ) (before after : List ℕ) → length ids ≤ at → new.frames ≡ []
      → WalkWentTo context table name body walk (record { of = of; model = model; ids = ids; at = at }) scope old now looks later before after → WalkGoes context table name body walk scope old new looks later before after flow.Done
  unfolding WalkWentTo WalkGoes
  walk_ends name body walk of model ids at scope old now new looks later before after past none so_far list =
      went_done (along_to (walk_past over context.levels context.number name body scope.typing scope.vars of model ids at (given now.answer) now.frames past) so_far) none

  -- an item more is done
  pub walk_goes_on : (name : List ℕ) (body : List Node) (walk : Walk) (of : ValueType) (model : ℕ) (ids : List ℕ) (at : ℕ) (scope bound : Scope) (old now new : Stopped) (looks mid later : ℕ) (before between after : List ℕ) (stop : Flow) → at < length ids
      → bound.typing ≡ scope.typing ++ (name, of) ∷ [] → bound.vars ≡ scope.vars ++ (name, val.Record model (get_or ids at 0)) ∷ [] → is_done stop ≡ true → new.frames ≡ []
      → WalkWentTo context table name body walk (record { of = of; model = model; ids = ids; at = at }) scope old now looks mid before between → NodesGo context table body bound now new mid later between after stop
      → WalkWentTo context table name body walk (record { of = of; model = model; ids = ids; at = at + 1 }) scope old new looks later before after
  unfolding WalkWentTo NodesGo
  walk_goes_on name body walk of model ids at scope bound old now new looks mid later before between after stop within types vars ends none so_far goes =
      walk_more over context.levels context.number name body scope.typing scope.vars of model ids _ at (given now.answer) (given new.answer) now.frames new.frames (nodes_left over context.levels context.number body bound.typing bound.vars) new looks mid later stop within none ends so_far
      (subst (λ t. Went (nodes_left over context.levels context.number body t (scope.vars ++ (name, val.Record model (get_or ids at 0)) ∷ []) (given now.answer) now.frames) (nodes_left over context.levels context.number body bound.typing bound.vars) new mid later between after stop) types
      (subst (λ v. Went (nodes_left over context.levels context.number body bound.typing v (given now.answer) now.frames) (nodes_left over context.levels context.number body bound.typing bound.vars) new mid later between after stop) vars goes))

  -- an item stopped
  pub walk_stops : (name : List ℕ) (body : List Node) (walk : Walk) (of : ValueType) (model : ℕ) (ids : List ℕ) (at : ℕ) (scope bound : Scope) (old now inner new : Stopped) (looks mid later : ℕ) (before between after : List ℕ) (stop : Flow) → at < length ids
      → bound.typing ≡ scope.typing ++ (name, of) ∷ [] → bound.vars ≡ scope.vars ++ (name, val.Record model (get_or ids at 0)) ∷ [] → is_done stop ≡ false → new.frames ≡ frame.Item (record { of = of; model = model; ids = ids; at = at }) ∷ inner.frames
      → WalkWentTo context table name body walk (record { of = of; model = model; ids = ids; at = at }) scope old now looks mid before between → NodesGo context table body bound now inner mid later between after stop
      → WalkGoes context table name body walk scope old new looks later before after stop
  unfolding WalkWentTo NodesGo WalkGoes
  walk_stops name body walk of model ids at scope bound old now inner new looks mid later before between after stop within types vars stops pushed so_far goes list =
      walk_stopped over context.levels context.number name body scope.typing scope.vars of model ids list _ at (given now.answer) now.frames inner new looks mid later stop within pushed stops so_far
      (subst (λ t. Went (nodes_left over context.levels context.number body t (scope.vars ++ (name, val.Record model (get_or ids at 0)) ∷ []) (given now.answer) now.frames) (nodes_left over context.levels context.number body t (scope.vars ++ (name, val.Record model (get_or ids at 0)) ∷ [])) inner mid later between after stop) types
      (subst (λ v. Went (nodes_left over context.levels context.number body bound.typing v (given now.answer) now.frames) (nodes_left over context.levels context.number body bound.typing v) inner mid later between after stop) vars goes))

  -- ---- a block

  pub block_hit : (block : ℕ) (key : List KeyPart) (body : List Node) (kept : BlockKey) (bytes : List ℕ) (scope : Scope) (old popped new : Stopped) (looks : ℕ) (before after : List ℕ) → old.frames ≡ frame.Asked kept ∷ popped.frames → (given old.answer).one ≡ Some bytes → new.frames ≡ []
      → after ≡ before ++ bytes → BlockGoes context table block key body scope old new looks looks before after flow.Done
  unfolding BlockGoes
  block_hit block key body kept bytes scope old popped new looks before after is found none written =
      went_from (block_found over context.levels context.number block key body scope.typing scope.vars (given old.answer) kept bytes popped.frames old.frames is found) (went_done (along_text bytes (λ rest. rest) looks written) none)

  pub block_miss : (block : ℕ) (key : List KeyPart) (body : List Node) (kept : BlockKey) (scope : Scope) (old popped cleared new : Stopped) (looks later : ℕ) (before after : List ℕ) (stop : Flow) → old.frames ≡ frame.Asked kept ∷ popped.frames → (given old.answer).one ≡ None → cleared.frames ≡ []
      → BodyGoes context table block kept body [] scope cleared new looks later before after stop → BlockGoes context table block key body scope old new looks later before after stop
  unfolding BlockGoes BodyGoes
  block_miss block key body kept scope old popped cleared new looks later before after stop is found none goes =
      went_from (block_missed over context.levels context.number block key body scope.typing scope.vars (given old.answer) (given cleared.answer) kept popped.frames old.frames cleared.frames is found none) (goes key)

  pub block_goes_on : (block : ℕ) (key : List KeyPart) (body : List Node) (kept : BlockKey) (written : List ℕ) (scope : Scope) (old popped new : Stopped) (looks later : ℕ) (before after : List ℕ) (stop : Flow) → old.frames ≡ frame.Body kept written ∷ popped.frames → popped.answer ≡ old.answer
      → BodyGoes context table block kept body written scope popped new looks later before after stop → BlockGoes context table block key body scope old new looks later before after stop
  unfolding BlockGoes BodyGoes
  block_goes_on block key body kept written scope old popped new looks later before after stop is same goes =
      went_from (ap (λ a. block_left over context.levels context.number block key body scope.typing scope.vars (given a) old.frames) (sym same) ∙ block_resumed over context.levels context.number block key body scope.typing scope.vars (given popped.answer) kept written popped.frames old.frames is) (goes key)

  pub block_was_handed : (block : ℕ) (key : List KeyPart) (body : List Node) (scope : Scope) (old popped new : Stopped) (looks : ℕ) (before : List ℕ) → old.frames ≡ frame.Behind ∷ popped.frames → new.frames ≡ [] → BlockGoes context table block key body scope old new looks looks before before flow.Done
  unfolding BlockGoes
  block_was_handed block key body scope old popped new looks before is none =
      went_from (block_behind over context.levels context.number block key body scope.typing scope.vars (given old.answer) popped.frames old.frames is) (went_done (along_stays (λ rest. rest) looks before) none)

  pub body_stops_here : (block : ℕ) (key : BlockKey) (body : List Node) (written all : List ℕ) (scope : Scope) (old inner new : Stopped) (looks later : ℕ) (outer : List ℕ) (stop : Flow) → is_done stop ≡ false → new.frames ≡ frame.Body key all ∷ inner.frames
      → NodesGo context table body scope old inner looks later written all stop → BodyGoes context table block key body written scope old new looks later outer outer stop
  unfolding BodyGoes NodesGo
  body_stops_here block key body written all scope old inner new looks later outer stop stops pushed goes parts =
      body_stops over context.levels context.number block parts body scope.typing scope.vars key (given old.answer) old.frames inner new looks later written all outer stop stops pushed goes

  pub body_ends_here : (block : ℕ) (key : BlockKey) (body : List Node) (written all : List ℕ) (behind : List Frame) (fresh : Fresh) (scope : Scope) (old inner new : Stopped) (looks later : ℕ) (before after : List ℕ) (stop : Flow) → is_done stop ≡ true → new.frames ≡ frame.Behind ∷ behind
      → fresh ≡ fresh_of key scope.vars (block_id context.tree context.number block) all context.moment → after ≡ before ++ all
      → NodesGo context table body scope old inner looks later written all stop → BodyGoes context table block key body written scope old new looks later before after (flow.Write fresh)
  unfolding BodyGoes NodesGo
  body_ends_here block key body written all behind fresh scope old inner new looks later before after stop ends pushed of_key appended goes parts =
      body_ends over context.levels context.number block parts body scope.typing scope.vars key (given old.answer) old.frames behind inner new looks later written all before after stop fresh ends pushed of_key appended goes

  -- ---- a partial

  pub partial_goes_on : (number : ℕ) (own : Scope) (old new : Stopped) (looks later : ℕ) (before after : List ℕ) (stop : Flow) → is_done stop ≡ true → TemplateGoes context table number own old new looks later before after stop → PartialGoes context table number own old new looks later before after stop
  unfolding PartialGoes TemplateGoes
  partial_goes_on number own old new looks later before after stop ends goes name locals typing vars = went_ended ends goes

  pub partial_stops_here : (number : ℕ) (own : Scope) (old inner new : Stopped) (looks later : ℕ) (before after : List ℕ) (stop : Flow) → is_done stop ≡ false → new.frames ≡ frame.Partial number own ∷ inner.frames
      → TemplateGoes context table number own old inner looks later before after stop → PartialGoes context table number own old new looks later before after stop
  unfolding PartialGoes TemplateGoes
  partial_stops_here number own old inner new looks later before after stop stops pushed goes name locals typing vars =
      partial_stops over context.levels context.number name locals typing vars number own inner new looks later stop stops pushed goes

  pub render_goes_on : (name : List ℕ) (locals : List Local) (number : ℕ) (own scope : Scope) (old popped new : Stopped) (looks later : ℕ) (before after : List ℕ) (stop : Flow) → old.frames ≡ frame.Partial number own ∷ popped.frames → popped.answer ≡ old.answer
      → PartialGoes context table number own popped new looks later before after stop → RenderGoes context table name locals scope old new looks later before after stop
  unfolding PartialGoes RenderGoes
  render_goes_on name locals number own scope old popped new looks later before after stop is same goes =
      went_from (ap (λ a. render_left over context.levels context.number name locals scope.typing scope.vars (given a) old.frames) (sym same) ∙ render_resumed over context.levels context.number name locals scope.typing scope.vars (given popped.answer) number own popped.frames old.frames is) (goes name locals scope.typing scope.vars)
