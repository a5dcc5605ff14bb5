-- What the steps between the parts of a rendering lead to, by what carrying each part on comes to.
use Rattle.std.proofs.Common.{◌≡◌, ℕ, zero, suc, ◌+◌, ◌<◌, ◌≤◌, Bool, true, false, List, [], ◌∷◌, ◌++◌, length, get_or, Option, None, Some, Result, Ok, Err, refl, ap, sym, subst, ◌∙◌, arith}
use Rattle.doll_expr.specs.declared.expr.Expr.{Expr}
use Rattle.doll_erb.specs.declared.node.Arm.{Arm}
use Rattle.doll_erb.specs.declared.node.KeyPart.{KeyPart}
use Rattle.doll_erb.specs.declared.node.Local.{Local}
use Rattle.doll_erb.specs.declared.node.Node.{Node}
use Rattle.doll_entry.specs.declared.asks.Fetched.{Fetched}
use Rattle.doll_entry.specs.declared.entry.Fresh.{Fresh}
use Rattle.doll_lint.specs.Blocks.{item_number}
use Rattle.std.specs.Option.{option_map_or}
use Rattle.std.specs.Prelude.{slice_get}
use Rattle.doll_schema.specs.declared.value.Val.{Val}
use Rattle.doll_schema.specs.declared.value.Val.TheVariants as val
use Rattle.doll_types.specs.declared.types.TypeKind.{TypeKind}
use Rattle.doll_table.specs.Tables.{TableMap}
use Rattle.doll_types.specs.declared.types.ValueType.{ValueType}
use Rattle.doll_types.specs.Findings.{items_type, locals_typing}
use Rattle.doll_types.specs.Types.{Typing}
use Rattle.doll_plain.specs.Direct.{Variables}
use Rattle.doll_run.specs.Pages.{Ground}
use Rattle.doll_run.specs.Rendering.{items_run, locals_looks, locals_on, looks_on, value_on}
use Rattle.doll_frames.specs.Along.{Went}
use Rattle.doll_frames.specs.Arms.{chosen_place, tests_looks}
use Rattle.doll_frames.specs.Carried.{BlockGoes, BodyGoes, CollectionGoes, EachGoes, KeptGo, KeptWentTo, MembersGo, MissedGoes, NodesGo, PartialGoes, RenderGoes, TemplateGoes, WalkGoes, WalkWentTo}
use Rattle.doll_frames.specs.Contexts.{over_of}
use Rattle.doll_frames.specs.Flows.{block_id, fresh_of, is_done}
use Rattle.doll_frames.specs.Left.{block_anew, block_left, collection_left, stage_at}
use Rattle.doll_frames.specs.Scopes.{locals_by}
use Rattle.doll_frames.specs.Stacks.{Stopped, first_is, fragment, fragments, given, is_arm, is_block, is_collection, is_item, is_partial}
use Rattle.doll_frames.specs.Walks.{items_in, walk_by}
use Rattle.doll_frames.specs.declared.context.Context.{Context}
use Rattle.doll_frames.specs.declared.flow.Flow.{Flow}
use Rattle.doll_frames.specs.declared.flow.Flow.TheVariants as flow
use Rattle.doll_frames.specs.declared.frame.Frame.{Frame}
use Rattle.doll_frames.specs.declared.frame.Frame.TheVariants as frame
use Rattle.doll_frames.specs.declared.frame.Kept.{Kept}
use Rattle.doll_frames.specs.declared.frame.KeptItem.{KeptItem}
use Rattle.doll_frames.specs.declared.keys.BlockKey.{BlockKey}
use Rattle.doll_frames.specs.declared.scope.Scope.{Scope}
use Rattle.doll_frames.specs.declared.walk.Walk.{Walk}
use Rattle.doll_frames.proofs.Carrying.{block_goes_on, block_hit, block_miss, block_was_handed, each_goes_on, if_begins, if_begins_and_stops, if_goes_on, if_stops, render_goes_on, walk_ends, walk_goes_on, walk_here, walk_stops}
use Rattle.doll_frames.proofs.Collecting.{collection_anew_goes, collection_answered, collection_gone, collection_members, collection_misses, collection_untyped, collection_walks, collection_was_handed, kept_end, kept_go_on, kept_here, kept_misses, missed_end, missed_stop, render_begins, render_gone, render_untyped}
use Rattle.doll_frames.proofs.Wents.{went_after}
use Rattle.doll_job.specs.Steps.{ArmLeads, BlockLeads, CollectionLeads, EachLeads, IsMissed, KeptLeads, RenderLeads}
use Rattle.doll_job.specs.declared.steps.BlockStep.TheVariants as block
use Rattle.doll_job.specs.declared.steps.CollectionStep.{CollectionStep}
use Rattle.doll_job.specs.declared.steps.CollectionStep.TheVariants as collection
use Rattle.doll_job.proofs.Begun.{block_begins, collection_asks, each_begins, each_untyped}

pub scope_is : (own : Scope) (typing : Typing) (vars : Variables) → own.typing ≡ typing → own.vars ≡ vars → own ≡ record { typing = typing; vars = vars }
scope_is own typing vars types values = λ i. record { typing = types i; vars = values i }

-- what was found at a place
pub found_none : (found : List Fetched) (at : ℕ) → slice_get found at ≡ None → get_or (fragments found) at None ≡ None
found_none [] at is = refl
found_none (one ∷ found) zero is = absurd (cc is)
found_none (one ∷ found) (suc at) is = found_none found at is

pub found_some : (found : List Fetched) (at : ℕ) (one : Fetched) → slice_get found at ≡ Some one → get_or (fragments found) at None ≡ fragment one
found_some [] at one is = absurd (cc is)
found_some (other ∷ found) zero one is = ap (λ o. option_map_or fragment o None) is
found_some (other ∷ found) (suc at) one is = found_some found at one is

-- a walk that begins has passed nothing
at_first : (types : Result ValueType TypeKind) (v : Val) → option_map_or (λ (w : Walk). w.at) (walk_by types v) 0 ≡ 0
at_first (Err kind) v = refl
at_first (Ok of) (val.Plain v) = refl
at_first (Ok of) (val.Record model id) = refl
at_first (Ok of) (val.List model ids) = refl

pub walk_first : (types : Result ValueType TypeKind) (v : Val) (walks : Option Walk) (walk : Walk) → walks ≡ walk_by types v → walks ≡ Some walk → walk.at ≡ 0
walk_first types v walks walk is there = ap (λ o. option_map_or (λ (w : Walk). w.at) o 0) (sym there ∙ is) ∙ at_first types v

-- an item that is there, whatever stands in its place where it isn't
get_same : (items : List KeptItem) (at : ℕ) (one other : KeptItem) → at < length items → get_or items at one ≡ get_or items at other
get_same [] at one other within = absurd (omega arith)
get_same (x ∷ items) zero one other within = refl
get_same (x ∷ items) (suc at) one other within = get_same items at one other (omega arith)

pub item_there : (items : List KeptItem) (at : ℕ) → at < length items → (one : KeptItem) × (one ≡ get_or items at one)
item_there [] at within = absurd (omega arith)
item_there (x ∷ items) zero within = (x, refl)
item_there (x ∷ items) (suc at) within = item_there items at (omega arith)

module _ (context : Context) (table : TableMap) where
  abbrev over : Ground
  over = over_of context table

  -- ---- arms

  pub arm_again : (arms : List Arm) (otherwise : List Node) (scope : Scope) (place : ℕ) (old popped : Stopped) (looks : ℕ) (before : List ℕ) → old.frames ≡ frame.Arm place ∷ popped.frames → popped.answer ≡ old.answer
      → ArmLeads context table arms otherwise scope place old popped looks looks before
  arm_again arms otherwise scope place old popped looks before is same = record {
    ends = λ body new later after stop body_is done goes. if_goes_on context table arms otherwise body place scope old popped new looks later before after stop is same body_is done goes;
    stops = λ body inner new later after stop body_is pushed stops goes. if_stops context table arms otherwise body place scope old popped inner new looks later before after stop is same body_is pushed stops goes;
  }

  pub arm_chosen : (arms : List Arm) (otherwise : List Node) (scope : Scope) (place : ℕ) (old popped : Stopped) (looks mid : ℕ) (before : List ℕ) → first_is is_arm old.frames ≡ false → popped.frames ≡ []
      → place ≡ chosen_place over.schema table arms scope.vars → mid ≤ looks + tests_looks over.schema table arms scope.vars → ArmLeads context table arms otherwise scope place old popped looks mid before
  arm_chosen arms otherwise scope place old popped looks mid before other none chosen within = record {
    ends = λ body new later after stop body_is done goes. if_begins context table arms otherwise body place scope old popped new looks mid later before after stop other none chosen body_is within done goes;
    stops = λ body inner new later after stop body_is pushed stops goes. if_begins_and_stops context table arms otherwise body place scope old popped inner new looks mid later before after stop other none chosen body_is within pushed stops goes;
  }

  -- ---- an `each`

  pub each_again : (list : Expr) (name : List ℕ) (body : List Node) (scope : Scope) (walk : Walk) (old popped : Stopped) (looks : ℕ) (before : List ℕ) → old.frames ≡ frame.Item walk ∷ popped.frames → popped.answer ≡ old.answer
      → EachLeads context table list name body scope old popped looks looks before before (Some walk)
  unfolding EachLeads
  each_again list name body scope walk old popped looks before is same = λ new later after stop goes. each_goes_on context table list name body walk scope old popped new looks later before after stop is same goes

  pub each_started : (list : Expr) (name : List ℕ) (body : List Node) (scope : Scope) (walks : Option Walk) (old popped : Stopped) (looks mid : ℕ) (before : List ℕ) → first_is is_item old.frames ≡ false → popped.frames ≡ []
      → walks ≡ walk_by (items_type over.schema scope.typing list) (value_on (stage_at over context.levels context.number) list scope.vars) → mid ≤ looks + looks_on (stage_at over context.levels context.number) list scope.vars
      → EachLeads context table list name body scope old popped looks mid before before walks
  unfolding EachLeads
  each_started list name body scope None old popped looks mid before other none is within = each_untyped context table list name body None scope old popped looks mid before other is within refl none
  each_started list name body scope (Some walk) old popped looks mid before other none is within = λ new later after stop goes.
      each_begins context table list name body (Some walk) walk scope old popped new looks mid later before after stop other none is within refl goes

  pub each_none : (list : Expr) (name : List ℕ) (body : List Node) (scope : Scope) (walks : Option Walk) (old popped : Stopped) (looks mid : ℕ) (before between : List ℕ) → walks ≡ None
      → EachLeads context table list name body scope old popped looks mid before between walks → EachGoes context table list name body scope old popped looks mid before between flow.Done
  unfolding EachLeads
  each_none list name body scope walks old popped looks mid before between is leads = subst (EachLeads context table list name body scope old popped looks mid before between) is leads

  walk_then : (name : List ℕ) (body : List Node) (walk now : Walk) (scope : Scope) (old mid_stack new : Stopped) (looks mid later : ℕ) (before between after : List ℕ) (stop : Flow)
      → WalkWentTo context table name body walk now scope old mid_stack looks mid before between → WalkGoes context table name body now scope mid_stack new mid later between after stop → WalkGoes context table name body walk scope old new looks later before after stop
  unfolding WalkWentTo WalkGoes
  walk_then name body walk now scope old mid_stack new looks mid later before between after stop so_far goes list = went_after so_far (goes list)

  module _ (list : Expr) (name : List ℕ) (body : List Node) (scope : Scope) (of : ValueType) (model : ℕ) (ids : List ℕ) (at : ℕ) where
    abbrev here : ℕ → Walk
    here place = record { of = of; model = model; ids = ids; at = place }

    -- an item more is done
    pub each_on : (bound : Scope) (old now new : Stopped) (looks mid later : ℕ) (before between after : List ℕ) (stop : Flow) → at < length ids
        → bound.typing ≡ scope.typing ++ (name, of) ∷ [] → bound.vars ≡ scope.vars ++ (name, val.Record model (get_or ids at 0)) ∷ [] → is_done stop ≡ true → new.frames ≡ []
        → EachLeads context table list name body scope old now looks mid before between (Some (here at)) → NodesGo context table body bound now new mid later between after stop
        → EachLeads context table list name body scope old new looks later before after (Some (here (at + 1)))
    unfolding EachLeads
    each_on bound old now new looks mid later before between after stop within types vars ends none leads goes = λ last end whole final rest.
        leads last end whole final
        (walk_then name body (here at) (here (at + 1)) scope now new last mid later end between after whole final
        (walk_goes_on context table name body (here at) of model ids at scope bound now now new mid mid later between between after stop within types vars ends none (walk_here context table name body (here at) scope now mid between) goes) rest)

    -- an item stopped
    pub each_stops : (bound : Scope) (old now inner new : Stopped) (looks mid later : ℕ) (before between after : List ℕ) (stop : Flow) → at < length ids
        → bound.typing ≡ scope.typing ++ (name, of) ∷ [] → bound.vars ≡ scope.vars ++ (name, val.Record model (get_or ids at 0)) ∷ [] → is_done stop ≡ false → new.frames ≡ frame.Item (here at) ∷ inner.frames
        → EachLeads context table list name body scope old now looks mid before between (Some (here at)) → NodesGo context table body bound now inner mid later between after stop
        → EachGoes context table list name body scope old new looks later before after stop
    unfolding EachLeads
    each_stops bound old now inner new looks mid later before between after stop within types vars stops pushed leads goes =
        leads new later after stop (walk_stops context table name body (here at) of model ids at scope bound now now inner new mid mid later between between after stop within types vars stops pushed (walk_here context table name body (here at) scope now mid between) goes)

    -- all are done
    pub each_ends : (old now new : Stopped) (looks mid : ℕ) (before between : List ℕ) → length ids ≤ at → new.frames ≡ []
        → EachLeads context table list name body scope old now looks mid before between (Some (here at)) → EachGoes context table list name body scope old new looks mid before between flow.Done
    unfolding EachLeads
    each_ends old now new looks mid before between past none leads =
        leads new mid between flow.Done (walk_ends context table name body (here at) of model ids at scope now now new mid mid between between past none (walk_here context table name body (here at) scope now mid between))

  -- ---- a partial

  module _ (name : List ℕ) (locals : List Local) (scope : Scope) where
    pub render_again : (at : ℕ × Scope) (old popped : Stopped) (looks : ℕ) (before : List ℕ) → old.frames ≡ frame.Partial at.0 at.1 ∷ popped.frames → popped.answer ≡ old.answer
        → RenderLeads context table name locals scope old popped looks looks before (Some at)
    unfolding RenderLeads
    render_again at old popped looks before is same = λ new later after stop goes. render_goes_on context table name locals at.0 at.1 scope old popped new looks later before after stop is same goes

    pub render_typeless : (own : Option Scope) (old popped : Stopped) (looks mid : ℕ) (before : List ℕ) → first_is is_partial old.frames ≡ false → own ≡ locals_by (locals_typing over.schema scope.typing locals) (locals_on (stage_at over context.levels context.number) locals scope.vars)
        → mid ≤ looks + locals_looks (stage_at over context.levels context.number) locals scope.vars → own ≡ None → popped.frames ≡ [] → RenderLeads context table name locals scope old popped looks mid before None
    unfolding RenderLeads
    render_typeless own old popped looks mid before other is within none ended = render_untyped context table name locals scope own old popped looks mid before other is within none ended

    pub render_lost : (own : Option Scope) (old popped : Stopped) (looks mid : ℕ) (before : List ℕ) → first_is is_partial old.frames ≡ false → own ≡ locals_by (locals_typing over.schema scope.typing locals) (locals_on (stage_at over context.levels context.number) locals scope.vars)
        → mid ≤ looks + locals_looks (stage_at over context.levels context.number) locals scope.vars → (stage_at over context.levels context.number).partial name ≡ None → popped.frames ≡ [] → RenderLeads context table name locals scope old popped looks mid before None
    unfolding RenderLeads
    render_lost own old popped looks mid before other is within unknown ended = render_gone context table name locals scope own old popped looks mid before other is within unknown ended

    pub render_started : (own : Option Scope) (mine : Scope) (partial : ℕ) (old popped : Stopped) (looks mid : ℕ) (before : List ℕ) → first_is is_partial old.frames ≡ false
        → own ≡ locals_by (locals_typing over.schema scope.typing locals) (locals_on (stage_at over context.levels context.number) locals scope.vars) → mid ≤ looks + locals_looks (stage_at over context.levels context.number) locals scope.vars
        → own ≡ Some mine → (stage_at over context.levels context.number).partial name ≡ Some partial → popped.frames ≡ [] → RenderLeads context table name locals scope old popped looks mid before (Some (partial, mine))
    unfolding RenderLeads
    render_started own mine partial old popped looks mid before other is within has known none = λ new later after stop goes.
        render_begins context table name locals scope mine own partial old popped new looks mid later before after stop other is within has known none goes

    pub render_led : (at : ℕ × Scope) (old popped new : Stopped) (looks mid later : ℕ) (before after : List ℕ) (stop : Flow) (found : Option (ℕ × Scope)) → found ≡ Some at → RenderLeads context table name locals scope old popped looks mid before found
        → PartialGoes context table at.0 at.1 popped new mid later before after stop → RenderGoes context table name locals scope old new looks later before after stop
    unfolding RenderLeads
    render_led at old popped new looks mid later before after stop found is leads goes = subst (RenderLeads context table name locals scope old popped looks mid before) is leads new later after stop goes

    pub render_nowhere : (old popped : Stopped) (looks mid : ℕ) (before : List ℕ) (found : Option (ℕ × Scope)) → found ≡ None → RenderLeads context table name locals scope old popped looks mid before found
        → RenderGoes context table name locals scope old popped looks mid before before flow.Done
    unfolding RenderLeads
    render_nowhere old popped looks mid before found is leads = subst (RenderLeads context table name locals scope old popped looks mid before) is leads

  -- ---- a block

  module _ (number : ℕ) (key : List KeyPart) (body : List Node) (scope : Scope) where
    pub block_asked : (old popped : Stopped) (looks mid : ℕ) (before : List ℕ) (stop : Flow) → first_is is_block old.frames ≡ false
        → Went (block_anew (stage_at over context.levels context.number) number key body scope.typing scope.vars) (block_left over context.levels context.number number key body scope.typing scope.vars) popped looks mid [] [] stop
        → BlockLeads context table number key body scope old popped looks mid before before (block.Stops stop)
    unfolding BlockLeads
    block_asked old popped looks mid before stop other went = block_begins context table number key body scope old popped looks mid before stop other went

    pub block_found : (kept : BlockKey) (bytes : List ℕ) (old popped new : Stopped) (looks : ℕ) (before after : List ℕ) → old.frames ≡ frame.Asked kept ∷ popped.frames → (given old.answer).one ≡ Some bytes → new.frames ≡ []
        → after ≡ before ++ bytes → BlockLeads context table number key body scope old new looks looks before after (block.Stops flow.Done)
    unfolding BlockLeads
    block_found kept bytes old popped new looks before after is found none written = block_hit context table number key body kept bytes scope old popped new looks before after is found none written

    pub block_missing : (kept : BlockKey) (written : List ℕ) (old popped cleared : Stopped) (looks : ℕ) (before : List ℕ) → old.frames ≡ frame.Asked kept ∷ popped.frames → (given old.answer).one ≡ None → cleared.frames ≡ [] → written ≡ []
        → BlockLeads context table number key body scope old cleared looks looks before before (block.Body kept written)
    unfolding BlockLeads
    block_missing kept written old popped cleared looks before is found none empty = λ new later after stop goes.
        block_miss context table number key body kept scope old popped cleared new looks later before after stop is found none
        (subst (λ w. BodyGoes context table number kept body w scope cleared new looks later before after stop) empty goes)

    pub block_again : (kept : BlockKey) (written : List ℕ) (old popped : Stopped) (looks : ℕ) (before : List ℕ) → old.frames ≡ frame.Body kept written ∷ popped.frames → popped.answer ≡ old.answer
        → BlockLeads context table number key body scope old popped looks looks before before (block.Body kept written)
    unfolding BlockLeads
    block_again kept written old popped looks before is same = λ new later after stop goes. block_goes_on context table number key body kept written scope old popped new looks later before after stop is same goes

    pub block_past : (old popped new : Stopped) (looks : ℕ) (before : List ℕ) → old.frames ≡ frame.Behind ∷ popped.frames → new.frames ≡ [] → BlockLeads context table number key body scope old new looks looks before before (block.Stops flow.Done)
    unfolding BlockLeads
    block_past old popped new looks before is none = block_was_handed context table number key body scope old popped new looks before is none

    pub block_stopped : (old popped : Stopped) (looks mid : ℕ) (before between : List ℕ) (stop : Flow) → BlockLeads context table number key body scope old popped looks mid before between (block.Stops stop) → BlockGoes context table number key body scope old popped looks mid before between stop
    unfolding BlockLeads
    block_stopped old popped looks mid before between stop leads = leads

    pub block_led : (kept : BlockKey) (written : List ℕ) (old popped new : Stopped) (looks mid later : ℕ) (before between after : List ℕ) (stop : Flow) → BlockLeads context table number key body scope old popped looks mid before between (block.Body kept written)
        → BodyGoes context table number kept body written scope popped new mid later between after stop → BlockGoes context table number key body scope old new looks later before after stop
    unfolding BlockLeads
    block_led kept written old popped new looks mid later before between after stop leads goes = leads new later after stop goes

  -- ---- kept items

  pub kept_starts : (item : List ℕ) (kept : Kept) (looks : ℕ) (before : List ℕ) → KeptWentTo context table item kept kept looks looks before before
  kept_starts item kept looks before = kept_here context table item kept looks before

  pub kept_all : (item : List ℕ) (whole kept : Kept) (looks : ℕ) (before between : List ℕ) → length kept.items ≤ kept.at → KeptWentTo context table item whole kept looks looks before between → KeptLeads context table item whole looks before between (collection.Stops flow.Done)
  unfolding KeptLeads
  kept_all item whole kept looks before between past so_far = λ new none. kept_end context table item whole kept new looks looks before between past none so_far

  pub kept_on : (item : List ℕ) (whole kept : Kept) (bytes : List ℕ) (looks : ℕ) (before between after : List ℕ) → kept.at < length kept.items → get_or (fragments kept.found) kept.at None ≡ Some bytes → after ≡ between ++ bytes
      → KeptWentTo context table item whole kept looks looks before between → KeptWentTo context table item whole (record { partial = kept.partial; of = kept.of; model = kept.model; items = kept.items; at = kept.at + 1; found = kept.found }) looks looks before after
  kept_on item whole kept bytes looks before between after within is appended so_far =
      let one = item_there kept.items kept.at within in
      kept_go_on context table item whole kept one.0 bytes looks looks before between after within one.1 is appended so_far

  pub kept_lacks : (item : List ℕ) (whole kept : Kept) (written : List ℕ) (looks : ℕ) (before between : List ℕ) → kept.at < length kept.items → get_or (fragments kept.found) kept.at None ≡ None → written ≡ []
      → KeptWentTo context table item whole kept looks looks before between → KeptLeads context table item whole looks before between (collection.Missed kept written)
  unfolding KeptLeads
  kept_lacks item whole kept written looks before between within none empty so_far = λ popped new later after stop ended goes.
      kept_misses context table item whole kept (item_there kept.items kept.at within).0 popped new looks looks later before between after stop within (item_there kept.items kept.at within).1 none ended so_far
      (subst (λ w. MissedGoes context table item kept w popped new looks later between after stop) empty goes)

  -- ---- a collection

  module _ (name : List ℕ) (list : Expr) (item : List ℕ) (cached : Bool) (scope : Scope) where
    pub collection_of_kept : (kept : Kept) (old new : Stopped) (looks : ℕ) (before between : List ℕ) (step : CollectionStep) → new.frames ≡ []
        → ((last : Stopped) (later : ℕ) (after : List ℕ) (stop : Flow) → KeptGo context table item kept last looks later before after stop → CollectionGoes context table name list item cached scope old last looks later before after stop)
        → KeptLeads context table item kept looks before between step → CollectionLeads context table name list item cached scope old new looks looks before between step
    unfolding KeptLeads CollectionLeads
    collection_of_kept kept old new looks before between (collection.Stops stop) none whole leads = whole new looks between stop (leads new none)
    collection_of_kept kept old new looks before between (collection.Members partial walk) none whole leads = absurd leads
    collection_of_kept kept old new looks before between (collection.Missed now written) none whole leads = λ last later after stop goes. whole last later after stop (leads new last later after stop none goes)

    pub collection_again : (partial : ℕ) (walk : Walk) (old popped : Stopped) (looks : ℕ) (before : List ℕ) → old.frames ≡ frame.Member partial walk ∷ popped.frames → popped.answer ≡ old.answer
        → CollectionLeads context table name list item cached scope old popped looks looks before before (collection.Members partial walk)
    unfolding CollectionLeads
    collection_again partial walk old popped looks before is same = λ new later after stop goes. collection_members context table name list item cached scope partial walk old popped new looks later before after stop is same goes

    pub collection_lacks : (kept : Kept) (written : List ℕ) (old popped : Stopped) (looks : ℕ) (before : List ℕ) → old.frames ≡ frame.Missed kept written ∷ popped.frames → popped.answer ≡ old.answer
        → CollectionLeads context table name list item cached scope old popped looks looks before before (collection.Missed kept written)
    unfolding CollectionLeads
    collection_lacks kept written old popped looks before is same = λ new later after stop goes. collection_misses context table name list item cached scope kept written old popped new looks later before after stop is same goes

    pub collection_told : (kept : Kept) (found : List Fetched) (old popped new : Stopped) (looks : ℕ) (before between : List ℕ) (step : CollectionStep) → old.frames ≡ frame.AskedMany kept ∷ popped.frames → fragments found ≡ (given old.answer).many → new.frames ≡ []
        → KeptLeads context table item (record { partial = kept.partial; of = kept.of; model = kept.model; items = kept.items; at = kept.at; found = found }) looks before between step
        → CollectionLeads context table name list item cached scope old new looks looks before between step
    collection_told kept found old popped new looks before between step is answered none leads =
        collection_of_kept (record { partial = kept.partial; of = kept.of; model = kept.model; items = kept.items; at = kept.at; found = found }) old new looks before between step none
        (λ last later after stop goes. collection_answered context table name list item cached scope kept found old popped last looks later before after stop is answered goes) leads

    pub collection_handed : (kept : Kept) (old popped new : Stopped) (looks : ℕ) (before between : List ℕ) (step : CollectionStep) → old.frames ≡ frame.HandedIn kept ∷ popped.frames → new.frames ≡ []
        → KeptLeads context table item kept looks before between step → CollectionLeads context table name list item cached scope old new looks looks before between step
    collection_handed kept old popped new looks before between step is none leads =
        collection_of_kept kept old new looks before between step none (λ last later after stop goes. collection_was_handed context table name list item cached scope kept old popped last looks later before after stop is goes) leads

    module _ (walks : Option Walk) (old popped : Stopped) (looks mid : ℕ) (before : List ℕ) (other : first_is is_collection old.frames ≡ false) (none : popped.frames ≡ [])
        (is : walks ≡ walk_by (items_type over.schema scope.typing list) (value_on (stage_at over context.levels context.number) list scope.vars)) (within : mid ≤ looks + looks_on (stage_at over context.levels context.number) list scope.vars) where
      pub collection_typeless : walks ≡ None → CollectionLeads context table name list item cached scope old popped looks mid before before (collection.Stops flow.Done)
      unfolding CollectionLeads
      collection_typeless lacks = collection_anew_goes context table name list item cached scope old popped looks mid before before flow.Done other (collection_untyped context table name list item cached scope walks popped looks mid before (is, within) lacks none)

      pub collection_lost : (stage_at over context.levels context.number).partial name ≡ None → CollectionLeads context table name list item cached scope old popped looks mid before before (collection.Stops flow.Done)
      unfolding CollectionLeads
      collection_lost unknown = collection_anew_goes context table name list item cached scope old popped looks mid before before flow.Done other (collection_gone context table name list item cached scope walks popped looks mid before (is, within) unknown none)

      pub collection_started : (walk : Walk) (partial : ℕ) → walks ≡ Some walk → (stage_at over context.levels context.number).partial name ≡ Some partial → cached ≡ false → walk.at ≡ 0
          → CollectionLeads context table name list item cached scope old popped looks mid before before (collection.Members partial walk)
      unfolding CollectionLeads
      collection_started walk partial there known plain first = λ new later after stop goes.
          collection_anew_goes context table name list item cached scope old new looks later before after stop other
          (collection_walks context table name list item cached scope walks walk partial popped new looks mid later before after stop (is, within) there known plain first none goes)

    pub collection_asked : (walks : Option Walk) (walk : Walk) (partial : ℕ) (old new : Stopped) (looks mid later : ℕ) (before : List ℕ) (stop : Flow) → first_is is_collection old.frames ≡ false
        → walks ≡ walk_by (items_type over.schema scope.typing list) (value_on (stage_at over context.levels context.number) list scope.vars) → mid ≤ looks + looks_on (stage_at over context.levels context.number) list scope.vars
        → walks ≡ Some walk → (stage_at over context.levels context.number).partial name ≡ Some partial → cached ≡ true
        → Went (items_run (stage_at over context.levels context.number) partial item walk.of (items_in walk)) (collection_left over context.levels context.number name list item cached scope.typing scope.vars) new mid later [] [] stop
        → CollectionLeads context table name list item cached scope old new looks later before before (collection.Stops stop)
    unfolding CollectionLeads
    collection_asked walks walk partial old new looks mid later before stop other is within there known kept went =
        collection_anew_goes context table name list item cached scope old new looks later before before stop other
        (collection_asks context table name list item cached scope walks walk partial new looks mid later before stop is within there known kept went)

    pub collection_stopped : (old popped : Stopped) (looks mid : ℕ) (before between : List ℕ) (stop : Flow) → CollectionLeads context table name list item cached scope old popped looks mid before between (collection.Stops stop)
        → CollectionGoes context table name list item cached scope old popped looks mid before between stop
    unfolding CollectionLeads
    collection_stopped old popped looks mid before between stop leads = leads

    pub members_led : (partial : ℕ) (walk : Walk) (old popped new : Stopped) (looks mid later : ℕ) (before between after : List ℕ) (stop : Flow) → CollectionLeads context table name list item cached scope old popped looks mid before between (collection.Members partial walk)
        → MembersGo context table partial item walk popped new mid later between after stop → CollectionGoes context table name list item cached scope old new looks later before after stop
    unfolding CollectionLeads
    members_led partial walk old popped new looks mid later before between after stop leads goes = leads new later after stop goes

    pub missed_led : (kept : Kept) (written : List ℕ) (old popped new : Stopped) (looks mid later : ℕ) (before between after : List ℕ) (stop : Flow) → CollectionLeads context table name list item cached scope old popped looks mid before between (collection.Missed kept written)
        → MissedGoes context table item kept written popped new mid later between after stop → CollectionGoes context table name list item cached scope old new looks later before after stop
    unfolding CollectionLeads
    missed_led kept written old popped new looks mid later before between after stop leads goes = leads new later after stop goes

  -- ---- an item that missed

  pub missed_stops : (item : List ℕ) (kept : Kept) (own : Scope) (written all : List ℕ) (old inner new : Stopped) (looks later : ℕ) (outer : List ℕ) (stop : Flow) → IsMissed item kept own → is_done stop ≡ false → new.frames ≡ frame.Missed kept all ∷ inner.frames
      → TemplateGoes context table kept.partial own old inner looks later written all stop → MissedGoes context table item kept written old new looks later outer outer stop
  missed_stops item kept own written all old inner new looks later outer stop missed stops pushed goes =
      missed_stop context table item kept missed.one own written all old inner new looks later outer stop missed.within missed.there missed.is stops pushed goes

  pub missed_ends : (item : List ℕ) (kept : Kept) (own : Scope) (one : KeptItem) (written all : List ℕ) (behind : List Frame) (fresh : Fresh) (old inner new : Stopped) (looks later : ℕ) (before after : List ℕ) (stop : Flow) → IsMissed item kept own → is_done stop ≡ true
      → new.frames ≡ frame.HandedIn (record { partial = kept.partial; of = kept.of; model = kept.model; items = kept.items; at = kept.at + 1; found = kept.found }) ∷ behind
      → one ≡ get_or kept.items kept.at one → fresh ≡ fresh_of one.key own.vars (block_id context.tree kept.partial item_number) all context.moment → after ≡ before ++ all
      → TemplateGoes context table kept.partial own old inner looks later written all stop → MissedGoes context table item kept written old new looks later before after (flow.Write fresh)
  missed_ends item kept own one written all behind fresh old inner new looks later before after stop missed ends pushed there of appended goes =
      missed_end context table item kept missed.one own written all behind fresh old inner new looks later before after stop missed.within missed.there missed.is ends pushed
      (of ∙ ap (λ (o : KeptItem). fresh_of o.key own.vars (block_id context.tree kept.partial item_number) all context.moment) same
      ∙ ap (λ (o : Scope). fresh_of missed.one.key o.vars (block_id context.tree kept.partial item_number) all context.moment) missed.is) appended goes
    where
      same : one ≡ missed.one
      same = there ∙ get_same kept.items kept.at one missed.one missed.within ∙ sym missed.there
