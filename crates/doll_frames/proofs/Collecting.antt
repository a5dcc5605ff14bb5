-- Carrying tags on that render a partial, by what the partial comes to.
use Rattle.std.proofs.Common.{◌≡◌, ℕ, ◌+◌, ◌<◌, ◌≤◌, Bool, true, false, List, [], ◌∷◌, ◌++◌, length, get_or, Option, None, Some, ap, sym, subst, ◌∙◌}
use Rattle.doll_expr.specs.declared.expr.Expr.{Expr}
use Rattle.doll_expr.specs.declared.expr.Expr.TheVariants as expr
use Rattle.doll_erb.specs.declared.node.Local.{Local}
use Rattle.doll_schema.specs.declared.value.Val.TheVariants as val
use Rattle.doll_table.specs.Tables.{TableMap}
use Rattle.doll_types.specs.declared.types.ValueType.{ValueType}
use Rattle.doll_types.specs.Findings.{items_type, locals_typing}
use Rattle.doll_lint.specs.Blocks.{item_number}
use Rattle.doll_entry.specs.declared.entry.Fresh.{Fresh}
use Rattle.doll_run.specs.Pages.{Ground}
use Rattle.doll_run.specs.Rendering.{locals_looks, locals_on, looks_on, only, value_on}
use Rattle.doll_frames.specs.Along.{Went}
use Rattle.doll_frames.specs.Carried.{CollectionBegins, CollectionGoes, KeptGo, KeptWentTo, MembersGo, MembersWentTo, MissedGoes, OfCollection, PartialGoes, RenderGoes, TemplateGoes}
use Rattle.doll_frames.specs.Contexts.{over_of}
use Rattle.doll_frames.specs.Flows.{block_id, fresh_of, is_done}
use Rattle.doll_frames.specs.Left.{collection_left, kept_value, partial_left, stage_at, typed}
use Rattle.doll_frames.specs.Scopes.{locals_by}
use Rattle.doll_frames.specs.Stacks.{Stopped, first_is, fragments, given, is_collection, is_partial}
use Rattle.doll_frames.specs.Walks.{walk_by}
use Rattle.doll_frames.specs.declared.context.Context.{Context}
use Rattle.doll_frames.specs.declared.flow.Flow.{Flow}
use Rattle.doll_frames.specs.declared.flow.Flow.TheVariants as flow
use Rattle.doll_frames.specs.declared.frame.Frame.{Frame}
use Rattle.doll_frames.specs.declared.frame.Frame.TheVariants as frame
use Rattle.doll_frames.specs.declared.frame.Kept.{Kept}
use Rattle.doll_frames.specs.declared.frame.KeptItem.{KeptItem}
use Rattle.doll_frames.specs.declared.scope.Scope.{Scope}
use Rattle.doll_frames.specs.declared.walk.Walk.{Walk}
use Rattle.doll_frames.proofs.Alongs.{along_from, along_stays, along_text, along_then, along_to}
use Rattle.doll_frames.proofs.Partials.{collection_asked, collection_begun, collection_handed, collection_member, collection_missed, collection_none, collection_plain, collection_start, collection_unknown, kept_hit, kept_miss, kept_others, kept_past, missed_ends, missed_past, missed_stops, render_begun, render_known, render_none, render_unknown}
use Rattle.doll_frames.proofs.Walking.{members_more, members_past, members_stopped}
use Rattle.doll_frames.proofs.Wents.{went_after, went_done, went_from}

module _ (context : Context) (table : TableMap) where
  abbrev over : Ground
  over = over_of context table

  -- ---- a partial that begins

  pub render_untyped : (name : List ℕ) (locals : List Local) (scope : Scope) (own : Option Scope) (old new : Stopped) (looks later : ℕ) (before : List ℕ) → first_is is_partial old.frames ≡ false → own ≡ locals_by (locals_typing over.schema scope.typing locals) (locals_on (stage_at over context.levels context.number) locals scope.vars)
      → later ≤ looks + locals_looks (stage_at over context.levels context.number) locals scope.vars → own ≡ None → new.frames ≡ [] → RenderGoes context table name locals scope old new looks later before before flow.Done
  unfolding RenderGoes
  render_untyped name locals scope own old new looks later before other is within none ended =
      went_done (along_to (render_none over context.levels context.number name locals scope.typing scope.vars own ((stage_at over context.levels context.number).partial name) none)
      (render_begun over context.levels context.number name locals scope.typing scope.vars (given old.answer) old.frames own looks later other is within)) ended

  pub render_gone : (name : List ℕ) (locals : List Local) (scope : Scope) (own : Option Scope) (old new : Stopped) (looks later : ℕ) (before : List ℕ) → first_is is_partial old.frames ≡ false → own ≡ locals_by (locals_typing over.schema scope.typing locals) (locals_on (stage_at over context.levels context.number) locals scope.vars)
      → later ≤ looks + locals_looks (stage_at over context.levels context.number) locals scope.vars → (stage_at over context.levels context.number).partial name ≡ None → new.frames ≡ [] → RenderGoes context table name locals scope old new looks later before before flow.Done
  unfolding RenderGoes
  render_gone name locals scope own old new looks later before other is within unknown ended =
      went_done (along_to (render_unknown over context.levels context.number name locals scope.typing scope.vars own ((stage_at over context.levels context.number).partial name) unknown)
      (render_begun over context.levels context.number name locals scope.typing scope.vars (given old.answer) old.frames own looks later other is within)) ended

  pub render_begins : (name : List ℕ) (locals : List Local) (scope mine : Scope) (own : Option Scope) (partial : ℕ) (old popped new : Stopped) (looks mid later : ℕ) (before after : List ℕ) (stop : Flow) → first_is is_partial old.frames ≡ false
      → own ≡ locals_by (locals_typing over.schema scope.typing locals) (locals_on (stage_at over context.levels context.number) locals scope.vars) → mid ≤ looks + locals_looks (stage_at over context.levels context.number) locals scope.vars
      → own ≡ Some mine → (stage_at over context.levels context.number).partial name ≡ Some partial → popped.frames ≡ [] → PartialGoes context table partial mine popped new mid later before after stop → RenderGoes context table name locals scope old new looks later before after stop
  unfolding RenderGoes PartialGoes
  render_begins name locals scope mine own partial old popped new looks mid later before after stop other is within has known none goes =
      went_after (along_to (render_known over context.levels context.number name locals scope.typing scope.vars own ((stage_at over context.levels context.number).partial name) mine partial (given popped.answer) popped.frames has known none)
      (render_begun over context.levels context.number name locals scope.typing scope.vars (given old.answer) old.frames own looks mid other is within))
      (goes name locals scope.typing scope.vars)

  -- ---- members

  pub members_here : (partial : ℕ) (item : List ℕ) (walk : Walk) (old : Stopped) (looks : ℕ) (before : List ℕ) → MembersWentTo context table partial item walk walk old old looks looks before before
  unfolding MembersWentTo
  members_here partial item walk old looks before = along_stays _ looks before

  pub members_end : (partial : ℕ) (item : List ℕ) (walk : Walk) (of : ValueType) (model : ℕ) (ids : List ℕ) (at : ℕ) (old now new : Stopped) (looks later : ℕ) (before after : List ℕ) → length ids ≤ at → new.frames ≡ []
      → MembersWentTo context table partial item walk (record { of = of; model = model; ids = ids; at = at }) old now looks later before after → MembersGo context table partial item walk old new looks later before after flow.Done
  unfolding MembersWentTo MembersGo OfCollection
  members_end partial item walk of model ids at old now new looks later before after past none so_far name list cached typing vars =
      went_done (along_to (members_past over context.levels partial item of model ids at (given now.answer) now.frames past) so_far) none

  pub members_go_on : (partial : ℕ) (item : List ℕ) (walk : Walk) (of : ValueType) (model : ℕ) (ids : List ℕ) (at : ℕ) (own : Scope) (old now new : Stopped) (looks mid later : ℕ) (before between after : List ℕ) (stop : Flow) → at < length ids → own ≡ record { typing = typed item of; vars = only item (val.Record model (get_or ids at 0)) }
      → is_done stop ≡ true → new.frames ≡ [] → MembersWentTo context table partial item walk (record { of = of; model = model; ids = ids; at = at }) old now looks mid before between → TemplateGoes context table partial own now new mid later between after stop
      → MembersWentTo context table partial item walk (record { of = of; model = model; ids = ids; at = at + 1 }) old new looks later before after
  unfolding MembersWentTo TemplateGoes
  members_go_on partial item walk of model ids at own old now new looks mid later before between after stop within alone ends none so_far goes =
      members_more over context.levels partial item of model ids _ at (given now.answer) (given new.answer) now.frames new.frames (partial_left over context.levels partial own.typing own.vars) new looks mid later stop within none ends so_far
      (subst (λ (o : Scope). Went (partial_left over context.levels partial o.typing o.vars (given now.answer) now.frames) (partial_left over context.levels partial own.typing own.vars) new mid later between after stop) alone goes)

  pub members_stop : (partial : ℕ) (item : List ℕ) (walk : Walk) (of : ValueType) (model : ℕ) (ids : List ℕ) (at : ℕ) (own : Scope) (old now inner new : Stopped) (looks mid later : ℕ) (before between after : List ℕ) (stop : Flow) → at < length ids → own ≡ record { typing = typed item of; vars = only item (val.Record model (get_or ids at 0)) }
      → is_done stop ≡ false → new.frames ≡ frame.Member partial (record { of = of; model = model; ids = ids; at = at }) ∷ inner.frames → MembersWentTo context table partial item walk (record { of = of; model = model; ids = ids; at = at }) old now looks mid before between
      → TemplateGoes context table partial own now inner mid later between after stop → MembersGo context table partial item walk old new looks later before after stop
  unfolding MembersWentTo TemplateGoes MembersGo OfCollection
  members_stop partial item walk of model ids at own old now inner new looks mid later before between after stop within alone stops pushed so_far goes name list cached typing vars =
      members_stopped over context.levels partial item of model ids context.number name list cached typing vars _ at (given now.answer) now.frames inner new looks mid later stop within pushed stops so_far
      (subst (λ (o : Scope). Went (partial_left over context.levels partial o.typing o.vars (given now.answer) now.frames) (partial_left over context.levels partial o.typing o.vars) inner mid later between after stop) alone goes)

  -- ---- kept items

  pub kept_here : (item : List ℕ) (kept : Kept) (looks : ℕ) (before : List ℕ) → KeptWentTo context table item kept kept looks looks before before
  unfolding KeptWentTo
  kept_here item kept looks before = along_stays _ looks before

  -- an item more was found
  pub kept_go_on : (item : List ℕ) (whole kept : Kept) (one : KeptItem) (bytes : List ℕ) (looks later : ℕ) (before between after : List ℕ) → kept.at < length kept.items → one ≡ get_or kept.items kept.at one → get_or (fragments kept.found) kept.at None ≡ Some bytes → after ≡ between ++ bytes
      → KeptWentTo context table item whole kept looks later before between → KeptWentTo context table item whole (record { partial = kept.partial; of = kept.of; model = kept.model; items = kept.items; at = kept.at + 1; found = kept.found }) looks later before after
  unfolding KeptWentTo
  kept_go_on item whole kept one bytes looks later before between after within there is appended so_far =
      along_then so_far
      (along_from (kept_hit over context.levels context.number item expr.Nil item true [] [] kept one bytes within there is)
      (along_text bytes (kept_others over context.levels context.number item expr.Nil item true [] [] kept) later appended))

  pub kept_end : (item : List ℕ) (whole kept : Kept) (new : Stopped) (looks later : ℕ) (before after : List ℕ) → length kept.items ≤ kept.at → new.frames ≡ [] → KeptWentTo context table item whole kept looks later before after → KeptGo context table item whole new looks later before after flow.Done
  unfolding KeptWentTo KeptGo OfCollection
  kept_end item whole kept new looks later before after past none so_far name list cached typing vars =
      went_done (along_to (kept_past over context.levels context.number name list item cached typing vars kept past) so_far) none

  -- an item missed
  pub kept_misses : (item : List ℕ) (whole kept : Kept) (one : KeptItem) (now new : Stopped) (looks mid later : ℕ) (before between after : List ℕ) (stop : Flow) → kept.at < length kept.items → one ≡ get_or kept.items kept.at one → get_or (fragments kept.found) kept.at None ≡ None → now.frames ≡ []
      → KeptWentTo context table item whole kept looks mid before between → MissedGoes context table item kept [] now new mid later between after stop → KeptGo context table item whole new looks later before after stop
  unfolding KeptWentTo KeptGo MissedGoes OfCollection
  kept_misses item whole kept one now new looks mid later before between after stop within there is none so_far goes name list cached typing vars =
      went_after so_far
      (went_from (kept_miss over context.levels context.number name list item cached typing vars kept one (given now.answer) now.frames within there is none) (goes name list cached typing vars))

  pub missed_gone : (item : List ℕ) (kept : Kept) (written : List ℕ) (old new : Stopped) (looks : ℕ) (before : List ℕ) → length kept.items ≤ kept.at → new.frames ≡ [] → MissedGoes context table item kept written old new looks looks before before flow.Done
  unfolding MissedGoes OfCollection
  missed_gone item kept written old new looks before past none name list cached typing vars =
      went_from (missed_past over context.levels context.number name list item cached typing vars kept written (given old.answer) old.frames past) (went_done (along_stays (λ rest. rest) looks before) none)

  -- its partial stopped
  pub missed_stop : (item : List ℕ) (kept : Kept) (one : KeptItem) (own : Scope) (written all : List ℕ) (old inner new : Stopped) (looks later : ℕ) (outer : List ℕ) (stop : Flow) → kept.at < length kept.items → one ≡ get_or kept.items kept.at one → own ≡ record { typing = typed item kept.of; vars = only item (kept_value kept one) }
      → is_done stop ≡ false → new.frames ≡ frame.Missed kept all ∷ inner.frames → TemplateGoes context table kept.partial own old inner looks later written all stop → MissedGoes context table item kept written old new looks later outer outer stop
  unfolding TemplateGoes MissedGoes OfCollection
  missed_stop item kept one own written all old inner new looks later outer stop within there alone stops pushed goes name list cached typing vars =
      missed_stops over context.levels context.number name list item cached typing vars kept one (given old.answer) old.frames inner new looks later written all outer stop within there stops pushed
      (subst (λ (o : Scope). Went (partial_left over context.levels kept.partial o.typing o.vars (given old.answer) old.frames) (partial_left over context.levels kept.partial o.typing o.vars) inner looks later written all stop) alone goes)

  -- it is done
  pub missed_end : (item : List ℕ) (kept : Kept) (one : KeptItem) (own : Scope) (written all : List ℕ) (behind : List Frame) (fresh : Fresh) (old inner new : Stopped) (looks later : ℕ) (before after : List ℕ) (stop : Flow) → kept.at < length kept.items → one ≡ get_or kept.items kept.at one
      → own ≡ record { typing = typed item kept.of; vars = only item (kept_value kept one) } → is_done stop ≡ true
      → new.frames ≡ frame.HandedIn (record { partial = kept.partial; of = kept.of; model = kept.model; items = kept.items; at = kept.at + 1; found = kept.found }) ∷ behind
      → fresh ≡ fresh_of one.key (only item (kept_value kept one)) (block_id context.tree kept.partial item_number) all context.moment → after ≡ before ++ all
      → TemplateGoes context table kept.partial own old inner looks later written all stop → MissedGoes context table item kept written old new looks later before after (flow.Write fresh)
  unfolding TemplateGoes MissedGoes OfCollection
  missed_end item kept one own written all behind fresh old inner new looks later before after stop within there alone ends pushed of appended goes name list cached typing vars =
      missed_ends over context.levels context.number name list item cached typing vars kept one (given old.answer) old.frames behind inner new looks later written all before after stop fresh within there ends pushed of appended
      (subst (λ (o : Scope). Went (partial_left over context.levels kept.partial o.typing o.vars (given old.answer) old.frames) (partial_left over context.levels kept.partial o.typing o.vars) inner looks later written all stop) alone goes)

  -- ---- a collection

  module _ (name : List ℕ) (list : Expr) (item : List ℕ) (cached : Bool) (scope : Scope) where
    pub collection_anew_goes : (old new : Stopped) (looks later : ℕ) (before after : List ℕ) (stop : Flow) → first_is is_collection old.frames ≡ false → CollectionBegins context table name list item cached scope new looks later before after stop → CollectionGoes context table name list item cached scope old new looks later before after stop
    unfolding CollectionGoes CollectionBegins
    collection_anew_goes old new looks later before after stop other goes =
        went_from (collection_start over context.levels context.number name list item cached scope.typing scope.vars (given old.answer) old.frames other) goes

    pub collection_members : (partial : ℕ) (walk : Walk) (old popped new : Stopped) (looks later : ℕ) (before after : List ℕ) (stop : Flow) → old.frames ≡ frame.Member partial walk ∷ popped.frames → popped.answer ≡ old.answer → MembersGo context table partial item walk popped new looks later before after stop
        → CollectionGoes context table name list item cached scope old new looks later before after stop
    unfolding CollectionGoes MembersGo OfCollection
    collection_members partial walk old popped new looks later before after stop is same goes =
        went_from (ap (λ a. collection_left over context.levels context.number name list item cached scope.typing scope.vars (given a) old.frames) (sym same)
        ∙ collection_member over context.levels context.number name list item cached scope.typing scope.vars (given popped.answer) partial walk popped.frames old.frames is)
        (goes name list cached scope.typing scope.vars)

    pub collection_answered : (kept : Kept) (found : List _) (old popped new : Stopped) (looks later : ℕ) (before after : List ℕ) (stop : Flow) → old.frames ≡ frame.AskedMany kept ∷ popped.frames → fragments found ≡ (given old.answer).many
        → KeptGo context table item (record { partial = kept.partial; of = kept.of; model = kept.model; items = kept.items; at = kept.at; found = found }) new looks later before after stop → CollectionGoes context table name list item cached scope old new looks later before after stop
    unfolding CollectionGoes KeptGo OfCollection
    collection_answered kept found old popped new looks later before after stop is answered goes =
        went_from (collection_asked over context.levels context.number name list item cached scope.typing scope.vars (given old.answer) kept (fragments found) popped.frames old.frames is answered) (goes name list cached scope.typing scope.vars)

    pub collection_was_handed : (kept : Kept) (old popped new : Stopped) (looks later : ℕ) (before after : List ℕ) (stop : Flow) → old.frames ≡ frame.HandedIn kept ∷ popped.frames → KeptGo context table item kept new looks later before after stop → CollectionGoes context table name list item cached scope old new looks later before after stop
    unfolding CollectionGoes KeptGo OfCollection
    collection_was_handed kept old popped new looks later before after stop is goes =
        went_from (collection_handed over context.levels context.number name list item cached scope.typing scope.vars (given old.answer) kept popped.frames old.frames is) (goes name list cached scope.typing scope.vars)

    pub collection_misses : (kept : Kept) (written : List ℕ) (old popped new : Stopped) (looks later : ℕ) (before after : List ℕ) (stop : Flow) → old.frames ≡ frame.Missed kept written ∷ popped.frames → popped.answer ≡ old.answer → MissedGoes context table item kept written popped new looks later before after stop
        → CollectionGoes context table name list item cached scope old new looks later before after stop
    unfolding CollectionGoes MissedGoes OfCollection
    collection_misses kept written old popped new looks later before after stop is same goes =
        went_from (ap (λ a. collection_left over context.levels context.number name list item cached scope.typing scope.vars (given a) old.frames) (sym same)
        ∙ collection_missed over context.levels context.number name list item cached scope.typing scope.vars (given popped.answer) kept written popped.frames old.frames is)
        (goes name list cached scope.typing scope.vars)

    abbrev HasWalk : Option Walk → ℕ → ℕ → Type 0
    HasWalk walks looks mid = (walks ≡ walk_by (items_type over.schema scope.typing list) (value_on (stage_at over context.levels context.number) list scope.vars)) × (mid ≤ looks + looks_on (stage_at over context.levels context.number) list scope.vars)

    pub collection_untyped : (walks : Option Walk) (new : Stopped) (looks later : ℕ) (before : List ℕ) → HasWalk walks looks later → walks ≡ None → new.frames ≡ [] → CollectionBegins context table name list item cached scope new looks later before before flow.Done
    unfolding CollectionBegins
    collection_untyped walks new looks later before has none ended =
        went_done (along_to (collection_none over context.levels context.number name list item cached scope.typing scope.vars walks ((stage_at over context.levels context.number).partial name) none)
        (collection_begun over context.levels context.number name list item cached scope.typing scope.vars walks looks later has.0 has.1)) ended

    pub collection_gone : (walks : Option Walk) (new : Stopped) (looks later : ℕ) (before : List ℕ) → HasWalk walks looks later → (stage_at over context.levels context.number).partial name ≡ None → new.frames ≡ [] → CollectionBegins context table name list item cached scope new looks later before before flow.Done
    unfolding CollectionBegins
    collection_gone walks new looks later before has unknown ended =
        went_done (along_to (collection_unknown over context.levels context.number name list item cached scope.typing scope.vars walks ((stage_at over context.levels context.number).partial name) unknown)
        (collection_begun over context.levels context.number name list item cached scope.typing scope.vars walks looks later has.0 has.1)) ended

    pub collection_walks : (walks : Option Walk) (walk : Walk) (partial : ℕ) (now new : Stopped) (looks mid later : ℕ) (before after : List ℕ) (stop : Flow) → HasWalk walks looks mid → walks ≡ Some walk → (stage_at over context.levels context.number).partial name ≡ Some partial → cached ≡ false → walk.at ≡ 0 → now.frames ≡ []
        → MembersGo context table partial item walk now new mid later before after stop → CollectionBegins context table name list item cached scope new looks later before after stop
    unfolding CollectionBegins MembersGo OfCollection
    collection_walks walks walk partial now new looks mid later before after stop has there known plain first none goes =
        went_after (along_to (collection_plain over context.levels context.number name list item cached scope.typing scope.vars walks ((stage_at over context.levels context.number).partial name) walk partial (given now.answer) now.frames there known plain first none)
        (collection_begun over context.levels context.number name list item cached scope.typing scope.vars walks looks mid has.0 has.1))
        (goes name list cached scope.typing scope.vars)
