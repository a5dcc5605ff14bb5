-- What is left of tags that render a partial, by where it stopped in them.
use Rattle.std.proofs.Common.{◌≡◌, ℕ, ◌+◌, ◌<◌, ◌≤◌, Bool, true, false, List, [], ◌∷◌, ◌++◌, drop, length, get_or, Option, None, Some, Result, Ok, Err, refl, ap, sym, ◌∙◌}
use Rattle.doll_expr.specs.declared.expr.Expr.{Expr}
use Rattle.doll_erb.specs.declared.node.Local.{Local}
use Rattle.doll_schema.specs.declared.value.Val.{Val}
use Rattle.doll_schema.specs.declared.value.Val.TheVariants as val
use Rattle.doll_plain.specs.Direct.{Variables, items_of}
use Rattle.doll_types.specs.declared.types.TypeKind.{TypeKind}
use Rattle.doll_types.specs.declared.types.ValueType.{ValueType}
use Rattle.doll_types.specs.Findings.{items_type, locals_typing}
use Rattle.doll_types.specs.Types.{Typing}
use Rattle.doll_lint.specs.Blocks.{item_number}
use Rattle.doll_entry.specs.declared.entry.Fresh.{Fresh}
use Rattle.doll_run.specs.Pages.{Ground, levels_run}
use Rattle.doll_run.specs.Rendering.{Stage, after_text, answers_to, collection_run, for_each, items_run, locals_looks, locals_on, looks_on, only, value_on, with_partial, with_type}
use Rattle.doll_run.specs.Runs.{Rest}
use Rattle.doll_frames.specs.Along.{Along, Went}
use Rattle.doll_frames.specs.Flows.{block_id, fresh_of, is_done}
use Rattle.doll_frames.specs.Left.{body_left, collection_anew, collection_left, kept_left, kept_run, kept_value, left, made, members_left, missed_run, partial_left, render_anew, render_left, resumed, stage_at, typed}
use Rattle.doll_frames.specs.Scopes.{locals_by}
use Rattle.doll_frames.specs.Stacks.{Given, Stopped, first_is, fragments, is_collection, is_partial}
use Rattle.doll_frames.specs.Walks.{items_in, walk_by, walk_of}
use Rattle.doll_frames.specs.declared.flow.Flow.{Flow}
use Rattle.doll_frames.specs.declared.flow.Flow.TheVariants as flow
use Rattle.doll_frames.specs.declared.frame.Frame.{Frame}
use Rattle.doll_frames.specs.declared.frame.Frame.TheVariants as frame
use Rattle.doll_frames.specs.declared.frame.Kept.{Kept}
use Rattle.doll_frames.specs.declared.frame.KeptItem.{KeptItem}
use Rattle.doll_frames.specs.declared.scope.Scope.{Scope}
use Rattle.doll_frames.specs.declared.walk.Walk.{Walk}
use Rattle.doll_frames.proofs.Alongs.{along_from, along_looks, along_to}
use Rattle.doll_frames.proofs.Beginnings.{collection_begin, render_begin}
use Rattle.doll_frames.proofs.Wents.{went_body, went_framed, went_from, went_handed, went_stopped}
use Rattle.doll_frames.proofs.Walking.{answers_in, answers_past, resumed_in, resumed_past, resumed_same, template_anew}

-- ---- a partial with locals

module _ (over : Ground) (levels number : ℕ) (name : List ℕ) (locals : List Local) (typing : Typing) (vars : Variables) where
  abbrev stage : Stage
  stage = stage_at over levels number

  abbrev pub render_goes : Given → List Frame → Rest → Rest
  render_goes = render_left over levels number name locals typing vars

  pub render_resumed : (given : Given) (partial : ℕ) (scope : Scope) (frames whole : List Frame) → whole ≡ frame.Partial partial scope ∷ frames → render_goes given whole ≡ partial_left over levels partial scope.typing scope.vars given frames
  unfolding render_left partial_left
  render_resumed given partial scope frames whole popped = ap (render_goes given) popped

  pub partial_stops : (partial : ℕ) (scope : Scope) (inner new : Stopped) (looks later : ℕ) {run : Rest → Rest} {before after : List ℕ} (stop : Flow) → is_done stop ≡ false → new.frames ≡ frame.Partial partial scope ∷ inner.frames
      → Went run (partial_left over levels partial scope.typing scope.vars) inner looks later before after stop → Went run render_goes new looks later before after stop
  unfolding render_left partial_left
  partial_stops partial scope inner new looks later stop is pushed went = went_framed is (ap (λ fs. λ (found : Given). render_goes found fs) pushed) went

  render_anew_is : (given : Given) → render_goes given [] ≡ render_anew stage name locals typing vars
  unfolding render_left
  render_anew_is given = refl

  -- what follows the locals
  abbrev pub render_then : Option Scope → Option ℕ → Rest → Rest
  render_then None found rest = rest
  render_then (Some scope) None rest = rest
  render_then (Some scope) (Some partial) rest = levels_run over levels partial scope.typing scope.vars rest

  by_types : (types : Result Typing TypeKind) (own : Option Scope) (found : Option ℕ) → own ≡ locals_by types (locals_on stage locals vars)
      → ◌≡◌ {A = Rest → Rest} (λ rest. with_type types (λ t. with_partial found (λ partial. stage.runs partial t (locals_on stage locals vars))) rest) (render_then own found)
  by_types (Err kind) own found is = ap (λ o. render_then o found) (sym is)
  by_types (Ok t) own None is = ap (λ o. render_then o None) (sym is)
  by_types (Ok t) own (Some partial) is = ap (λ o. render_then o (Some partial)) (sym is)

  pub render_begun : (given : Given) (whole : List Frame) (own : Option Scope) (looks mid : ℕ) {before : List ℕ} → first_is is_partial whole ≡ false → own ≡ locals_by (locals_typing over.schema typing locals) (locals_on stage locals vars)
      → mid ≤ looks + locals_looks stage locals vars → Along (render_goes given whole) (render_then own (stage.partial name)) looks mid before before
  render_begun given whole own looks mid other is within =
      along_from (render_begin over levels number typing vars given name locals whole other ∙ render_anew_is given)
      (along_to (by_types (locals_typing over.schema typing locals) own (stage.partial name) is)
      (along_looks (λ rest. with_type (locals_typing over.schema typing locals) (λ t. with_partial (stage.partial name) (λ partial. stage.runs partial t (locals_on stage locals vars))) rest) (locals_looks stage locals vars) looks mid within refl))

  pub render_none : (own : Option Scope) (found : Option ℕ) → own ≡ None → render_then own found ≡ (λ rest. rest)
  render_none own found is = ap (λ o. render_then o found) is

  pub render_unknown : (own : Option Scope) (found : Option ℕ) → found ≡ None → render_then own found ≡ (λ rest. rest)
  render_unknown None found is = refl
  render_unknown (Some scope) found is = ap (render_then (Some scope)) is

  pub render_known : (own : Option Scope) (found : Option ℕ) (scope : Scope) (partial : ℕ) (later : Given) (frames : List Frame) → own ≡ Some scope → found ≡ Some partial → frames ≡ [] → render_then own found ≡ partial_left over levels partial scope.typing scope.vars later frames
  unfolding partial_left
  render_known own found scope partial later frames has is none =
      ap (λ o. render_then o found) has ∙ ap (render_then (Some scope)) is
      ∙ sym (ap (partial_left over levels partial scope.typing scope.vars later) none ∙ template_anew over levels partial scope.typing scope.vars later)

-- ---- a collection

module _ (over : Ground) (levels number : ℕ) (name : List ℕ) (list : Expr) (item : List ℕ) (cached : Bool) (typing : Typing) (vars : Variables) where
  abbrev stage_of : Stage
  stage_of = stage_at over levels number

  abbrev pub collection_goes : Given → List Frame → Rest → Rest
  collection_goes = collection_left over levels number name list item cached typing vars

  abbrev pub kept_goes : Kept → List (Option (List ℕ)) → Rest → Rest
  kept_goes kept found = for_each (kept_run over levels item kept) (kept_left kept found)

  collection_anew_is : (given : Given) → collection_goes given [] ≡ collection_anew stage_of name list item cached typing vars
  unfolding collection_left
  collection_anew_is given = refl

  pub collection_start : (given : Given) (whole : List Frame) → first_is is_collection whole ≡ false → collection_goes given whole ≡ collection_anew stage_of name list item cached typing vars
  collection_start given whole other = collection_begin over levels number typing vars given name list item cached whole other ∙ collection_anew_is given

  pub collection_member : (given : Given) (partial : ℕ) (walk : Walk) (frames whole : List Frame) → whole ≡ frame.Member partial walk ∷ frames → collection_goes given whole ≡ members_left over (left over given frames) levels partial item walk
  unfolding collection_left
  collection_member given partial walk frames whole popped = ap (collection_goes given) popped

  pub collection_asked : (given : Given) (kept : Kept) (found : List (Option (List ℕ))) (frames whole : List Frame) → whole ≡ frame.AskedMany kept ∷ frames → found ≡ given.many → collection_goes given whole ≡ kept_goes kept found
  unfolding collection_left
  collection_asked given kept found frames whole popped is = ap (collection_goes given) popped ∙ ap (kept_goes kept) (sym is)

  pub collection_handed : (given : Given) (kept : Kept) (frames whole : List Frame) → whole ≡ frame.HandedIn kept ∷ frames → collection_goes given whole ≡ kept_goes kept (fragments kept.found)
  unfolding collection_left
  collection_handed given kept frames whole popped = ap (collection_goes given) popped

  abbrev pub missed_goes : Kept → List ℕ → Given → List Frame → Rest → Rest
  missed_goes kept written found frames =
      resumed (missed_run over (left over found frames) levels item kept written) (kept_run over levels item kept) (kept_left kept (fragments kept.found))

  pub collection_missed : (given : Given) (kept : Kept) (written : List ℕ) (frames whole : List Frame) → whole ≡ frame.Missed kept written ∷ frames → collection_goes given whole ≡ missed_goes kept written given frames
  unfolding collection_left
  collection_missed given kept written frames whole popped = ap (collection_goes given) popped

  -- what follows the list
  abbrev pub collection_then : Option Walk → Option ℕ → Rest → Rest
  collection_then None found rest = rest
  collection_then (Some walk) None rest = rest
  collection_then (Some walk) (Some partial) rest = collection_run stage_of cached partial item walk.of (items_in walk) rest

  items_walked : (of : ValueType) (v : Val) → items_of v ≡ items_in (walk_of of v)
  items_walked of (val.List model ids) = refl
  items_walked of (val.Plain v) = refl
  items_walked of (val.Record model id) = refl

  by_items : (types : Result ValueType TypeKind) (walk : Option Walk) (found : Option ℕ) (v : Val) → walk ≡ walk_by types v
      → ◌≡◌ {A = Rest → Rest} (λ rest. with_type types (λ of. with_partial found (λ partial. collection_run stage_of cached partial item of (items_of v))) rest) (collection_then walk found)
  by_items (Err kind) walk found v is = ap (λ w. collection_then w found) (sym is)
  by_items (Ok of) walk None v is = ap (λ w. collection_then w None) (sym is)
  by_items (Ok of) walk (Some partial) v is = walked v ∙ ap (λ w. collection_then w (Some partial)) (sym is)
    where
      walked : (v : Val) → ◌≡◌ {A = Rest → Rest} (λ rest. collection_run stage_of cached partial item of (items_of v) rest) (collection_then (walk_by (Ok of) v) (Some partial))
      walked (val.List model ids) = refl
      walked (val.Plain v) = refl
      walked (val.Record model id) = refl

  pub collection_begun : (walk : Option Walk) (looks mid : ℕ) {before : List ℕ} → walk ≡ walk_by (items_type over.schema typing list) (value_on stage_of list vars) → mid ≤ looks + looks_on stage_of list vars
      → Along (collection_anew stage_of name list item cached typing vars) (collection_then walk (stage_of.partial name)) looks mid before before
  collection_begun walk looks mid is within =
      along_to (by_items (items_type over.schema typing list) walk (stage_of.partial name) (value_on stage_of list vars) is)
      (along_looks (λ rest. with_type (items_type over.schema typing list) (λ of. with_partial (stage_of.partial name) (λ partial. collection_run stage_of cached partial item of (items_of (value_on stage_of list vars)))) rest) (looks_on stage_of list vars) looks mid within refl)

  pub collection_none : (walk : Option Walk) (found : Option ℕ) → walk ≡ None → collection_then walk found ≡ (λ rest. rest)
  collection_none walk found is = ap (λ w. collection_then w found) is

  pub collection_unknown : (walk : Option Walk) (found : Option ℕ) → found ≡ None → collection_then walk found ≡ (λ rest. rest)
  collection_unknown None found is = refl
  collection_unknown (Some walk) found is = ap (collection_then (Some walk)) is

  -- items that aren't cached
  pub collection_plain : (walks : Option Walk) (found : Option ℕ) (walk : Walk) (partial : ℕ) (later : Given) (frames : List Frame) → walks ≡ Some walk → found ≡ Some partial → cached ≡ false → walk.at ≡ 0 → frames ≡ []
      → collection_then walks found ≡ members_left over (left over later frames) levels partial item walk
  collection_plain walks found walk partial later frames has is plain first none =
      ap (λ w. collection_then w found) has ∙ ap (collection_then (Some walk)) is
      ∙ ap (λ b. collection_run (stage_at over levels number) b partial item walk.of (items_in walk)) plain
      ∙ sym (ap (λ fs. members_left over (left over later fs) levels partial item walk) none
      ∙ (λ i. resumed (λ one. template_anew over levels partial (typed item walk.of) (only item one) later i) (λ one. levels_run over levels partial (typed item walk.of) (only item one)) (drop walk.at (items_in walk)))
      ∙ resumed_same (λ one. levels_run over levels partial (typed item walk.of) (only item one)) (drop walk.at (items_in walk))
      ∙ ap (λ n. for_each (λ one. levels_run over levels partial (typed item walk.of) (only item one)) (drop n (items_in walk))) first)

  pub collection_cached : (walks : Option Walk) (found : Option ℕ) (walk : Walk) (partial : ℕ) → walks ≡ Some walk → found ≡ Some partial → cached ≡ true
      → collection_then walks found ≡ items_run stage_of partial item walk.of (items_in walk)
  collection_cached walks found walk partial has is kept =
      ap (λ w. collection_then w found) has ∙ ap (collection_then (Some walk)) is
      ∙ ap (λ b. collection_run stage_of b partial item walk.of (items_in walk)) kept

  -- ---- items that are kept

  module _ (kept : Kept) where
    abbrev found_of : List (Option (List ℕ))
    found_of = fragments kept.found

    -- the items behind the first that wasn't passed
    abbrev pub kept_others : Rest → Rest
    kept_others = for_each (kept_run over levels item kept) (drop (kept.at + 1) (answers_to kept.items found_of))

    abbrev made_of : KeptItem → List ℕ → Fresh
    made_of one = made over kept.partial item_number one.key (only item (kept_value kept one))

    abbrev pub one_goes : KeptItem → Given → List Frame → Rest → Rest
    one_goes one = partial_left over levels kept.partial (typed item kept.of) (only item (kept_value kept one))

    pub kept_past : length kept.items ≤ kept.at → kept_goes kept found_of ≡ (λ rest. rest)
    kept_past past = ap (for_each (kept_run over levels item kept)) (answers_past kept.items found_of kept.at past)

    pub missed_past : (written : List ℕ) (given : Given) (frames : List Frame) → length kept.items ≤ kept.at → missed_goes kept written given frames ≡ (λ rest. rest)
    missed_past written given frames past = resumed_past (kept_run over levels item kept) (missed_run over (left over given frames) levels item kept written) (kept_left kept found_of) (answers_past kept.items found_of kept.at past)

    -- the first was found
    pub kept_hit : (one : KeptItem) (bytes : List ℕ) → kept.at < length kept.items → one ≡ get_or kept.items kept.at one → get_or found_of kept.at None ≡ Some bytes → kept_goes kept found_of ≡ (λ rest. after_text bytes (kept_others rest))
    kept_hit one bytes within there is =
        ap (for_each (kept_run over levels item kept)) (answers_in kept.items found_of kept.at one within there)
        ∙ ap (λ o. λ (rest : Rest). kept_run over levels item kept (one, o) (kept_others rest)) is

    -- it missed
    pub kept_miss : (one : KeptItem) (later : Given) (frames : List Frame) → kept.at < length kept.items → one ≡ get_or kept.items kept.at one → get_or found_of kept.at None ≡ None → frames ≡ [] → kept_goes kept found_of ≡ missed_goes kept [] later frames
    kept_miss one later frames within there is none =
        ap (for_each (kept_run over levels item kept)) (answers_in kept.items found_of kept.at one within there)
        ∙ ap (λ o. λ (rest : Rest). kept_run over levels item kept (one, o) (kept_others rest)) is
        ∙ ap (λ (run : Rest → Rest). λ (rest : Rest). body_left run (made_of one) [] (kept_others rest)) (sym (template_anew over levels kept.partial (typed item kept.of) (only item (kept_value kept one)) later))
        ∙ sym (ap (λ fs. missed_goes kept [] later fs) none ∙ ap (resumed (missed_run over (left over later []) levels item kept []) (kept_run over levels item kept)) (answers_in kept.items found_of kept.at one within there))

    -- its partial goes on
    missed_in : (one : KeptItem) (written : List ℕ) (frames : List Frame) → kept.at < length kept.items → one ≡ get_or kept.items kept.at one
        → ◌≡◌ {A = Given → Rest → Rest} (λ found. missed_goes kept written found frames) (λ found rest. body_left (one_goes one found frames) (made_of one) written (kept_others rest))
    unfolding partial_left
    missed_in one written frames within there =
        resumed_in (kept_run over levels item kept) (λ found. missed_run over (left over found frames) levels item kept written) (kept_left kept found_of) (drop (kept.at + 1) (answers_to kept.items found_of)) (one, get_or found_of kept.at None) (answers_in kept.items found_of kept.at one within there)

    missed_is : (written : List ℕ) (frames : List Frame) → ◌≡◌ {A = Given → Rest → Rest} (λ found. collection_goes found (frame.Missed kept written ∷ frames)) (λ found. missed_goes kept written found frames)
    unfolding collection_left
    missed_is written frames = refl

    -- it stopped
    pub missed_stops : (one : KeptItem) (given : Given) (frames : List Frame) (inner new : Stopped) (looks later : ℕ) (written after outer : List ℕ) (stop : Flow) → kept.at < length kept.items → one ≡ get_or kept.items kept.at one → is_done stop ≡ false
        → new.frames ≡ frame.Missed kept after ∷ inner.frames → Went (one_goes one given frames) (one_goes one) inner looks later written after stop
        → Went (missed_goes kept written given frames) collection_goes new looks later outer outer stop
    missed_stops one given frames inner new looks later written after outer stop within there is pushed went =
        went_from (ap (λ (f : Given → Rest → Rest). f given) (missed_in one written frames within there))
        (went_stopped {mean = λ found fs. body_left (one_goes one found fs) (made_of one) after} {inner = inner} kept_others is
        (ap (λ fs. λ (found : Given). collection_goes found fs) pushed ∙ missed_is after inner.frames ∙ missed_in one after inner.frames within there)
        (went_body (made_of one) is refl went))

    handed_is : (frames : List Frame) → ◌≡◌ {A = Given → Rest → Rest} (λ found. collection_goes found (frame.HandedIn (record { partial = kept.partial; of = kept.of; model = kept.model; items = kept.items; at = kept.at + 1; found = kept.found }) ∷ frames)) (λ found. kept_others)
    unfolding collection_left
    handed_is frames = refl

    -- it is done
    pub missed_ends : (one : KeptItem) (given : Given) (frames behind : List Frame) (inner new : Stopped) (looks later : ℕ) (written all before after : List ℕ) (stop : Flow) (fresh : Fresh) → kept.at < length kept.items → one ≡ get_or kept.items kept.at one → is_done stop ≡ true
        → new.frames ≡ frame.HandedIn (record { partial = kept.partial; of = kept.of; model = kept.model; items = kept.items; at = kept.at + 1; found = kept.found }) ∷ behind
        → fresh ≡ fresh_of one.key (only item (kept_value kept one)) (block_id over.tree kept.partial item_number) all over.moment → after ≡ before ++ all
        → Went (one_goes one given frames) (one_goes one) inner looks later written all stop
        → Went (missed_goes kept written given frames) collection_goes new looks later before after (flow.Write fresh)
    missed_ends one given frames behind inner new looks later written all before after stop fresh within there is pushed of appended went =
        went_from (ap (λ (f : Given → Rest → Rest). f given) (missed_in one written frames within there))
        (went_stopped {mean = λ found fs rest. rest} {inner = inner} kept_others refl
        (ap (λ fs. λ (found : Given). collection_goes found fs) pushed ∙ handed_is behind)
        (went_handed (made_of one) fresh is of appended refl went))
