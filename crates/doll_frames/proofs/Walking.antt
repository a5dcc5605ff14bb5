-- Going through the items of a list, from one on that goes on.
use Rattle.std.proofs.Common.{◌≡◌, ℕ, zero, suc, ◌+◌, ◌<◌, ◌≤◌, Bool, true, false, List, [], ◌∷◌, ◌++◌, map, drop, length, get_or, Option, None, refl, ap, sym, ◌∙◌, arith}
use Rattle.doll_erb.specs.declared.node.Node.{Node}
use Rattle.doll_expr.specs.declared.expr.Expr.{Expr}
use Rattle.doll_schema.specs.declared.value.Val.{Val}
use Rattle.doll_schema.specs.declared.value.Val.TheVariants as val
use Rattle.doll_plain.specs.Direct.{Variables}
use Rattle.doll_types.specs.declared.types.ValueType.{ValueType}
use Rattle.doll_types.specs.Types.{Typing}
use Rattle.doll_run.specs.Pages.{Ground, levels_run}
use Rattle.doll_run.specs.Rendering.{answers_to, for_each, only}
use Rattle.doll_run.specs.Runs.{Rest}
use Rattle.doll_frames.specs.Along.{Along, Went}
use Rattle.doll_frames.specs.Flows.{is_done}
use Rattle.doll_frames.specs.Left.{body_with, collection_left, each_left, left, members_left, nodes_left, partial_left, resumed, stage_at, template_left, typed, walk_left}
use Rattle.doll_frames.specs.Stacks.{Given, Stopped}
use Rattle.doll_frames.specs.Walks.{items_left}
use Rattle.doll_frames.specs.declared.flow.Flow.{Flow}
use Rattle.doll_frames.specs.declared.frame.Frame.{Frame}
use Rattle.doll_frames.specs.declared.frame.Frame.TheVariants as frame
use Rattle.doll_frames.specs.declared.walk.Walk.{Walk}
use Rattle.doll_frames.proofs.Alongs.{along_before, along_from, along_then, along_to}
use Rattle.doll_frames.proofs.Wents.{done_along, went_after, went_from, went_stopped}

-- ---- lists

next_at : (at : ℕ) → suc at + 1 ≡ suc (at + 1)
next_at at = omega arith

-- records from one on
pub records_in : (model : ℕ) (ids : List ℕ) (at : ℕ) → at < length ids → drop at (map (λ id. val.Record model id) ids) ≡ val.Record model (get_or ids at 0) ∷ drop (at + 1) (map (λ id. val.Record model id) ids)
records_in model [] at within = absurd (omega arith)
records_in model (id ∷ ids) zero within = refl
records_in model (id ∷ ids) (suc at) within =
    records_in model ids at (omega arith) ∙ ap (λ n. val.Record model (get_or ids at 0) ∷ drop n (map (λ id. val.Record model id) (id ∷ ids))) (sym (next_at at))

pub records_past : (model : ℕ) (ids : List ℕ) (at : ℕ) → length ids ≤ at → drop at (map (λ id. val.Record model id) ids) ≡ []
records_past model [] zero past = refl
records_past model [] (suc at) past = refl
records_past model (id ∷ ids) zero past = absurd (omega arith)
records_past model (id ∷ ids) (suc at) past = records_past model ids at (omega arith)

-- what was answered from one on
pub answers_in : {X : Type 0} (items : List X) (found : List (Option (List ℕ))) (at : ℕ) (x : X) → at < length items → x ≡ get_or items at x → drop at (answers_to items found) ≡ (x, get_or found at None) ∷ drop (at + 1) (answers_to items found)
answers_in [] found at x within is = absurd (omega arith)
answers_in (y ∷ items) [] zero x within is = ap (λ z. (z, None) ∷ answers_to items []) (sym is)
answers_in (y ∷ items) (one ∷ found) zero x within is = ap (λ z. (z, one) ∷ answers_to items found) (sym is)
answers_in (y ∷ items) [] (suc at) x within is =
    answers_in items [] at x (omega arith) is ∙ ap (λ n. (x, None) ∷ drop n (answers_to (y ∷ items) [])) (sym (next_at at))
answers_in (y ∷ items) (one ∷ found) (suc at) x within is =
    answers_in items found at x (omega arith) is ∙ ap (λ n. (x, get_or found at None) ∷ drop n (answers_to (y ∷ items) (one ∷ found))) (sym (next_at at))

pub answers_past : {X : Type 0} (items : List X) (found : List (Option (List ℕ))) (at : ℕ) → length items ≤ at → drop at (answers_to items found) ≡ []
answers_past [] found zero past = refl
answers_past [] found (suc at) past = refl
answers_past (x ∷ items) found zero past = absurd (omega arith)
answers_past (x ∷ items) [] (suc at) past = answers_past items [] at (omega arith)
answers_past (x ∷ items) (one ∷ found) (suc at) past = answers_past items found at (omega arith)

module _ {X : Type 0} (each : X → Rest → Rest) where
  pub resumed_in : (here : Given → X → Rest → Rest) (xs ys : List X) (x : X) → xs ≡ x ∷ ys → ◌≡◌ {A = Given → Rest → Rest} (λ found. resumed (here found) each xs) (λ found rest. here found x (for_each each ys rest))
  resumed_in here xs ys x is = ap (λ zs. λ (found : Given). resumed (here found) each zs) is

  pub resumed_past : (here : X → Rest → Rest) (xs : List X) → xs ≡ [] → ◌≡◌ {A = Rest → Rest} (resumed here each xs) (λ rest. rest)
  resumed_past here xs is = ap (λ zs. resumed here each zs) is

  pub resumed_same : (xs : List X) → resumed each each xs ≡ for_each each xs
  resumed_same [] = refl
  resumed_same (x ∷ xs) = refl

-- ---- an `each`

module _ (over : Ground) (levels number : ℕ) (name : List ℕ) (body : List Node) (typing : Typing) (vars : Variables) (of : ValueType) (model : ℕ) (ids : List ℕ) where
  abbrev pub walk_at : ℕ → Walk
  walk_at at = record { of = of; model = model; ids = ids; at = at }

  abbrev each : Val → Rest → Rest
  each = body_with (stage_at over levels number) body name typing vars of

  abbrev here : List Frame → Given → Val → Rest → Rest
  here frames found item = (left over found frames).nodes levels number body (typing ++ typed name of) (vars ++ only name item)

  abbrev pub walk_goes : Given → List Frame → ℕ → Rest → Rest
  walk_goes found frames at = walk_left over (left over found frames) levels number name body (walk_at at) typing vars

  abbrev pub in_item : ℕ → Given → List Frame → Rest → Rest
  in_item at = nodes_left over levels number body (typing ++ typed name of) (vars ++ only name (val.Record model (get_or ids at 0)))

  abbrev others : ℕ → Rest → Rest
  others at = for_each each (items_left (walk_at (at + 1)))

  walk_in : (at : ℕ) (frames : List Frame) → at < length ids → ◌≡◌ {A = Given → Rest → Rest} (λ found. walk_goes found frames at) (λ found rest. in_item at found frames (others at rest))
  walk_in at frames within = resumed_in each (here frames) (items_left (walk_at at)) (items_left (walk_at (at + 1))) (val.Record model (get_or ids at 0)) (records_in model ids at within)

  walk_anew : (at : ℕ) (found : Given) → walk_goes found [] at ≡ for_each each (items_left (walk_at at))
  unfolding left
  walk_anew at found = resumed_same each (items_left (walk_at at))

  pub walk_past : (at : ℕ) (found : Given) (frames : List Frame) → length ids ≤ at → walk_goes found frames at ≡ (λ rest. rest)
  walk_past at found frames past = resumed_past each (here frames found) (items_left (walk_at at)) (records_past model ids at past)

  -- an item more is done
  pub walk_more : (run : Rest → Rest) (at : ℕ) (given later : Given) (frames left_in : List Frame) (mean : Given → List Frame → Rest → Rest) (new : Stopped) (looks mid after : ℕ) {before between behind : List ℕ} (stop : Flow)
      → at < length ids → left_in ≡ [] → is_done stop ≡ true → Along run (walk_goes given frames at) looks mid before between → Went (in_item at given frames) mean new mid after between behind stop
      → Along run (walk_goes later left_in (at + 1)) looks after before behind
  walk_more run at given later frames left_in mean new looks mid after stop within none is so_far went =
      along_then so_far
      (along_from (ap (λ (f : Given → Rest → Rest). f given) (walk_in at frames within))
      (along_to (sym (ap (λ fs. walk_goes later fs (at + 1)) none ∙ walk_anew (at + 1) later))
      (along_before (others at) (done_along is went))))

  each_is : (list : Expr) (at : ℕ) (frames : List Frame) → ◌≡◌ {A = Given → Rest → Rest} (λ found. each_left over levels number list name body typing vars found (frame.Item (walk_at at) ∷ frames)) (λ found. walk_goes found frames at)
  unfolding each_left
  each_is list at frames = refl

  -- an item stopped
  pub walk_stopped : (list : Expr) (run : Rest → Rest) (at : ℕ) (given : Given) (frames : List Frame) (inner new : Stopped) (looks mid after : ℕ) {before between behind : List ℕ} (stop : Flow)
      → at < length ids → new.frames ≡ frame.Item (walk_at at) ∷ inner.frames → is_done stop ≡ false → Along run (walk_goes given frames at) looks mid before between → Went (in_item at given frames) (in_item at) inner mid after between behind stop
      → Went run (each_left over levels number list name body typing vars) new looks after before behind stop
  walk_stopped list run at given frames inner new looks mid after stop within pushed is so_far went =
      went_after so_far
      (went_from (ap (λ (f : Given → Rest → Rest). f given) (walk_in at frames within))
      (went_stopped (others at) is
      (ap (λ fs. λ (found : Given). each_left over levels number list name body typing vars found fs) pushed ∙ each_is list at inner.frames ∙ walk_in at inner.frames within) went))

-- with no frame a template begins
module _ (over : Ground) where
  pub template_anew : (levels number : ℕ) (typing : Typing) (vars : Variables) (found : Given) → template_left over (left over found []) levels number typing vars ≡ levels_run over levels number typing vars
  unfolding left levels_run
  template_anew zero number typing vars found = refl
  template_anew (suc levels) number typing vars found = refl

-- ---- a collection

module _ (over : Ground) (levels partial : ℕ) (item : List ℕ) (of : ValueType) (model : ℕ) (ids : List ℕ) where
  abbrev pub member_at : ℕ → Walk
  member_at at = record { of = of; model = model; ids = ids; at = at }

  abbrev each_member : Val → Rest → Rest
  each_member one = levels_run over levels partial (typed item of) (only item one)

  abbrev here_member : List Frame → Given → Val → Rest → Rest
  here_member frames found one = template_left over (left over found frames) levels partial (typed item of) (only item one)

  abbrev pub members_go : Given → List Frame → ℕ → Rest → Rest
  members_go found frames at = members_left over (left over found frames) levels partial item (member_at at)

  abbrev pub in_member : ℕ → Given → List Frame → Rest → Rest
  in_member at = partial_left over levels partial (typed item of) (only item (val.Record model (get_or ids at 0)))

  abbrev other_members : ℕ → Rest → Rest
  other_members at = for_each each_member (items_left (member_at (at + 1)))

  members_in : (at : ℕ) (frames : List Frame) → at < length ids → ◌≡◌ {A = Given → Rest → Rest} (λ found. members_go found frames at) (λ found rest. in_member at found frames (other_members at rest))
  unfolding partial_left
  members_in at frames within = resumed_in each_member (here_member frames) (items_left (member_at at)) (items_left (member_at (at + 1))) (val.Record model (get_or ids at 0)) (records_in model ids at within)

  pub members_past : (at : ℕ) (found : Given) (frames : List Frame) → length ids ≤ at → members_go found frames at ≡ (λ rest. rest)
  members_past at found frames past = resumed_past each_member (here_member frames found) (items_left (member_at at)) (records_past model ids at past)

  pub members_anew : (at : ℕ) (found : Given) → members_go found [] at ≡ for_each each_member (items_left (member_at at))
  members_anew at found =
      (λ i. resumed (λ one. template_anew over levels partial (typed item of) (only item one) found i) each_member (items_left (member_at at)))
      ∙ resumed_same each_member (items_left (member_at at))

  pub members_more : (run : Rest → Rest) (at : ℕ) (given later : Given) (frames left_in : List Frame) (mean : Given → List Frame → Rest → Rest) (new : Stopped) (looks mid after : ℕ) {before between behind : List ℕ} (stop : Flow)
      → at < length ids → left_in ≡ [] → is_done stop ≡ true → Along run (members_go given frames at) looks mid before between → Went (in_member at given frames) mean new mid after between behind stop
      → Along run (members_go later left_in (at + 1)) looks after before behind
  members_more run at given later frames left_in mean new looks mid after stop within none is so_far went =
      along_then so_far
      (along_from (ap (λ (f : Given → Rest → Rest). f given) (members_in at frames within))
      (along_to (sym (ap (λ fs. members_go later fs (at + 1)) none ∙ members_anew (at + 1) later))
      (along_before (other_members at) (done_along is went))))

  member_is : (number : ℕ) (name : List ℕ) (list : Expr) (cached : Bool) (typing : Typing) (vars : Variables) (at : ℕ) (frames : List Frame)
      → ◌≡◌ {A = Given → Rest → Rest} (λ found. collection_left over levels number name list item cached typing vars found (frame.Member partial (member_at at) ∷ frames)) (λ found. members_go found frames at)
  unfolding collection_left
  member_is number name list cached typing vars at frames = refl

  pub members_stopped : (number : ℕ) (name : List ℕ) (list : Expr) (cached : Bool) (typing : Typing) (vars : Variables) (run : Rest → Rest) (at : ℕ) (given : Given) (frames : List Frame) (inner new : Stopped) (looks mid after : ℕ) {before between behind : List ℕ} (stop : Flow)
      → at < length ids → new.frames ≡ frame.Member partial (member_at at) ∷ inner.frames → is_done stop ≡ false → Along run (members_go given frames at) looks mid before between → Went (in_member at given frames) (in_member at) inner mid after between behind stop
      → Went run (collection_left over levels number name list item cached typing vars) new looks after before behind stop
  members_stopped number name list cached typing vars run at given frames inner new looks mid after stop within pushed is so_far went =
      went_after so_far
      (went_from (ap (λ (f : Given → Rest → Rest). f given) (members_in at frames within))
      (went_stopped (other_members at) is
      (ap (λ fs. λ (found : Given). collection_left over levels number name list item cached typing vars found fs) pushed ∙ member_is number name list cached typing vars at inner.frames ∙ members_in at inner.frames within) went))
