-- What is left of the parts of a template, by where it stopped in them.
use Rattle.std.proofs.Common.{◌≡◌, ◌≢◌, ℕ, zero, suc, ◌+◌, ◌-◌, ◌<◌, ◌≤◌, Bool, true, false, cond, List, [], ◌∷◌, ◌++◌, map, drop, length, get_or, Option, None, Some, Result, Ok, Err, refl, ap, sym, ◌∙◌, arith}
use Rattle.std.specs.Prelude.{slice_get}
use Rattle.std.specs.Option.{option_map_or}
use Rattle.std.proofs.lemmas.List.{drop_all}
use Rattle.doll_expr.specs.declared.expr.Expr.{Expr}
use Rattle.doll_erb.specs.declared.node.Arm.{Arm}
use Rattle.doll_erb.specs.declared.node.Node.{Node}
use Rattle.doll_schema.specs.declared.value.Val.{Val}
use Rattle.doll_schema.specs.declared.value.Val.TheVariants as val
use Rattle.doll_eval.specs.Operations.{is_true}
use Rattle.doll_set.specs.declared.template.Template.{Template}
use Rattle.doll_plain.specs.Direct.{Variables, items_of}
use Rattle.doll_types.specs.declared.types.TypeKind.{TypeKind}
use Rattle.doll_types.specs.declared.types.ValueType.{ValueType}
use Rattle.doll_types.specs.Findings.{items_type}
use Rattle.doll_types.specs.Types.{Typing}
use Rattle.doll_run.specs.Pages.{Ground}
use Rattle.doll_run.specs.Rendering.{Stage, after_looks, chosen, for_each, looks_on, only, tree_runs, value_on, with_type}
use Rattle.doll_run.specs.Runs.{Rest}
use Rattle.doll_frames.specs.Along.{Along, Went}
use Rattle.doll_frames.specs.Arms.{arm_body, chosen_place, tests_looks}
use Rattle.doll_frames.specs.Flows.{is_done}
use Rattle.doll_frames.specs.Left.{choice, each_anew, each_left, if_anew, if_left, left, nodes_left, node_left, partial_left, resumed, stage_at, template_left, typed, walk_left}
use Rattle.doll_frames.specs.Stacks.{Given, Stopped, first_is, is_arm, is_item}
use Rattle.doll_frames.specs.Walks.{walk_by, walk_of}
use Rattle.doll_frames.specs.declared.flow.Flow.{Flow}
use Rattle.doll_frames.specs.declared.frame.Frame.{Frame}
use Rattle.doll_frames.specs.declared.frame.Frame.TheVariants as frame
use Rattle.doll_frames.specs.declared.walk.Walk.{Walk}
use Rattle.doll_frames.proofs.Alongs.{along_before, along_from, along_then, along_to}
use Rattle.doll_frames.proofs.Beginnings.{each_begin, if_begin}
use Rattle.doll_frames.proofs.Lefts.{behind, behind_here, node_anew, nodes_anew, nodes_in}
use Rattle.doll_frames.proofs.Wents.{done_along, went_after, went_framed, went_from, went_on, went_stopped}

-- ---- templates

module _ (over : Ground) where
  nothing_in : (levels number : ℕ) (typing : Typing) (vars : Variables) (given : Given) (frames : List Frame) → nodes_left over levels number [] typing vars given frames ≡ (λ rest. rest)
  unfolding left
  nothing_in levels number typing vars given [] = refl
  nothing_in levels number typing vars given (frame.Node at ∷ frames) = ap (λ ns. tree_runs (stage_at over levels number) ns typing vars) (drop_all (at + 1) [] (omega arith))
  nothing_in levels number typing vars given (frame.Arm place ∷ frames) = refl
  nothing_in levels number typing vars given (frame.Item walk ∷ frames) = refl
  nothing_in levels number typing vars given (frame.Asked key ∷ frames) = refl
  nothing_in levels number typing vars given (frame.Body key written ∷ frames) = refl
  nothing_in levels number typing vars given (frame.Behind ∷ frames) = refl
  nothing_in levels number typing vars given (frame.Partial partial scope ∷ frames) = refl
  nothing_in levels number typing vars given (frame.Member partial walk ∷ frames) = refl
  nothing_in levels number typing vars given (frame.AskedMany kept ∷ frames) = refl
  nothing_in levels number typing vars given (frame.Missed kept written ∷ frames) = refl
  nothing_in levels number typing vars given (frame.HandedIn kept ∷ frames) = refl

  pub template_none : (levels number : ℕ) (typing : Typing) (vars : Variables) (given : Given) (frames : List Frame) → levels ≡ 0 → partial_left over levels number typing vars given frames ≡ (λ rest. rest)
  unfolding partial_left
  template_none levels number typing vars given frames is = ap (λ l. template_left over (left over given frames) l number typing vars) is

  pub template_missing : (levels number : ℕ) (typing : Typing) (vars : Variables) (given : Given) (frames : List Frame) → slice_get over.templates number ≡ None → partial_left over levels number typing vars given frames ≡ (λ rest. rest)
  unfolding partial_left
  template_missing zero number typing vars given frames is = refl
  template_missing (suc levels) number typing vars given frames is =
      ap (λ o. nodes_left over levels number (option_map_or (λ (t : Template). t.tree) o []) typing vars given frames) is
      ∙ nothing_in levels number typing vars given frames

  pub template_in : (levels number : ℕ) (typing : Typing) (vars : Variables) (template : Template) (tree : List Node) → levels ≢ 0 → slice_get over.templates number ≡ Some template → tree ≡ template.tree
      → partial_left over levels number typing vars ≡ nodes_left over (levels - 1) number tree typing vars
  unfolding partial_left
  template_in zero number typing vars template tree some is same = absurd (some refl)
  template_in (suc levels) number typing vars template tree some is same =
      ap (λ o. nodes_left over levels number (option_map_or (λ (t : Template). t.tree) o []) typing vars) is
      ∙ ap (λ ns. nodes_left over levels number ns typing vars) (sym same)
      ∙ ap (λ l. nodes_left over l number tree typing vars) one
    where
      one : levels ≡ suc levels - 1
      one = omega arith

-- ---- lists of nodes

module _ (over : Ground) (levels number : ℕ) (typing : Typing) (vars : Variables) (nodes : List Node) where
  -- a node of a list stopped
  pub nodes_stopped : (at : ℕ) (one : Node) (given : Given) (frames whole : List Frame) (inner new : Stopped) (looks later : ℕ) {before after : List ℕ} (stop : Flow)
      → slice_get nodes at ≡ Some one → whole ≡ frame.Node at ∷ frames → new.frames ≡ frame.Node at ∷ inner.frames → is_done stop ≡ false
      → Went (node_left over levels number one typing vars given frames) (node_left over levels number one typing vars) inner looks later before after stop
      → Went (nodes_left over levels number nodes typing vars given whole) (nodes_left over levels number nodes typing vars) new looks later before after stop
  nodes_stopped at one given frames whole inner new looks later stop there popped pushed is went =
      went_from (ap (nodes_left over levels number nodes typing vars given) popped ∙ ap (λ (f : Given → Rest → Rest). f given) (nodes_in over levels number typing vars nodes at one frames there))
      (went_stopped (behind over levels number typing vars nodes at) is
      (ap (λ fs. λ (found : Given). nodes_left over levels number nodes typing vars found fs) pushed ∙ nodes_in over levels number typing vars nodes at one inner.frames there) went)

  -- it is done, and those behind it go on
  pub nodes_on : (at : ℕ) (one : Node) (given : Given) (frames whole : List Frame) (inner new : Stopped) (looks mid later : ℕ) {before between after : List ℕ} (first stop : Flow)
      → slice_get nodes at ≡ Some one → whole ≡ frame.Node at ∷ frames → is_done first ≡ true
      → Went (node_left over levels number one typing vars given frames) (node_left over levels number one typing vars) inner looks mid before between first
      → Went (tree_runs (stage_at over levels number) (drop (at + 1) nodes) typing vars) (nodes_left over levels number nodes typing vars) new mid later between after stop
      → Went (nodes_left over levels number nodes typing vars given whole) (nodes_left over levels number nodes typing vars) new looks later before after stop
  nodes_on at one given frames whole inner new looks mid later first stop there popped is went then =
      went_from (ap (nodes_left over levels number nodes typing vars given) popped ∙ ap (λ (f : Given → Rest → Rest). f given) (nodes_in over levels number typing vars nodes at one frames there))
      (went_on is went then)

  -- a node of those that begin is done
  pub from_more : (run : Rest → Rest) (at : ℕ) (one : Node) (given : Given) (frames : List Frame) (inner : Stopped) (looks mid later : ℕ) {before between after : List ℕ} (first : Flow)
      → at < length nodes → one ≡ get_or nodes at one → frames ≡ [] → is_done first ≡ true → Along run (tree_runs (stage_at over levels number) (drop at nodes) typing vars) looks mid before between
      → Went (node_left over levels number one typing vars given frames) (node_left over levels number one typing vars) inner mid later between after first
      → Along run (tree_runs (stage_at over levels number) (drop (at + 1) nodes) typing vars) looks later before after
  from_more run at one given frames inner looks mid later first within there none is so_far went =
      along_then so_far
      (along_from (behind_here over levels number typing vars nodes at one within there)
      (along_before (behind over levels number typing vars nodes at)
      (along_from (sym (ap (node_left over levels number one typing vars given) none ∙ node_anew over levels number typing vars one given)) (done_along is went))))

  -- it stopped
  pub from_stopped : (run : Rest → Rest) (at : ℕ) (one : Node) (given : Given) (frames : List Frame) (inner new : Stopped) (looks mid later : ℕ) {before between after : List ℕ} (stop : Flow)
      → at < length nodes → one ≡ get_or nodes at one → slice_get nodes at ≡ Some one → frames ≡ [] → new.frames ≡ frame.Node at ∷ inner.frames → is_done stop ≡ false
      → Along run (tree_runs (stage_at over levels number) (drop at nodes) typing vars) looks mid before between
      → Went (node_left over levels number one typing vars given frames) (node_left over levels number one typing vars) inner mid later between after stop
      → Went run (nodes_left over levels number nodes typing vars) new looks later before after stop
  from_stopped run at one given frames inner new looks mid later stop within is_one there none pushed is so_far went =
      went_after so_far
      (went_from (behind_here over levels number typing vars nodes at one within is_one)
      (went_stopped (behind over levels number typing vars nodes at) is
      (ap (λ fs. λ (found : Given). nodes_left over levels number nodes typing vars found fs) pushed ∙ nodes_in over levels number typing vars nodes at one inner.frames there)
      (went_from (sym (ap (node_left over levels number one typing vars given) none ∙ node_anew over levels number typing vars one given)) went)))

-- ---- the arms of an `if`

module _ (over : Ground) (levels number : ℕ) (typing : Typing) (vars : Variables) where
  abbrev stage : Stage
  stage = stage_at over levels number

  -- the arm that is taken, behind the looks at the tests
  chosen_runs : (arms : List Arm) (otherwise : List Node) (rest : Rest) (looks : ℕ) (out : List ℕ)
      → chosen stage (map (choice stage) arms) (tree_runs stage otherwise) typing vars rest looks out
      ≡ tree_runs stage (arm_body arms otherwise (chosen_place over.schema over.table arms vars)) typing vars rest (looks + tests_looks over.schema over.table arms vars) out
  chosen_runs [] otherwise rest looks out = ap (λ n. tree_runs stage otherwise typing vars rest n out) plain
    where
      plain : looks ≡ looks + 0
      plain = omega arith
  chosen_runs (arm ∷ arms) otherwise rest looks out = by (λ n. chosen_runs arms otherwise rest n out) (is_true (value_on stage arm.test vars))
    where
      more : (a b c : ℕ) → (a + b) + c ≡ a + (b + c)
      more a b c = omega arith

      by : ((n : ℕ) → chosen stage (map (choice stage) arms) (tree_runs stage otherwise) typing vars rest n out ≡ tree_runs stage (arm_body arms otherwise (chosen_place over.schema over.table arms vars)) typing vars rest (n + tests_looks over.schema over.table arms vars) out)
          → (held : Bool) → cond held (tree_runs stage arm.body typing vars rest) (chosen stage (map (choice stage) arms) (tree_runs stage otherwise) typing vars rest) (looks + looks_on stage arm.test vars) out
          ≡ tree_runs stage (arm_body (arm ∷ arms) otherwise (cond held 0 (suc (chosen_place over.schema over.table arms vars)))) typing vars rest (looks + (looks_on stage arm.test vars + cond held 0 (tests_looks over.schema over.table arms vars))) out
      by others true = ap (λ n. tree_runs stage arm.body typing vars rest n out) (plain looks (looks_on stage arm.test vars))
        where
          plain : (a b : ℕ) → a + b ≡ a + (b + 0)
          plain a b = omega arith
      by others false =
          others (looks + looks_on stage arm.test vars)
          ∙ ap (λ n. tree_runs stage (arm_body arms otherwise (chosen_place over.schema over.table arms vars)) typing vars rest n out) (more looks (looks_on stage arm.test vars) (tests_looks over.schema over.table arms vars))

  if_in : (arms : List Arm) (otherwise : List Node) (place : ℕ) (frames : List Frame) → ◌≡◌ {A = Given → Rest → Rest} (λ found. if_left over levels number arms otherwise typing vars found (frame.Arm place ∷ frames)) (λ found. nodes_left over levels number (arm_body arms otherwise place) typing vars found frames)
  unfolding if_left
  if_in arms otherwise place frames = refl

  -- the arm was chosen before
  pub if_resumed : (arms : List Arm) (otherwise body : List Node) (place : ℕ) (given : Given) (frames whole : List Frame) → whole ≡ frame.Arm place ∷ frames → body ≡ arm_body arms otherwise place
      → if_left over levels number arms otherwise typing vars given whole ≡ nodes_left over levels number body typing vars given frames
  if_resumed arms otherwise body place given frames whole popped same =
      ap (if_left over levels number arms otherwise typing vars given) popped ∙ ap (λ (f : Given → Rest → Rest). f given) (if_in arms otherwise place frames)
      ∙ ap (λ ns. nodes_left over levels number ns typing vars given frames) (sym same)

  if_start : (arms : List Arm) (otherwise : List Node) (given : Given) → if_left over levels number arms otherwise typing vars given [] ≡ if_anew stage arms otherwise typing vars
  unfolding if_left
  if_start arms otherwise given = refl

  -- it is chosen now
  pub if_chosen : (arms : List Arm) (otherwise body : List Node) (place : ℕ) (given later : Given) (frames whole : List Frame) (looks mid : ℕ) (before : List ℕ) → first_is is_arm whole ≡ false → frames ≡ [] → place ≡ chosen_place over.schema over.table arms vars → body ≡ arm_body arms otherwise place
      → mid ≤ looks + tests_looks over.schema over.table arms vars
      → Along (if_left over levels number arms otherwise typing vars given whole) (nodes_left over levels number body typing vars later frames) looks mid before before
  if_chosen arms otherwise body place given later frames whole looks mid before other none is same within = record {
    more = tests_looks over.schema over.table arms vars;
    text = [];
    within = within;
    written = sym (empty before);
    goes = λ rest n out.
        ap (λ (f : Rest → Rest). f rest n out) (if_begin over levels number typing vars given arms otherwise whole other ∙ if_start arms otherwise given)
        ∙ chosen_runs arms otherwise rest n out
        ∙ ap (λ p. tree_runs stage (arm_body arms otherwise p) typing vars rest (n + tests_looks over.schema over.table arms vars) out) (sym is)
        ∙ ap (λ ns. tree_runs stage ns typing vars rest (n + tests_looks over.schema over.table arms vars) out) (sym same)
        ∙ ap (λ (f : Rest → Rest). f rest (n + tests_looks over.schema over.table arms vars) out) (sym (ap (nodes_left over levels number body typing vars later) none ∙ nodes_anew over levels number typing vars body later))
        ∙ ap (λ o. nodes_left over levels number body typing vars later frames rest (n + tests_looks over.schema over.table arms vars) o) (sym (empty out));
  }
    where
      empty : (o : List ℕ) → o ++ [] ≡ o
      empty [] = refl
      empty (b ∷ o) = ap (λ t. b ∷ t) (empty o)

  -- the body of an arm stopped
  pub arm_stopped : (arms : List Arm) (otherwise body : List Node) (place : ℕ) (inner new : Stopped) (looks later : ℕ) {run : Rest → Rest} {before after : List ℕ} (stop : Flow) → new.frames ≡ frame.Arm place ∷ inner.frames → body ≡ arm_body arms otherwise place → is_done stop ≡ false
      → Went run (nodes_left over levels number body typing vars) inner looks later before after stop → Went run (if_left over levels number arms otherwise typing vars) new looks later before after stop
  arm_stopped arms otherwise body place inner new looks later stop pushed same is went =
      went_framed is
      (ap (λ fs. λ (found : Given). if_left over levels number arms otherwise typing vars found fs) pushed ∙ if_in arms otherwise place inner.frames
      ∙ ap (λ ns. λ (found : Given). nodes_left over levels number ns typing vars found inner.frames) (sym same)) went

  -- ---- an `each`

  pub each_resumed : (list : Expr) (name : List ℕ) (body : List Node) (walk : Walk) (given : Given) (frames whole : List Frame) → whole ≡ frame.Item walk ∷ frames
      → each_left over levels number list name body typing vars given whole ≡ walk_left over (left over given frames) levels number name body walk typing vars
  unfolding each_left
  each_resumed list name body walk given frames whole popped = ap (each_left over levels number list name body typing vars given) popped

  each_start : (list : Expr) (name : List ℕ) (body : List Node) (given : Given) → each_left over levels number list name body typing vars given [] ≡ each_anew stage list name body typing vars
  unfolding each_left
  each_start list name body given = refl

  each_by_walk : (list : Expr) (name : List ℕ) (body : List Node) (given : Given) (walk : Option Walk) (types : Result ValueType TypeKind) → walk ≡ walk_by types (value_on stage list vars)
      → ◌≡◌ {A = Rest → Rest} (λ rest. with_type types (λ of. for_each (λ item. tree_runs stage body (typing ++ typed name of) (vars ++ only name item)) (items_of (value_on stage list vars))) rest)
      (option_map_or (λ (w : Walk). walk_left over (left over given []) levels number name body w typing vars) walk (λ rest. rest))
  unfolding left
  each_by_walk list name body given walk (Err kind) is = ap (λ w. option_map_or (λ (w : Walk). walk_left over (left over given []) levels number name body w typing vars) w (λ rest. rest)) (sym is)
  each_by_walk list name body given walk (Ok of) is = by_value (value_on stage list vars) ∙ ap (λ w. option_map_or (λ (w : Walk). walk_left over (left over given []) levels number name body w typing vars) w (λ rest. rest)) (sym is)
    where
      each : Val → Rest → Rest
      each item = tree_runs stage body (typing ++ typed name of) (vars ++ only name item)

      same : (xs : List Val) → for_each (λ item. tree_runs stage body (typing ++ typed name of) (vars ++ only name item)) xs ≡ resumed (λ item. tree_runs stage body (typing ++ typed name of) (vars ++ only name item)) (λ item. tree_runs stage body (typing ++ typed name of) (vars ++ only name item)) xs
      same [] = refl
      same (x ∷ xs) = refl

      by_value : (v : Val) → for_each (λ item. tree_runs stage body (typing ++ typed name of) (vars ++ only name item)) (items_of v) ≡ walk_left over (left over given []) levels number name body (walk_of of v) typing vars
      by_value (val.List model ids) = same (map (λ id. val.Record model id) ids)
      by_value (val.Plain v) = refl
      by_value (val.Record model id) = refl

  -- an `each` whose list was walked to
  pub each_begun : (list : Expr) (name : List ℕ) (body : List Node) (given later : Given) (frames whole : List Frame) (walk : Option Walk) (looks mid : ℕ) (before : List ℕ) → first_is is_item whole ≡ false → frames ≡ [] → walk ≡ walk_by (items_type over.schema typing list) (value_on stage list vars)
      → mid ≤ looks + looks_on stage list vars
      → Along (each_left over levels number list name body typing vars given whole) (option_map_or (λ (w : Walk). walk_left over (left over later frames) levels number name body w typing vars) walk (λ rest. rest)) looks mid before before
  each_begun list name body given later frames whole walk looks mid before other none is within =
      along_from (each_begin over levels number typing vars given list name body whole other ∙ each_start list name body given)
      (along_to (ap (λ fs. option_map_or (λ (w : Walk). walk_left over (left over later fs) levels number name body w typing vars) walk (λ rest. rest)) (sym none))
      (along_to (each_by_walk list name body later walk (items_type over.schema typing list) is)
      (after_some (λ rest. with_type (items_type over.schema typing list) (λ of. for_each (λ item. tree_runs stage body (typing ++ typed name of) (vars ++ only name item)) (items_of (value_on stage list vars))) rest) (looks_on stage list vars) looks mid before within)))
    where
      empty : (o : List ℕ) → o ++ [] ≡ o
      empty [] = refl
      empty (b ∷ o) = ap (λ t. b ∷ t) (empty o)

      after_some : (run : Rest → Rest) (more looks mid : ℕ) (before : List ℕ) → mid ≤ looks + more → Along (λ rest. after_looks more (run rest)) run looks mid before before
      after_some run more looks mid before within = record { more = more; text = []; within = within; written = sym (empty before); goes = λ rest n out. sym (ap (λ o. run rest (n + more) o) (empty out)) }
