-- Asking for a block, and for the items of a cached collection.
use Rattle.std.proofs.Common.{◌≡◌, ℕ, ◌+◌, ◌<◌, ◌≤◌, ◌^◌, ◌&&◌, Bool, true, cond, List, [], ◌∷◌, map, sum_by, length, Option, None, All, IsSome, refl, ap, sym, subst, ◌∙◌, arith}
use Rattle.std.specs.List.{list_all}
use Rattle.std.proofs.lemmas.List.{append-nil}
use Rattle.std.proofs.lemmas.List.Elements.{All-map}
use Rattle.std.proofs.lemmas.List.Folds.{fold-map}
use Rattle.doll_erb.specs.declared.node.KeyPart.{KeyPart}
use Rattle.doll_erb.specs.declared.node.Node.{Node}
use Rattle.doll_expr.specs.declared.expr.Expr.{Expr}
use Rattle.doll_schema.specs.declared.value.Val.{Val}
use Rattle.doll_schema.specs.declared.value.Val.TheVariants as val
use Rattle.doll_table.specs.Tables.{TableMap, row_of}
use Rattle.doll_plain.specs.Direct.{Variables}
use Rattle.doll_types.specs.declared.types.ValueType.{ValueType}
use Rattle.doll_types.specs.Types.{Typing}
use Rattle.doll_entry.specs.declared.asks.Ask.{Ask}
use Rattle.doll_run.specs.Pages.{Ground}
use Rattle.doll_run.specs.Rendering.{after_looks, answers_to, asked_items, for_each, found_or, have_keys, item_asked, item_keyed, item_plain, item_run, items_looks, items_run, tree_runs}
use Rattle.doll_run.specs.Runs.{Reads, ReadsMany, Rest, Run}
use Rattle.doll_frames.specs.Along.{Went, next}
use Rattle.doll_frames.specs.Collections.{item_ask, item_has_key, item_looks, kept_item}
use Rattle.doll_frames.specs.Flows.{ask_for, block_id}
use Rattle.doll_frames.specs.Left.{block_anew, block_left, collection_left, kept_run, stage_at}
use Rattle.doll_frames.specs.Stacks.{FramesLive, Stopped}
use Rattle.doll_frames.specs.declared.flow.Flow.TheVariants as flow
use Rattle.doll_frames.specs.declared.frame.Frame.{Frame}
use Rattle.doll_frames.specs.declared.frame.Frame.TheVariants as frame
use Rattle.doll_frames.specs.declared.frame.Kept.{Kept}
use Rattle.doll_frames.specs.declared.frame.KeptItem.{KeptItem}
use Rattle.doll_frames.specs.declared.keys.BlockKey.{BlockKey}
use Rattle.doll_frames.specs.Contexts.{over_of}
use Rattle.doll_frames.specs.declared.context.Context.{Context}

module _ (over : Ground) (levels number : ℕ) (typing : Typing) (vars : Variables) (block : ℕ) (parts : List KeyPart) (body : List Node) where
  -- the question for a block with a key, and what follows
  abbrev asking : List ℕ → List ℕ → Rest → ℕ → List ℕ → Run
  asking text versions rest looks out =
      Reads looks (record { key = text; versions = versions; block = block_id over.tree number block; vars = vars })
      (λ found. found_or found (tree_runs (stage_at over levels number) body typing vars) (λ bytes. record { key = text; versions = versions; value = bytes; vars = vars; block = block_id over.tree number block; origin = over.moment }) rest 0 out)

  read_is : (k : BlockKey) (frames : List Frame) → frames ≡ frame.Asked k ∷ [] → (rest : Rest) (looks : ℕ) (out : List ℕ)
      → asking k.text k.versions rest looks out ≡ next (flow.Read (ask_for k vars (block_id over.tree number block))) (λ found. block_left over levels number block parts body typing vars found frames) rest looks out
  unfolding block_left
  read_is k frames is rest looks out =
      ap (λ fs. next (flow.Read (ask_for k vars (block_id over.tree number block))) (λ found. block_left over levels number block parts body typing vars found fs) rest looks out) (sym is)

  -- a block that has a key is asked for
  keyed_run : (over.keyed number typing parts vars).is_key ≡ true → (rest : Rest) (looks : ℕ) (out : List ℕ)
      → block_anew (stage_at over levels number) block parts body typing vars rest looks out
      ≡ asking (over.keyed number typing parts vars).text (over.keyed number typing parts vars).versions rest (looks + (over.keyed number typing parts vars).looks) out
  keyed_run is rest looks out =
      ap (λ b. cond b (asking (over.keyed number typing parts vars).text (over.keyed number typing parts vars).versions rest (looks + (over.keyed number typing parts vars).looks) out)
      (after_looks (over.keyed number typing parts vars).looks (tree_runs (stage_at over levels number) body typing vars rest) looks out)) is

  pub block_asked : (k : BlockKey) (ask : Ask) (new : Stopped) (looks later : ℕ) → (over.keyed number typing parts vars).is_key ≡ true → k.text ≡ (over.keyed number typing parts vars).text → k.versions ≡ (over.keyed number typing parts vars).versions
      → ask ≡ ask_for k vars (block_id over.tree number block) → new.frames ≡ frame.Asked k ∷ [] → later ≤ looks + (over.keyed number typing parts vars).looks
      → Went (block_anew (stage_at over levels number) block parts body typing vars) (block_left over levels number block parts body typing vars) new looks later [] [] (flow.Read ask)
  block_asked k ask new looks later keyed text versions is frames within = record {
    along = record {
      more = (over.keyed number typing parts vars).looks;
      text = [];
      within = within;
      written = refl;
      goes = λ rest n out.
          keyed_run keyed rest n out
          ∙ ap (λ t. asking t (over.keyed number typing parts vars).versions rest (n + (over.keyed number typing parts vars).looks) out) (sym text)
          ∙ ap (λ v. asking k.text v rest (n + (over.keyed number typing parts vars).looks) out) (sym versions)
          ∙ read_is k new.frames frames rest (n + (over.keyed number typing parts vars).looks) out
          ∙ ap (λ a. next (flow.Read a) (λ found. block_left over levels number block parts body typing vars found new.frames) rest (n + (over.keyed number typing parts vars).looks) out) (sym is)
          ∙ ap (λ o. next (flow.Read ask) (λ found. block_left over levels number block parts body typing vars found new.frames) rest (n + (over.keyed number typing parts vars).looks) o) (sym (append-nil out));
    };
    ended = λ done. absurd (cc done);
  }

-- ---- items

module _ (context : Context) (table : TableMap) (levels number partial : ℕ) (name : List ℕ) (of : ValueType) (model : ℕ) where
  abbrev over : Ground
  over = over_of context table

  abbrev one_kept : ℕ → KeptItem
  one_kept = kept_item context.set.now context.schema.now table partial name of model

  abbrev one_ask : ℕ → Ask
  one_ask = item_ask context.set.now context.schema.now table context.tree partial name of model

  abbrev one_looks : ℕ → ℕ
  one_looks = item_looks context.set.now context.schema.now table partial name of model

  abbrev one_has_key : ℕ → Bool
  one_has_key = item_has_key context.set.now context.schema.now table partial name of model

  abbrev record_of : ℕ → Val
  record_of id = val.Record model id

  abbrev kept_with : List KeptItem → Kept
  kept_with items = record { partial = partial; of = of; model = model; items = items; at = 0; found = [] }

  asks_are : (ids : List ℕ) → map (item_asked (stage_at over levels number) partial name of) (map record_of ids) ≡ map one_ask ids
  unfolding item_ask
  asks_are [] = refl
  asks_are (id ∷ ids) = ap (λ more. item_asked (stage_at over levels number) partial name of (record_of id) ∷ more) (asks_are ids)

  looks_are : (ids : List ℕ) → sum_by (λ one. (item_keyed (stage_at over levels number) partial name of one).looks) (map record_of ids) ≡ sum_by one_looks ids
  unfolding item_looks
  looks_are ids = fold-map (λ a x. a + (item_keyed (stage_at over levels number) partial name of x).looks) record_of 0 ids

  runs_are : (items : List KeptItem) (ids : List ℕ) (found : List (Option (List ℕ)))
      → for_each (item_run (stage_at over levels number) partial name of) (answers_to (map record_of ids) found) ≡ for_each (kept_run over levels name (kept_with items)) (answers_to (map one_kept ids) found)
  unfolding kept_item
  runs_are items [] found = refl
  runs_are items (id ∷ ids) [] = ap (λ (more : Rest → Rest). λ (rest : Rest). item_run (stage_at over levels number) partial name of (record_of id, None) (more rest)) (runs_are items ids [])
  runs_are items (id ∷ ids) (one ∷ found) = ap (λ (more : Rest → Rest). λ (rest : Rest). item_run (stage_at over levels number) partial name of (record_of id, one) (more rest)) (runs_are items ids found)

  -- whether each item has a key
  keys_are : (ids : List ℕ) → have_keys (stage_at over levels number) partial name of (map record_of ids) ≡ list_all one_has_key ids
  unfolding item_has_key
  keys_are [] = refl
  keys_are (id ∷ ids) = ap (λ more. (item_keyed (stage_at over levels number) partial name of (record_of id)).is_key && more) (keys_are ids)

  -- some items that have keys are asked for at once
  some_run : (items : List Val) → 0 < length items → have_keys (stage_at over levels number) partial name of items ≡ true → (rest : Rest) (looks : ℕ) (out : List ℕ) → items_run (stage_at over levels number) partial name of items rest looks out
      ≡ ReadsMany (looks + sum_by (λ one. (item_keyed (stage_at over levels number) partial name of one).looks) items) (map (item_asked (stage_at over levels number) partial name of) items)
      (λ found. for_each (item_run (stage_at over levels number) partial name of) (answers_to items found) rest 0 out)
  some_run [] some keys rest looks out = absurd (omega arith)
  some_run (x ∷ items) some keys rest looks out =
      ap (λ b. cond b (asked_items (stage_at over levels number) partial name of (x ∷ items) rest looks out)
      (after_looks (items_looks (stage_at over levels number) partial name of (x ∷ items)) (for_each (item_plain (stage_at over levels number) partial name of) (x ∷ items) rest) looks out)) keys

  many_is : (named : List ℕ) (list : Expr) (cached : Bool) (typing : Typing) (vars : Variables) (items : List KeptItem) (asks : List Ask) (frames : List Frame) → frames ≡ frame.AskedMany (kept_with items) ∷ [] → (rest : Rest) (looks : ℕ) (out : List ℕ)
      → ReadsMany looks asks (λ found. for_each (kept_run over levels name (kept_with items)) (answers_to items found) rest 0 out)
      ≡ next (flow.ReadMany asks) (λ found. collection_left over levels number named list name cached typing vars found frames) rest looks out
  unfolding collection_left
  many_is named list cached typing vars items asks frames is rest looks out =
      ap (λ fs. next (flow.ReadMany asks) (λ found. collection_left over levels number named list name cached typing vars found fs) rest looks out) (sym is)

  mapped_some : (ids : List ℕ) → 0 < length ids → 0 < length (map record_of ids)
  mapped_some [] some = absurd (omega arith)
  mapped_some (id ∷ ids) some = omega arith

  pub items_asked : (named : List ℕ) (list : Expr) (cached : Bool) (typing : Typing) (vars : Variables) (ids : List ℕ) (items : List KeptItem) (asks : List Ask) (new : Stopped) (looks later : ℕ)
      → 0 < length ids → list_all one_has_key ids ≡ true → items ≡ map one_kept ids → asks ≡ map one_ask ids → new.frames ≡ frame.AskedMany (kept_with items) ∷ [] → later ≤ looks + sum_by one_looks ids
      → Went (items_run (stage_at over levels number) partial name of (map record_of ids)) (collection_left over levels number named list name cached typing vars) new looks later [] [] (flow.ReadMany asks)
  items_asked named list cached typing vars ids items asks new looks later some keys kept_are asks_is frames within = record {
    along = record {
      more = sum_by one_looks ids;
      text = [];
      within = within;
      written = refl;
      goes = λ rest n out.
          some_run (map record_of ids) (mapped_some ids some) (keys_are ids ∙ keys) rest n out
          ∙ ap (λ s. ReadsMany (n + s) (map (item_asked (stage_at over levels number) partial name of) (map record_of ids)) (λ found. for_each (item_run (stage_at over levels number) partial name of) (answers_to (map record_of ids) found) rest 0 out)) (looks_are ids)
          ∙ ap (λ a. ReadsMany (n + sum_by one_looks ids) a (λ found. for_each (item_run (stage_at over levels number) partial name of) (answers_to (map record_of ids) found) rest 0 out)) (asks_are ids ∙ sym asks_is)
          ∙ (λ i. ReadsMany (n + sum_by one_looks ids) asks (λ found. runs_are items ids found i rest 0 out))
          ∙ ap (λ its. ReadsMany (n + sum_by one_looks ids) asks (λ found. for_each (kept_run over levels name (kept_with items)) (answers_to its found) rest 0 out)) (sym kept_are)
          ∙ many_is named list cached typing vars items asks new.frames frames rest (n + sum_by one_looks ids) out
          ∙ ap (λ o. next (flow.ReadMany asks) (λ found. collection_left over levels number named list name cached typing vars found new.frames) rest (n + sum_by one_looks ids) o) (sym (append-nil out));
    };
    ended = λ done. absurd (cc done);
  }

  pub none_asked : (ids : List ℕ) → length ids ≡ 0 → items_run (stage_at over levels number) partial name of (map record_of ids) ≡ (λ rest. rest)
  none_asked [] none = refl
  none_asked (id ∷ ids) none = absurd (omega (arith, none))

  pub kept_live : (ids : List ℕ) (items : List KeptItem) → items ≡ map one_kept ids → partial < 2 ^ 16 → All (λ id. IsSome (row_of table model id)) ids → FramesLive table (frame.AskedMany (kept_with items) ∷ [])
  unfolding kept_item FramesLive
  kept_live ids items is few all = ((few, subst (λ its. All (λ (item : KeptItem). IsSome (row_of table model item.id)) its) (sym is) (All-map (λ (item : KeptItem). IsSome (row_of table model item.id)) one_kept ids all)), tt)
