-- Parts of a template that begin, by what they ask or go through.
use Rattle.std.proofs.Common.{◌≡◌, ℕ, ◌+◌, ◌≤◌, Bool, true, false, List, [], ◌++◌, Option, None, Some, refl, ap, sym, ◌∙◌}
use Rattle.std.specs.Option.{option_map_or}
use Rattle.std.proofs.lemmas.List.{append-nil}
use Rattle.doll_expr.specs.declared.expr.Expr.{Expr}
use Rattle.doll_erb.specs.declared.node.KeyPart.{KeyPart}
use Rattle.doll_erb.specs.declared.node.Node.{Node}
use Rattle.doll_table.specs.Tables.{TableMap}
use Rattle.doll_types.specs.Findings.{items_type}
use Rattle.doll_run.specs.Pages.{Ground}
use Rattle.doll_run.specs.Rendering.{items_run, looks_on, value_on}
use Rattle.doll_run.specs.Runs.{Rest}
use Rattle.doll_frames.specs.Along.{Along, Went}
use Rattle.doll_frames.specs.Carried.{BlockGoes, CollectionBegins, EachGoes, WalkGoes}
use Rattle.doll_frames.specs.Contexts.{over_of}
use Rattle.doll_frames.specs.Left.{block_anew, block_left, collection_left, left, stage_at, walk_left}
use Rattle.doll_frames.specs.Stacks.{Given, Stopped, first_is, given, is_block, is_item}
use Rattle.doll_frames.specs.Walks.{items_in, walk_by}
use Rattle.doll_frames.specs.declared.context.Context.{Context}
use Rattle.doll_frames.specs.declared.flow.Flow.{Flow}
use Rattle.doll_frames.specs.declared.flow.Flow.TheVariants as flow
use Rattle.doll_frames.specs.declared.frame.Frame.{Frame}
use Rattle.doll_frames.specs.declared.scope.Scope.{Scope}
use Rattle.doll_frames.specs.declared.walk.Walk.{Walk}
use Rattle.doll_frames.proofs.Alongs.{along_to}
use Rattle.doll_frames.proofs.Blocks.{block_start}
use Rattle.doll_frames.proofs.Partials.{collection_begun, collection_cached}
use Rattle.doll_frames.proofs.Parts.{each_begun}
use Rattle.doll_frames.proofs.Wents.{went_after, went_done, went_from}

-- what writes nothing may stand behind any bytes
along_behind : {a b : Rest → Rest} {old new : ℕ} (before : List ℕ) → Along a b old new [] [] → Along a b old new before before
along_behind before along = record {
  more = along.more;
  text = along.text;
  within = along.within;
  written = sym (append-nil before) ∙ ap (λ text. before ++ text) along.written;
  goes = along.goes;
}

pub went_behind : {a : Rest → Rest} {mean : Given → List Frame → Rest → Rest} {new : Stopped} {looks later : ℕ} {stop : Flow} (before : List ℕ) → Went a mean new looks later [] [] stop → Went a mean new looks later before before stop
went_behind before went = record { along = along_behind before went.along; ended = went.ended }

module _ (context : Context) (table : TableMap) where
  abbrev over : Ground
  over = over_of context table

  -- a block that is asked for
  pub block_begins : (block : ℕ) (key : List KeyPart) (body : List Node) (scope : Scope) (old new : Stopped) (looks later : ℕ) (before : List ℕ) (stop : Flow) → first_is is_block old.frames ≡ false
      → Went (block_anew (stage_at over context.levels context.number) block key body scope.typing scope.vars) (block_left over context.levels context.number block key body scope.typing scope.vars) new looks later [] [] stop
      → BlockGoes context table block key body scope old new looks later before before stop
  unfolding BlockGoes
  block_begins block key body scope old new looks later before stop other asked =
      went_from (block_start over context.levels context.number block key body scope.typing scope.vars (given old.answer) old.frames other) (went_behind before asked)

  -- an `each` whose list has no items by its type
  pub each_untyped : (list : Expr) (name : List ℕ) (body : List Node) (walks : Option Walk) (scope : Scope) (old new : Stopped) (looks later : ℕ) (before : List ℕ) → first_is is_item old.frames ≡ false
      → walks ≡ walk_by (items_type over.schema scope.typing list) (value_on (stage_at over context.levels context.number) list scope.vars) → later ≤ looks + looks_on (stage_at over context.levels context.number) list scope.vars → walks ≡ None → new.frames ≡ []
      → EachGoes context table list name body scope old new looks later before before flow.Done
  unfolding EachGoes
  each_untyped list name body walks scope old new looks later before other is within none ended =
      went_done (along_to (ap (λ w. option_map_or (λ (w : Walk). walk_left over (left over (given old.answer) []) context.levels context.number name body w scope.typing scope.vars) w (λ rest. rest)) none)
      (each_begun over context.levels context.number scope.typing scope.vars list name body (given old.answer) (given old.answer) [] old.frames walks looks later before other refl is within)) ended

  -- an `each` whose list is gone through
  pub each_begins : (list : Expr) (name : List ℕ) (body : List Node) (walks : Option Walk) (walk : Walk) (scope : Scope) (old popped new : Stopped) (looks mid later : ℕ) (before after : List ℕ) (stop : Flow) → first_is is_item old.frames ≡ false → popped.frames ≡ []
      → walks ≡ walk_by (items_type over.schema scope.typing list) (value_on (stage_at over context.levels context.number) list scope.vars) → mid ≤ looks + looks_on (stage_at over context.levels context.number) list scope.vars → walks ≡ Some walk
      → WalkGoes context table name body walk scope popped new mid later before after stop → EachGoes context table list name body scope old new looks later before after stop
  unfolding EachGoes WalkGoes
  each_begins list name body walks walk scope old popped new looks mid later before after stop other none is within there goes =
      went_after (along_to (ap (λ w. option_map_or (λ (w : Walk). walk_left over (left over (given popped.answer) popped.frames) context.levels context.number name body w scope.typing scope.vars) w (λ rest. rest)) there)
      (each_begun over context.levels context.number scope.typing scope.vars list name body (given old.answer) (given popped.answer) popped.frames old.frames walks looks mid before other none is within))
      (goes list)

  -- a cached collection whose items are asked for
  pub collection_asks : (name : List ℕ) (list : Expr) (item : List ℕ) (cached : Bool) (scope : Scope) (walks : Option Walk) (walk : Walk) (partial : ℕ) (new : Stopped) (looks mid later : ℕ) (before : List ℕ) (stop : Flow)
      → walks ≡ walk_by (items_type over.schema scope.typing list) (value_on (stage_at over context.levels context.number) list scope.vars) → mid ≤ looks + looks_on (stage_at over context.levels context.number) list scope.vars → walks ≡ Some walk
      → (stage_at over context.levels context.number).partial name ≡ Some partial → cached ≡ true
      → Went (items_run (stage_at over context.levels context.number) partial item walk.of (items_in walk)) (collection_left over context.levels context.number name list item cached scope.typing scope.vars) new mid later [] [] stop
      → CollectionBegins context table name list item cached scope new looks later before before stop
  unfolding CollectionBegins
  collection_asks name list item cached scope walks walk partial new looks mid later before stop is within there known kept asked =
      went_after (along_to (collection_cached over context.levels context.number name list item cached scope.typing scope.vars walks ((stage_at over context.levels context.number).partial name) walk partial there known kept)
      (collection_begun over context.levels context.number name list item cached scope.typing scope.vars walks looks mid is within))
      (went_behind before asked)
