-- What carrying each part of a template on comes to, over a table (this project's own).
use Rattle.std.specs.Prelude.{ℕ, Bool, List, drop}
use Rattle.doll_expr.specs.declared.expr.Expr.{Expr}
use Rattle.doll_erb.specs.declared.node.Arm.{Arm}
use Rattle.doll_erb.specs.declared.node.KeyPart.{KeyPart}
use Rattle.doll_erb.specs.declared.node.Local.{Local}
use Rattle.doll_erb.specs.declared.node.Node.{Node}
use Rattle.doll_table.specs.Tables.{TableMap}
use Rattle.doll_plain.specs.Direct.{Variables}
use Rattle.doll_types.specs.Types.{Typing}
use Rattle.doll_run.specs.Pages.{Ground}
use Rattle.doll_run.specs.Rendering.{for_each, tree_runs}
use Rattle.doll_run.specs.Runs.{Rest}
use Rattle.doll_frames.specs.Along.{Along, Goes, Went}
use Rattle.doll_frames.specs.Contexts.{over_of}
use Rattle.doll_frames.specs.Left.{block_left, body_left, collection_anew, collection_left, each_left, if_left, kept_left, kept_run, left, made, members_left, missed_run, node_left, nodes_left, partial_left, render_left, resumed, stage_at, walk_left}
use Rattle.doll_frames.specs.Stacks.{Stopped, fragments, given}
use Rattle.doll_frames.specs.declared.context.Context.{Context}
use Rattle.doll_frames.specs.declared.flow.Flow.{Flow}
use Rattle.doll_frames.specs.declared.frame.Kept.{Kept}
use Rattle.doll_frames.specs.declared.keys.BlockKey.{BlockKey}
use Rattle.doll_frames.specs.declared.scope.Scope.{Scope}
use Rattle.doll_frames.specs.declared.walk.Walk.{Walk}

module _ (context : Context) (table : TableMap) where
  abbrev over : Ground
  over = over_of context table

  -- a template with a number, lists of nodes, a node, and its parts
  unfoldable pub TemplateGoes : ℕ → Scope → Stopped → Stopped → ℕ → ℕ → List ℕ → List ℕ → Flow → Type 0
  TemplateGoes number scope old new looks later before after flow = Goes (partial_left over context.levels number scope.typing scope.vars) old new looks later before after flow

  unfoldable pub NodesGo : List Node → Scope → Stopped → Stopped → ℕ → ℕ → List ℕ → List ℕ → Flow → Type 0
  NodesGo nodes scope old new looks later before after flow = Goes (nodes_left over context.levels context.number nodes scope.typing scope.vars) old new looks later before after flow

  unfoldable pub NodesGoFrom : List Node → ℕ → Scope → Stopped → ℕ → ℕ → List ℕ → List ℕ → Flow → Type 0
  NodesGoFrom nodes first scope new looks later before after flow =
      Went (tree_runs (stage_at over context.levels context.number) (drop first nodes) scope.typing scope.vars) (nodes_left over context.levels context.number nodes scope.typing scope.vars) new looks later before after flow

  -- those from one place up to another are done
  unfoldable pub NodesWentTo : List Node → ℕ → ℕ → Scope → ℕ → ℕ → List ℕ → List ℕ → Type 0
  NodesWentTo nodes first at scope looks later before after =
      Along (tree_runs (stage_at over context.levels context.number) (drop first nodes) scope.typing scope.vars) (tree_runs (stage_at over context.levels context.number) (drop at nodes) scope.typing scope.vars) looks later before after

  unfoldable pub NodeGoes : Node → Scope → Stopped → Stopped → ℕ → ℕ → List ℕ → List ℕ → Flow → Type 0
  NodeGoes one scope old new looks later before after flow = Goes (node_left over context.levels context.number one scope.typing scope.vars) old new looks later before after flow

  unfoldable pub IfGoes : List Arm → List Node → Scope → Stopped → Stopped → ℕ → ℕ → List ℕ → List ℕ → Flow → Type 0
  IfGoes arms otherwise scope old new looks later before after flow = Goes (if_left over context.levels context.number arms otherwise scope.typing scope.vars) old new looks later before after flow

  unfoldable pub EachGoes : Expr → List ℕ → List Node → Scope → Stopped → Stopped → ℕ → ℕ → List ℕ → List ℕ → Flow → Type 0
  EachGoes list name body scope old new looks later before after flow = Goes (each_left over context.levels context.number list name body scope.typing scope.vars) old new looks later before after flow

  -- the items of a walk, whichever list it goes through
  unfoldable pub WalkGoes : List ℕ → List Node → Walk → Scope → Stopped → Stopped → ℕ → ℕ → List ℕ → List ℕ → Flow → Type 0
  WalkGoes name body walk scope old new looks later before after flow = (list : Expr)
      → Went (walk_left over (left over (given old.answer) old.frames) context.levels context.number name body walk scope.typing scope.vars) (each_left over context.levels context.number list name body scope.typing scope.vars) new looks later before after flow

  unfoldable pub WalkWentTo : List ℕ → List Node → Walk → Walk → Scope → Stopped → Stopped → ℕ → ℕ → List ℕ → List ℕ → Type 0
  WalkWentTo name body walk now scope old new looks later before after =
      Along (walk_left over (left over (given old.answer) old.frames) context.levels context.number name body walk scope.typing scope.vars)
      (walk_left over (left over (given new.answer) new.frames) context.levels context.number name body now scope.typing scope.vars) looks later before after

  unfoldable pub BlockGoes : ℕ → List KeyPart → List Node → Scope → Stopped → Stopped → ℕ → ℕ → List ℕ → List ℕ → Flow → Type 0
  BlockGoes block key body scope old new looks later before after flow = Goes (block_left over context.levels context.number block key body scope.typing scope.vars) old new looks later before after flow

  -- the body of a block, whatever its key is made of
  unfoldable pub BodyGoes : ℕ → BlockKey → List Node → List ℕ → Scope → Stopped → Stopped → ℕ → ℕ → List ℕ → List ℕ → Flow → Type 0
  BodyGoes block key body written scope old new looks later before after flow = (parts : List KeyPart)
      → Went (body_left (nodes_left over context.levels context.number body scope.typing scope.vars (given old.answer) old.frames) (made over context.number block key scope.vars) written)
      (block_left over context.levels context.number block parts body scope.typing scope.vars) new looks later before after flow

  unfoldable pub RenderGoes : List ℕ → List Local → Scope → Stopped → Stopped → ℕ → ℕ → List ℕ → List ℕ → Flow → Type 0
  RenderGoes name locals scope old new looks later before after flow = Goes (render_left over context.levels context.number name locals scope.typing scope.vars) old new looks later before after flow

  -- a partial, whichever tag renders it
  unfoldable pub PartialGoes : ℕ → Scope → Stopped → Stopped → ℕ → ℕ → List ℕ → List ℕ → Flow → Type 0
  PartialGoes number own old new looks later before after flow = (name : List ℕ) (locals : List Local) (typing : Typing) (vars : Variables)
      → Went (partial_left over context.levels number own.typing own.vars (given old.answer) old.frames) (render_left over context.levels context.number name locals typing vars) new looks later before after flow

  unfoldable pub CollectionGoes : List ℕ → Expr → List ℕ → Bool → Scope → Stopped → Stopped → ℕ → ℕ → List ℕ → List ℕ → Flow → Type 0
  CollectionGoes name list item cached scope old new looks later before after flow = Goes (collection_left over context.levels context.number name list item cached scope.typing scope.vars) old new looks later before after flow

  unfoldable pub CollectionBegins : List ℕ → Expr → List ℕ → Bool → Scope → Stopped → ℕ → ℕ → List ℕ → List ℕ → Flow → Type 0
  CollectionBegins name list item cached scope new looks later before after flow =
      Went (collection_anew (stage_at over context.levels context.number) name list item cached scope.typing scope.vars) (collection_left over context.levels context.number name list item cached scope.typing scope.vars) new looks later before after flow

  -- what is left of a collection is carried on, whichever tag it is of
  unfoldable pub OfCollection : List ℕ → (Rest → Rest) → Stopped → ℕ → ℕ → List ℕ → List ℕ → Flow → Type 0
  OfCollection item run new looks later before after flow = (name : List ℕ) (list : Expr) (cached : Bool) (typing : Typing) (vars : Variables)
      → Went run (collection_left over context.levels context.number name list item cached typing vars) new looks later before after flow

  unfoldable pub MembersGo : ℕ → List ℕ → Walk → Stopped → Stopped → ℕ → ℕ → List ℕ → List ℕ → Flow → Type 0
  MembersGo partial item walk old new looks later before after flow = OfCollection item (members_left over (left over (given old.answer) old.frames) context.levels partial item walk) new looks later before after flow

  unfoldable pub MembersWentTo : ℕ → List ℕ → Walk → Walk → Stopped → Stopped → ℕ → ℕ → List ℕ → List ℕ → Type 0
  MembersWentTo partial item walk now old new looks later before after =
      Along (members_left over (left over (given old.answer) old.frames) context.levels partial item walk) (members_left over (left over (given new.answer) new.frames) context.levels partial item now) looks later before after

  unfoldable pub KeptGo : List ℕ → Kept → Stopped → ℕ → ℕ → List ℕ → List ℕ → Flow → Type 0
  KeptGo item kept new looks later before after flow = OfCollection item (for_each (kept_run over context.levels item kept) (kept_left kept (fragments kept.found))) new looks later before after flow

  unfoldable pub KeptWentTo : List ℕ → Kept → Kept → ℕ → ℕ → List ℕ → List ℕ → Type 0
  KeptWentTo item kept now looks later before after =
      Along (for_each (kept_run over context.levels item kept) (kept_left kept (fragments kept.found))) (for_each (kept_run over context.levels item now) (kept_left now (fragments now.found))) looks later before after

  unfoldable pub MissedGoes : List ℕ → Kept → List ℕ → Stopped → Stopped → ℕ → ℕ → List ℕ → List ℕ → Flow → Type 0
  MissedGoes item kept written old new looks later before after flow =
      OfCollection item (resumed (missed_run over (left over (given old.answer) old.frames) context.levels item kept written) (kept_run over context.levels item kept) (kept_left kept (fragments kept.found))) new looks later before after flow
