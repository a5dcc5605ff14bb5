-- What the steps between the parts of a rendering lead to (this project's own). Each is told by what carrying the next part on comes to: whatever that is, the
-- whole comes to it.
use Rattle.std.specs.Prelude.{◌≡◌, ◌<◌, ℕ, Bool, true, false, List, [], ◌∷◌, Option, None, Some, ⊤, length, get_or}
use Rattle.doll_expr.specs.declared.expr.Expr.{Expr}
use Rattle.doll_erb.specs.declared.node.Arm.{Arm}
use Rattle.doll_erb.specs.declared.node.KeyPart.{KeyPart}
use Rattle.doll_erb.specs.declared.node.Local.{Local}
use Rattle.doll_erb.specs.declared.node.Node.{Node}
use Rattle.doll_schema.specs.declared.value.Val.TheVariants as val
use Rattle.doll_table.specs.Tables.{TableMap}
use Rattle.doll_frames.specs.Arms.{arm_body}
use Rattle.doll_frames.specs.Carried.{BlockGoes, BodyGoes, CollectionGoes, EachGoes, IfGoes, KeptGo, MembersGo, MissedGoes, NodesGo, PartialGoes, RenderGoes, WalkGoes}
use Rattle.doll_frames.specs.Flows.{is_done}
use Rattle.doll_frames.specs.Stacks.{KeptLives, Stopped}
use Rattle.doll_frames.specs.Walks.{Lives}
use Rattle.doll_frames.specs.declared.context.Context.{Context}
use Rattle.doll_frames.specs.declared.flow.Flow.{Flow}
use Rattle.doll_frames.specs.declared.flow.Flow.TheVariants as flow
use Rattle.doll_frames.specs.declared.frame.Frame.TheVariants as frame
use Rattle.doll_frames.specs.declared.frame.Kept.{Kept}
use Rattle.doll_frames.specs.declared.frame.KeptItem.{KeptItem}
use Rattle.doll_frames.specs.declared.scope.Scope.{Scope}
use Rattle.doll_frames.specs.declared.walk.Walk.{Walk}
use Rattle.doll_job.specs.declared.steps.BlockStep.{BlockStep}
use Rattle.doll_job.specs.declared.steps.BlockStep.TheVariants as block
use Rattle.doll_job.specs.declared.steps.CollectionStep.{CollectionStep}
use Rattle.doll_job.specs.declared.steps.CollectionStep.TheVariants as collection

module _ (context : Context) (table : TableMap) where
  -- to the body of an arm of an `if`, which is done or stops
  pub record ArmLeads (arms : List Arm) (otherwise : List Node) (scope : Scope) (place : ℕ) (old popped : Stopped) (looks mid : ℕ) (before : List ℕ) : Type 0 where
    pub ends : (body : List Node) (new : Stopped) (later : ℕ) (after : List ℕ) (stop : Flow) → body ≡ arm_body arms otherwise place → is_done stop ≡ true
        → NodesGo context table body scope popped new mid later before after stop → IfGoes context table arms otherwise scope old new looks later before after stop
    pub stops : (body : List Node) (inner new : Stopped) (later : ℕ) (after : List ℕ) (stop : Flow) → body ≡ arm_body arms otherwise place → new.frames ≡ frame.Arm place ∷ inner.frames → is_done stop ≡ false
        → NodesGo context table body scope popped inner mid later before after stop → IfGoes context table arms otherwise scope old new looks later before after stop

  -- to the items of an `each`, where its list has any by its type
  unfoldable pub EachLeads : Expr → List ℕ → List Node → Scope → Stopped → Stopped → ℕ → ℕ → List ℕ → List ℕ → Option Walk → Type 0
  EachLeads list name body scope old popped looks mid before between None = EachGoes context table list name body scope old popped looks mid before between flow.Done
  EachLeads list name body scope old popped looks mid before between (Some walk) = (new : Stopped) (later : ℕ) (after : List ℕ) (stop : Flow)
      → WalkGoes context table name body walk scope popped new mid later between after stop → EachGoes context table list name body scope old new looks later before after stop

  -- to a partial with its variables, where there is one and they have types
  unfoldable pub RenderLeads : List ℕ → List Local → Scope → Stopped → Stopped → ℕ → ℕ → List ℕ → Option (ℕ × Scope) → Type 0
  RenderLeads name locals scope old popped looks mid before None = RenderGoes context table name locals scope old popped looks mid before before flow.Done
  RenderLeads name locals scope old popped looks mid before (Some at) = (new : Stopped) (later : ℕ) (after : List ℕ) (stop : Flow)
      → PartialGoes context table at.0 at.1 popped new mid later before after stop → RenderGoes context table name locals scope old new looks later before after stop

  -- to the end of a block or to a call, or to its body
  unfoldable pub BlockLeads : ℕ → List KeyPart → List Node → Scope → Stopped → Stopped → ℕ → ℕ → List ℕ → List ℕ → BlockStep → Type 0
  BlockLeads number key body scope old popped looks mid before between (block.Stops stop) = BlockGoes context table number key body scope old popped looks mid before between stop
  BlockLeads number key body scope old popped looks mid before between (block.Body kept written) = (new : Stopped) (later : ℕ) (after : List ℕ) (stop : Flow)
      → BodyGoes context table number kept body written scope popped new mid later between after stop → BlockGoes context table number key body scope old new looks later before after stop

  -- what was found of kept items leads to their end, or to the first that missed
  unfoldable pub KeptLeads : List ℕ → Kept → ℕ → List ℕ → List ℕ → CollectionStep → Type 0
  KeptLeads item kept looks before between (collection.Stops stop) = (new : Stopped) → new.frames ≡ [] → KeptGo context table item kept new looks looks before between stop
  KeptLeads item kept looks before between (collection.Members partial walk) = ⊥
  KeptLeads item kept looks before between (collection.Missed now written) = (popped new : Stopped) (later : ℕ) (after : List ℕ) (stop : Flow) → popped.frames ≡ []
      → MissedGoes context table item now written popped new looks later between after stop → KeptGo context table item kept new looks later before after stop

  -- to the end of a collection or to a call, to its items, or to one that missed
  unfoldable pub CollectionLeads : List ℕ → Expr → List ℕ → Bool → Scope → Stopped → Stopped → ℕ → ℕ → List ℕ → List ℕ → CollectionStep → Type 0
  CollectionLeads name list item cached scope old popped looks mid before between (collection.Stops stop) = CollectionGoes context table name list item cached scope old popped looks mid before between stop
  CollectionLeads name list item cached scope old popped looks mid before between (collection.Members partial walk) = (new : Stopped) (later : ℕ) (after : List ℕ) (stop : Flow)
      → MembersGo context table partial item walk popped new mid later between after stop → CollectionGoes context table name list item cached scope old new looks later before after stop
  CollectionLeads name list item cached scope old popped looks mid before between (collection.Missed kept written) = (new : Stopped) (later : ℕ) (after : List ℕ) (stop : Flow)
      → MissedGoes context table item kept written popped new mid later between after stop → CollectionGoes context table name list item cached scope old new looks later before after stop

-- the variable of the first item that wasn't passed
pub record IsMissed (item : List ℕ) (kept : Kept) (own : Scope) : Type 0 where
  pub one : KeptItem
  pub within : kept.at < length kept.items
  pub there : one ≡ get_or kept.items kept.at one
  pub is : own ≡ record { typing = (item, kept.of) ∷ []; vars = (item, val.Record kept.model one.id) ∷ [] }

-- the records that a step goes on with are in a table
abbrev pub StepLives : TableMap → CollectionStep → Type 0
StepLives table (collection.Stops stop) = ⊤
StepLives table (collection.Members partial walk) = Lives table walk
StepLives table (collection.Missed kept written) = KeptLives table kept
