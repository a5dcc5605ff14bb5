use Rattle.std.proofs.Common.{[], None, Some, sym, subst, arith}
use Rattle.std.specs.Prelude.{IfSome}
use Rattle.doll_eval.specs.Values.{value_of}
use Rattle.doll_set.specs.Digests.{name_at}
use Rattle.doll_types.specs.Findings.{items_type}
use Rattle.doll_run.specs.Rendering.{items_run}
use Rattle.doll_frames.specs.Along.{Went}
use Rattle.doll_frames.specs.Contexts.{over_of}
use Rattle.doll_frames.specs.Left.{collection_left, stage_at}
use Rattle.doll_frames.specs.Stacks.{FramesLive}
use Rattle.doll_frames.specs.Walks.{Lives, items_in}
use Rattle.doll_frames.proofs.Lives.{no_frames}
use Rattle.doll_job.proofs.Facts.{partial_is, partial_within}
use Rattle.doll_job.proofs.Leads.{collection_asked, collection_lost, collection_started, collection_typeless, walk_first}
use Rattle.doll_job.proofs.steps.begin_collection.Goals as goal

pub returns-in_default-clause-leads : goal.returns-in_default-clause-leads
returns-in_default-clause-leads g c =
    λ old before other.
    collection_typeless c.args.context.now (g.R.Rows.table c.args.rows.now) c.args.name.now c.args.list.now c.args.item.now c.args.cached c.args.scope.now c.in_ok-walk.field-0 old c.args.stack.now (g.R.Rows.looks c.args.rows.now) (g.R.Rows.looks c.begin_walk.new.rows) before other c.requires.begins c.in_ok-walk.ensures.value c.in_ok-walk.ensures.looks c.in_default.is

pub returns-in_default-clause-frames : goal.returns-in_default-clause-frames
returns-in_default-clause-frames g c =
    no_frames (g.R.Rows.table c.args.rows.now) c.args.stack.now.frames c.requires.begins

pub returns-in_default-2-clause-leads : goal.returns-in_default-2-clause-leads
returns-in_default-2-clause-leads g c =
    λ old before other.
    collection_lost c.args.context.now (g.R.Rows.table c.args.rows.now) c.args.name.now c.args.list.now c.args.item.now c.args.cached c.args.scope.now c.in_ok-walk.field-0 old c.args.stack.now (g.R.Rows.looks c.args.rows.now) (g.R.Rows.looks c.begin_walk.new.rows) before other c.requires.begins c.in_ok-walk.ensures.value c.in_ok-walk.ensures.looks (partial_is c.args.context.now.set.now.templates (name_at c.args.context.now.set.now.templates c.args.context.now.number) c.in_ok-partial.field-0 None c.as_bytes.ensures c.in_ok-partial.ensures c.in_default-2.is)

pub returns-in_default-2-clause-frames : goal.returns-in_default-2-clause-frames
returns-in_default-2-clause-frames g c =
    no_frames (g.R.Rows.table c.args.rows.now) c.args.stack.now.frames c.requires.begins

pub returns-then-not-cached-clause-leads : goal.returns-then-not-cached-clause-leads
returns-then-not-cached-clause-leads g c =
    λ old before other.
    collection_started c.args.context.now (g.R.Rows.table c.args.rows.now) c.args.name.now c.args.list.now c.args.item.now c.args.cached c.args.scope.now c.in_ok-walk.field-0 old c.args.stack.now (g.R.Rows.looks c.args.rows.now) (g.R.Rows.looks c.begin_walk.new.rows) before other c.requires.begins c.in_ok-walk.ensures.value c.in_ok-walk.ensures.looks c.in-Some.walk c.in-Some-2.partial c.in-Some.is (partial_is c.args.context.now.set.now.templates (name_at c.args.context.now.set.now.templates c.args.context.now.number) c.in_ok-partial.field-0 (Some c.in-Some-2.partial) c.as_bytes.ensures c.in_ok-partial.ensures c.in-Some-2.is) c.if-not-cached.true
    (walk_first (items_type c.args.context.now.schema.now c.args.scope.now.typing c.args.list.now) (value_of c.args.list.now c.args.scope.now.vars c.args.context.now.schema.now (g.R.Rows.table c.args.rows.now)) c.in_ok-walk.field-0 c.in-Some.walk c.in_ok-walk.ensures.value c.in-Some.is)

pub returns-then-not-cached-clause-living : goal.returns-then-not-cached-clause-living
returns-then-not-cached-clause-living g c =
    (subst (λ o. IfSome o (Lives (g.R.Rows.table c.args.rows.now))) c.in-Some.is c.in_ok-walk.ensures.living)

pub returns-then-not-cached-clause-frames : goal.returns-then-not-cached-clause-frames
returns-then-not-cached-clause-frames g c =
    no_frames (g.R.Rows.table c.args.rows.now) c.args.stack.now.frames c.requires.begins

pub ask_items-requires-clause-living : goal.ask_items-requires-clause-living
ask_items-requires-clause-living g c =
    subst (λ t. Lives t c.in-Some.walk) (sym c.begin_walk.ensures.table) (subst (λ o. IfSome o (Lives (g.R.Rows.table c.args.rows.now))) c.in-Some.is c.in_ok-walk.ensures.living)

pub ask_items-requires-clause-frames : goal.ask_items-requires-clause-frames
ask_items-requires-clause-frames g c =
    no_frames (g.R.Rows.table c.begin_walk.new.rows) c.args.stack.now.frames c.requires.begins

pub ask_items-requires-clause-few : goal.ask_items-requires-clause-few
ask_items-requires-clause-few g c =
    let inside = partial_within c.args.context.now.set.now.templates (name_at c.args.context.now.set.now.templates c.args.context.now.number) c.args.name.now c.in-Some-2.partial (partial_is c.args.context.now.set.now.templates (name_at c.args.context.now.set.now.templates c.args.context.now.number) c.in_ok-partial.field-0 (Some c.in-Some-2.partial) c.as_bytes.ensures c.in_ok-partial.ensures c.in-Some-2.is) in
    let few = c.requires.known.few in
    omega (arith, inside, few)

pub returns-clause-leads : goal.returns-clause-leads
returns-clause-leads g c =
    λ old before other.
    collection_asked c.args.context.now (g.R.Rows.table c.args.rows.now) c.args.name.now c.args.list.now c.args.item.now c.args.cached c.args.scope.now c.in_ok-walk.field-0 c.in-Some.walk c.in-Some-2.partial old c.ask_items.new.stack (g.R.Rows.looks c.args.rows.now) (g.R.Rows.looks c.begin_walk.new.rows) (g.R.Rows.looks c.ask_items.new.rows) before c.in_ok-flow.flow other c.in_ok-walk.ensures.value c.in_ok-walk.ensures.looks c.in-Some.is (partial_is c.args.context.now.set.now.templates (name_at c.args.context.now.set.now.templates c.args.context.now.number) c.in_ok-partial.field-0 (Some c.in-Some-2.partial) c.as_bytes.ensures c.in_ok-partial.ensures c.in-Some-2.is) c.if-not-cached.false
    (subst (λ t. Went (items_run (stage_at (over_of c.args.context.now t) c.args.context.now.levels c.args.context.now.number) c.in-Some-2.partial c.args.item.now c.in-Some.walk.of (items_in c.in-Some.walk)) (collection_left (over_of c.args.context.now t) c.args.context.now.levels c.args.context.now.number c.args.name.now c.args.list.now c.args.item.now c.args.cached c.args.scope.now.typing c.args.scope.now.vars) c.ask_items.new.stack (g.R.Rows.looks c.begin_walk.new.rows) (g.R.Rows.looks c.ask_items.new.rows) [] [] c.in_ok-flow.flow) c.begin_walk.ensures.table
    (c.in_ok-flow.ensures.goes c.args.name.now c.args.list.now c.args.cached c.args.scope.now.typing c.args.scope.now.vars))

pub returns-clause-frames : goal.returns-clause-frames
returns-clause-frames g c =
    subst (λ t. FramesLive t c.ask_items.new.stack.frames) c.begin_walk.ensures.table c.in_ok-flow.ensures.frames
