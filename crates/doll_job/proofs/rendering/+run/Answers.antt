use Rattle.std.proofs.Common.{◌+◌, ◌*◌, ◌<◌, ◌≤◌, ◌++◌, ◌∷◌, [], length, get_or, refl, ap, sym, subst, ◌∙◌, arith, rules}
use Rattle.std.specs.Prelude.{IfSome}
use Rattle.std.proofs.lemmas.Option.{slice_get_read}
use Rattle.doll_erb.proofs.node.Node.TheLaws.{the_size}
use Rattle.doll_erb.specs.declared.node.Node.{the_lemmas}
use Rattle.doll_erb.specs.declared.node.Node as node
use Rattle.doll_schema.specs.declared.value.Val.TheVariants as val
use Rattle.doll_eval.specs.Living.{AreLiving}
use Rattle.doll_eval.proofs.Livings.{bound_live}
use Rattle.doll_plain.proofs.Depths.{cache_below, each_below}
use Rattle.doll_plain.proofs.Parts.{alone_lives, living_along}
use Rattle.doll_plain.proofs.Templates.{found_there, not_there}
use Rattle.doll_frames.specs.Carried.{BlockGoes, BodyGoes, EachGoes, MembersGo, MissedGoes, NodeGoes, NodesGo, NodesGoFrom, RenderGoes, TemplateGoes}
use Rattle.doll_frames.specs.Stacks.{FramesLive, KeptLives}
use Rattle.doll_frames.specs.Walks.{Lives}
use Rattle.doll_frames.specs.declared.flow.Flow.TheVariants as flow
use Rattle.doll_frames.specs.declared.frame.Frame.TheVariants as frame
use Rattle.doll_frames.specs.declared.scope.Scope.{Scope}
use Rattle.doll_frames.proofs.Carrying.{block_goes, collection_goes, depends_goes, each_goes, if_goes, nodes_anew_go, nodes_end, nodes_go_on, nodes_gone, nodes_here, nodes_more, nodes_stop, nodes_stop_at, partial_goes_on, partial_stops_here, raw_goes, render_goes, template_goes, template_gone, template_no_level, text_goes, write_goes}
use Rattle.doll_frames.proofs.Collecting.{members_end, members_go_on, members_here, members_stop, missed_gone}
use Rattle.doll_frames.proofs.Depths.{body_left, first_left, if_left, less_left, node_left, part_left, tag_left, tree_left}
use Rattle.doll_frames.proofs.Lives.{frame_pushed, frames_behind, no_frames}
use Rattle.doll_job.specs.Steps.{BlockLeads, CollectionLeads, EachLeads, IsMissed, StepLives}
use Rattle.doll_job.proofs.Facts.{if_done, if_ok, missed_lives, moved, node_ended, node_none, node_past, node_there, node_within, nodes_ended, on_any, on_ok, scope_back, template_ended, template_within}
use Rattle.doll_job.proofs.Leads.{block_led, block_stopped, collection_stopped, each_ends, each_none, each_on, each_stops, members_led, missed_led, render_led, render_nowhere, scope_is}
use Rattle.doll_job.proofs.rendering.+run.Goals as goal
use denote.Param.Weighed.{most}

-- ---- templates

pub run_template-run_nodes-requires : goal.run_template-run_nodes-requires
run_template-run_nodes-requires g t c κs within =
    let below = tree_left c.args.context.now.levels c.args.context.now.set.now.templates c.args.number c.in-Some.template.now c.as_slice.result.now c.if-context-eq0.false (found_there c.args.context.now.set.now.templates c.templates.result.now c.args.number c.in-Some.template.now c.templates.ensures.value c.in-Some.ensures.lookup.0 c.in-Some.ensures.lookup.1) c.as_slice.ensures in
    (first_of (omega (arith, below), grind (arith, below)), (search rules, (search rules, (record { there = template_within c.args.context.now.set.now.templates c.templates.result.now c.args.number c.templates.ensures.value c.in-Some.ensures.lookup.0; few = c.requires.known.few }, (search rules, search rules)))))

pub run_template-returns-then-context-eq0-clause-goes : goal.run_template-returns-then-context-eq0-clause-goes
run_template-returns-then-context-eq0-clause-goes g t c =
    template_no_level c.args.context.now (g.R.Rows.table c.args.rows.now) c.args.number c.args.scope.now c.args.stack.now c.clear.new.self (g.R.Rows.looks c.args.rows.now) c.args.out.now c.if-context-eq0.true c.clear.ensures.frames

pub run_template-returns-then-context-eq0-clause-frames : goal.run_template-returns-then-context-eq0-clause-frames
run_template-returns-then-context-eq0-clause-frames g t c =
    no_frames (g.R.Rows.table c.args.rows.now) c.clear.new.self.frames c.clear.ensures.frames

pub run_template-returns-in_default-clause-goes : goal.run_template-returns-in_default-clause-goes
run_template-returns-in_default-clause-goes g t c =
    template_gone c.args.context.now (g.R.Rows.table c.args.rows.now) c.args.number c.args.scope.now c.args.stack.now c.clear-in_default.new.self (g.R.Rows.looks c.args.rows.now) c.args.out.now
    (not_there c.args.context.now.set.now.templates c.templates.result.now c.args.number c.templates.ensures.value c.in_default.ensures.lookup.0) c.clear-in_default.ensures.frames

pub run_template-returns-in_default-clause-frames : goal.run_template-returns-in_default-clause-frames
run_template-returns-in_default-clause-frames g t c =
    no_frames (g.R.Rows.table c.args.rows.now) c.clear-in_default.new.self.frames c.clear-in_default.ensures.frames

pub run_template-returns-clause-goes : goal.run_template-returns-clause-goes
run_template-returns-clause-goes g t c =
    if_ok c.run_nodes.result
    (λ stop goes. template_goes c.args.context.now (g.R.Rows.table c.args.rows.now) c.args.number c.args.scope.now c.args.stack.now c.run_nodes.new.stack (g.R.Rows.looks c.args.rows.now) (g.R.Rows.looks c.run_nodes.new.rows) c.args.out.now c.run_nodes.new.out stop c.in-Some.template.now c.as_slice.result.now c.if-context-eq0.false (found_there c.args.context.now.set.now.templates c.templates.result.now c.args.number c.in-Some.template.now c.templates.ensures.value c.in-Some.ensures.lookup.0 c.in-Some.ensures.lookup.1) c.as_slice.ensures goes)
    c.run_nodes.ensures.goes

-- ---- lists of nodes

pub run_nodes-run_from-requires : goal.run_nodes-run_from-requires
run_nodes-run_from-requires g t c κs within =
    let below = less_left c.args.context.now.levels c.args.context.now.set.now.templates (8 * most the_size c.args.nodes.now + 6) (8 * most the_size c.args.nodes.now + 7) (omega arith) in
    (first_of (omega (arith, below), grind (arith, below)), (search rules, (search rules, (search rules, (search rules, (c.pop_node.ensures.none c.in_default.is).1)))))

pub run_nodes-run_node-requires : goal.run_nodes-run_node-requires
run_nodes-run_node-requires g t c κs within =
    let below = first_left c.args.context.now.levels c.args.context.now.set.now.templates c.args.nodes.now c.in-Some.at c.in-Some-get.node.now (node_within c.args.nodes.now c.in-Some.at c.in-Some-get.ensures.lookup.0) c.in-Some-get.ensures.lookup.1 in
    (first_of (omega (arith, below), grind (arith, below)), (search rules, (search rules, (search rules, (search rules, frames_behind (g.R.Rows.table c.args.rows.now) (frame.Node c.in-Some.at) c.pop_node.new.self.frames c.args.stack.now.frames c.in-Some.ensures.some c.requires.frames)))))

pub run_nodes-returns-in_default-clause-goes : goal.run_nodes-returns-in_default-clause-goes
run_nodes-returns-in_default-clause-goes g t c =
    if_ok c.run_from.result
    (λ stop goes. nodes_anew_go c.args.context.now (g.R.Rows.table c.args.rows.now) c.args.nodes.now c.args.scope.now c.args.stack.now c.run_from.new.stack (g.R.Rows.looks c.args.rows.now) (g.R.Rows.looks c.run_from.new.rows) c.args.out.now c.run_from.new.out stop (c.pop_node.ensures.none c.in_default.is).0 goes)
    c.run_from.ensures.goes

pub run_nodes-returns-in_default-get-clause-goes : goal.run_nodes-returns-in_default-get-clause-goes
run_nodes-returns-in_default-get-clause-goes g t c =
    nodes_gone c.args.context.now (g.R.Rows.table c.args.rows.now) c.args.nodes.now c.in-Some.at c.args.scope.now c.args.stack.now c.pop_node.new.self c.clear.new.self (g.R.Rows.looks c.args.rows.now) c.args.out.now (node_none c.args.nodes.now c.in-Some.at c.in_default-get.ensures.lookup.0) (node_past c.args.nodes.now c.in-Some.at c.in_default-get.ensures.lookup.0) c.in-Some.ensures.some c.clear.ensures.frames

pub run_nodes-returns-in_default-get-clause-frames : goal.run_nodes-returns-in_default-get-clause-frames
run_nodes-returns-in_default-get-clause-frames g t c =
    no_frames (g.R.Rows.table c.args.rows.now) c.clear.new.self.frames c.clear.ensures.frames

pub run_nodes-returns-then-not-is_done-clause-goes : goal.run_nodes-returns-then-not-is_done-clause-goes
run_nodes-returns-then-not-is_done-clause-goes g t c =
    nodes_stop c.args.context.now (g.R.Rows.table c.args.rows.now) c.args.nodes.now c.in-Some.at c.in-Some-get.node.now c.args.scope.now c.args.stack.now c.pop_node.new.self c.run_node.new.stack c.push.new.self (g.R.Rows.looks c.args.rows.now) (g.R.Rows.looks c.run_node.new.rows) c.args.out.now c.run_node.new.out c.in_ok-flow.flow (node_there c.args.nodes.now c.in-Some.at c.in-Some-get.node.now c.in-Some-get.ensures.lookup.0 c.in-Some-get.ensures.lookup.1) c.in-Some.ensures.some c.pop_node.ensures.answer c.in_ok-push.ensures.frames (sym c.is_done.ensures ∙ c.if-not-is_done.true) c.in_ok-flow.ensures.goes

pub run_nodes-returns-then-not-is_done-clause-frames : goal.run_nodes-returns-then-not-is_done-clause-frames
run_nodes-returns-then-not-is_done-clause-frames g t c =
    frame_pushed (g.R.Rows.table c.args.rows.now) (frame.Node c.in-Some.at) c.run_node.new.stack.frames c.push.new.self.frames c.in_ok-push.ensures.frames tt c.in_ok-flow.ensures.frames

pub run_nodes-run_from-requires-2 : goal.run_nodes-run_from-requires-2
run_nodes-run_from-requires-2 g t c κs within =
    let below = less_left c.args.context.now.levels c.args.context.now.set.now.templates (8 * most the_size c.args.nodes.now + 6) (8 * most the_size c.args.nodes.now + 7) (omega arith) in
    (first_of (omega (arith, below), grind (arith, below)), (search rules, (search rules, (search rules, (living_along (g.R.Rows.table c.run_node.new.rows) (g.R.Rows.table c.args.rows.now) c.run_node.new.scope.vars c.args.scope.now.vars c.run_node.ensures.table (ap (λ (s : Scope). s.vars) c.in_ok-flow.ensures.scope) c.requires.living, node_ended c.args.context.now (g.R.Rows.table c.args.rows.now) c.in-Some-get.node.now c.args.scope.now c.pop_node.new.self c.run_node.new.stack (g.R.Rows.looks c.args.rows.now) (g.R.Rows.looks c.run_node.new.rows) c.args.out.now c.run_node.new.out c.in_ok-flow.flow (sym c.is_done.ensures ∙ c.if-not-is_done.false) c.in_ok-flow.ensures.goes)))))

pub run_nodes-returns-clause-goes : goal.run_nodes-returns-clause-goes
run_nodes-returns-clause-goes g t c =
    if_ok c.run_from-2.result
    (λ stop goes. nodes_go_on c.args.context.now (g.R.Rows.table c.args.rows.now) c.args.nodes.now c.in-Some.at c.in-Some-get.node.now c.args.scope.now c.args.stack.now c.pop_node.new.self c.run_node.new.stack c.run_from-2.new.stack (g.R.Rows.looks c.args.rows.now) (g.R.Rows.looks c.run_node.new.rows) (g.R.Rows.looks c.run_from-2.new.rows) c.args.out.now c.run_node.new.out c.run_from-2.new.out c.in_ok-flow.flow stop (node_there c.args.nodes.now c.in-Some.at c.in-Some-get.node.now c.in-Some-get.ensures.lookup.0 c.in-Some-get.ensures.lookup.1) c.in-Some.ensures.some c.pop_node.ensures.answer (sym c.is_done.ensures ∙ c.if-not-is_done.false) c.in_ok-flow.ensures.goes
    (moved (λ t s. NodesGoFrom c.args.context.now t c.args.nodes.now (c.in-Some.at + 1) s c.run_from-2.new.stack (g.R.Rows.looks c.run_node.new.rows) (g.R.Rows.looks c.run_from-2.new.rows) c.run_node.new.out c.run_from-2.new.out stop) c.run_node.ensures.table c.in_ok-flow.ensures.scope goes))
    c.run_from-2.ensures.goes

pub run_nodes-returns-clause-frames : goal.run_nodes-returns-clause-frames
run_nodes-returns-clause-frames g t c =
    on_ok c.run_from-2.result (subst (λ t. FramesLive t c.run_from-2.new.stack.frames) c.run_node.ensures.table) c.run_from-2.ensures.frames

pub run_nodes-returns-clause-scope : goal.run_nodes-returns-clause-scope
run_nodes-returns-clause-scope g t c =
    on_ok c.run_from-2.result (λ same. same ∙ c.in_ok-flow.ensures.scope) c.run_from-2.ensures.scope

pub run_from-run_node-requires : goal.run_from-run_node-requires
run_from-run_node-requires g t c κs within =
    let below = node_left c.args.context.now.levels c.args.context.now.set.now.templates c.args.nodes.now c.loop-at.at c.index-nodes-at.result c.loop-at-test.true c.index-nodes-at.is in
    (first_of (omega (arith, below), grind (arith, below)), (search rules, (search rules, (search rules, (living_along (g.R.Rows.table c.loop-at.rows) (g.R.Rows.table c.args.rows.now) c.loop-at.scope.vars c.args.scope.now.vars c.loop-at.invariant.table (ap (λ (s : Scope). s.vars) c.loop-at.invariant.scope) c.requires.living, no_frames (g.R.Rows.table c.loop-at.rows) c.loop-at.stack.frames c.loop-at.invariant.frames)))))

pub run_from-loop-at-init : goal.run_from-loop-at-init
run_from-loop-at-init g t c =
    record {
      table = refl;
      scope = refl;
      frames = c.requires.begins;
      along = nodes_here c.args.context.now (g.R.Rows.table c.args.rows.now) c.args.nodes.now c.args.first c.args.scope.now (g.R.Rows.looks c.args.rows.now) c.args.out.now;
    }

pub run_from-loop-at-preserved : goal.run_from-loop-at-preserved
run_from-loop-at-preserved g t c =
    record {
      table = c.run_node.ensures.table ∙ c.loop-at.invariant.table;
      scope = c.in_ok-flow.ensures.scope ∙ c.loop-at.invariant.scope;
      frames = node_ended c.args.context.now (g.R.Rows.table c.loop-at.rows) c.index-nodes-at.result c.loop-at.scope c.loop-at.stack c.run_node.new.stack (g.R.Rows.looks c.loop-at.rows) (g.R.Rows.looks c.run_node.new.rows) c.loop-at.out c.run_node.new.out c.in_ok-flow.flow (sym c.is_done.ensures ∙ c.if-not-is_done.false) c.in_ok-flow.ensures.goes;
      along = nodes_more c.args.context.now (g.R.Rows.table c.args.rows.now) c.args.nodes.now c.args.first c.loop-at.at c.index-nodes-at.result c.args.scope.now c.loop-at.stack c.run_node.new.stack (g.R.Rows.looks c.args.rows.now) (g.R.Rows.looks c.loop-at.rows) (g.R.Rows.looks c.run_node.new.rows) c.args.out.now c.loop-at.out c.run_node.new.out c.in_ok-flow.flow c.loop-at-test.true c.index-nodes-at.is c.loop-at.invariant.frames (sym c.is_done.ensures ∙ c.if-not-is_done.false) c.loop-at.invariant.along (moved (λ t s. NodeGoes c.args.context.now t c.index-nodes-at.result s c.loop-at.stack c.run_node.new.stack (g.R.Rows.looks c.loop-at.rows) (g.R.Rows.looks c.run_node.new.rows) c.loop-at.out c.run_node.new.out c.in_ok-flow.flow) c.loop-at.invariant.table c.loop-at.invariant.scope c.in_ok-flow.ensures.goes);
    }

pub run_from-returns-then-not-is_done-clause-goes : goal.run_from-returns-then-not-is_done-clause-goes
run_from-returns-then-not-is_done-clause-goes g t c =
    nodes_stop_at c.args.context.now (g.R.Rows.table c.args.rows.now) c.args.nodes.now c.args.first c.loop-at.at c.index-nodes-at.result c.args.scope.now c.loop-at.stack c.run_node.new.stack c.push.new.self (g.R.Rows.looks c.args.rows.now) (g.R.Rows.looks c.loop-at.rows) (g.R.Rows.looks c.run_node.new.rows) c.args.out.now c.loop-at.out c.run_node.new.out c.in_ok-flow.flow c.loop-at-test.true c.index-nodes-at.is (slice_get_read c.args.nodes.now (length c.args.nodes.now) c.loop-at.at c.index-nodes-at.result refl c.loop-at-test.true c.index-nodes-at.is) c.loop-at.invariant.frames c.in_ok-push.ensures.frames (sym c.is_done.ensures ∙ c.if-not-is_done.true) c.loop-at.invariant.along (moved (λ t s. NodeGoes c.args.context.now t c.index-nodes-at.result s c.loop-at.stack c.run_node.new.stack (g.R.Rows.looks c.loop-at.rows) (g.R.Rows.looks c.run_node.new.rows) c.loop-at.out c.run_node.new.out c.in_ok-flow.flow) c.loop-at.invariant.table c.loop-at.invariant.scope c.in_ok-flow.ensures.goes)

pub run_from-returns-then-not-is_done-clause-frames : goal.run_from-returns-then-not-is_done-clause-frames
run_from-returns-then-not-is_done-clause-frames g t c =
    frame_pushed (g.R.Rows.table c.args.rows.now) (frame.Node c.loop-at.at) c.run_node.new.stack.frames c.push.new.self.frames c.in_ok-push.ensures.frames tt (subst (λ t. FramesLive t c.run_node.new.stack.frames) c.loop-at.invariant.table c.in_ok-flow.ensures.frames)

pub run_from-returns-clause-goes : goal.run_from-returns-clause-goes
run_from-returns-clause-goes g t c =
    nodes_end c.args.context.now (g.R.Rows.table c.args.rows.now) c.args.nodes.now c.args.first c.loop-at.at c.args.scope.now c.loop-at.stack (g.R.Rows.looks c.args.rows.now) (g.R.Rows.looks c.loop-at.rows) c.args.out.now c.loop-at.out c.loop-at-test.false c.loop-at.invariant.frames c.loop-at.invariant.along

pub run_from-returns-clause-frames : goal.run_from-returns-clause-frames
run_from-returns-clause-frames g t c =
    no_frames (g.R.Rows.table c.args.rows.now) c.loop-at.stack.frames c.loop-at.invariant.frames

-- ---- nodes

pub run_node-returns-in-If-clause-goes : goal.run_node-returns-in-If-clause-goes
run_node-returns-in-If-clause-goes g t c =
    if_ok c.run_if.result
    (λ stop goes. subst (λ n. NodeGoes c.args.context.now (g.R.Rows.table c.args.rows.now) n c.args.scope.now c.args.stack.now c.run_if.new.stack (g.R.Rows.looks c.args.rows.now) (g.R.Rows.looks c.run_if.new.rows) c.args.out.now c.run_if.new.out stop) (sym c.in-If.is)
    (if_goes c.args.context.now (g.R.Rows.table c.args.rows.now) c.in-If.at c.in-If.arms c.in-If.otherwise c.args.scope.now c.args.stack.now c.run_if.new.stack (g.R.Rows.looks c.args.rows.now) (g.R.Rows.looks c.run_if.new.rows) c.args.out.now c.run_if.new.out stop goes))
    c.run_if.ensures.goes

pub run_node-returns-in-Each-clause-goes : goal.run_node-returns-in-Each-clause-goes
run_node-returns-in-Each-clause-goes g t c =
    if_ok c.run_each.result
    (λ stop goes. subst (λ n. NodeGoes c.args.context.now (g.R.Rows.table c.args.rows.now) n c.args.scope.now c.args.stack.now c.run_each.new.stack (g.R.Rows.looks c.args.rows.now) (g.R.Rows.looks c.run_each.new.rows) c.args.out.now c.run_each.new.out stop) (sym c.in-Each.is)
    (each_goes c.args.context.now (g.R.Rows.table c.args.rows.now) c.in-Each.at c.in-Each.list c.in-Each.name c.in-Each.body c.args.scope.now c.args.stack.now c.run_each.new.stack (g.R.Rows.looks c.args.rows.now) (g.R.Rows.looks c.run_each.new.rows) c.args.out.now c.run_each.new.out stop (subst (λ b. EachGoes c.args.context.now (g.R.Rows.table c.args.rows.now) c.in-Each.list c.in-Each.name b c.args.scope.now c.args.stack.now c.run_each.new.stack (g.R.Rows.looks c.args.rows.now) (g.R.Rows.looks c.run_each.new.rows) c.args.out.now c.run_each.new.out stop) c.as_slice.ensures goes)))
    c.run_each.ensures.goes

pub run_node-returns-in-Cache-clause-goes : goal.run_node-returns-in-Cache-clause-goes
run_node-returns-in-Cache-clause-goes g t c =
    if_ok c.run_block.result
    (λ stop goes. subst (λ n. NodeGoes c.args.context.now (g.R.Rows.table c.args.rows.now) n c.args.scope.now c.args.stack.now c.run_block.new.stack (g.R.Rows.looks c.args.rows.now) (g.R.Rows.looks c.run_block.new.rows) c.args.out.now c.run_block.new.out stop) (sym c.in-Cache.is)
    (block_goes c.args.context.now (g.R.Rows.table c.args.rows.now) c.in-Cache.at c.in-Cache.block c.in-Cache.key c.in-Cache.body c.args.scope.now c.args.stack.now c.run_block.new.stack (g.R.Rows.looks c.args.rows.now) (g.R.Rows.looks c.run_block.new.rows) c.args.out.now c.run_block.new.out stop (subst (λ b. BlockGoes c.args.context.now (g.R.Rows.table c.args.rows.now) c.in-Cache.block c.in-Cache.key b c.args.scope.now c.args.stack.now c.run_block.new.stack (g.R.Rows.looks c.args.rows.now) (g.R.Rows.looks c.run_block.new.rows) c.args.out.now c.run_block.new.out stop) c.as_slice-in-Cache.ensures goes)))
    c.run_block.ensures.goes

pub run_node-returns-in-Render-clause-goes : goal.run_node-returns-in-Render-clause-goes
run_node-returns-in-Render-clause-goes g t c =
    if_ok c.run_render.result
    (λ stop goes. subst (λ n. NodeGoes c.args.context.now (g.R.Rows.table c.args.rows.now) n c.args.scope.now c.args.stack.now c.run_render.new.stack (g.R.Rows.looks c.args.rows.now) (g.R.Rows.looks c.run_render.new.rows) c.args.out.now c.run_render.new.out stop) (sym c.in-Render.is)
    (render_goes c.args.context.now (g.R.Rows.table c.args.rows.now) c.in-Render.at c.in-Render.name c.in-Render.locals c.args.scope.now c.args.stack.now c.run_render.new.stack (g.R.Rows.looks c.args.rows.now) (g.R.Rows.looks c.run_render.new.rows) c.args.out.now c.run_render.new.out stop (subst (λ b. RenderGoes c.args.context.now (g.R.Rows.table c.args.rows.now) c.in-Render.name b c.args.scope.now c.args.stack.now c.run_render.new.stack (g.R.Rows.looks c.args.rows.now) (g.R.Rows.looks c.run_render.new.rows) c.args.out.now c.run_render.new.out stop) c.as_slice-in-Render.ensures goes)))
    c.run_render.ensures.goes

pub run_node-returns-in-Collection-clause-goes : goal.run_node-returns-in-Collection-clause-goes
run_node-returns-in-Collection-clause-goes g t c =
    if_ok c.run_collection.result
    (λ stop goes. subst (λ n. NodeGoes c.args.context.now (g.R.Rows.table c.args.rows.now) n c.args.scope.now c.args.stack.now c.run_collection.new.stack (g.R.Rows.looks c.args.rows.now) (g.R.Rows.looks c.run_collection.new.rows) c.args.out.now c.run_collection.new.out stop) (sym c.in-Collection.is)
    (collection_goes c.args.context.now (g.R.Rows.table c.args.rows.now) c.in-Collection.at c.in-Collection.name c.in-Collection.list c.in-Collection.item c.in-Collection.cached c.args.scope.now c.args.stack.now c.run_collection.new.stack (g.R.Rows.looks c.args.rows.now) (g.R.Rows.looks c.run_collection.new.rows) c.args.out.now c.run_collection.new.out stop goes))
    c.run_collection.ensures.goes

pub run_node-returns-in-Write-clause-goes : goal.run_node-returns-in-Write-clause-goes
run_node-returns-in-Write-clause-goes g t c =
    if_done (λ stop. NodeGoes c.args.context.now (g.R.Rows.table c.args.rows.now) c.args.node.now c.args.scope.now c.args.stack.now c.write_value.new.stack (g.R.Rows.looks c.args.rows.now) (g.R.Rows.looks c.write_value.new.rows) c.args.out.now c.write_value.new.out stop) c.write_value.result
    (λ text looks. subst (λ n. NodeGoes c.args.context.now (g.R.Rows.table c.args.rows.now) n c.args.scope.now c.args.stack.now c.write_value.new.stack (g.R.Rows.looks c.args.rows.now) (g.R.Rows.looks c.write_value.new.rows) c.args.out.now c.write_value.new.out flow.Done) (sym c.in-Write.is)
    (write_goes c.args.context.now (g.R.Rows.table c.args.rows.now) c.in-Write.at c.in-Write.expr c.args.scope.now c.args.stack.now c.write_value.new.stack (g.R.Rows.looks c.args.rows.now) (g.R.Rows.looks c.write_value.new.rows) c.args.out.now c.write_value.new.out c.write_value.ensures.frames looks text))
    c.write_value.ensures.done c.write_value.ensures.text c.write_value.ensures.looks

pub run_node-returns-in-Write-clause-frames : goal.run_node-returns-in-Write-clause-frames
run_node-returns-in-Write-clause-frames g t c =
    on_any c.write_value.result (no_frames (g.R.Rows.table c.args.rows.now) c.write_value.new.stack.frames c.write_value.ensures.frames)

pub run_node-returns-in-Raw-clause-goes : goal.run_node-returns-in-Raw-clause-goes
run_node-returns-in-Raw-clause-goes g t c =
    if_done (λ stop. NodeGoes c.args.context.now (g.R.Rows.table c.args.rows.now) c.args.node.now c.args.scope.now c.args.stack.now c.write_value-in-Raw.new.stack (g.R.Rows.looks c.args.rows.now) (g.R.Rows.looks c.write_value-in-Raw.new.rows) c.args.out.now c.write_value-in-Raw.new.out stop) c.write_value-in-Raw.result
    (λ text looks. subst (λ n. NodeGoes c.args.context.now (g.R.Rows.table c.args.rows.now) n c.args.scope.now c.args.stack.now c.write_value-in-Raw.new.stack (g.R.Rows.looks c.args.rows.now) (g.R.Rows.looks c.write_value-in-Raw.new.rows) c.args.out.now c.write_value-in-Raw.new.out flow.Done) (sym c.in-Raw.is)
    (raw_goes c.args.context.now (g.R.Rows.table c.args.rows.now) c.in-Raw.at c.in-Raw.expr c.args.scope.now c.args.stack.now c.write_value-in-Raw.new.stack (g.R.Rows.looks c.args.rows.now) (g.R.Rows.looks c.write_value-in-Raw.new.rows) c.args.out.now c.write_value-in-Raw.new.out c.write_value-in-Raw.ensures.frames looks text))
    c.write_value-in-Raw.ensures.done c.write_value-in-Raw.ensures.text c.write_value-in-Raw.ensures.looks

pub run_node-returns-in-Raw-clause-frames : goal.run_node-returns-in-Raw-clause-frames
run_node-returns-in-Raw-clause-frames g t c =
    on_any c.write_value-in-Raw.result (no_frames (g.R.Rows.table c.args.rows.now) c.write_value-in-Raw.new.stack.frames c.write_value-in-Raw.ensures.frames)

pub run_node-returns-in_ok-append-in-Text-clause-goes : goal.run_node-returns-in_ok-append-in-Text-clause-goes
run_node-returns-in_ok-append-in-Text-clause-goes g t c =
    subst (λ n. NodeGoes c.args.context.now (g.R.Rows.table c.args.rows.now) n c.args.scope.now c.args.stack.now c.clear.new.self (g.R.Rows.looks c.args.rows.now) (g.R.Rows.looks c.args.rows.now) c.args.out.now c.append.new.self flow.Done) (sym c.in-Text.is)
    (text_goes c.args.context.now (g.R.Rows.table c.args.rows.now) c.in-Text.text c.args.scope.now c.args.stack.now c.clear.new.self (g.R.Rows.looks c.args.rows.now) c.args.out.now c.append.new.self c.clear.ensures.frames (c.in_ok-append-in-Text.ensures ∙ ap (λ b. c.args.out.now ++ b) c.as_bytes.ensures))

pub run_node-returns-in_ok-append-in-Text-clause-frames : goal.run_node-returns-in_ok-append-in-Text-clause-frames
run_node-returns-in_ok-append-in-Text-clause-frames g t c =
    no_frames (g.R.Rows.table c.args.rows.now) c.clear.new.self.frames c.clear.ensures.frames

pub run_node-returns-in-Depends-clause-goes : goal.run_node-returns-in-Depends-clause-goes
run_node-returns-in-Depends-clause-goes g t c =
    subst (λ n. NodeGoes c.args.context.now (g.R.Rows.table c.args.rows.now) n c.args.scope.now c.args.stack.now c.clear-in-Depends.new.self (g.R.Rows.looks c.args.rows.now) (g.R.Rows.looks c.args.rows.now) c.args.out.now c.args.out.now flow.Done) (sym c.in-Depends.is)
    (depends_goes c.args.context.now (g.R.Rows.table c.args.rows.now) c.in-Depends.at c.in-Depends.name c.args.scope.now c.args.stack.now c.clear-in-Depends.new.self (g.R.Rows.looks c.args.rows.now) c.args.out.now c.clear-in-Depends.ensures.frames)

pub run_node-returns-in-Depends-clause-frames : goal.run_node-returns-in-Depends-clause-frames
run_node-returns-in-Depends-clause-frames g t c =
    no_frames (g.R.Rows.table c.args.rows.now) c.clear-in-Depends.new.self.frames c.clear-in-Depends.ensures.frames

pub run_node-run_if-requires : goal.run_node-run_if-requires
run_node-run_if-requires g t c κs within =
    let below = if_left c.args.context.now.levels c.args.context.now.set.now.templates c.in-If.at c.in-If.arms c.in-If.otherwise c.args.node.now (search (rules, the_lemmas)) c.in-If.is in
    (first_of (omega (arith, below), grind (arith, below)), (search rules, (search rules, (search rules, (search rules, search rules)))))

pub run_node-run_each-requires : goal.run_node-run_each-requires
run_node-run_each-requires g t c κs within =
    let below = part_left c.args.context.now.levels c.args.context.now.set.now.templates c.in-Each.body c.as_slice.result.now (node.Each c.in-Each.at c.in-Each.list c.in-Each.name c.in-Each.body) c.args.node.now (each_below c.in-Each.at c.in-Each.list c.in-Each.name c.in-Each.body) c.as_slice.ensures c.in-Each.is in
    (first_of (omega (arith, below), grind (arith, below)), (search rules, (search rules, (search rules, (search rules, search rules)))))

pub run_node-run_block-requires : goal.run_node-run_block-requires
run_node-run_block-requires g t c κs within =
    let below = part_left c.args.context.now.levels c.args.context.now.set.now.templates c.in-Cache.body c.as_slice-in-Cache.result.now (node.Cache c.in-Cache.at c.in-Cache.block c.in-Cache.key c.in-Cache.body) c.args.node.now (cache_below c.in-Cache.at c.in-Cache.block c.in-Cache.key c.in-Cache.body) c.as_slice-in-Cache.ensures c.in-Cache.is in
    (first_of (omega (arith, below), grind (arith, below)), (search rules, (search rules, (search rules, (search rules, search rules)))))

pub run_node-run_render-requires : goal.run_node-run_render-requires
run_node-run_render-requires g t c κs within =
    let below = tag_left c.args.context.now.levels c.args.context.now.set.now.templates c.args.node.now 2 (omega arith) in
    (first_of (omega (arith, below), grind (arith, below)), (search rules, (search rules, (search rules, (search rules, search rules)))))

pub run_node-run_collection-requires : goal.run_node-run_collection-requires
run_node-run_collection-requires g t c κs within =
    let below = tag_left c.args.context.now.levels c.args.context.now.set.now.templates c.args.node.now 4 (omega arith) in
    (first_of (omega (arith, below), grind (arith, below)), (search rules, (search rules, (search rules, (search rules, search rules)))))

-- ---- arms

pub run_if-run_nodes-requires : goal.run_if-run_nodes-requires
run_if-run_nodes-requires g t c κs within =
    let below = body_left c.args.context.now.levels c.args.context.now.set.now.templates c.args.arms.now c.args.otherwise.now c.arm_body-body.result.now c.in_ok-place.place c.arm_body-body.ensures in
    (first_of (omega (arith, below), grind (arith, below)), (search rules, (search rules, (search rules, (living_along (g.R.Rows.table c.arm_place.new.rows) (g.R.Rows.table c.args.rows.now) c.args.scope.now.vars c.args.scope.now.vars c.arm_place.ensures.table refl c.requires.living, subst (λ t. FramesLive t c.arm_place.new.stack.frames) (sym c.arm_place.ensures.table) c.in_ok-place.ensures.frames)))))

pub run_if-returns-then-not-is_done-clause-goes : goal.run_if-returns-then-not-is_done-clause-goes
run_if-returns-then-not-is_done-clause-goes g t c =
    (c.in_ok-place.ensures.leads c.args.otherwise.now c.args.out.now).stops c.arm_body-body.result.now c.run_nodes.new.stack c.push.new.self (g.R.Rows.looks c.run_nodes.new.rows) c.run_nodes.new.out c.in_ok-flow.flow c.arm_body-body.ensures c.in_ok-push.ensures.frames (sym c.is_done.ensures ∙ c.if-not-is_done.true) (subst (λ t. NodesGo c.args.context.now t c.arm_body-body.result.now c.args.scope.now c.arm_place.new.stack c.run_nodes.new.stack (g.R.Rows.looks c.arm_place.new.rows) (g.R.Rows.looks c.run_nodes.new.rows) c.args.out.now c.run_nodes.new.out c.in_ok-flow.flow) c.arm_place.ensures.table c.in_ok-flow.ensures.goes)

pub run_if-returns-then-not-is_done-clause-frames : goal.run_if-returns-then-not-is_done-clause-frames
run_if-returns-then-not-is_done-clause-frames g t c =
    frame_pushed (g.R.Rows.table c.args.rows.now) (frame.Arm c.in_ok-place.place) c.run_nodes.new.stack.frames c.push.new.self.frames c.in_ok-push.ensures.frames tt (subst (λ t. FramesLive t c.run_nodes.new.stack.frames) c.arm_place.ensures.table c.in_ok-flow.ensures.frames)

pub run_if-returns-clause-goes : goal.run_if-returns-clause-goes
run_if-returns-clause-goes g t c =
    (c.in_ok-place.ensures.leads c.args.otherwise.now c.args.out.now).ends c.arm_body-body.result.now c.run_nodes.new.stack (g.R.Rows.looks c.run_nodes.new.rows) c.run_nodes.new.out c.in_ok-flow.flow c.arm_body-body.ensures (sym c.is_done.ensures ∙ c.if-not-is_done.false) (subst (λ t. NodesGo c.args.context.now t c.arm_body-body.result.now c.args.scope.now c.arm_place.new.stack c.run_nodes.new.stack (g.R.Rows.looks c.arm_place.new.rows) (g.R.Rows.looks c.run_nodes.new.rows) c.args.out.now c.run_nodes.new.out c.in_ok-flow.flow) c.arm_place.ensures.table c.in_ok-flow.ensures.goes)

pub run_if-returns-clause-frames : goal.run_if-returns-clause-frames
run_if-returns-clause-frames g t c =
    (subst (λ t. FramesLive t c.run_nodes.new.stack.frames) c.arm_place.ensures.table c.in_ok-flow.ensures.frames)

-- ---- an `each`

pub run_each-returns-in_default-clause-goes : goal.run_each-returns-in_default-clause-goes
run_each-returns-in_default-clause-goes g t c =
    each_none c.args.context.now (g.R.Rows.table c.args.rows.now) c.args.list.now c.args.name.now c.args.body.now c.args.scope.now c.in_ok-walk.field-0 c.args.stack.now c.each_walk.new.stack (g.R.Rows.looks c.args.rows.now) (g.R.Rows.looks c.each_walk.new.rows) c.args.out.now c.args.out.now c.in_default.is (c.in_ok-walk.ensures.leads c.args.name.now c.args.body.now c.args.out.now)

pub run_each-loop-walk-init : goal.run_each-loop-walk-init
run_each-loop-walk-init g t c =
    record {
      table = c.each_walk.ensures.table;
      scope = refl;
      frames = c.in_ok-walk.ensures.frames;
      living = subst (λ o. IfSome o (Lives (g.R.Rows.table c.args.rows.now))) c.in-Some.is c.in_ok-walk.ensures.living;
      leads = subst (EachLeads c.args.context.now (g.R.Rows.table c.args.rows.now) c.args.list.now c.args.name.now c.args.body.now c.args.scope.now c.args.stack.now c.each_walk.new.stack (g.R.Rows.looks c.args.rows.now) (g.R.Rows.looks c.each_walk.new.rows) c.args.out.now c.args.out.now) c.in-Some.is (c.in_ok-walk.ensures.leads c.args.name.now c.args.body.now c.args.out.now);
    }

pub run_each-loop-walk-preserved : goal.run_each-loop-walk-preserved
run_each-loop-walk-preserved g t c =
    record {
      table = c.run_nodes.ensures.table ∙ c.loop-walk.invariant.table;
      scope = (scope_back c.unbind.new.scope c.run_nodes.new.scope c.bind.new.scope c.loop-walk.scope (c.args.name.now, c.loop-walk.walk.of) (c.args.name.now, val.Record c.loop-walk.walk.model (get_or c.as_slice-in-loop-walk.result.now c.loop-walk.walk.at 0)) c.unbind.ensures.typing c.unbind.ensures.vars c.in_ok-flow.ensures.scope c.in_ok-bind.ensures.typing c.in_ok-bind.ensures.vars ∙ c.loop-walk.invariant.scope);
      frames = (subst (λ t. FramesLive t c.run_nodes.new.stack.frames) c.loop-walk.invariant.table c.in_ok-flow.ensures.frames);
      living = c.loop-walk.invariant.living;
      leads = each_on c.args.context.now (g.R.Rows.table c.args.rows.now) c.args.list.now c.args.name.now c.args.body.now c.args.scope.now c.loop-walk.walk.of c.loop-walk.walk.model c.loop-walk.walk.ids c.loop-walk.walk.at c.bind.new.scope c.args.stack.now c.loop-walk.stack c.run_nodes.new.stack (g.R.Rows.looks c.args.rows.now) (g.R.Rows.looks c.loop-walk.rows) (g.R.Rows.looks c.run_nodes.new.rows) c.args.out.now c.loop-walk.out c.run_nodes.new.out c.in_ok-flow.flow (subst (λ xs. c.loop-walk.walk.at < length xs) c.as_slice.ensures c.loop-walk-test.true) (c.in_ok-bind.ensures.typing ∙ ap (λ (s : Scope). s.typing ++ (c.args.name.now, c.loop-walk.walk.of) ∷ []) c.loop-walk.invariant.scope) (c.in_ok-bind.ensures.vars ∙ ap (λ xs. c.loop-walk.scope.vars ++ (c.args.name.now, val.Record c.loop-walk.walk.model (get_or xs c.loop-walk.walk.at 0)) ∷ []) c.as_slice-in-loop-walk.ensures ∙ ap (λ (s : Scope). s.vars ++ (c.args.name.now, val.Record c.loop-walk.walk.model (get_or c.loop-walk.walk.ids c.loop-walk.walk.at 0)) ∷ []) c.loop-walk.invariant.scope) (sym c.is_done.ensures ∙ c.if-not-is_done.false)
          (nodes_ended c.args.context.now (g.R.Rows.table c.loop-walk.rows) c.args.body.now c.bind.new.scope c.loop-walk.stack c.run_nodes.new.stack (g.R.Rows.looks c.loop-walk.rows) (g.R.Rows.looks c.run_nodes.new.rows) c.loop-walk.out c.run_nodes.new.out c.in_ok-flow.flow (sym c.is_done.ensures ∙ c.if-not-is_done.false) c.in_ok-flow.ensures.goes) c.loop-walk.invariant.leads (subst (λ t. NodesGo c.args.context.now t c.args.body.now c.bind.new.scope c.loop-walk.stack c.run_nodes.new.stack (g.R.Rows.looks c.loop-walk.rows) (g.R.Rows.looks c.run_nodes.new.rows) c.loop-walk.out c.run_nodes.new.out c.in_ok-flow.flow) c.loop-walk.invariant.table c.in_ok-flow.ensures.goes);
    }

pub run_each-returns-then-not-is_done-clause-goes : goal.run_each-returns-then-not-is_done-clause-goes
run_each-returns-then-not-is_done-clause-goes g t c =
    each_stops c.args.context.now (g.R.Rows.table c.args.rows.now) c.args.list.now c.args.name.now c.args.body.now c.args.scope.now c.loop-walk.walk.of c.loop-walk.walk.model c.loop-walk.walk.ids c.loop-walk.walk.at c.bind.new.scope c.args.stack.now c.loop-walk.stack c.run_nodes.new.stack c.push.new.self (g.R.Rows.looks c.args.rows.now) (g.R.Rows.looks c.loop-walk.rows) (g.R.Rows.looks c.run_nodes.new.rows) c.args.out.now c.loop-walk.out c.run_nodes.new.out c.in_ok-flow.flow (subst (λ xs. c.loop-walk.walk.at < length xs) c.as_slice.ensures c.loop-walk-test.true) (c.in_ok-bind.ensures.typing ∙ ap (λ (s : Scope). s.typing ++ (c.args.name.now, c.loop-walk.walk.of) ∷ []) c.loop-walk.invariant.scope) (c.in_ok-bind.ensures.vars ∙ ap (λ xs. c.loop-walk.scope.vars ++ (c.args.name.now, val.Record c.loop-walk.walk.model (get_or xs c.loop-walk.walk.at 0)) ∷ []) c.as_slice-in-loop-walk.ensures ∙ ap (λ (s : Scope). s.vars ++ (c.args.name.now, val.Record c.loop-walk.walk.model (get_or c.loop-walk.walk.ids c.loop-walk.walk.at 0)) ∷ []) c.loop-walk.invariant.scope) (sym c.is_done.ensures ∙ c.if-not-is_done.true) c.in_ok-push.ensures.frames c.loop-walk.invariant.leads (subst (λ t. NodesGo c.args.context.now t c.args.body.now c.bind.new.scope c.loop-walk.stack c.run_nodes.new.stack (g.R.Rows.looks c.loop-walk.rows) (g.R.Rows.looks c.run_nodes.new.rows) c.loop-walk.out c.run_nodes.new.out c.in_ok-flow.flow) c.loop-walk.invariant.table c.in_ok-flow.ensures.goes)

pub run_each-returns-then-not-is_done-clause-scope : goal.run_each-returns-then-not-is_done-clause-scope
run_each-returns-then-not-is_done-clause-scope g t c =
    (scope_back c.unbind.new.scope c.run_nodes.new.scope c.bind.new.scope c.loop-walk.scope (c.args.name.now, c.loop-walk.walk.of) (c.args.name.now, val.Record c.loop-walk.walk.model (get_or c.as_slice-in-loop-walk.result.now c.loop-walk.walk.at 0)) c.unbind.ensures.typing c.unbind.ensures.vars c.in_ok-flow.ensures.scope c.in_ok-bind.ensures.typing c.in_ok-bind.ensures.vars ∙ c.loop-walk.invariant.scope)

pub run_each-returns-then-not-is_done-clause-frames : goal.run_each-returns-then-not-is_done-clause-frames
run_each-returns-then-not-is_done-clause-frames g t c =
    frame_pushed (g.R.Rows.table c.args.rows.now) (frame.Item c.loop-walk.walk) c.run_nodes.new.stack.frames c.push.new.self.frames c.in_ok-push.ensures.frames c.loop-walk.invariant.living (subst (λ t. FramesLive t c.run_nodes.new.stack.frames) c.loop-walk.invariant.table c.in_ok-flow.ensures.frames)

pub run_each-returns-clause-goes : goal.run_each-returns-clause-goes
run_each-returns-clause-goes g t c =
    each_ends c.args.context.now (g.R.Rows.table c.args.rows.now) c.args.list.now c.args.name.now c.args.body.now c.args.scope.now c.loop-walk.walk.of c.loop-walk.walk.model c.loop-walk.walk.ids c.loop-walk.walk.at c.args.stack.now c.loop-walk.stack c.clear.new.self (g.R.Rows.looks c.args.rows.now) (g.R.Rows.looks c.loop-walk.rows) c.args.out.now c.loop-walk.out (subst (λ xs. length xs ≤ c.loop-walk.walk.at) c.as_slice.ensures c.loop-walk-test.false) c.clear.ensures.frames c.loop-walk.invariant.leads

pub run_each-returns-clause-frames : goal.run_each-returns-clause-frames
run_each-returns-clause-frames g t c =
    no_frames (g.R.Rows.table c.args.rows.now) c.clear.new.self.frames c.clear.ensures.frames

pub run_each-run_nodes-requires : goal.run_each-run_nodes-requires
run_each-run_nodes-requires g t c κs within =
    let below = less_left c.args.context.now.levels c.args.context.now.set.now.templates (8 * most the_size c.args.body.now + 7) (8 * most the_size c.args.body.now + 9) (omega arith) in
    (first_of (omega (arith, below), grind (arith, below)), (search rules, (search rules, (search rules, (living_along (g.R.Rows.table c.loop-walk.rows) (g.R.Rows.table c.args.rows.now) c.bind.new.scope.vars (c.args.scope.now.vars ++ (c.args.name.now, val.Record c.loop-walk.walk.model (get_or c.loop-walk.walk.ids c.loop-walk.walk.at 0)) ∷ []) c.loop-walk.invariant.table (c.in_ok-bind.ensures.vars ∙ ap (λ xs. c.loop-walk.scope.vars ++ (c.args.name.now, val.Record c.loop-walk.walk.model (get_or xs c.loop-walk.walk.at 0)) ∷ []) c.as_slice-in-loop-walk.ensures ∙ ap (λ (s : Scope). s.vars ++ (c.args.name.now, val.Record c.loop-walk.walk.model (get_or c.loop-walk.walk.ids c.loop-walk.walk.at 0)) ∷ []) c.loop-walk.invariant.scope) (bound_live (g.R.Rows.table c.args.rows.now) c.args.scope.now.vars c.args.name.now (val.Record c.loop-walk.walk.model (get_or c.loop-walk.walk.ids c.loop-walk.walk.at 0)) c.requires.living (c.loop-walk.invariant.living c.loop-walk.walk.at 0 (subst (λ xs. c.loop-walk.walk.at < length xs) c.as_slice.ensures c.loop-walk-test.true))), subst (λ t. FramesLive t c.loop-walk.stack.frames) (sym c.loop-walk.invariant.table) c.loop-walk.invariant.frames)))))

-- ---- a block

pub run_block-returns-in-Stops-clause-goes : goal.run_block-returns-in-Stops-clause-goes
run_block-returns-in-Stops-clause-goes g t c =
    block_stopped c.args.context.now (g.R.Rows.table c.args.rows.now) c.args.block c.args.key.now c.args.body.now c.args.scope.now c.args.stack.now c.block_step.new.stack (g.R.Rows.looks c.args.rows.now) (g.R.Rows.looks c.block_step.new.rows) c.args.out.now c.block_step.new.out c.in-Stops.flow (subst (BlockLeads c.args.context.now (g.R.Rows.table c.args.rows.now) c.args.block c.args.key.now c.args.body.now c.args.scope.now c.args.stack.now c.block_step.new.stack (g.R.Rows.looks c.args.rows.now) (g.R.Rows.looks c.block_step.new.rows) c.args.out.now c.block_step.new.out) c.in-Stops.is (c.in_ok-step.ensures.leads c.args.body.now))

pub run_block-returns-in_ok-flow-in-Body-clause-goes : goal.run_block-returns-in_ok-flow-in-Body-clause-goes
run_block-returns-in_ok-flow-in-Body-clause-goes g t c =
    if_ok c.end_block.result
    (λ stop goes. block_led c.args.context.now (g.R.Rows.table c.args.rows.now) c.args.block c.args.key.now c.args.body.now c.args.scope.now c.in-Body.key c.in-Body.written c.args.stack.now c.block_step.new.stack c.end_block.new.stack (g.R.Rows.looks c.args.rows.now) (g.R.Rows.looks c.block_step.new.rows) (g.R.Rows.looks c.run_nodes.new.rows) c.args.out.now c.block_step.new.out c.end_block.new.out stop (subst (BlockLeads c.args.context.now (g.R.Rows.table c.args.rows.now) c.args.block c.args.key.now c.args.body.now c.args.scope.now c.args.stack.now c.block_step.new.stack (g.R.Rows.looks c.args.rows.now) (g.R.Rows.looks c.block_step.new.rows) c.args.out.now c.block_step.new.out) c.in-Body.is (c.in_ok-step.ensures.leads c.args.body.now))
    (subst (λ s. BodyGoes c.args.context.now (g.R.Rows.table c.args.rows.now) c.args.block c.in-Body.key c.args.body.now c.in-Body.written s c.block_step.new.stack c.end_block.new.stack (g.R.Rows.looks c.block_step.new.rows) (g.R.Rows.looks c.run_nodes.new.rows) c.block_step.new.out c.end_block.new.out stop) c.in_ok-flow-in-Body.ensures.scope goes))
    (c.end_block.ensures.goes (g.R.Rows.table c.args.rows.now) c.args.body.now c.block_step.new.stack (g.R.Rows.looks c.block_step.new.rows) (g.R.Rows.looks c.run_nodes.new.rows) c.in-Body.written (moved (λ t s. NodesGo c.args.context.now t c.args.body.now s c.block_step.new.stack c.run_nodes.new.stack (g.R.Rows.looks c.block_step.new.rows) (g.R.Rows.looks c.run_nodes.new.rows) c.in-Body.written c.run_nodes.new.out c.in_ok-flow-in-Body.flow) c.block_step.ensures.table (sym c.in_ok-flow-in-Body.ensures.scope) c.in_ok-flow-in-Body.ensures.goes))

pub run_block-run_nodes-requires : goal.run_block-run_nodes-requires
run_block-run_nodes-requires g t c κs within =
    let below = less_left c.args.context.now.levels c.args.context.now.set.now.templates (8 * most the_size c.args.body.now + 7) (8 * most the_size c.args.body.now + 9) (omega arith) in
    (first_of (omega (arith, below), grind (arith, below)), (search rules, (search rules, (search rules, (living_along (g.R.Rows.table c.block_step.new.rows) (g.R.Rows.table c.args.rows.now) c.args.scope.now.vars c.args.scope.now.vars c.block_step.ensures.table refl c.requires.living, subst (λ t. FramesLive t c.block_step.new.stack.frames) (sym c.block_step.ensures.table) c.in_ok-step.ensures.frames)))))

-- ---- partials

pub run_render-returns-in_default-clause-goes : goal.run_render-returns-in_default-clause-goes
run_render-returns-in_default-clause-goes g t c =
    render_nowhere c.args.context.now (g.R.Rows.table c.args.rows.now) c.args.name.now c.args.locals.now c.args.scope.now c.args.stack.now c.render_place.new.stack (g.R.Rows.looks c.args.rows.now) (g.R.Rows.looks c.render_place.new.rows) c.args.out.now c.in_ok-number.field-0 c.in_default.is (c.in_ok-number.ensures.leads c.args.out.now)

pub run_render-returns-then-not-is_done-clause-goes : goal.run_render-returns-then-not-is_done-clause-goes
run_render-returns-then-not-is_done-clause-goes g t c =
    render_led c.args.context.now (g.R.Rows.table c.args.rows.now) c.args.name.now c.args.locals.now c.args.scope.now (c.in-Some.number, c.in-Some.own) c.args.stack.now c.render_place.new.stack c.push.new.self (g.R.Rows.looks c.args.rows.now) (g.R.Rows.looks c.render_place.new.rows) (g.R.Rows.looks c.run_template.new.rows) c.args.out.now c.run_template.new.out c.in_ok-flow.flow c.in_ok-number.field-0 c.in-Some.is (c.in_ok-number.ensures.leads c.args.out.now)
    (partial_stops_here c.args.context.now (g.R.Rows.table c.args.rows.now) c.in-Some.number c.in-Some.own c.render_place.new.stack c.run_template.new.stack c.push.new.self (g.R.Rows.looks c.render_place.new.rows) (g.R.Rows.looks c.run_template.new.rows) c.args.out.now c.run_template.new.out c.in_ok-flow.flow (sym c.is_done.ensures ∙ c.if-not-is_done.true) (c.in_ok-push.ensures.frames ∙ ap (λ s. frame.Partial c.in-Some.number s ∷ c.run_template.new.stack.frames) c.in_ok-flow.ensures.scope) (subst (λ t. TemplateGoes c.args.context.now t c.in-Some.number c.in-Some.own c.render_place.new.stack c.run_template.new.stack (g.R.Rows.looks c.render_place.new.rows) (g.R.Rows.looks c.run_template.new.rows) c.args.out.now c.run_template.new.out c.in_ok-flow.flow) c.render_place.ensures.table c.in_ok-flow.ensures.goes))

pub run_render-returns-then-not-is_done-clause-frames : goal.run_render-returns-then-not-is_done-clause-frames
run_render-returns-then-not-is_done-clause-frames g t c =
    frame_pushed (g.R.Rows.table c.args.rows.now) (frame.Partial c.in-Some.number c.run_template.new.scope) c.run_template.new.stack.frames c.push.new.self.frames c.in_ok-push.ensures.frames (subst (λ (s : Scope). AreLiving (g.R.Rows.table c.args.rows.now) s.vars) (sym c.in_ok-flow.ensures.scope) (subst (λ o. IfSome o (λ at. AreLiving (g.R.Rows.table c.args.rows.now) at.1.vars)) c.in-Some.is c.in_ok-number.ensures.living)) (subst (λ t. FramesLive t c.run_template.new.stack.frames) c.render_place.ensures.table c.in_ok-flow.ensures.frames)

pub run_render-returns-clause-goes : goal.run_render-returns-clause-goes
run_render-returns-clause-goes g t c =
    render_led c.args.context.now (g.R.Rows.table c.args.rows.now) c.args.name.now c.args.locals.now c.args.scope.now (c.in-Some.number, c.in-Some.own) c.args.stack.now c.render_place.new.stack c.run_template.new.stack (g.R.Rows.looks c.args.rows.now) (g.R.Rows.looks c.render_place.new.rows) (g.R.Rows.looks c.run_template.new.rows) c.args.out.now c.run_template.new.out c.in_ok-flow.flow c.in_ok-number.field-0 c.in-Some.is (c.in_ok-number.ensures.leads c.args.out.now)
    (partial_goes_on c.args.context.now (g.R.Rows.table c.args.rows.now) c.in-Some.number c.in-Some.own c.render_place.new.stack c.run_template.new.stack (g.R.Rows.looks c.render_place.new.rows) (g.R.Rows.looks c.run_template.new.rows) c.args.out.now c.run_template.new.out c.in_ok-flow.flow (sym c.is_done.ensures ∙ c.if-not-is_done.false) (subst (λ t. TemplateGoes c.args.context.now t c.in-Some.number c.in-Some.own c.render_place.new.stack c.run_template.new.stack (g.R.Rows.looks c.render_place.new.rows) (g.R.Rows.looks c.run_template.new.rows) c.args.out.now c.run_template.new.out c.in_ok-flow.flow) c.render_place.ensures.table c.in_ok-flow.ensures.goes))

pub run_render-returns-clause-frames : goal.run_render-returns-clause-frames
run_render-returns-clause-frames g t c =
    (subst (λ t. FramesLive t c.run_template.new.stack.frames) c.render_place.ensures.table c.in_ok-flow.ensures.frames)

pub run_render-run_template-requires : goal.run_render-run_template-requires
run_render-run_template-requires g t c κs within =
    let below = less_left c.args.context.now.levels c.args.context.now.set.now.templates 0 2 (omega arith) in
    (first_of (omega (arith, below), grind (arith, below)), (search rules, (search rules, (search rules, (subst (λ t. AreLiving t c.in-Some.own.vars) (sym c.render_place.ensures.table) (subst (λ o. IfSome o (λ at. AreLiving (g.R.Rows.table c.args.rows.now) at.1.vars)) c.in-Some.is c.in_ok-number.ensures.living), subst (λ t. FramesLive t c.render_place.new.stack.frames) (sym c.render_place.ensures.table) c.in_ok-number.ensures.frames)))))

-- ---- collections

pub run_collection-returns-in-Stops-clause-goes : goal.run_collection-returns-in-Stops-clause-goes
run_collection-returns-in-Stops-clause-goes g t c =
    collection_stopped c.args.context.now (g.R.Rows.table c.args.rows.now) c.args.name.now c.args.list.now c.args.item.now c.args.cached c.args.scope.now c.args.stack.now c.collection_step.new.stack (g.R.Rows.looks c.args.rows.now) (g.R.Rows.looks c.collection_step.new.rows) c.args.out.now c.collection_step.new.out c.in-Stops.flow (subst (CollectionLeads c.args.context.now (g.R.Rows.table c.args.rows.now) c.args.name.now c.args.list.now c.args.item.now c.args.cached c.args.scope.now c.args.stack.now c.collection_step.new.stack (g.R.Rows.looks c.args.rows.now) (g.R.Rows.looks c.collection_step.new.rows) c.args.out.now c.collection_step.new.out) c.in-Stops.is c.in_ok-step.ensures.leads)

pub run_collection-returns-in-Members-clause-goes : goal.run_collection-returns-in-Members-clause-goes
run_collection-returns-in-Members-clause-goes g t c =
    if_ok c.run_members.result
    (λ stop goes. members_led c.args.context.now (g.R.Rows.table c.args.rows.now) c.args.name.now c.args.list.now c.args.item.now c.args.cached c.args.scope.now c.in-Members.partial c.in-Members.walk c.args.stack.now c.collection_step.new.stack c.run_members.new.stack (g.R.Rows.looks c.args.rows.now) (g.R.Rows.looks c.collection_step.new.rows) (g.R.Rows.looks c.run_members.new.rows) c.args.out.now c.collection_step.new.out c.run_members.new.out stop (subst (CollectionLeads c.args.context.now (g.R.Rows.table c.args.rows.now) c.args.name.now c.args.list.now c.args.item.now c.args.cached c.args.scope.now c.args.stack.now c.collection_step.new.stack (g.R.Rows.looks c.args.rows.now) (g.R.Rows.looks c.collection_step.new.rows) c.args.out.now c.collection_step.new.out) c.in-Members.is c.in_ok-step.ensures.leads)
    (subst (λ t. MembersGo c.args.context.now t c.in-Members.partial c.args.item.now c.in-Members.walk c.collection_step.new.stack c.run_members.new.stack (g.R.Rows.looks c.collection_step.new.rows) (g.R.Rows.looks c.run_members.new.rows) c.collection_step.new.out c.run_members.new.out stop) c.collection_step.ensures.table goes))
    c.run_members.ensures.goes

pub run_collection-returns-in-Members-clause-frames : goal.run_collection-returns-in-Members-clause-frames
run_collection-returns-in-Members-clause-frames g t c =
    on_ok c.run_members.result (subst (λ t. FramesLive t c.run_members.new.stack.frames) c.collection_step.ensures.table) c.run_members.ensures.frames

pub run_collection-returns-in-Missed-clause-goes : goal.run_collection-returns-in-Missed-clause-goes
run_collection-returns-in-Missed-clause-goes g t c =
    if_ok c.run_missed.result
    (λ stop goes. missed_led c.args.context.now (g.R.Rows.table c.args.rows.now) c.args.name.now c.args.list.now c.args.item.now c.args.cached c.args.scope.now c.in-Missed.kept c.in-Missed.written c.args.stack.now c.collection_step.new.stack c.run_missed.new.stack (g.R.Rows.looks c.args.rows.now) (g.R.Rows.looks c.collection_step.new.rows) (g.R.Rows.looks c.run_missed.new.rows) c.args.out.now c.collection_step.new.out c.run_missed.new.out stop (subst (CollectionLeads c.args.context.now (g.R.Rows.table c.args.rows.now) c.args.name.now c.args.list.now c.args.item.now c.args.cached c.args.scope.now c.args.stack.now c.collection_step.new.stack (g.R.Rows.looks c.args.rows.now) (g.R.Rows.looks c.collection_step.new.rows) c.args.out.now c.collection_step.new.out) c.in-Missed.is c.in_ok-step.ensures.leads)
    (subst (λ t. MissedGoes c.args.context.now t c.args.item.now c.in-Missed.kept c.in-Missed.written c.collection_step.new.stack c.run_missed.new.stack (g.R.Rows.looks c.collection_step.new.rows) (g.R.Rows.looks c.run_missed.new.rows) c.collection_step.new.out c.run_missed.new.out stop) c.collection_step.ensures.table goes))
    c.run_missed.ensures.goes

pub run_collection-returns-in-Missed-clause-frames : goal.run_collection-returns-in-Missed-clause-frames
run_collection-returns-in-Missed-clause-frames g t c =
    on_ok c.run_missed.result (subst (λ t. FramesLive t c.run_missed.new.stack.frames) c.collection_step.ensures.table) c.run_missed.ensures.frames

pub run_collection-run_members-requires : goal.run_collection-run_members-requires
run_collection-run_members-requires g t c κs within =
    let below = less_left c.args.context.now.levels c.args.context.now.set.now.templates 1 4 (omega arith) in
    (first_of (omega (arith, below), grind (arith, below)), (search rules, (search rules, (search rules, (subst (λ t. Lives t c.in-Members.walk) (sym c.collection_step.ensures.table) (subst (StepLives (g.R.Rows.table c.args.rows.now)) c.in-Members.is c.in_ok-step.ensures.living), subst (λ t. FramesLive t c.collection_step.new.stack.frames) (sym c.collection_step.ensures.table) c.in_ok-step.ensures.frames)))))

pub run_collection-run_missed-requires : goal.run_collection-run_missed-requires
run_collection-run_missed-requires g t c κs within =
    let below = less_left c.args.context.now.levels c.args.context.now.set.now.templates 1 4 (omega arith) in
    (first_of (omega (arith, below), grind (arith, below)), (search rules, (search rules, (search rules, (subst (λ t. KeptLives t c.in-Missed.kept) (sym c.collection_step.ensures.table) (subst (StepLives (g.R.Rows.table c.args.rows.now)) c.in-Missed.is c.in_ok-step.ensures.living), subst (λ t. FramesLive t c.collection_step.new.stack.frames) (sym c.collection_step.ensures.table) c.in_ok-step.ensures.frames)))))

pub run_members-loop-walk-init : goal.run_members-loop-walk-init
run_members-loop-walk-init g t c =
    record {
      table = refl;
      frames = c.requires.frames;
      living = c.requires.living;
      along = members_here c.args.context.now (g.R.Rows.table c.args.rows.now) c.args.partial c.args.item.now c.args.walk c.args.stack.now (g.R.Rows.looks c.args.rows.now) c.args.out.now;
    }

pub run_members-loop-walk-preserved : goal.run_members-loop-walk-preserved
run_members-loop-walk-preserved g t c =
    record {
      table = c.run_template.ensures.table ∙ c.loop-walk.invariant.table;
      frames = (subst (λ t. FramesLive t c.run_template.new.stack.frames) c.loop-walk.invariant.table c.in_ok-flow.ensures.frames);
      living = c.loop-walk.invariant.living;
      along = members_go_on c.args.context.now (g.R.Rows.table c.args.rows.now) c.args.partial c.args.item.now c.args.walk c.loop-walk.walk.of c.loop-walk.walk.model c.loop-walk.walk.ids c.loop-walk.walk.at c.in_ok-own.own c.args.stack.now c.loop-walk.stack c.run_template.new.stack (g.R.Rows.looks c.args.rows.now) (g.R.Rows.looks c.loop-walk.rows) (g.R.Rows.looks c.run_template.new.rows) c.args.out.now c.loop-walk.out c.run_template.new.out c.in_ok-flow.flow (subst (λ xs. c.loop-walk.walk.at < length xs) c.as_slice.ensures c.loop-walk-test.true) (scope_is c.in_ok-own.own ((c.args.item.now, c.loop-walk.walk.of) ∷ []) ((c.args.item.now, val.Record c.loop-walk.walk.model (get_or c.loop-walk.walk.ids c.loop-walk.walk.at 0)) ∷ []) c.in_ok-own.ensures.typing (c.in_ok-own.ensures.vars ∙ ap (λ xs. (c.args.item.now, val.Record c.loop-walk.walk.model (get_or xs c.loop-walk.walk.at 0)) ∷ []) c.as_slice-in-loop-walk.ensures)) (sym c.is_done.ensures ∙ c.if-not-is_done.false)
          (template_ended c.args.context.now (g.R.Rows.table c.loop-walk.rows) c.args.partial c.in_ok-own.own c.loop-walk.stack c.run_template.new.stack (g.R.Rows.looks c.loop-walk.rows) (g.R.Rows.looks c.run_template.new.rows) c.loop-walk.out c.run_template.new.out c.in_ok-flow.flow (sym c.is_done.ensures ∙ c.if-not-is_done.false) c.in_ok-flow.ensures.goes) c.loop-walk.invariant.along (subst (λ t. TemplateGoes c.args.context.now t c.args.partial c.in_ok-own.own c.loop-walk.stack c.run_template.new.stack (g.R.Rows.looks c.loop-walk.rows) (g.R.Rows.looks c.run_template.new.rows) c.loop-walk.out c.run_template.new.out c.in_ok-flow.flow) c.loop-walk.invariant.table c.in_ok-flow.ensures.goes);
    }

pub run_members-returns-then-not-is_done-clause-goes : goal.run_members-returns-then-not-is_done-clause-goes
run_members-returns-then-not-is_done-clause-goes g t c =
    members_stop c.args.context.now (g.R.Rows.table c.args.rows.now) c.args.partial c.args.item.now c.args.walk c.loop-walk.walk.of c.loop-walk.walk.model c.loop-walk.walk.ids c.loop-walk.walk.at c.in_ok-own.own c.args.stack.now c.loop-walk.stack c.run_template.new.stack c.push.new.self (g.R.Rows.looks c.args.rows.now) (g.R.Rows.looks c.loop-walk.rows) (g.R.Rows.looks c.run_template.new.rows) c.args.out.now c.loop-walk.out c.run_template.new.out c.in_ok-flow.flow (subst (λ xs. c.loop-walk.walk.at < length xs) c.as_slice.ensures c.loop-walk-test.true) (scope_is c.in_ok-own.own ((c.args.item.now, c.loop-walk.walk.of) ∷ []) ((c.args.item.now, val.Record c.loop-walk.walk.model (get_or c.loop-walk.walk.ids c.loop-walk.walk.at 0)) ∷ []) c.in_ok-own.ensures.typing (c.in_ok-own.ensures.vars ∙ ap (λ xs. (c.args.item.now, val.Record c.loop-walk.walk.model (get_or xs c.loop-walk.walk.at 0)) ∷ []) c.as_slice-in-loop-walk.ensures)) (sym c.is_done.ensures ∙ c.if-not-is_done.true) c.in_ok-push.ensures.frames c.loop-walk.invariant.along (subst (λ t. TemplateGoes c.args.context.now t c.args.partial c.in_ok-own.own c.loop-walk.stack c.run_template.new.stack (g.R.Rows.looks c.loop-walk.rows) (g.R.Rows.looks c.run_template.new.rows) c.loop-walk.out c.run_template.new.out c.in_ok-flow.flow) c.loop-walk.invariant.table c.in_ok-flow.ensures.goes)

pub run_members-returns-then-not-is_done-clause-frames : goal.run_members-returns-then-not-is_done-clause-frames
run_members-returns-then-not-is_done-clause-frames g t c =
    frame_pushed (g.R.Rows.table c.args.rows.now) (frame.Member c.args.partial c.loop-walk.walk) c.run_template.new.stack.frames c.push.new.self.frames c.in_ok-push.ensures.frames c.loop-walk.invariant.living (subst (λ t. FramesLive t c.run_template.new.stack.frames) c.loop-walk.invariant.table c.in_ok-flow.ensures.frames)

pub run_members-returns-clause-goes : goal.run_members-returns-clause-goes
run_members-returns-clause-goes g t c =
    members_end c.args.context.now (g.R.Rows.table c.args.rows.now) c.args.partial c.args.item.now c.args.walk c.loop-walk.walk.of c.loop-walk.walk.model c.loop-walk.walk.ids c.loop-walk.walk.at c.args.stack.now c.loop-walk.stack c.clear.new.self (g.R.Rows.looks c.args.rows.now) (g.R.Rows.looks c.loop-walk.rows) c.args.out.now c.loop-walk.out (subst (λ xs. length xs ≤ c.loop-walk.walk.at) c.as_slice.ensures c.loop-walk-test.false) c.clear.ensures.frames c.loop-walk.invariant.along

pub run_members-returns-clause-frames : goal.run_members-returns-clause-frames
run_members-returns-clause-frames g t c =
    no_frames (g.R.Rows.table c.args.rows.now) c.clear.new.self.frames c.clear.ensures.frames

pub run_members-run_template-requires : goal.run_members-run_template-requires
run_members-run_template-requires g t c κs within =
    let below = less_left c.args.context.now.levels c.args.context.now.set.now.templates 0 1 (omega arith) in
    (first_of (omega (arith, below), grind (arith, below)), (search rules, (search rules, (search rules, (living_along (g.R.Rows.table c.loop-walk.rows) (g.R.Rows.table c.args.rows.now) c.in_ok-own.own.vars ((c.args.item.now, val.Record c.loop-walk.walk.model (get_or c.loop-walk.walk.ids c.loop-walk.walk.at 0)) ∷ []) c.loop-walk.invariant.table (c.in_ok-own.ensures.vars ∙ ap (λ xs. (c.args.item.now, val.Record c.loop-walk.walk.model (get_or xs c.loop-walk.walk.at 0)) ∷ []) c.as_slice-in-loop-walk.ensures) (alone_lives (g.R.Rows.table c.args.rows.now) c.args.item.now (val.Record c.loop-walk.walk.model (get_or c.loop-walk.walk.ids c.loop-walk.walk.at 0)) (c.loop-walk.invariant.living c.loop-walk.walk.at 0 (subst (λ xs. c.loop-walk.walk.at < length xs) c.as_slice.ensures c.loop-walk-test.true))), subst (λ t. FramesLive t c.loop-walk.stack.frames) (sym c.loop-walk.invariant.table) c.loop-walk.invariant.frames)))))

pub run_missed-returns-in_default-clause-goes : goal.run_missed-returns-in_default-clause-goes
run_missed-returns-in_default-clause-goes g t c =
    missed_gone c.args.context.now (g.R.Rows.table c.args.rows.now) c.args.item.now c.args.kept c.args.written c.args.stack.now c.clear.new.self (g.R.Rows.looks c.args.rows.now) c.args.out.now (c.in_ok-own.ensures.none c.in_default.is) c.clear.ensures.frames

pub run_missed-returns-in_default-clause-frames : goal.run_missed-returns-in_default-clause-frames
run_missed-returns-in_default-clause-frames g t c =
    no_frames (g.R.Rows.table c.args.rows.now) c.clear.new.self.frames c.clear.ensures.frames

pub run_missed-returns-clause-goes : goal.run_missed-returns-clause-goes
run_missed-returns-clause-goes g t c =
    if_ok c.end_missed.result (λ stop goes. goes)
    (c.end_missed.ensures.goes (g.R.Rows.table c.args.rows.now) c.args.item.now c.args.stack.now (g.R.Rows.looks c.args.rows.now) (g.R.Rows.looks c.run_template.new.rows) c.args.written (subst (IsMissed c.args.item.now c.args.kept) (sym c.in_ok-flow.ensures.scope) (subst (λ o. IfSome o (IsMissed c.args.item.now c.args.kept)) c.in-Some.is c.in_ok-own.ensures.some))
    (subst (λ s. TemplateGoes c.args.context.now (g.R.Rows.table c.args.rows.now) c.args.kept.partial s c.args.stack.now c.run_template.new.stack (g.R.Rows.looks c.args.rows.now) (g.R.Rows.looks c.run_template.new.rows) c.args.written c.run_template.new.out c.in_ok-flow.flow) (sym c.in_ok-flow.ensures.scope) c.in_ok-flow.ensures.goes))

pub run_missed-returns-clause-frames : goal.run_missed-returns-clause-frames
run_missed-returns-clause-frames g t c =
    c.end_missed.ensures.frames (g.R.Rows.table c.args.rows.now) c.requires.living c.in_ok-flow.ensures.frames

pub run_missed-run_template-requires : goal.run_missed-run_template-requires
run_missed-run_template-requires g t c κs within =
    let below = less_left c.args.context.now.levels c.args.context.now.set.now.templates 0 1 (omega arith) in
    (first_of (omega (arith, below), grind (arith, below)), (search rules, (search rules, (search rules, (missed_lives (g.R.Rows.table c.args.rows.now) c.args.item.now c.args.kept c.in-Some.own (subst (λ o. IfSome o (IsMissed c.args.item.now c.args.kept)) c.in-Some.is c.in_ok-own.ensures.some) c.requires.living, search rules)))))

pub run_missed-end_missed-requires : goal.run_missed-end_missed-requires
run_missed-end_missed-requires g t c =
    record { within = (subst (λ o. IfSome o (IsMissed c.args.item.now c.args.kept)) c.in-Some.is c.in_ok-own.ensures.some).within; known = c.requires.living.0 }
