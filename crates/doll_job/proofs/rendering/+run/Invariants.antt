use Rattle.std.proofs.Common.{◌≡◌, ◌+◌, ◌-◌, ◌*◌, [], length, Some}
use Rattle.doll_erb.proofs.node.Node.TheLaws.{the_size}
use Rattle.doll_erb.specs.declared.node.Node as node
use Rattle.doll_frames.specs.Carried as spec
use Rattle.doll_frames.specs.Stacks.{FramesLive}
use Rattle.doll_frames.specs.Walks.{Lives}
use Rattle.doll_frames.proofs.Depths.{left_of}
use Rattle.doll_job.specs.Steps.{EachLeads}
use Rattle.doll_job.proofs.rendering.+run.Given as goal
use denote.Param.Weighed.{most}

-- ---- what is left

abbrev pub decreases-run_template : goal.decreases-run_template
decreases-run_template g l = left_of l.context.now.levels l.context.now.set.now.templates 0

abbrev pub decreases-run_nodes : goal.decreases-run_nodes
decreases-run_nodes g l = left_of l.context.now.levels l.context.now.set.now.templates (8 * most the_size l.nodes.now + 7)

abbrev pub decreases-run_from : goal.decreases-run_from
decreases-run_from g l = left_of l.context.now.levels l.context.now.set.now.templates (8 * most the_size l.nodes.now + 6)

abbrev pub decreases-run_node : goal.decreases-run_node
decreases-run_node g l = left_of l.context.now.levels l.context.now.set.now.templates (8 * the_size l.node.now + 5)

abbrev pub decreases-run_if : goal.decreases-run_if
decreases-run_if g l = left_of l.context.now.levels l.context.now.set.now.templates (8 * the_size (node.If 0 l.arms.now l.otherwise.now) + 4)

abbrev pub decreases-run_each : goal.decreases-run_each
decreases-run_each g l = left_of l.context.now.levels l.context.now.set.now.templates (8 * most the_size l.body.now + 9)

abbrev pub decreases-run_block : goal.decreases-run_block
decreases-run_block g l = left_of l.context.now.levels l.context.now.set.now.templates (8 * most the_size l.body.now + 9)

abbrev pub decreases-run_render : goal.decreases-run_render
decreases-run_render g l = left_of l.context.now.levels l.context.now.set.now.templates 2

abbrev pub decreases-run_collection : goal.decreases-run_collection
decreases-run_collection g l = left_of l.context.now.levels l.context.now.set.now.templates 4

abbrev pub decreases-run_members : goal.decreases-run_members
decreases-run_members g l = left_of l.context.now.levels l.context.now.set.now.templates 1

abbrev pub decreases-run_missed : goal.decreases-run_missed
decreases-run_missed g l = left_of l.context.now.levels l.context.now.set.now.templates 1

abbrev pub decreases-run_from-loop-at : goal.decreases-run_from-loop-at
decreases-run_from-loop-at g l = length l.nodes - l.at

abbrev pub decreases-run_members-loop-walk : goal.decreases-run_members-loop-walk
decreases-run_members-loop-walk g l = length l.walk.ids - l.walk.at

abbrev pub decreases-run_each-loop-walk : goal.decreases-run_each-loop-walk
decreases-run_each-loop-walk g l = length l.walk.ids - l.walk.at

-- ---- what is carried on so far

-- the nodes before this one are done
abbrev pub invariant-run_from-loop-at : goal.invariant-run_from-loop-at
invariant-run_from-loop-at g l = record {
  table : g.R.Rows.table l.rows ≡ g.R.Rows.table l.fn.rows;
  scope : l.scope ≡ l.fn.scope;
  frames : l.stack.frames ≡ [];
  along : spec.NodesWentTo l.context (g.R.Rows.table l.fn.rows) l.nodes l.first l.at l.fn.scope (g.R.Rows.looks l.fn.rows) (g.R.Rows.looks l.rows) l.fn.out l.out;
}

-- the items before this one are done
abbrev pub invariant-run_each-loop-walk : goal.invariant-run_each-loop-walk
invariant-run_each-loop-walk g l = record {
  table : g.R.Rows.table l.rows ≡ g.R.Rows.table l.fn.rows;
  scope : l.scope ≡ l.fn.scope;
  frames : FramesLive (g.R.Rows.table l.fn.rows) l.stack.frames;
  living : Lives (g.R.Rows.table l.fn.rows) l.walk;
  leads : EachLeads l.context (g.R.Rows.table l.fn.rows) l.list l.name l.body l.fn.scope l.fn.stack l.stack (g.R.Rows.looks l.fn.rows) (g.R.Rows.looks l.rows) l.fn.out l.out (Some l.walk);
}

-- the items before this one are done
abbrev pub invariant-run_members-loop-walk : goal.invariant-run_members-loop-walk
invariant-run_members-loop-walk g l = record {
  table : g.R.Rows.table l.rows ≡ g.R.Rows.table l.fn.rows;
  frames : FramesLive (g.R.Rows.table l.fn.rows) l.stack.frames;
  living : Lives (g.R.Rows.table l.fn.rows) l.walk;
  along : spec.MembersWentTo l.context (g.R.Rows.table l.fn.rows) l.partial l.item l.fn.walk l.walk l.fn.stack l.stack (g.R.Rows.looks l.fn.rows) (g.R.Rows.looks l.rows) l.fn.out l.out;
}
