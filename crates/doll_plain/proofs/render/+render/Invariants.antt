use Rattle.std.proofs.Common.{◌≡◌, ◌+◌, ◌*◌, ◌++◌, ◌∷◌, [], take, drop}
use Rattle.doll_erb.proofs.node.Node.TheLaws.{the_size}
use Rattle.doll_erb.specs.declared.node.Node as node
use Rattle.doll_plain.specs.Direct.{direct, if_writes}
use Rattle.doll_plain.specs.Pages.{scene_of}
use Rattle.doll_plain.proofs.Choices.{for_records}
use Rattle.doll_plain.proofs.Depths.{left_of}
use Rattle.doll_plain.proofs.render.+render.Given as goal
use denote.Param.Weighed.{most}

-- ---- what is left

abbrev pub decreases-render_template : goal.decreases-render_template
decreases-render_template g l = left_of l.levels l.set.now.templates 0

abbrev pub decreases-render_partial : goal.decreases-render_partial
decreases-render_partial g l = left_of l.context.now.levels l.context.now.set.now.templates 1

abbrev pub decreases-render_collection : goal.decreases-render_collection
decreases-render_collection g l = left_of l.context.now.levels l.context.now.set.now.templates 1

abbrev pub decreases-render_node : goal.decreases-render_node
decreases-render_node g l = left_of l.context.now.levels l.context.now.set.now.templates (4 * the_size l.node.now + 3)

abbrev pub decreases-render : goal.decreases-render
decreases-render g l = left_of l.context.now.levels l.context.now.set.now.templates (4 * most the_size l.nodes.now + 4)

abbrev pub decreases-render_each : goal.decreases-render_each
decreases-render_each g l = left_of l.context.now.levels l.context.now.set.now.templates (4 * most the_size l.body.now + 5)

abbrev pub decreases-render_if : goal.decreases-render_if
decreases-render_if g l = left_of l.context.now.levels l.context.now.set.now.templates (4 * the_size (node.If 0 l.arms.now l.otherwise.now) + 2)

abbrev pub decreases-render_tag : goal.decreases-render_tag
decreases-render_tag g l = left_of l.context.now.levels l.context.now.set.now.templates 2

-- ---- what is written so far

-- what the nodes so far write
abbrev pub invariant-render-loop-node : goal.invariant-render-loop-node
invariant-render-loop-node g l = record {
  table : g.R.Rows.table l.rows ≡ g.R.Rows.table l.fn.rows;
  vars : l.vars ≡ l.fn.vars;
  so_far : l.out.items ≡ l.fn.out.items ++ direct (scene_of l.context (g.R.Rows.table l.fn.rows)) (take l.node-index l.nodes) l.fn.vars;
}

-- the arms so far don't hold, and nothing is written
abbrev pub invariant-render_if-loop-arm : goal.invariant-render_if-loop-arm
invariant-render_if-loop-arm g l = record {
  table : g.R.Rows.table l.rows ≡ g.R.Rows.table l.fn.rows;
  vars : l.vars ≡ l.fn.vars;
  nothing : l.out.items ≡ l.fn.out.items;
  left : if_writes (scene_of l.context (g.R.Rows.table l.fn.rows)) (drop l.arm-index l.arm-items) l.otherwise l.fn.vars ≡ if_writes (scene_of l.context (g.R.Rows.table l.fn.rows)) l.arm-items l.otherwise l.fn.vars;
}

-- what the body writes for the records so far
abbrev pub invariant-render_each-loop-id : goal.invariant-render_each-loop-id
invariant-render_each-loop-id g l = record {
  table : g.R.Rows.table l.rows ≡ g.R.Rows.table l.fn.rows;
  vars : l.vars ≡ l.fn.vars;
  so_far : l.out.items ≡ l.fn.out.items ++ for_records (λ item. direct (scene_of l.context (g.R.Rows.table l.fn.rows)) l.body (l.fn.vars ++ (l.name, item) ∷ [])) l.model (take l.id-index l.id-items);
}

-- what the partial writes for the records so far
abbrev pub invariant-render_collection-loop-id : goal.invariant-render_collection-loop-id
invariant-render_collection-loop-id g l = record {
  table : g.R.Rows.table l.rows ≡ g.R.Rows.table l.fn.rows;
  so_far : l.out.items ≡ l.fn.out.items ++ for_records (λ one. (scene_of l.context (g.R.Rows.table l.fn.rows)).partial l.name ((l.item, one) ∷ [])) l.model (take l.id-index l.id-items);
}
