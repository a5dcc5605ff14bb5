use Rattle.std.proofs.Common.{◌≡◌, ◌+◌, ◌*◌, ◌++◌, take}
use Rattle.doll_erb.proofs.node.Arm.TheLaws.{the_size as arm_size}
use Rattle.doll_erb.proofs.node.Node.TheLaws.{the_size}
use Rattle.doll_lint.proofs.Depths.{left_of}
use Rattle.doll_lint.specs.Needs.{arms_need, setting_of, tree_needs}
use Rattle.doll_lint.proofs.needs.+needs.Given as goal
use denote.Param.Weighed.{most}

-- ---- what is left

abbrev pub decreases-add_template_needs : goal.decreases-add_template_needs
decreases-add_template_needs l = left_of l.levels l.set.now.templates 0

abbrev pub decreases-add_render_needs : goal.decreases-add_render_needs
decreases-add_render_needs l = left_of l.setting.now.levels l.setting.now.set.now.templates 1

abbrev pub decreases-add_collection_needs : goal.decreases-add_collection_needs
decreases-add_collection_needs l = left_of l.setting.now.levels l.setting.now.set.now.templates 1

abbrev pub decreases-add_node_needs : goal.decreases-add_node_needs
decreases-add_node_needs l = left_of l.setting.now.levels l.setting.now.set.now.templates (4 * the_size l.node.now + 2)

abbrev pub decreases-add_needs : goal.decreases-add_needs
decreases-add_needs l = left_of l.setting.now.levels l.setting.now.set.now.templates (4 * most the_size l.nodes.now + 3)

abbrev pub decreases-add_arms_needs : goal.decreases-add_arms_needs
decreases-add_arms_needs l = left_of l.setting.now.levels l.setting.now.set.now.templates (4 * most arm_size l.arms.now + 1)

abbrev pub decreases-add_each_needs : goal.decreases-add_each_needs
decreases-add_each_needs l = left_of l.setting.now.levels l.setting.now.set.now.templates (4 * most the_size l.body.now + 4)

-- ---- what is needed so far

abbrev pub invariant-add_needs-loop-node : goal.invariant-add_needs-loop-node
invariant-add_needs-loop-node l = record {
  scope : l.scope ≡ l.fn.scope;
  needs : l.needs ≡ l.fn.needs ++ tree_needs (setting_of l.setting) (take l.node-index l.nodes) l.setting.outer l.fn.scope.typing l.fn.scope.standing;
}

abbrev pub invariant-add_arms_needs-loop-arm : goal.invariant-add_arms_needs-loop-arm
invariant-add_arms_needs-loop-arm l = record {
  scope : l.scope ≡ l.fn.scope;
  needs : l.needs ≡ l.fn.needs ++ arms_need (setting_of l.setting) (take l.arm-index l.arms) l.setting.outer l.fn.scope.typing l.fn.scope.standing;
}
