use Rattle.std.proofs.Common.{◌≡◌, take}
use Rattle.doll_lint.specs.Blocks.{arms_blocks, nodes_blocks}
use Rattle.doll_lint.specs.Found.{Grows}
use Rattle.doll_lint.proofs.walk.+walk.Given as goal

-- the blocks in the nodes so far
abbrev pub invariant-add_blocks-loop-node : goal.invariant-add_blocks-loop-node
invariant-add_blocks-loop-node l = record {
  typing : l.typing ≡ l.fn.typing;
  found : Grows l.ground.set.now l.ground.schema.now (nodes_blocks l.ground.schema.now l.ground.set.now.templates l.ground.number (take l.node-index l.nodes) l.fn.typing) l.fn.found l.found;
}

-- the blocks in the arms so far
abbrev pub invariant-add_node_blocks-loop-arm : goal.invariant-add_node_blocks-loop-arm
invariant-add_node_blocks-loop-arm l = record {
  typing : l.typing ≡ l.fn.typing;
  found : Grows l.ground.set.now l.ground.schema.now (arms_blocks l.ground.schema.now l.ground.set.now.templates l.ground.number (take l.arm-index l.arm-items) l.fn.typing) l.fn.found l.found;
}
