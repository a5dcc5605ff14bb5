use Rattle.std.proofs.Common.{◌≡◌, ◌-◌, ◌^◌, min, take}
use Rattle.doll_set.specs.Weights as spec
use Rattle.doll_set.proofs.Counts.{arms_nodes}
use Rattle.doll_set.proofs.counting.+count.Given as goal

-- the nodes of the arms so far
abbrev pub invariant-node_count-loop-arm : goal.invariant-node_count-loop-arm
invariant-node_count-loop-arm l = l.count ≡ min (arms_nodes (take l.arm-index l.arm-items)) (2 ^ 32 - 1)

-- the nodes so far
abbrev pub invariant-nodes_in-loop-node : goal.invariant-nodes_in-loop-node
invariant-nodes_in-loop-node l = l.count ≡ min (spec.nodes_in (take l.node-index l.nodes)) (2 ^ 32 - 1)
