use Rattle.std.proofs.Common.{◌≡◌, ◌++◌, take}
use Rattle.doll_set.specs.Dependencies.{tags_of}
use Rattle.doll_set.proofs.Tags.{arms_tags}
use Rattle.doll_set.proofs.dependencies.+tags.Given as goal

-- the tags of the arms so far
abbrev pub invariant-add_node_tags-loop-arm : goal.invariant-add_node_tags-loop-arm
invariant-add_node_tags-loop-arm l = l.tags ≡ l.fn.tags ++ arms_tags (take l.arm-index l.arm-items)

-- those of the nodes so far
abbrev pub invariant-add_tags-loop-node : goal.invariant-add_tags-loop-node
invariant-add_tags-loop-node l = l.tags ≡ l.fn.tags ++ tags_of (take l.node-index l.nodes)
