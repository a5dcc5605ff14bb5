use Rattle.std.proofs.Common.{◌≡◌, ◌++◌, take}
use Rattle.doll_types.specs.Findings.{findings}
use Rattle.doll_types.proofs.Nodes.{arms_found}
use Rattle.doll_types.proofs.findings.+walk.Given as goal

-- what is found in the arms so far
abbrev pub invariant-add_found-loop-arm : goal.invariant-add_found-loop-arm
invariant-add_found-loop-arm l = record {
  typing : l.typing ≡ l.fn.typing;
  found : l.found ≡ l.fn.found ++ arms_found l.schema (take l.arm-index l.arm-items) l.fn.typing;
}

-- what is found in the nodes so far
abbrev pub invariant-add_findings-loop-node : goal.invariant-add_findings-loop-node
invariant-add_findings-loop-node l = record {
  typing : l.typing ≡ l.fn.typing;
  found : l.found ≡ l.fn.found ++ findings l.schema (take l.node-index l.nodes) l.fn.typing;
}
