use Rattle.std.proofs.Common.{◌≡◌, ◌++◌, take}
use Rattle.std.specs.List.{flat_map}
use Rattle.doll_types.specs.Findings.{part_found}
use Rattle.doll_types.proofs.keys.add_key.Given as goal

-- what is found in the parts so far
abbrev pub invariant-loop-part : goal.invariant-loop-part
invariant-loop-part l = l.found ≡ l.fn.found ++ flat_map (part_found l.schema l.typing l.at) (take l.part-index l.key)
