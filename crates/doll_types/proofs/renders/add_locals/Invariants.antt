use Rattle.std.proofs.Common.{◌≡◌, ◌++◌, take}
use Rattle.std.specs.List.{flat_map}
use Rattle.doll_types.specs.Findings.{local_found}
use Rattle.doll_types.proofs.renders.add_locals.Given as goal

-- what is found in the locals so far
abbrev pub invariant-loop-local : goal.invariant-loop-local
invariant-loop-local l = l.found ≡ l.fn.found ++ flat_map (local_found l.schema l.typing l.at) (take l.local-index l.locals)
