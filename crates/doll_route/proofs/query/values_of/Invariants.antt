use Rattle.std.proofs.Common.{◌≡◌, map, take}
use Rattle.doll_route.specs.Queries.{param_value}
use Rattle.doll_route.proofs.query.values_of.Given as goal

-- a value for each name so far
abbrev pub invariant-loop-name : goal.invariant-loop-name
invariant-loop-name l = l.values ≡ map (param_value l.query) (take l.name-index l.names)
