use Rattle.std.proofs.Common.{◌≡◌, ◌++◌}
use Rattle.doll_plain.specs.Variables.{parameters}
use Rattle.doll_plain.proofs.variables.add_parameters.Given as goal

-- the parameters so far and those that are left are all
abbrev pub invariant-loop-name : goal.invariant-loop-name
invariant-loop-name l = l.vars ++ parameters l.name-iterator.a.rest.now l.name-iterator.b.rest.now ≡ l.fn.vars ++ parameters l.names l.values
