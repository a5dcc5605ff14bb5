use Rattle.std.proofs.Common.{◌≡◌, ◌++◌}
use Rattle.doll_plain.specs.Variables.{parameters}
use Rattle.doll_frames.proofs.opening.add_values.Given as goal

-- the parameters so far and those that are left are all
abbrev pub invariant-loop-name : goal.invariant-loop-name
invariant-loop-name l = record {
  typing : l.scope.typing ≡ l.fn.scope.typing;
  vars : l.scope.vars ++ parameters l.name-iterator.a.rest.now l.name-iterator.b.rest.now ≡ l.fn.scope.vars ++ parameters l.names l.values;
}
