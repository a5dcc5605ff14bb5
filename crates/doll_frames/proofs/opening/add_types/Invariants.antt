use Rattle.std.proofs.Common.{◌≡◌, ◌++◌, map, take}
use Rattle.doll_types.specs.declared.types.ValueType.TheVariants.{Text}
use Rattle.doll_frames.proofs.opening.add_types.Given as goal

-- the parameters so far
abbrev pub invariant-loop-name : goal.invariant-loop-name
invariant-loop-name l = record {
  typing : l.scope.typing ≡ l.fn.scope.typing ++ map (λ name. (name, Text)) (take l.name-index l.names);
  vars : l.scope.vars ≡ l.fn.scope.vars;
}
