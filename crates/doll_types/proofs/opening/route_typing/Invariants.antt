use Rattle.std.proofs.Common.{◌≡◌, ◌++◌, map, take}
use Rattle.doll_types.specs.declared.types.ValueType.TheVariants.{Text}
use Rattle.doll_types.specs.Reached.{subject_typing}
use Rattle.doll_types.proofs.opening.route_typing.Given as goal

-- the parameters so far
abbrev pub invariant-loop-name : goal.invariant-loop-name
invariant-loop-name l = l.typing ≡ subject_typing l.schema l.route.subject ++ map (λ name. (name, Text)) (take l.name-index l.name-items)
