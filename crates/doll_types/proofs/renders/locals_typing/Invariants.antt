use Rattle.std.proofs.Common.{◌≡◌, drop}
use Rattle.doll_set.proofs.Making.{made_with}
use Rattle.doll_types.specs.Findings.{local_type, locals_typing}
use Rattle.doll_types.proofs.renders.locals_typing.Given as goal

-- the types so far and those of the locals left are those of all
abbrev pub invariant-loop-local : goal.invariant-loop-local
invariant-loop-local l = made_with (local_type l.schema l.typing) l.types (drop l.local-index l.locals) ≡ locals_typing l.schema l.typing l.locals
