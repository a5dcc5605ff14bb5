use Rattle.std.proofs.Common.{◌≡◌, take}
use Rattle.doll_lint.proofs.found.copy_typing.Given as goal

-- the variables so far
abbrev pub invariant-loop-binding : goal.invariant-loop-binding
invariant-loop-binding l = l.copy ≡ take l.binding-index l.binding-items
