use Rattle.std.proofs.Common.{◌≡◌, take}
use Rattle.doll_lint.specs.Blocks.{scope_roots}
use Rattle.doll_lint.proofs.block.scope_roots.Given as goal

-- those of the variables so far
abbrev pub invariant-loop-binding : goal.invariant-loop-binding
invariant-loop-binding l = l.standing ≡ scope_roots (take l.binding-index l.binding-items)
