use Rattle.std.proofs.Common.{◌≡◌, ◌+◌, ◌-◌, ◌*◌, ◌<◌, ◌^◌, length}
use Rattle.std.specs.List.{fold}
use Rattle.doll_expr.specs.Tokens.{decimal}
use Rattle.doll_expr.proofs.literal.decimal.Given as goal

abbrev pub invariant-loop-rest : goal.invariant-loop-rest
invariant-loop-rest l = (fold (λ n digit. 10 * n + (digit - 48)) l.value l.rest ≡ decimal l.digits) × (l.value < 2 ^ 63)

abbrev pub decreases-loop-rest : goal.decreases-loop-rest
decreases-loop-rest l = length l.rest
