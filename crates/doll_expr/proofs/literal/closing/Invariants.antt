use Rattle.std.proofs.Common.{◌≡◌, ◌+◌, false, length}
use Rattle.doll_expr.specs.Tokens.{closing}
use Rattle.doll_expr.proofs.literal.closing.Given as goal

abbrev pub invariant-loop-rest : goal.invariant-loop-rest
invariant-loop-rest l = (closing l.quote l.is_taken l.at l.rest ≡ closing l.quote false 0 l.bytes) × (l.at + length l.rest ≡ length l.bytes)

abbrev pub decreases-loop-rest : goal.decreases-loop-rest
decreases-loop-rest l = length l.rest
