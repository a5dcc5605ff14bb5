use Rattle.std.proofs.Common.{◌≡◌, ◌+◌, false, length}
use Rattle.doll_expr.specs.Tokens.{with_front, double_quoted}
use Rattle.doll_expr.proofs.literal.double_quoted.Given as goal

abbrev pub invariant-loop-rest : goal.invariant-loop-rest
invariant-loop-rest l = (with_front l.read.items (double_quoted l.is_escape l.at l.rest) ≡ double_quoted false l.start l.bytes) × (l.at + length l.rest ≡ l.start + length l.bytes)

abbrev pub decreases-loop-rest : goal.decreases-loop-rest
decreases-loop-rest l = length l.rest
