use Rattle.std.proofs.Common.{◌≡◌, ◌++◌, false, length}
use Rattle.doll_expr.specs.Tokens.{single_quoted}
use Rattle.doll_expr.proofs.literal.single_quoted.Given as goal

abbrev pub invariant-loop-rest : goal.invariant-loop-rest
invariant-loop-rest l = l.read.items ++ single_quoted l.is_escape l.rest ≡ single_quoted false l.bytes

abbrev pub decreases-loop-rest : goal.decreases-loop-rest
decreases-loop-rest l = length l.rest
