use Rattle.std.proofs.Common.{◌≡◌, ◌+◌, ◌++◌, length}
use Rattle.doll_expr.specs.Tokens.{tokens_from, tokens_of}
use Rattle.doll_expr.proofs.Stands.{Leads}
use Rattle.doll_expr.proofs.lex.cut.Given as goal

abbrev pub invariant-loop-ahead : goal.invariant-loop-ahead
invariant-loop-ahead l =
    (l.tokens ++ tokens_from l.left l.after_dot l.at l.rest ≡ tokens_of l.bytes) × (l.at + length l.rest ≡ length l.bytes) × Leads l.bytes l.rest l.after_dot l.at l.tokens

abbrev pub decreases-loop-ahead : goal.decreases-loop-ahead
decreases-loop-ahead l = l.left
