use Rattle.doll_expr.proofs.read.+reading.Given as goal

abbrev pub decreases-atom : goal.decreases-atom
decreases-atom l = l.fuel

abbrev pub decreases-more : goal.decreases-more
decreases-more l = l.fuel

abbrev pub decreases-operands : goal.decreases-operands
decreases-operands l = l.fuel

abbrev pub decreases-unary : goal.decreases-unary
decreases-unary l = l.fuel
