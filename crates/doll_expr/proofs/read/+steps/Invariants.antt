use Rattle.doll_expr.proofs.read.+steps.Given as goal

abbrev pub decreases-steps : goal.decreases-steps
decreases-steps l = l.fuel
