use Rattle.doll_erb.proofs.render.+locals_from.Given as goal

abbrev pub decreases-locals_from : goal.decreases-locals_from
decreases-locals_from l = l.left
