use Rattle.doll_expr.proofs.Only as law
use Rattle.doll_expr.proofs.parse.one_tree.Goals as goal

pub returns : goal.returns
returns c = law.one_tree
