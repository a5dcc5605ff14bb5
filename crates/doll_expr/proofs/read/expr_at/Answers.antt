use Rattle.doll_expr.proofs.Clauses.{front_found, front_only_given}
use Rattle.doll_expr.proofs.read.expr_at.Goals as goal

pub returns-clause-found : goal.returns-clause-found
returns-clause-found c = front_found c.args.tokens.now c.read_front.result c.read_front.ensures

pub returns-clause-only : goal.returns-clause-only
returns-clause-only c ts rest e parts s few ends = front_only_given c.args.tokens.now ts rest e c.read_front.result c.read_front.ensures parts s few ends
