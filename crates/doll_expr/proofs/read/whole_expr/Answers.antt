use Rattle.doll_expr.proofs.Clauses.{tokens_found, tokens_only}
use Rattle.doll_expr.proofs.FirstFault.{tokens_fault}
use Rattle.doll_expr.proofs.read.whole_expr.Goals as goal

pub returns-clause-found : goal.returns-clause-found
returns-clause-found c = tokens_found c.args.tokens.now c.read_whole.result c.read_whole.ensures

pub returns-clause-only : goal.returns-clause-only
returns-clause-only c e short is = tokens_only c.args.tokens.now c.read_whole.result e c.read_whole.ensures short is

pub returns-clause-fault : goal.returns-clause-fault
returns-clause-fault c few ended = tokens_fault c.args.tokens.now c.read_whole.result c.read_whole.ensures few ended
