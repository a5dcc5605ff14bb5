use Rattle.doll_expr.proofs.Clauses.{bytes_found, bytes_only}
use Rattle.doll_expr.proofs.FirstFault.{bytes_fault}
use Rattle.doll_expr.proofs.parse.parse_expr_bytes.Goals as goal

pub returns-clause-found : goal.returns-clause-found
returns-clause-found c = bytes_found c.args.bytes.now c.read_bytes.result c.read_bytes.ensures

pub returns-clause-only : goal.returns-clause-only
returns-clause-only c e is = bytes_only c.args.bytes.now c.read_bytes.result e c.read_bytes.ensures is

pub returns-clause-fault : goal.returns-clause-fault
returns-clause-fault c = bytes_fault c.args.bytes.now c.read_bytes.result c.read_bytes.ensures
