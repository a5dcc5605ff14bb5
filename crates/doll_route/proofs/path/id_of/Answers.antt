use Rattle.std.proofs.Common.{sym, arith}
use Rattle.doll_route.proofs.Digits.{id_of-over}
use Rattle.doll_route.proofs.path.id_of.Goals as goal

pub returns-then-number-gt-GREATEST_ID : goal.returns-then-number-gt-GREATEST_ID
returns-then-number-gt-GREATEST_ID c = sym (id_of-over c.loop-digit.number c.loop-digit.digit-index c.args.digits.now c.loop-digit.invariant.number (omega arith) (omega arith))
