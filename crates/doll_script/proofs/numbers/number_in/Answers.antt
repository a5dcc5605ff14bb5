use Rattle.std.proofs.Common.{sym, arith}
use Rattle.doll_script.proofs.Digits.{number_in-over}
use Rattle.doll_script.proofs.numbers.number_in.Goals as goal

pub returns-then-number-gt-GREATEST_NUMBER : goal.returns-then-number-gt-GREATEST_NUMBER
returns-then-number-gt-GREATEST_NUMBER c = sym (number_in-over c.loop-digit.number c.loop-digit.digit-index c.args.digits.now c.loop-digit.invariant.number (omega arith) (omega arith))
