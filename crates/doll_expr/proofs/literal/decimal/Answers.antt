use Rattle.std.proofs.Common.{◌∙◌, arith}
use Rattle.doll_expr.specs.Tokens.{decimal}
use Rattle.doll_expr.proofs.Numbers.{too_many_tens, too_large, no_room}
use Rattle.doll_expr.proofs.literal.decimal.Goals as goal

pub returns-then-value-gt-MOST_TENS : goal.returns-then-value-gt-MOST_TENS
returns-then-value-gt-MOST_TENS c =
    no_room (decimal c.args.digits.now) (too_many_tens c.loop-rest.value (decimal c.args.digits.now) c.loop-rest.rest.now (omega arith) (omega arith) c.loop-rest.invariant.0)

pub returns-then-value-gt9223372036854775807 : goal.returns-then-value-gt9223372036854775807
returns-then-value-gt9223372036854775807 c =
    no_room (decimal c.args.digits.now) (too_large c.loop-rest.value c.from.result (decimal c.args.digits.now) c.loop-rest.rest.now (omega arith) (c.from.ensures ∙ c.saturating_sub.ensures) (omega arith) c.loop-rest.invariant.0)
