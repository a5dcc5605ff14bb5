use Rattle.std.proofs.Common.{◌≡◌, ◌++◌}
use Rattle.percent_encoding.specs.Iter.{encoded_text}
use Rattle.doll_key.specs.Components.{escaped}
use Rattle.doll_key.proofs.escapes.append_escaped.Given as goal

abbrev pub invariant-loop-piece : goal.invariant-loop-piece
invariant-loop-piece l = l.out.items ++ encoded_text l.piece-iterator ≡ l.fn.out.items ++ escaped l.text
