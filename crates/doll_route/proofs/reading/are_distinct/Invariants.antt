use Rattle.std.proofs.Common.{◌≡◌, length}
use Rattle.doll_route.specs.Routes.{are_distinct, texts_in}
use Rattle.doll_route.proofs.Distinct.{apart}
use Rattle.doll_route.proofs.reading.are_distinct.Given as goal

-- what is left decides
abbrev pub invariant-loop-names : goal.invariant-loop-names
invariant-loop-names l = apart (texts_in l.seen.keys) l.names ≡ are_distinct l.initial.names

abbrev pub decreases-loop-names : goal.decreases-loop-names
decreases-loop-names l = length l.names
