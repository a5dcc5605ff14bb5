use Rattle.std.proofs.Common.{◌≡◌, length}
use Rattle.std.specs.Cmp.Lexicographic.{slice_cmp}
use Rattle.doll_lint.specs.Noted.{part_order}
use Rattle.doll_lint.proofs.noted.shape_order.Given as goal

-- what is left decides
abbrev pub invariant-loop-ones : goal.invariant-loop-ones
invariant-loop-ones l = slice_cmp part_order l.ones l.others ≡ slice_cmp part_order l.initial.ones l.initial.others

abbrev pub decreases-loop-ones : goal.decreases-loop-ones
decreases-loop-ones l = length l.ones
