use Rattle.std.proofs.Common.{length}
use Rattle.doll_lint.proofs.shared.+same_shape.Given as goal

abbrev pub decreases-same_shape : goal.decreases-same_shape
decreases-same_shape l = length l.ones.now
