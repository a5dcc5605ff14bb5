use Rattle.std.proofs.Common.{length}
use Rattle.doll_lint.proofs.path.+covers.Given as goal

abbrev pub decreases-covers : goal.decreases-covers
decreases-covers l = length l.steps.now
