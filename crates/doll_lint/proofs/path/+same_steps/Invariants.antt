use Rattle.std.proofs.Common.{length}
use Rattle.doll_lint.proofs.path.+same_steps.Given as goal

abbrev pub decreases-same_steps : goal.decreases-same_steps
decreases-same_steps l = length l.ones.now
