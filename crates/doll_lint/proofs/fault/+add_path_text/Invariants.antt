use Rattle.std.proofs.Common.{length}
use Rattle.doll_lint.proofs.fault.+add_path_text.Given as goal

abbrev pub decreases-add_path_text : goal.decreases-add_path_text
decreases-add_path_text l = length l.steps.now
