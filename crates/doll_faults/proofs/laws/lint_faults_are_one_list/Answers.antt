use Rattle.doll_faults.proofs.Ascending.{one_lint_list}
use Rattle.doll_faults.proofs.laws.lint_faults_are_one_list.Goals as goal

pub returns : goal.returns
returns c = one_lint_list
