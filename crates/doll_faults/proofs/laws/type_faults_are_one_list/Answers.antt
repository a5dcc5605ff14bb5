use Rattle.doll_faults.proofs.Ascending.{one_type_list}
use Rattle.doll_faults.proofs.laws.type_faults_are_one_list.Goals as goal

pub returns : goal.returns
returns c = one_type_list
