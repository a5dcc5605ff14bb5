use Rattle.doll_run.proofs.Opening.{variables_typed}
use Rattle.doll_run.proofs.route_variables_have_types.Goals as goal

pub returns : goal.returns
returns c = variables_typed
