use Rattle.std.proofs.Common.{rules}
use Rattle.doll_eval.specs.Values.{variable}
use Rattle.doll_eval.proofs.Livings.{ok_lives, variable_lives}
use Rattle.doll_eval.proofs.evaluation.look_up.Goals as goal

pub returns-clause-living : goal.returns-clause-living
returns-clause-living c table living =
    ok_lives table c.held_copy.result (variable c.args.vars.now c.args.name.now) (search rules) (variable_lives table c.args.vars.now c.args.name.now living)
