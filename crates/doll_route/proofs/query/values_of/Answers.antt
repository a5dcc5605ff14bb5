use Rattle.std.proofs.Common.{◌≡◌, map, arith}
use Rattle.std.proofs.lemmas.Grind.{common_steps}
use Rattle.doll_route.specs.Queries.{param_value}
use Rattle.doll_route.proofs.Values.{values-fit}
use Rattle.doll_route.proofs.query.values_of.Goals as goal

pub returns-clause-fits : goal.returns-clause-fits
returns-clause-fits c =
    let all : c.loop-name.values ≡ map (param_value c.args.query.now) c.args.names.now = grind (arith, common_steps) in
    values-fit c.args.query.now c.args.names.now c.loop-name.values all
