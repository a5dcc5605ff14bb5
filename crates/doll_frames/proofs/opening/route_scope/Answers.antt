use Rattle.std.proofs.Common.{Some, rules}
use Rattle.doll_frames.proofs.Openings.{opened_lives}
use Rattle.doll_frames.proofs.opening.route_scope.Goals as goal

pub returns-clause-living : goal.returns-clause-living
returns-clause-living g c =
    opened_lives c.args.schema.now c.args.route.now c.args.id c.args.params.now (g.R.Rows.table c.args.rows.now) (Some c.add_values.new.scope) (search rules)
