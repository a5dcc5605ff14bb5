use Rattle.doll_eval.specs.Values.{record_step}
use Rattle.doll_eval.proofs.Livings.{ok_lives, record_step_lives}
use Rattle.doll_eval.proofs.steps.step_from.Goals as goal

pub returns-in-Record-clause-living : goal.returns-in-Record-clause-living
returns-in-Record-clause-living g c =
    let table = g.R.Rows.table c.args.rows.now in
    ok_lives table c.record_step.result (record_step c.args.schema.now table c.in-Record.model c.in-Record.id c.args.name.now) c.record_step.ensures.value
    (record_step_lives c.args.schema.now table c.in-Record.model c.in-Record.id c.args.name.now c.requires.fits)
