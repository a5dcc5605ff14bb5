use Rattle.doll_eval.proofs.Livings.{lives_along}
use Rattle.doll_eval.proofs.evaluation.+eval.Goals as goal

pub returns-in_ok-right-in-Binary-clause-living : goal.returns-in_ok-right-in-Binary-clause-living
returns-in_ok-right-in-Binary-clause-living g t c =
    c.operate.ensures.living (g.R.Rows.table c.args.rows.now)
    (lives_along (g.R.Rows.table c.eval-in-Binary.new.rows) (g.R.Rows.table c.args.rows.now) c.in_ok-right-in-Binary.right c.eval-in-Binary.ensures.table c.in_ok-right-in-Binary.ensures.living)
