use Rattle.std.proofs.Common.{sym, ◌∙◌, subst}
use Rattle.doll_table.specs.Fits.{RowFits}
use Rattle.doll_commit.proofs.Filled.{row_after_fits}
use Rattle.doll_commit.proofs.change.filled.Goals as goal

pub returns-clause-fits : goal.returns-clause-fits
returns-clause-fits c fits =
    subst (λ row. RowFits c.args.table.now c.args.model.now row) (sym c.in_ok-row.ensures)
    (row_after_fits c.args.table.now c.args.model.now c.args.given.now c.args.old.now (sym c.given_fault.ensures ∙ c.in_default.is) fits)
