use Rattle.std.proofs.Common.{sym, ap, ◌∙◌, subst}
use Rattle.doll_table.specs.Tables.{TableMap}
use Rattle.doll_table.specs.Fits.{Fits}
use Rattle.doll_commit.specs.declared.apply.Applied.{Applied}
use Rattle.doll_commit.specs.Commits.{stamped}
use Rattle.doll_commit.proofs.Stamps.{stamped_fits}
use Rattle.doll_commit.proofs.touched.finish.Goals as goal

pub returns-clause-exact : goal.returns-clause-exact
returns-clause-exact c = ap {B = Applied} (λ (t : TableMap). record { table = t; ids = c.args.ids }) (c.in_ok-stamp.ensures ∙ ap (stamped c.args.moment c.args.table) c.in_ok-refs.ensures)

pub returns-clause-fits : goal.returns-clause-fits
returns-clause-fits c = subst (λ (t : TableMap). Fits c.args.schema.now t) (sym c.in_ok-stamp.ensures) (stamped_fits c.args.moment c.args.schema.now c.args.table c.in_ok-refs.refs c.requires)
