use Rattle.std.proofs.Common.{rules, ◌≡◌, false, refl, ap, sym, ◌∙◌}
use Rattle.doll_job.specs.Jobs.{JobState}
use Rattle.doll_job.proofs.job.Job.start.Goals as goal
use Rattle.doll_job.proofs.Jobs.{none_live, number_within, opens_page}

pub returns-clause-opens : goal.returns-clause-opens
returns-clause-opens g c =
    opens_page c.args.checked.now c.args.routes.now c.args.found.now c.args.params (g.R.Rows.table c.args.rows.now) c.args.moment c.args.tree c.in-Some.route.now c.in-Some-2.scope
    (record { template = c.number_of.result; scope = c.in-Some-2.scope; written = c.new.result; stopped = c.new-2.result; moment = c.args.moment; tree = c.args.tree; failed = false })
    (search rules)
    (search rules)
    (search rules)

pub returns-clause-lives : goal.returns-clause-lives
returns-clause-lives g c = record {
  there = number_within c.args.checked.now.set.templates c.in-Some.route.now.template c.number_of.result (search rules);
  vars = (search rules);
  frames = none_live (g.R.Rows.table c.args.rows.now) c.new-2.result.frames c.new-2.ensures.frames;
}
