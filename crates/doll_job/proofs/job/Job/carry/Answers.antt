use Rattle.std.proofs.Common.{rules, ◌≡◌, refl, ap, sym, ◌∙◌}
use Rattle.doll_job.specs.Jobs.{JobState}
use Rattle.doll_job.proofs.job.Job.carry.Goals as goal
use Rattle.doll_frames.specs.declared.context.Context.{Context}
use Rattle.doll_set.specs.declared.limits.TheConstants.{LONGEST_CHAIN}
use Rattle.doll_job.proofs.Jobs.{carried_in}

pub returns-clause-carried : goal.returns-clause-carried
returns-clause-carried g c =
    carried_in (record { set = c.set.result; schema = c.schema.result; moment = c.self.inside.moment; tree = c.self.inside.tree; number = c.in-Some.number; levels = LONGEST_CHAIN })
    c.args.checked.now (g.R.Rows.table c.args.rows.now) c.args.self.now
    (record { template = c.self.inside.template; scope = c.run_template.new.scope; written = c.run_template.new.out; stopped = c.run_template.new.stack; moment = c.self.inside.moment; tree = c.self.inside.tree; failed = c.self.inside.failed })
    (g.R.Rows.looks c.args.rows.now) (g.R.Rows.looks c.run_template.new.rows) c.in-Some.number c.run_template.result
    (search rules) (search rules) (search rules) (search rules) refl (search rules) (search rules) (search rules) (search rules) (search rules) (search rules)
