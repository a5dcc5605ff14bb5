use Rattle.std.proofs.Common.{true, false, ap}
use Rattle.doll_job.proofs.Jobs.{marked, step_lives, step_next}
use Rattle.doll_job.proofs.job.Job.step.Goals as goal

pub returns-clause-next : goal.returns-clause-next
returns-clause-next g c =
    step_next c.args.checked.now (g.R.Rows.table c.args.rows.now) c.args.self.now
    (record { template = c.self.inside.template; scope = c.self.inside.scope; written = c.self.inside.out; stopped = c.self.inside.stack; moment = c.self.inside.moment; tree = c.self.inside.tree; failed = true })
    c.carry.new.self
    (record { template = c.self-2.inside.template; scope = c.self-2.inside.scope; written = c.self-2.inside.out; stopped = c.self-2.inside.stack; moment = c.self-2.inside.moment; tree = c.self-2.inside.tree; failed = false })
    c.need_of.new.self (g.R.Rows.looks c.args.rows.now) (g.R.Rows.looks c.carry.new.rows) c.in_ok-flow.flow c.need_of.result true false
    (ap (marked true) c.self.view_is) (ap (marked false) c.self-2.view_is) c.in_ok-flow.ensures.carried c.need_of.ensures.told c.need_of.ensures.need

pub returns-clause-lives : goal.returns-clause-lives
returns-clause-lives g c =
    step_lives c.args.checked.now (g.R.Rows.table c.args.rows.now) c.carry.new.self
    (record { template = c.self-2.inside.template; scope = c.self-2.inside.scope; written = c.self-2.inside.out; stopped = c.self-2.inside.stack; moment = c.self-2.inside.moment; tree = c.self-2.inside.tree; failed = false })
    c.need_of.new.self c.in_ok-flow.flow false (ap (marked false) c.self-2.view_is) c.in_ok-flow.ensures.lives c.need_of.ensures.told
