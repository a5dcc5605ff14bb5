use Rattle.std.proofs.Common.{rules}
use Rattle.doll_frames.specs.declared.frame.Frame.TheVariants as frame
use Rattle.doll_frames.proofs.Lives.{frames_behind, no_frames}
use Rattle.doll_job.proofs.Leads.{arm_again, arm_chosen}
use Rattle.doll_job.proofs.steps.arm_place.Goals as goal

pub returns-in-Some-clause-leads : goal.returns-in-Some-clause-leads
returns-in-Some-clause-leads g c = λ otherwise before.
    arm_again c.args.context.now (g.R.Rows.table c.args.rows.now) c.args.arms.now otherwise c.args.scope.now c.in-Some.place c.args.stack.now c.pop_arm.new.self (g.R.Rows.looks c.args.rows.now) before c.in-Some.ensures.some c.pop_arm.ensures.answer

pub returns-in-Some-clause-frames : goal.returns-in-Some-clause-frames
returns-in-Some-clause-frames g c = frames_behind (g.R.Rows.table c.args.rows.now) (frame.Arm c.in-Some.place) c.pop_arm.new.self.frames c.args.stack.now.frames c.in-Some.ensures.some c.requires.frames

pub returns-clause-leads : goal.returns-clause-leads
returns-clause-leads g c = λ otherwise before.
    let begins = c.pop_arm.ensures.none c.in_default.is in
    arm_chosen c.args.context.now (g.R.Rows.table c.args.rows.now) c.args.arms.now otherwise c.args.scope.now c.in_ok-place.place c.args.stack.now c.pop_arm.new.self (g.R.Rows.looks c.args.rows.now) (g.R.Rows.looks c.chosen_arm.new.rows) before begins.0 begins.1 (search rules) (search rules)

pub returns-clause-frames : goal.returns-clause-frames
returns-clause-frames g c = no_frames (g.R.Rows.table c.args.rows.now) c.pop_arm.new.self.frames (c.pop_arm.ensures.none c.in_default.is).1
