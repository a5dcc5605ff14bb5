use Rattle.std.proofs.Common.{rules}
use Rattle.doll_frames.specs.declared.frame.Frame.TheVariants as frame
use Rattle.doll_frames.proofs.Lives.{frame_here, frames_behind, no_frames}
use Rattle.doll_job.proofs.Leads.{each_again, each_started}
use Rattle.doll_job.proofs.steps.each_walk.Goals as goal

pub returns-in-Some-clause-leads : goal.returns-in-Some-clause-leads
returns-in-Some-clause-leads g c = λ name body before.
    each_again c.args.context.now (g.R.Rows.table c.args.rows.now) c.args.list.now name body c.args.scope.now c.in-Some.walk c.args.stack.now c.pop_item.new.self (g.R.Rows.looks c.args.rows.now) before c.in-Some.ensures.some c.pop_item.ensures.answer

pub returns-in-Some-clause-living : goal.returns-in-Some-clause-living
returns-in-Some-clause-living g c = frame_here (g.R.Rows.table c.args.rows.now) (frame.Item c.in-Some.walk) c.pop_item.new.self.frames c.args.stack.now.frames c.in-Some.ensures.some c.requires.frames

pub returns-in-Some-clause-frames : goal.returns-in-Some-clause-frames
returns-in-Some-clause-frames g c = frames_behind (g.R.Rows.table c.args.rows.now) (frame.Item c.in-Some.walk) c.pop_item.new.self.frames c.args.stack.now.frames c.in-Some.ensures.some c.requires.frames

pub returns-clause-leads : goal.returns-clause-leads
returns-clause-leads g c = λ name body before.
    let begins = c.pop_item.ensures.none c.in_default.is in
    each_started c.args.context.now (g.R.Rows.table c.args.rows.now) c.args.list.now name body c.args.scope.now c.in_ok-walk.walk c.args.stack.now c.pop_item.new.self (g.R.Rows.looks c.args.rows.now) (g.R.Rows.looks c.begin_walk.new.rows) before begins.0 begins.1 (search rules) (search rules)

pub returns-clause-frames : goal.returns-clause-frames
returns-clause-frames g c = no_frames (g.R.Rows.table c.args.rows.now) c.pop_item.new.self.frames (c.pop_item.ensures.none c.in_default.is).1

pub returns-clause-ended : goal.returns-clause-ended
returns-clause-ended g c = λ none. (c.pop_item.ensures.none c.in_default.is).1
