use Rattle.std.proofs.Common.{ap, ◌∙◌}
use Rattle.doll_frames.specs.Stacks.{given}
use Rattle.doll_frames.specs.declared.frame.Frame.TheVariants as frame
use Rattle.doll_frames.proofs.Lives.{frame_here, frames_behind, no_frames}
use Rattle.doll_job.proofs.Facts.{if_ok, on_any}
use Rattle.doll_job.proofs.Leads.{collection_again, collection_handed, collection_lacks, collection_told}
use Rattle.doll_job.proofs.steps.collection_step.Goals as goal

pub returns-in-Start-clause-leads : goal.returns-in-Start-clause-leads
returns-in-Start-clause-leads g c =
    c.begin_collection.ensures.leads c.args.stack.now c.args.out.now c.in-Start.ensures.at.0

pub returns-in-Member-clause-leads : goal.returns-in-Member-clause-leads
returns-in-Member-clause-leads g c =
    collection_again c.args.context.now (g.R.Rows.table c.args.rows.now) c.args.name.now c.args.list.now c.args.item.now c.args.cached c.args.scope.now c.in-Member.partial c.in-Member.walk c.args.stack.now c.pop_collection.new.self (g.R.Rows.looks c.args.rows.now) c.args.out.now c.in-Member.ensures.at c.pop_collection.ensures.answer

pub returns-in-Member-clause-living : goal.returns-in-Member-clause-living
returns-in-Member-clause-living g c =
    (frame_here (g.R.Rows.table c.args.rows.now) (frame.Member c.in-Member.partial c.in-Member.walk) c.pop_collection.new.self.frames c.args.stack.now.frames c.in-Member.ensures.at c.requires.frames)

pub returns-in-Member-clause-frames : goal.returns-in-Member-clause-frames
returns-in-Member-clause-frames g c =
    frames_behind (g.R.Rows.table c.args.rows.now) (frame.Member c.in-Member.partial c.in-Member.walk) c.pop_collection.new.self.frames c.args.stack.now.frames c.in-Member.ensures.at c.requires.frames

pub returns-in-Asked-clause-leads : goal.returns-in-Asked-clause-leads
returns-in-Asked-clause-leads g c =
    if_ok c.pass_found.result
    (λ step leads. collection_told c.args.context.now (g.R.Rows.table c.args.rows.now) c.args.name.now c.args.list.now c.args.item.now c.args.cached c.args.scope.now c.in-Asked.kept c.take_many.result c.args.stack.now c.pop_collection.new.self c.clear.new.self (g.R.Rows.looks c.args.rows.now) c.args.out.now c.pass_found.new.out step c.in-Asked.ensures.at (c.take_many.ensures.found ∙ ap (λ a. (given a).many) c.pop_collection.ensures.answer) c.clear.ensures.frames leads)
    (c.pass_found.ensures.leads c.args.context.now (g.R.Rows.table c.args.rows.now) c.args.item.now (g.R.Rows.looks c.args.rows.now))

pub returns-in-Asked-clause-living : goal.returns-in-Asked-clause-living
returns-in-Asked-clause-living g c =
    c.pass_found.ensures.living (g.R.Rows.table c.args.rows.now) (frame_here (g.R.Rows.table c.args.rows.now) (frame.AskedMany c.in-Asked.kept) c.pop_collection.new.self.frames c.args.stack.now.frames c.in-Asked.ensures.at c.requires.frames)

pub returns-in-Asked-clause-frames : goal.returns-in-Asked-clause-frames
returns-in-Asked-clause-frames g c =
    on_any c.pass_found.result (no_frames (g.R.Rows.table c.args.rows.now) c.clear.new.self.frames c.clear.ensures.frames)

pub returns-in-Missed-clause-leads : goal.returns-in-Missed-clause-leads
returns-in-Missed-clause-leads g c =
    collection_lacks c.args.context.now (g.R.Rows.table c.args.rows.now) c.args.name.now c.args.list.now c.args.item.now c.args.cached c.args.scope.now c.in-Missed.kept c.in-Missed.written c.args.stack.now c.pop_collection.new.self (g.R.Rows.looks c.args.rows.now) c.args.out.now c.in-Missed.ensures.at c.pop_collection.ensures.answer

pub returns-in-Missed-clause-living : goal.returns-in-Missed-clause-living
returns-in-Missed-clause-living g c =
    (frame_here (g.R.Rows.table c.args.rows.now) (frame.Missed c.in-Missed.kept c.in-Missed.written) c.pop_collection.new.self.frames c.args.stack.now.frames c.in-Missed.ensures.at c.requires.frames)

pub returns-in-Missed-clause-frames : goal.returns-in-Missed-clause-frames
returns-in-Missed-clause-frames g c =
    frames_behind (g.R.Rows.table c.args.rows.now) (frame.Missed c.in-Missed.kept c.in-Missed.written) c.pop_collection.new.self.frames c.args.stack.now.frames c.in-Missed.ensures.at c.requires.frames

pub returns-in-HandedIn-clause-leads : goal.returns-in-HandedIn-clause-leads
returns-in-HandedIn-clause-leads g c =
    if_ok c.pass_found-in-HandedIn.result
    (λ step leads. collection_handed c.args.context.now (g.R.Rows.table c.args.rows.now) c.args.name.now c.args.list.now c.args.item.now c.args.cached c.args.scope.now c.in-HandedIn.kept c.args.stack.now c.pop_collection.new.self c.clear-in-HandedIn.new.self (g.R.Rows.looks c.args.rows.now) c.args.out.now c.pass_found-in-HandedIn.new.out step c.in-HandedIn.ensures.at c.clear-in-HandedIn.ensures.frames leads)
    (c.pass_found-in-HandedIn.ensures.leads c.args.context.now (g.R.Rows.table c.args.rows.now) c.args.item.now (g.R.Rows.looks c.args.rows.now))

pub returns-in-HandedIn-clause-living : goal.returns-in-HandedIn-clause-living
returns-in-HandedIn-clause-living g c =
    c.pass_found-in-HandedIn.ensures.living (g.R.Rows.table c.args.rows.now) (frame_here (g.R.Rows.table c.args.rows.now) (frame.HandedIn c.in-HandedIn.kept) c.pop_collection.new.self.frames c.args.stack.now.frames c.in-HandedIn.ensures.at c.requires.frames)

pub returns-in-HandedIn-clause-frames : goal.returns-in-HandedIn-clause-frames
returns-in-HandedIn-clause-frames g c =
    on_any c.pass_found-in-HandedIn.result (no_frames (g.R.Rows.table c.args.rows.now) c.clear-in-HandedIn.new.self.frames c.clear-in-HandedIn.ensures.frames)
