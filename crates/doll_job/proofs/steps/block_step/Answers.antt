use Rattle.std.proofs.Common.{rules, ap, sym, ◌∙◌}
use Rattle.doll_frames.specs.Stacks.{given}
use Rattle.doll_frames.specs.declared.frame.Frame.TheVariants as frame
use Rattle.doll_frames.proofs.Lives.{frames_behind, no_frames}
use Rattle.doll_job.proofs.Leads.{block_again, block_asked, block_found, block_missing, block_past}
use Rattle.doll_job.proofs.steps.block_step.Goals as goal

pub ask_block-requires-clause-frames : goal.ask_block-requires-clause-frames
ask_block-requires-clause-frames g c =
    no_frames (g.R.Rows.table c.args.rows.now) c.pop_block.new.self.frames c.in-Start.ensures.at.1

pub returns-in_ok-flow-in-Start-clause-leads : goal.returns-in_ok-flow-in-Start-clause-leads
returns-in_ok-flow-in-Start-clause-leads g c =
    λ body.
    block_asked c.args.context.now (g.R.Rows.table c.args.rows.now) c.args.block c.args.key.now body c.args.scope.now c.args.stack.now c.ask_block.new.stack (g.R.Rows.looks c.args.rows.now) (g.R.Rows.looks c.ask_block.new.rows) c.args.out.now c.in_ok-flow-in-Start.flow c.in-Start.ensures.at.0 (c.in_ok-flow-in-Start.ensures.goes body)

pub returns-in_default-clause-leads : goal.returns-in_default-clause-leads
returns-in_default-clause-leads g c =
    λ body.
    block_missing c.args.context.now (g.R.Rows.table c.args.rows.now) c.args.block c.args.key.now body c.args.scope.now c.in-Asked.key c.new.result c.args.stack.now c.pop_block.new.self c.clear.new.self (g.R.Rows.looks c.args.rows.now) c.args.out.now c.in-Asked.ensures.at (ap (λ a. (given a).one) (sym c.pop_block.ensures.answer) ∙ sym c.take_one-found.ensures.found ∙ c.in_default.is) c.clear.ensures.frames c.new.ensures

pub returns-in_default-clause-frames : goal.returns-in_default-clause-frames
returns-in_default-clause-frames g c =
    no_frames (g.R.Rows.table c.args.rows.now) c.clear.new.self.frames c.clear.ensures.frames

pub returns-in_ok-append-in-Asked-clause-leads : goal.returns-in_ok-append-in-Asked-clause-leads
returns-in_ok-append-in-Asked-clause-leads g c =
    λ body.
    block_found c.args.context.now (g.R.Rows.table c.args.rows.now) c.args.block c.args.key.now body c.args.scope.now c.in-Asked.key c.in-Some.fragment c.args.stack.now c.pop_block.new.self c.clear.new.self (g.R.Rows.looks c.args.rows.now) c.args.out.now c.append.new.self c.in-Asked.ensures.at (ap (λ a. (given a).one) (sym c.pop_block.ensures.answer) ∙ sym c.take_one-found.ensures.found ∙ c.in-Some.is) c.clear.ensures.frames (search rules)

pub returns-in_ok-append-in-Asked-clause-frames : goal.returns-in_ok-append-in-Asked-clause-frames
returns-in_ok-append-in-Asked-clause-frames g c =
    no_frames (g.R.Rows.table c.args.rows.now) c.clear.new.self.frames c.clear.ensures.frames

pub returns-in-Body-clause-leads : goal.returns-in-Body-clause-leads
returns-in-Body-clause-leads g c =
    λ body.
    block_again c.args.context.now (g.R.Rows.table c.args.rows.now) c.args.block c.args.key.now body c.args.scope.now c.in-Body.key c.in-Body.written c.args.stack.now c.pop_block.new.self (g.R.Rows.looks c.args.rows.now) c.args.out.now c.in-Body.ensures.at c.pop_block.ensures.answer

pub returns-in-Body-clause-frames : goal.returns-in-Body-clause-frames
returns-in-Body-clause-frames g c =
    frames_behind (g.R.Rows.table c.args.rows.now) (frame.Body c.in-Body.key c.in-Body.written) c.pop_block.new.self.frames c.args.stack.now.frames c.in-Body.ensures.at c.requires.frames

pub returns-in-Behind-clause-leads : goal.returns-in-Behind-clause-leads
returns-in-Behind-clause-leads g c =
    λ body.
    block_past c.args.context.now (g.R.Rows.table c.args.rows.now) c.args.block c.args.key.now body c.args.scope.now c.args.stack.now c.pop_block.new.self c.clear-in-Behind.new.self (g.R.Rows.looks c.args.rows.now) c.args.out.now c.in-Behind.ensures.at c.clear-in-Behind.ensures.frames

pub returns-in-Behind-clause-frames : goal.returns-in-Behind-clause-frames
returns-in-Behind-clause-frames g c =
    no_frames (g.R.Rows.table c.args.rows.now) c.clear-in-Behind.new.self.frames c.clear-in-Behind.ensures.frames
