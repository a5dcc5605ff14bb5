use Rattle.std.proofs.Common.{sym, ◌∙◌, rules}
use Rattle.doll_frames.specs.declared.frame.Frame.TheVariants as frame
use Rattle.doll_frames.proofs.Carrying.{body_ends_here, body_stops_here}
use Rattle.doll_frames.proofs.Lives.{frame_pushed}
use Rattle.doll_job.proofs.steps.end_block.Goals as goal

pub returns-then-not-is_done-clause-goes : goal.returns-then-not-is_done-clause-goes
returns-then-not-is_done-clause-goes c =
    λ table body old looks later before goes.
    body_stops_here c.args.context.now table c.args.block c.args.key body before c.args.written c.args.scope.now old c.args.stack.now c.push.new.self looks later c.args.out.now c.args.flow (sym c.is_done.ensures ∙ c.if-not-is_done.true) c.in_ok-push.ensures.frames goes

pub returns-then-not-is_done-clause-frames : goal.returns-then-not-is_done-clause-frames
returns-then-not-is_done-clause-frames c =
    λ table lives.
    frame_pushed table (frame.Body c.args.key c.args.written) c.args.stack.now.frames c.push.new.self.frames c.in_ok-push.ensures.frames tt lives

pub returns-clause-goes : goal.returns-clause-goes
returns-clause-goes c =
    λ table body old looks later before goes.
    body_ends_here c.args.context.now table c.args.block c.args.key body before c.args.written c.args.stack.now.frames c.in_ok-fresh.fresh c.args.scope.now old c.args.stack.now c.push-2.new.self looks later c.args.out.now c.append.new.self c.args.flow (sym c.is_done.ensures ∙ c.if-not-is_done.false) c.in_ok-push-2.ensures.frames (search rules) (search rules) goes

pub returns-clause-frames : goal.returns-clause-frames
returns-clause-frames c =
    λ table lives.
    frame_pushed table frame.Behind c.args.stack.now.frames c.push-2.new.self.frames c.in_ok-push-2.ensures.frames tt lives
