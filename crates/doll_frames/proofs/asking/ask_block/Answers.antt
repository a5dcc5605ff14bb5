use Rattle.std.proofs.Common.{◌∷◌, ap, ◌∙◌, rules}
use Rattle.doll_frames.specs.Flows.{ask_for}
use Rattle.doll_frames.specs.declared.frame.Frame.TheVariants as frame
use Rattle.doll_frames.proofs.Asks.{block_asked}
use Rattle.doll_frames.proofs.Lives.{frame_pushed}
use Rattle.doll_frames.specs.Contexts.{over_of}
use Rattle.doll_frames.proofs.asking.ask_block.Goals as goal

pub returns-clause-goes : goal.returns-clause-goes
returns-clause-goes g c = λ body.
    block_asked (over_of c.args.context.now (g.R.Rows.table c.args.rows.now)) c.args.context.now.levels c.args.context.now.number c.args.scope.now.typing c.args.scope.now.vars c.args.block c.args.key.now body
    c.in_ok-key.key c.in_ok-ask.ask c.push.new.self (g.R.Rows.looks c.args.rows.now) (g.R.Rows.looks c.block_key.new.rows)
    (search rules)
    (search rules)
    (search rules)
    (c.in_ok-ask.ensures ∙ ap (λ v. ask_for c.in_ok-key.key v c.block_id-block.result) c.in_ok-vars.ensures ∙ ap (ask_for c.in_ok-key.key c.args.scope.now.vars) c.block_id-block.ensures)
    (c.in_ok-push.ensures.frames ∙ ap (λ fs. frame.Asked c.in_ok-key.key ∷ fs) c.requires.begins)
    (search rules)

pub returns-clause-frames : goal.returns-clause-frames
returns-clause-frames g c =
    frame_pushed (g.R.Rows.table c.args.rows.now) (frame.Asked c.in_ok-key.key) c.args.stack.now.frames c.push.new.self.frames c.in_ok-push.ensures.frames tt c.requires.frames
