use Rattle.std.proofs.Common.{◌∙◌}
use Rattle.doll_shelf.proofs.Queued.{looked_up}
use Rattle.doll_shelf.proofs.queue.Queue.get.Goals as goal

pub returns-in-Some : goal.returns-in-Some
returns-in-Some c =
    c.peek.ensures ∙ looked_up c.self.inside.map c.in-Some.map c.in-Some.is c.args.self.now c.self.view_is c.self.invariant.1 c.args.key.now
