use Rattle.doll_core.specs.States.{state_of}
use Rattle.doll_replay.proofs.Running.{one_told}
use Rattle.doll_replay.proofs.orders.one_step.Goals as goal

pub returns : goal.returns
returns c = one_told (state_of c.args.core.now) (state_of c.tell_event.new.core) c.args.event c.args.out.now.items c.tell_event.new.out.items c.in_ok-came.came c.in_ok-came.ensures
