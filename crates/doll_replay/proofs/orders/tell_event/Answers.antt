use Rattle.doll_core.specs.States.{state_of}
use Rattle.doll_replay.proofs.Told.{kind_told}
use Rattle.doll_replay.proofs.orders.tell_event.Goals as goal

pub tell-requires : goal.tell-requires
tell-requires c = kind_told (state_of c.args.core.now) (state_of c.step.new.self) c.args.event c.args.kind c.in_ok-told.told c.requires.kind c.in_ok-told.ensures.exact
