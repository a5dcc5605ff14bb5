use Rattle.doll_core.specs.States.{state_of}
use Rattle.doll.specs.Stages.{staged}
use Rattle.doll.proofs.Playing.{played}
use Rattle.doll.proofs.replaying.played_reply.Goals as goal

pub returns-clause-value : goal.returns-clause-value
returns-clause-value c =
    played (staged c.args.checked c.args.stage) c.args.orders.now (state_of c.in_ok-core.core) (state_of c.replay.new.core) c.in_ok-replayed.replayed c.replayed_reply.result
    c.in_ok-core.ensures c.in_ok-replayed.ensures c.replayed_reply.ensures.value
