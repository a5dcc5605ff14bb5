use Rattle.std.proofs.Common.{ap}
use Rattle.doll_types.specs.Sets.{TypedSet}
use Rattle.doll.specs.Stages.{staged}
use Rattle.doll.proofs.Playing.{clean_replay}
use Rattle.doll.proofs.replaying.typed_reply.Goals as goal

pub returns-in-Ok-clause-value : goal.returns-in-Ok-clause-value
returns-in-Ok-clause-value c =
    clean_replay (staged c.args.typed c.args.stage) (staged c.in-Ok.checked c.args.stage) c.script_reply.result (ap (λ (t : TypedSet). staged t c.args.stage) c.in-Ok.ensures.0) (rw c.requires.routes c.in-Ok.ensures.1) c.script_reply.ensures.value
