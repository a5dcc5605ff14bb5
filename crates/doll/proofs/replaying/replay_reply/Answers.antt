use Rattle.doll_bundle.specs.Sites.{seen_site}
use Rattle.doll.proofs.Playing.{typed_replay}
use Rattle.doll.proofs.Ready.{ready_of, same_site}
use Rattle.doll.proofs.replaying.replay_reply.Goals as goal

pub typed_reply-requires : goal.typed_reply-requires
typed_reply-requires c =
    ready_of c.args.site c.in-Ok.typed c.args.keys c.requires.served c.requires.made c.in-Ok.ensures.0 c.in-Ok.ensures.1 c.in-Ok.ensures.2

pub returns-in-Ok-clause-value : goal.returns-in-Ok-clause-value
returns-in-Ok-clause-value c =
    typed_replay (seen_site c.args.site) _ c.typed_reply.result (same_site (seen_site c.args.site) c.in-Ok.typed.set c.in-Ok.typed.schema c.in-Ok.ensures.0 c.in-Ok.ensures.1) c.in-Ok.ensures.3 c.typed_reply.ensures.value
