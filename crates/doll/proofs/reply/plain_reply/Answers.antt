use Rattle.doll_bundle.specs.Sites.{seen_site}
use Rattle.doll.proofs.Faultless.{typed_page}
use Rattle.doll.proofs.reply.plain_reply.Goals as goal

pub returns-in-Ok-clause-value : goal.returns-in-Ok-clause-value
returns-in-Ok-clause-value c =
    typed_page (seen_site c.args.site) c.args.path.now c.in-Ok.typed.set c.in-Ok.typed.schema c.page_reply.result c.in-Ok.ensures.0 c.in-Ok.ensures.1 c.in-Ok.ensures.3 c.page_reply.ensures.value
