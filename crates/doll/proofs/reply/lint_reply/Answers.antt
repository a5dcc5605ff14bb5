use Rattle.doll_bundle.specs.Sites.{seen_site}
use Rattle.doll.proofs.Faultless.{typed_lint}
use Rattle.doll.proofs.reply.lint_reply.Goals as goal

pub returns-in-Ok-clause-value : goal.returns-in-Ok-clause-value
returns-in-Ok-clause-value c =
    typed_lint (seen_site c.args.site) c.in-Ok.typed.set c.in-Ok.typed.schema c.in-Ok.typed.routes c.linted.result c.in-Ok.ensures.0 c.in-Ok.ensures.1 c.in-Ok.ensures.2 c.in-Ok.ensures.3 c.linted.ensures.value
