use Rattle.doll.proofs.Faultless.{clean_reply}
use Rattle.doll.proofs.reply.linted.Goals as goal

pub returns-in-Ok-clause-value : goal.returns-in-Ok-clause-value
returns-in-Ok-clause-value c =
    clean_reply c.args.typed.set c.args.typed.schema c.args.typed.routes c.clean.result c.in-Ok.ensures.1 c.clean.ensures.value
