use Rattle.doll_bundle.specs.Sites.{seen_site, site_of}
use Rattle.doll_views.specs.Seen.{seen_loaded}
use Rattle.doll.specs.Words.{seen_command}
use Rattle.doll.proofs.Alive.{alive_never, site_alive}
use Rattle.doll.proofs.Ready.{made_site}
use Rattle.doll.proofs.Timing.{refused_site}
use Rattle.doll.proofs.reply.made_reply.Goals as goal

pub site_reply-requires-clause-made : goal.site_reply-requires-clause-made
site_reply-requires-clause-made c =
    made_site (seen_loaded c.args.loaded) c.args.readings.now (seen_site c.in-Ok.site) c.in-Ok.ensures.exact c.requires.made

pub returns-in-Err-clause-value : goal.returns-in-Err-clause-value
returns-in-Err-clause-value c =
    refused_site (seen_command c.args.command) (site_of (seen_loaded c.args.loaded) c.args.readings.now) c.in-Err.why c.refusal_reply.result
    c.in-Err.ensures.exact c.refusal_reply.ensures.value c.refusal_reply.ensures.real

pub returns-in-Err-clause-alive : goal.returns-in-Err-clause-alive
returns-in-Err-clause-alive c failed =
    let loaded = seen_loaded c.args.loaded in
    alive_never (site_of loaded c.args.readings.now) c.in-Err.why (site_alive loaded c.args.readings.now) c.in-Err.ensures.exact (c.refusal_reply.ensures.cause failed)
