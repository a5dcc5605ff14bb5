use Rattle.std.proofs.Common.{sym, Ok}
use Rattle.serde_json.specs.View.{view}
use Rattle.doll_views.specs.Bundles.{bundle_in}
use Rattle.doll_views.specs.Seen.{seen_bundle}
use Rattle.doll.specs.Replies.{names_in}
use Rattle.doll.specs.Words.{seen_command}
use Rattle.doll.proofs.Alive.{alive_never, bundle_alive}
use Rattle.doll.proofs.Timing.{answer_along, asks_along, asks_none, refused_bundle}
use Rattle.doll.proofs.reply.json_reply.Goals as goal

pub returns-in-Ok-clause-value : goal.returns-in-Ok-clause-value
returns-in-Ok-clause-value g c =
    answer_along (seen_command c.args.command) (Ok (seen_bundle c.in-Ok.bundle)) (bundle_in (view c.args.json.now)) (g.F.Folder.files c.args.folder.now) (g.C.Clock.readings c.args.clock.now) (g.C.Clock.readings c.bundle_reply.new.clock) c.bundle_reply.result
    (sym c.in-Ok.ensures.exact) c.bundle_reply.ensures.value

pub returns-in-Ok-clause-asked : goal.returns-in-Ok-clause-asked
returns-in-Ok-clause-asked g c =
    asks_along (Ok (seen_bundle c.in-Ok.bundle)) (bundle_in (view c.args.json.now)) (g.F.Folder.asked c.args.folder.now) (g.F.Folder.asked c.bundle_reply.new.folder)
    (sym c.in-Ok.ensures.exact) c.bundle_reply.ensures.asked

pub returns-in-Err-clause-value : goal.returns-in-Err-clause-value
returns-in-Err-clause-value g c =
    refused_bundle (seen_command c.args.command) (bundle_in (view c.args.json.now)) (g.F.Folder.files c.args.folder.now) c.in-Err.why (g.C.Clock.readings c.args.clock.now) c.refusal_reply.result
    c.in-Err.ensures.exact c.refusal_reply.ensures.value c.refusal_reply.ensures.real

pub returns-in-Err-clause-asked : goal.returns-in-Err-clause-asked
returns-in-Err-clause-asked g c = asks_none (names_in (bundle_in (view c.args.json.now))) (g.F.Folder.asked c.args.folder.now)

pub returns-in-Err-clause-cause : goal.returns-in-Err-clause-cause
returns-in-Err-clause-cause g c = λ failed.
    absurd (alive_never (bundle_in (view c.args.json.now)) c.in-Err.why (bundle_alive (view c.args.json.now)) c.in-Err.ensures.exact (c.refusal_reply.ensures.cause failed))
