use Rattle.std.proofs.Common.{ap, Err}
use Rattle.doll_views.specs.Seen.{seen_bundle, seen_loaded}
use Rattle.doll.specs.Words.{seen_command}
use Rattle.doll.proofs.Ready.{made_loaded}
use Rattle.doll.proofs.Timing.{loaded_answer, refused_files}
use Rattle.doll.proofs.reply.bundle_reply.Goals as goal

pub loaded_reply-requires-clause-made : goal.loaded_reply-requires-clause-made
loaded_reply-requires-clause-made g c =
    made_loaded (seen_bundle c.args.bundle) c.in-Ok.ensures.answer.0 (seen_loaded c.in-Ok.loaded) c.in-Ok.ensures.answer.2

pub returns-in-Ok-clause-value : goal.returns-in-Ok-clause-value
returns-in-Ok-clause-value g c =
    loaded_answer seen_loaded (seen_command c.args.command) (g.F.Folder.files c.args.folder.now) (seen_bundle c.args.bundle) c.in-Ok.loaded (g.C.Clock.readings c.args.clock.now) (g.C.Clock.readings c.loaded_reply.new.clock) c.loaded_reply.result
    c.in-Ok.ensures.answer c.loaded_reply.ensures.value

pub returns-in-Err-clause-value : goal.returns-in-Err-clause-value
returns-in-Err-clause-value g c =
    refused_files seen_loaded (seen_command c.args.command) (g.F.Folder.files c.args.folder.now) (seen_bundle c.args.bundle) c.in-Err.why (g.C.Clock.readings c.args.clock.now) c.refusal_reply.result
    c.in-Err.ensures.answer c.refusal_reply.ensures.value c.refusal_reply.ensures.real

pub returns-in-Ok-clause-cause : goal.returns-in-Ok-clause-cause
returns-in-Ok-clause-cause g c = λ failed. absurd (c.loaded_reply.ensures.alive failed)

pub returns-in-Ok-clause-clock : goal.returns-in-Ok-clause-clock
returns-in-Ok-clause-clock g c = λ failed. absurd (c.loaded_reply.ensures.alive failed)

pub returns-in-Err-clause-cause : goal.returns-in-Err-clause-cause
returns-in-Err-clause-cause g c = λ failed. c.in-Err.ensures.cause (ap Err (c.refusal_reply.ensures.cause failed))
