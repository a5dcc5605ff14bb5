use Rattle.std.proofs.Common.{ap, sym, ◌∙◌, Err}
use Rattle.std.specs.Option.{option_map}
use Rattle.serde_json.specs.View.{view}
use Rattle.doll_views.specs.Bundles.{bundle_in, bundle_of}
use Rattle.doll.specs.Replies.{names_in}
use Rattle.doll.specs.Words.{seen_command}
use Rattle.doll.specs.declared.unanswered.Unanswered.TheVariants as unanswered
use Rattle.doll.proofs.Timing.{answer_along, asks_along, asks_none, json_bundle, no_answer, no_json_bundle, refused_bundle}
use Rattle.doll.proofs.reply.input_reply.Goals as goal

pub returns-in-Ok-Some-clause-value : goal.returns-in-Ok-Some-clause-value
returns-in-Ok-Some-clause-value g c =
    let json = view c.in-Ok-Some.json in
    answer_along (seen_command c.args.command) (bundle_in json) (bundle_of c.args.input.now) (g.F.Folder.files c.args.folder.now) (g.C.Clock.readings c.args.clock.now) (g.C.Clock.readings c.json_reply.new.clock) c.json_reply.result
    (json_bundle c.args.input.now json (sym (ap (option_map view) c.in-Ok-Some.field-0-is) ∙ c.in-Ok-Some.ensures)) c.json_reply.ensures.value

pub returns-in-Ok-Some-clause-asked : goal.returns-in-Ok-Some-clause-asked
returns-in-Ok-Some-clause-asked g c =
    let json = view c.in-Ok-Some.json in
    asks_along (bundle_in json) (bundle_of c.args.input.now) (g.F.Folder.asked c.args.folder.now) (g.F.Folder.asked c.json_reply.new.folder)
    (json_bundle c.args.input.now json (sym (ap (option_map view) c.in-Ok-Some.field-0-is) ∙ c.in-Ok-Some.ensures)) c.json_reply.ensures.asked

pub returns-in-Ok-None-clause-value : goal.returns-in-Ok-None-clause-value
returns-in-Ok-None-clause-value g c =
    refused_bundle (seen_command c.args.command) (bundle_of c.args.input.now) (g.F.Folder.files c.args.folder.now) c.json_refusal.result (g.C.Clock.readings c.args.clock.now) c.refusal_reply.result
    (λ other. sym (no_json_bundle c.args.input.now (sym (ap (option_map view) c.in-Ok-None.field-0-is) ∙ c.in-Ok-None.ensures)) ∙ sym (ap Err c.json_refusal.ensures))
    c.refusal_reply.ensures.value c.refusal_reply.ensures.real

pub returns-in-Ok-None-clause-asked : goal.returns-in-Ok-None-clause-asked
returns-in-Ok-None-clause-asked g c = asks_none (names_in (bundle_of c.args.input.now)) (g.F.Folder.asked c.args.folder.now)

pub returns-in-Ok-None-clause-cause : goal.returns-in-Ok-None-clause-cause
returns-in-Ok-None-clause-cause g c = λ failed. absurd (cc (c.refusal_reply.ensures.cause failed, c.json_refusal.ensures))

pub returns-in-Err-clause-value : goal.returns-in-Err-clause-value
returns-in-Err-clause-value g c =
    no_answer (seen_command c.args.command) (bundle_of c.args.input.now) (g.F.Folder.files c.args.folder.now) (g.C.Clock.readings c.args.clock.now) unanswered.Memory

pub returns-in-Err-clause-asked : goal.returns-in-Err-clause-asked
returns-in-Err-clause-asked g c = asks_none (names_in (bundle_of c.args.input.now)) (g.F.Folder.asked c.args.folder.now)
