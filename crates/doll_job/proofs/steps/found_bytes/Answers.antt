use Rattle.std.proofs.Common.{◌∙◌, ap, sym}
use Rattle.std.specs.Option.{option_copied}
use Rattle.doll_job.proofs.Leads.{found_none, found_some}
use Rattle.doll_job.proofs.steps.found_bytes.Goals as goal

pub returns-in_default : goal.returns-in_default
returns-in_default c =
    sym (found_none c.args.kept.now.found c.args.kept.now.at (sym c.get.ensures.value ∙ ap option_copied c.in_default.is))

pub returns : goal.returns
returns c =
    c.bytes_of.ensures ∙ sym (found_some c.args.kept.now.found c.args.kept.now.at c.in-Some.found.now (sym c.get.ensures.value ∙ ap option_copied c.in-Some.is))
