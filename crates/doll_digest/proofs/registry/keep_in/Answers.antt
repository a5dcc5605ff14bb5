use Rattle.std.proofs.Common.{sym, ap, ◌∙◌}
use Rattle.std.specs.Str.{bytes_eq}
use Rattle.indexmap.proofs.CallerLemmas.{insert_entry-new}
use Rattle.doll_digest.specs.Registries.{text_added}
use Rattle.doll_digest.proofs.registry.keep_in.Goals as goal

pub returns-clause-entered : goal.returns-clause-entered
returns-clause-entered c =
    c.in_ok-insert.ensures.entries
    ∙ insert_entry-new bytes_eq c.args.texts.now c.args.digest c.args.text (sym c.in_default.ensures.value)
    ∙ ap (text_added c.args.texts.now.entries c.args.digest c.args.text) c.in_default.ensures.value
