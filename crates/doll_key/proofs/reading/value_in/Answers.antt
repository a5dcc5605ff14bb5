use Rattle.doll_key.proofs.Finding.{no_value, nothing, starts, text_value}
use Rattle.doll_key.proofs.reading.value_in.Goals as goal

pub returns-in_default : goal.returns-in_default
returns-in_default c = no_value c.args.text.now (nothing c.args.text.now c.in_default.len_below)

pub returns-then-mark-eq-QUOTE : goal.returns-then-mark-eq-QUOTE
returns-then-mark-eq-QUOTE c =
    text_value c.args.text.now c.in_ok-text_in.field-0 _ (starts 39 c.args.text.now c.in-len1-up.len_at_least c.if-mark-eq-QUOTE.true) c.in_ok-text_in.ensures
