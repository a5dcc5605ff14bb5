use Rattle.std.proofs.Common.{sym}
use Rattle.doll_key.proofs.Finding.{no_name, no_id_behind, no_id, nothing, record_first, starts_so}
use Rattle.doll_key.proofs.reading.record_in.Goals as goal

pub returns-then-not-is_name-clause-first : goal.returns-then-not-is_name-clause-first
returns-then-not-is_name-clause-first c =
    no_name c.args.text.now c.cut.result.0.now c.cut.result.1.now c.cut.ensures c.requires.colon c.requires.equals (sym c.if-not-is_name.ensures)

pub returns-in_default-clause-first : goal.returns-in_default-clause-first
returns-in_default-clause-first c =
    no_id_behind c.args.text.now c.cut.result.0.now c.cut.result.1.now c.cut.ensures c.requires.colon c.requires.equals (nothing c.cut.result.1.now c.in_default.len_below)

pub returns-in_default-id_in-clause-first : goal.returns-in_default-id_in-clause-first
returns-in_default-id_in-clause-first c =
    no_id c.args.text.now c.cut.result.0.now c.cut.result.1.now c.cut.ensures c.requires.colon c.requires.equals _ c.cut-2.result.0.now c.cut-2.result.1.now
    (starts_so 47 c.cut.result.1.now c.in-len1-up.len_at_least c.cut.ensures.ends) c.cut-2.ensures c.in_default-id_in.ensures

pub returns-clause-first : goal.returns-clause-first
returns-clause-first c =
    rw c.in_ok-plural.ensures
    (record_first c.args.text.now c.cut.result.0.now c.cut.result.1.now c.cut.ensures c.requires.colon c.requires.equals _ c.cut-2.result.0.now c.cut-2.result.1.now
    (starts_so 47 c.cut.result.1.now c.in-len1-up.len_at_least c.cut.ensures.ends) c.cut-2.ensures c.in-Some.id (sym c.if-not-is_name.ensures) c.in-Some.ensures)
