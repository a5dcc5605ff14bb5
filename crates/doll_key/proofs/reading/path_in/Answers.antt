use Rattle.std.proofs.Common.{sym}
use Rattle.doll_key.proofs.Finding.{no_colon, no_digest_behind, no_path, nothing, path_first, starts_so}
use Rattle.doll_key.proofs.reading.path_in.Goals as goal

pub returns-in_default : goal.returns-in_default
returns-in_default c = no_colon c.args.text.now c.cut.result.0.now c.cut.result.1.now c.cut.ensures (nothing c.cut.result.1.now c.in_default.len_below)

pub returns-then-not-is_virtual_path : goal.returns-then-not-is_virtual_path
returns-then-not-is_virtual_path c = no_path c.args.text.now c.cut.result.0.now c.cut.result.1.now c.cut.ensures (sym c.if-not-is_virtual_path.ensures)

pub returns-in_default-digest_in : goal.returns-in_default-digest_in
returns-in_default-digest_in c =
    no_digest_behind c.args.text.now c.cut.result.0.now c.cut.result.1.now c.cut.ensures _ (starts_so 58 c.cut.result.1.now c.in-len1-up.len_at_least c.cut.ensures.ends)
    c.in_default-digest_in.ensures

pub returns : goal.returns
returns c =
    path_first c.args.text.now c.cut.result.0.now c.cut.result.1.now c.cut.ensures _ (starts_so 58 c.cut.result.1.now c.in-len1-up.len_at_least c.cut.ensures.ends)
    (sym c.if-not-is_virtual_path.ensures) _ c.in-Some.ensures
