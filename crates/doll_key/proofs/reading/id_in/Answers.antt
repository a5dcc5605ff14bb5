use Rattle.std.specs.Prelude.{◌≡◌, None, codes}
use Rattle.std.proofs.Common.{sym, rules}
use Rattle.doll_key.proofs.Finding.{known_id}
use Rattle.doll_key.proofs.reading.id_in.Goals as goal

pub returns-then-eq : goal.returns-then-eq
returns-then-eq c = let e : c.args.text.now ≡ codes "nil" = search rules in known_id c.args.text.now None tt (sym e)
