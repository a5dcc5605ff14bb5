use Rattle.std.specs.Prelude.{◌≡◌, true, false, codes}
use Rattle.std.proofs.Common.{sym, rules}
use Rattle.doll_schema.specs.declared.value.Value.TheVariants as value
use Rattle.doll_key.proofs.Finding.{known_value}
use Rattle.doll_key.proofs.reading.plain_value_in.Goals as goal

pub returns-then-eq : goal.returns-then-eq
returns-then-eq c = let e : c.args.text.now ≡ codes "nil" = search rules in known_value c.args.text.now value.Nil tt (sym e)

pub returns-then-eq-2 : goal.returns-then-eq-2
returns-then-eq-2 c = let e : c.args.text.now ≡ codes "true" = search rules in known_value c.args.text.now (value.Bool true) tt (sym e)

pub returns-then-eq-3 : goal.returns-then-eq-3
returns-then-eq-3 c = let e : c.args.text.now ≡ codes "false" = search rules in known_value c.args.text.now (value.Bool false) tt (sym e)
