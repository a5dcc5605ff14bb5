use Rattle.std.proofs.Common.{◌≡◌, List, map, take}
use Rattle.doll_schema.specs.declared.model.Attribute.{Attribute}
use Rattle.doll_schema.specs.declared.value.Value.{Value}
use Rattle.doll_schema.specs.declared.value.Value.TheVariants as value
use Rattle.doll_commit.proofs.rows.no_values.Given as goal

-- each attribute passed has a nil
abbrev pub invariant-loop-attribute : goal.invariant-loop-attribute
invariant-loop-attribute l = ◌≡◌ {A = List Value} l.values (map (λ (a : Attribute). value.Nil) (take l._attribute-index l.attributes))
