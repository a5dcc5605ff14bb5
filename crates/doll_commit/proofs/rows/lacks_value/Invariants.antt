use Rattle.std.proofs.Common.{◌≡◌}
use Rattle.std.specs.List.{list_any, zip}
use Rattle.doll_commit.specs.Rows.{lacks_value}
use Rattle.doll_commit.proofs.rows.lacks_value.Given as goal

-- what is left decides
abbrev pub invariant-loop-attribute : goal.invariant-loop-attribute
invariant-loop-attribute l = list_any lacks_value (zip l.attribute-iterator.a.rest.now l.attribute-iterator.b.rest.now) ≡ list_any lacks_value (zip l.attributes l.values)
