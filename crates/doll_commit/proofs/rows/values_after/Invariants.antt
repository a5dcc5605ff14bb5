use Rattle.std.proofs.Common.{◌≡◌, ◌++◌, map}
use Rattle.std.specs.List.{zip}
use Rattle.doll_commit.specs.Rows.{value_after}
use Rattle.doll_commit.proofs.rows.values_after.Given as goal

-- what is made and what is left give the whole
abbrev pub invariant-loop-attribute : goal.invariant-loop-attribute
invariant-loop-attribute l = l.values ++ map (value_after l.given) (zip l.attribute-iterator.a.rest.now l.attribute-iterator.b.rest.now) ≡ map (value_after l.given) (zip l.attributes l.old)
