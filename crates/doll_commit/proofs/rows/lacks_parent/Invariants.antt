use Rattle.std.proofs.Common.{◌≡◌}
use Rattle.std.specs.List.{list_any, zip}
use Rattle.doll_commit.specs.Rows.{lacks_parent}
use Rattle.doll_commit.proofs.rows.lacks_parent.Given as goal

-- what is left decides
abbrev pub invariant-loop-association : goal.invariant-loop-association
invariant-loop-association l = list_any lacks_parent (zip l.association-iterator.a.rest.now l.association-iterator.b.rest.now) ≡ list_any lacks_parent (zip l.associations l.keys)
