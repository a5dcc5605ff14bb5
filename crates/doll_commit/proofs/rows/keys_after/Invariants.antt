use Rattle.std.proofs.Common.{◌≡◌, ◌++◌, map}
use Rattle.std.specs.List.{zip}
use Rattle.doll_commit.specs.Rows.{key_after}
use Rattle.doll_commit.proofs.rows.keys_after.Given as goal

-- what is made and what is left give the whole
abbrev pub invariant-loop-association : goal.invariant-loop-association
invariant-loop-association l = l.keys ++ map (key_after l.given) (zip l.association-iterator.a.rest.now l.association-iterator.b.rest.now) ≡ map (key_after l.given) (zip l.associations l.old)
