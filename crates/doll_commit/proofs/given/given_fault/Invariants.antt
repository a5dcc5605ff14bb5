use Rattle.std.proofs.Common.{◌≡◌, drop}
use Rattle.doll_commit.specs.Given.{given_fault}
use Rattle.doll_commit.proofs.given.given_fault.Given as goal

-- what is left decides
abbrev pub invariant-loop-name : goal.invariant-loop-name
invariant-loop-name l = given_fault l.table l.model (drop l.name-index l.given) ≡ given_fault l.table l.model l.given
