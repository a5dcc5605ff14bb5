use Rattle.std.proofs.Common.{◌≡◌, ◌++◌, take}
use Rattle.doll_lint.specs.Needs.{needs_at}
use Rattle.doll_lint.proofs.needs.add_wants.Given as goal

-- the wants so far
abbrev pub invariant-loop-wanted : goal.invariant-loop-wanted
invariant-loop-wanted l = l.needs ≡ l.fn.needs ++ needs_at l.at (take l.wanted-index l.wants)
