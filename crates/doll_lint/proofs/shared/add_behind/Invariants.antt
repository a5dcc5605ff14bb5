use Rattle.std.proofs.Common.{◌≡◌, ◌++◌, length}
use Rattle.doll_lint.specs.Shared.{shared_behind}
use Rattle.doll_lint.proofs.shared.add_behind.Given as goal

-- those so far, and what the notes that are left give
abbrev pub invariant-loop-notes : goal.invariant-loop-notes
invariant-loop-notes l = l.faults.items ++ shared_behind l.set l.earlier l.notes ≡ l.fn.faults.items ++ shared_behind l.set l.earlier l.initial.notes

abbrev pub decreases-loop-notes : goal.decreases-loop-notes
decreases-loop-notes l = length l.notes
