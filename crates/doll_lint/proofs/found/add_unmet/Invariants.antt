use Rattle.std.proofs.Common.{◌≡◌, ◌++◌, take}
use Rattle.std.specs.List.{flat_map}
use Rattle.doll_lint.specs.Found.{unmet}
use Rattle.doll_lint.proofs.found.add_unmet.Given as goal

-- those of the needs so far
abbrev pub invariant-loop-need : goal.invariant-loop-need
invariant-loop-need l = l.faults.items ≡ l.fn.faults.items ++ flat_map (unmet l.schema l.template l.key) (take l.need-index l.needs)
