use Rattle.std.proofs.Common.{◌≤◌, ◌-◌, length}
use Rattle.doll_set.proofs.partials.place_of.Given as goal

-- what is searched stands within
abbrev pub invariant-loop-low : goal.invariant-loop-low
invariant-loop-low l = l.high ≤ length l.partials

abbrev pub decreases-loop-low : goal.decreases-loop-low
decreases-loop-low l = l.high - l.low
