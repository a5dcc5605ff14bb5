use Rattle.std.proofs.Common.{◌≡◌, ◌+◌, length}
use Rattle.doll_base.specs.Streams.{Appended}
use Rattle.doll_bundle.proofs.readings.read_clock.Given as goal

-- the clock gave the readings so far, and so many are left
abbrev pub invariant-loop-left : goal.invariant-loop-left
invariant-loop-left g l = record {
  given : Appended (g.C.Clock.readings l.fn.clock) (g.C.Clock.readings l.clock) l.readings.items;
  count : length l.readings.items + l.left ≡ l.count;
}

abbrev pub decreases-loop-left : goal.decreases-loop-left
decreases-loop-left g l = l.left
