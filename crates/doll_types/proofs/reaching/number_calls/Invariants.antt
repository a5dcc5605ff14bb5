use Rattle.std.proofs.Common.{◌≡◌, take}
use Rattle.std.specs.List.{flat_map}
use Rattle.doll_types.specs.Reached.{called_at}
use Rattle.doll_types.specs.Reachings.{AreNumbersOf, Grows}
use Rattle.doll_types.proofs.reaching.number_calls.Given as goal

-- the calls so far are numbered
abbrev pub invariant-loop-finding : goal.invariant-loop-finding
invariant-loop-finding l = record {
  numbers : AreNumbersOf l.reach.reached l.numbers (flat_map (called_at l.set l.number) (take l.finding-index l.found));
  grows : Grows l.fn.reach.reached l.reach.reached (flat_map (called_at l.set l.number) (take l.finding-index l.found));
  calls : l.reach.calls ≡ l.fn.reach.calls;
  faults : l.reach.faults ≡ l.fn.reach.faults;
}
