use Rattle.std.proofs.Common.{◌≡◌, length}
use Rattle.doll_set.proofs.digests.no_digests.Given as goal

abbrev pub invariant-loop-number : goal.invariant-loop-number
invariant-loop-number l = length l.digests ≡ l._number
