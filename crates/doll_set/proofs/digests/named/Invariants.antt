use Rattle.std.proofs.Common.{◌≡◌, ◌<◌, ◌++◌, length, map}
use Rattle.std.specs.List.{AllByRecursion}
use Rattle.doll_set.specs.Digests.{numbered}
use Rattle.doll_set.proofs.digests.named.Given as goal

-- those so far and those that are left make the whole
abbrev pub invariant-loop-left : goal.invariant-loop-left
invariant-loop-left l = record {
  made : l.named ++ map (numbered l.ids l.digests) l.left ≡ map (numbered l.ids l.digests) l.dependencies;
  within : AllByRecursion (λ d. d < length l.digests) l.left;
}

abbrev pub decreases-loop-left : goal.decreases-loop-left
decreases-loop-left l = length l.left
