use Rattle.std.proofs.Common.{drop}
use Rattle.std.specs.List.{AllByRecursion}
use Rattle.doll_journal.specs.Storable.{FitsPair}
use Rattle.doll_journal.proofs.storable.fit_pairs.Given as goal

-- what is left decides
abbrev pub invariant-loop-pair : goal.invariant-loop-pair
invariant-loop-pair l = record {
  whole : AllByRecursion FitsPair (drop l.pair-index l.given) → AllByRecursion FitsPair l.given;
  left : AllByRecursion FitsPair l.given → AllByRecursion FitsPair (drop l.pair-index l.given);
}
