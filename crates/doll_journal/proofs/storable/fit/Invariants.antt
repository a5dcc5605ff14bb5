use Rattle.std.proofs.Common.{drop}
use Rattle.std.specs.List.{AllByRecursion}
use Rattle.doll_journal.specs.Storable.{FitsChange}
use Rattle.doll_journal.proofs.storable.fit.Given as goal

-- what is left decides
abbrev pub invariant-loop-change : goal.invariant-loop-change
invariant-loop-change l = record {
  whole : AllByRecursion FitsChange (drop l.change-index l.changes) → AllByRecursion FitsChange l.changes;
  left : AllByRecursion FitsChange l.changes → AllByRecursion FitsChange (drop l.change-index l.changes);
}
