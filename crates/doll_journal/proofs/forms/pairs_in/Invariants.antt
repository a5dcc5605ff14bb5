use Rattle.std.proofs.Common.{◌≡◌}
use Rattle.std.specs.List.{AllByRecursion}
use Rattle.serde_json.specs.View.{members_view}
use Rattle.doll_journal.specs.Forms.{pairs_in}
use Rattle.doll_journal.specs.Storable.{FitsPair}
use Rattle.doll_journal.proofs.Fronts.{with_front}
use Rattle.doll_journal.proofs.forms.pairs_in.Given as goal

-- what is made and what is left give the whole
abbrev pub invariant-loop-name : goal.invariant-loop-name
invariant-loop-name l = record {
  so_far : with_front l.given (pairs_in (members_view l.name-iterator)) ≡ pairs_in (members_view l.members.entries);
  fits : AllByRecursion FitsPair l.given;
}
