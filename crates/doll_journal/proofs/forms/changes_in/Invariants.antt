use Rattle.std.proofs.Common.{◌≡◌, drop}
use Rattle.std.specs.List.{AllByRecursion}
use Rattle.serde_json.specs.View.{items_view}
use Rattle.doll_journal.specs.Forms.{list_in}
use Rattle.doll_journal.specs.Storable.{FitsChange}
use Rattle.doll_journal.proofs.Fronts.{with_front}
use Rattle.doll_journal.proofs.forms.changes_in.Given as goal

-- what is made and what is left give the whole
abbrev pub invariant-loop-item : goal.invariant-loop-item
invariant-loop-item l = record {
  so_far : with_front l.changes (list_in (items_view (drop l.item-index l.items))) ≡ list_in (items_view l.items);
  fits : AllByRecursion FitsChange l.changes;
}
