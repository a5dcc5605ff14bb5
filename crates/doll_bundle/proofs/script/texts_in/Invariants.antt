use Rattle.std.proofs.Common.{◌≡◌, drop}
use Rattle.std.specs.List.{AllByRecursion}
use Rattle.std.specs.Str.{IsUtf8}
use Rattle.serde_json.specs.View.{items_view}
use Rattle.doll_bundle.specs.Scripts.{texts_in}
use Rattle.doll_journal.proofs.Fronts.{with_front}
use Rattle.doll_bundle.proofs.script.texts_in.Given as goal

-- the texts so far and those of the items that are left are all
abbrev pub invariant-loop-item : goal.invariant-loop-item
invariant-loop-item l = record {
  exact : with_front l.texts (texts_in (items_view (drop l.item-index l.items))) ≡ texts_in (items_view l.items);
  texts : AllByRecursion IsUtf8 l.texts;
}
