use Rattle.std.proofs.Common.{◌≡◌, ◌≤◌, length, drop}
use Rattle.serde_json.specs.View.{items_view, view}
use Rattle.doll_schema.specs.declared.limits.TheConstants.{MOST_PARENTS}
use Rattle.doll_schema.specs.Drafts.{parents_from, parents_of}
use Rattle.doll_schema.proofs.drafting.model_parents.Given as goal

-- what is read and what is left give the whole
abbrev pub invariant-loop-item : goal.invariant-loop-item
invariant-loop-item l = record {
  so_far : parents_from l.model l.attributes l.parents (items_view (drop l.item-index l.items)) ≡ parents_of l.model l.attributes (view l.json);
  room : length l.parents ≤ MOST_PARENTS;
}
