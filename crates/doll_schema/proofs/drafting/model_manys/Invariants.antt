use Rattle.std.proofs.Common.{◌≡◌, ◌≤◌, length, drop}
use Rattle.serde_json.specs.View.{items_view, view}
use Rattle.doll_schema.specs.declared.limits.TheConstants.{MOST_MANYS}
use Rattle.doll_schema.specs.Drafts.{manys_from, manys_of}
use Rattle.doll_schema.proofs.drafting.model_manys.Given as goal

-- what is read and what is left give the whole
abbrev pub invariant-loop-item : goal.invariant-loop-item
invariant-loop-item l = record {
  so_far : manys_from l.model l.attributes l.parents l.manys (items_view (drop l.item-index l.items)) ≡ manys_of l.model l.attributes l.parents (view l.json);
  room : length l.manys ≤ MOST_MANYS;
}
