use Rattle.std.proofs.Common.{◌≡◌, ◌≤◌, length, drop}
use Rattle.serde_json.specs.View.{items_view, view}
use Rattle.doll_schema.specs.declared.limits.TheConstants.{MOST_ATTRIBUTES}
use Rattle.doll_schema.specs.Drafts.{attributes_from, attributes_of}
use Rattle.doll_schema.proofs.drafting.model_attributes.Given as goal

-- what is read and what is left give the whole
abbrev pub invariant-loop-item : goal.invariant-loop-item
invariant-loop-item l = record {
  so_far : attributes_from l.model l.attributes (items_view (drop l.item-index l.items)) ≡ attributes_of l.model (view l.json);
  room : length l.attributes ≤ MOST_ATTRIBUTES;
}
