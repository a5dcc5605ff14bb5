use Rattle.std.proofs.Common.{◌≡◌, ◌≤◌, [], length, drop, All}
use Rattle.serde_json.specs.View.{items_view}
use Rattle.doll_schema.specs.declared.limits.TheConstants.{MOST_MODELS}
use Rattle.doll_schema.specs.Drafts.{models_from}
use Rattle.doll_schema.specs.Limits.{HasFewDrafts}
use Rattle.doll_schema.proofs.drafting.models_of.Given as goal

-- what is read and what is left give the whole
abbrev pub invariant-loop-item : goal.invariant-loop-item
invariant-loop-item l = record {
  so_far : models_from l.models (items_view (drop l.item-index l.items)) ≡ models_from [] (items_view l.items);
  count : length l.models ≤ MOST_MODELS;
  few : All HasFewDrafts l.models;
}
