use Rattle.std.proofs.Common.{◌≡◌, drop}
use Rattle.serde_json.specs.View.{items_view, view}
use Rattle.doll_route.specs.Drafts.{names_from, names_at}
use Rattle.doll_route.proofs.draft.names_at.Given as goal

-- what is read and what is left give the whole
abbrev pub invariant-loop-item : goal.invariant-loop-item
invariant-loop-item l = names_from l.at l.names (items_view (drop l.item-index l.items)) ≡ names_at l.at (view l.json)
