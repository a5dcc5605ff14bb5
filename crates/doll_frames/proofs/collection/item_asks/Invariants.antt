use Rattle.std.proofs.Common.{◌≡◌, ◌+◌, ◌≤◌, true, map, sum_by, take}
use Rattle.std.specs.List.{list_all}
use Rattle.doll_frames.specs.Collections as spec
use Rattle.doll_frames.proofs.collection.item_asks.Given as goal

-- the items so far with their keys, and the questions for them
abbrev pub invariant-loop-id : goal.invariant-loop-id
invariant-loop-id g l = record {
  table : g.R.Rows.table l.rows ≡ g.R.Rows.table l.fn.rows;
  items : l.made.items ≡ map (spec.kept_item l.set l.schema (g.R.Rows.table l.fn.rows) l.partial l.name l.walk.of l.walk.model) (take l.id-index l.id-items);
  asks : l.made.asks ≡ map (spec.item_ask l.set l.schema (g.R.Rows.table l.fn.rows) l.tree l.partial l.name l.walk.of l.walk.model) (take l.id-index l.id-items);
  looks : g.R.Rows.looks l.rows ≤ g.R.Rows.looks l.fn.rows + sum_by (spec.item_looks l.set l.schema (g.R.Rows.table l.fn.rows) l.partial l.name l.walk.of l.walk.model) (take l.id-index l.id-items);
  keys : list_all (spec.item_has_key l.set l.schema (g.R.Rows.table l.fn.rows) l.partial l.name l.walk.of l.walk.model) (take l.id-index l.id-items) ≡ true;
}
