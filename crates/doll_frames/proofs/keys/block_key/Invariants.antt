use Rattle.std.proofs.Common.{◌≡◌, ◌+◌, ◌≤◌, ◌++◌, true, map, sum_by, take}
use Rattle.std.specs.List.{flat_map, list_all}
use Rattle.doll_key.specs.Components.{components_text}
use Rattle.doll_run.specs.Keys as spec
use Rattle.doll_frames.proofs.keys.block_key.Given as goal

-- the parts so far, with their versions, at the looks that they may take
abbrev pub invariant-loop-part : goal.invariant-loop-part
invariant-loop-part g l = record {
  table : g.R.Rows.table l.rows ≡ g.R.Rows.table l.fn.rows;
  text : l.text.items ≡ spec.prefix_at l.set l.number ++ components_text (map (spec.part_component l.schema (g.R.Rows.table l.fn.rows) l.typing l.vars) (take l.part-index l.key));
  versions : l.versions ≡ flat_map (spec.part_versions l.schema (g.R.Rows.table l.fn.rows) l.typing l.vars) (take l.part-index l.key);
  looks : g.R.Rows.looks l.rows ≤ g.R.Rows.looks l.fn.rows + sum_by (spec.part_looks l.schema (g.R.Rows.table l.fn.rows) l.typing l.vars) (take l.part-index l.key);
  bounded : list_all spec.is_bounded (map (spec.part_component l.schema (g.R.Rows.table l.fn.rows) l.typing l.vars) (take l.part-index l.key)) ≡ true;
}
