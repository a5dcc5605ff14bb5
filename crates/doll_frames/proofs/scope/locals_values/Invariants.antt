use Rattle.std.proofs.Common.{◌≡◌, ◌+◌, ◌≤◌, map, take}
use Rattle.doll_erb.specs.declared.node.Local.{Local}
use Rattle.doll_eval.specs.Living.{AreLiving}
use Rattle.doll_eval.specs.Values.{value_of}
use Rattle.doll_frames.specs.Scopes as spec
use Rattle.doll_frames.proofs.scope.locals_values.Given as goal

-- the variables so far have their values, and live
abbrev pub invariant-loop-local : goal.invariant-loop-local
invariant-loop-local g l = record {
  table : g.R.Rows.table l.rows ≡ g.R.Rows.table l.fn.rows;
  value : l.own ≡ map (λ (one : Local). (one.name, value_of one.value l.vars l.schema (g.R.Rows.table l.fn.rows))) (take l.local-index l.locals);
  living : AreLiving (g.R.Rows.table l.fn.rows) l.own;
  looks : g.R.Rows.looks l.rows ≤ g.R.Rows.looks l.fn.rows + spec.locals_looks l.schema (g.R.Rows.table l.fn.rows) (take l.local-index l.locals) l.vars;
}
