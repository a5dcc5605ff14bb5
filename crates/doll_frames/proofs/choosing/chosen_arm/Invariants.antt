use Rattle.std.proofs.Common.{◌≡◌, ◌+◌, ◌≤◌, drop}
use Rattle.doll_frames.specs.Arms as spec
use Rattle.doll_frames.proofs.choosing.chosen_arm.Given as goal

-- no test so far holds, and the looks that are left suffice for the others
abbrev pub invariant-loop-place : goal.invariant-loop-place
invariant-loop-place g l = record {
  table : g.R.Rows.table l.rows ≡ g.R.Rows.table l.fn.rows;
  place : l.place + spec.chosen_place l.schema (g.R.Rows.table l.fn.rows) (drop l.place l.arms) l.vars ≡ spec.chosen_place l.schema (g.R.Rows.table l.fn.rows) l.arms l.vars;
  looks : g.R.Rows.looks l.rows + spec.tests_looks l.schema (g.R.Rows.table l.fn.rows) (drop l.place l.arms) l.vars ≤ g.R.Rows.looks l.fn.rows + spec.tests_looks l.schema (g.R.Rows.table l.fn.rows) l.arms l.vars;
}
