use Rattle.std.proofs.Common.{◌≡◌}
use Rattle.doll_job.specs.Jobs.{JobLives}
use Rattle.doll_core_tests.proofs.driving.drive.Given as goal

-- the table stays, and the job's records are in it
abbrev pub invariant-loop : goal.invariant-loop
invariant-loop g l = record {
  table : g.R.Rows.table l.rows ≡ g.R.Rows.table l.fn.rows;
  lives : JobLives l.checked (g.R.Rows.table l.fn.rows) l.job;
}
