use Rattle.std.proofs.Common.{ℕ, ◌-◌, List, length}
use Rattle.doll_table.specs.Tables.{TableMap}
use Rattle.doll_frames.specs.Carried.{KeptWentTo}
use Rattle.doll_frames.specs.Stacks.{KeptLives}
use Rattle.doll_frames.specs.declared.context.Context.{Context}
use Rattle.doll_job.proofs.steps.pass_found.Given as goal

abbrev pub decreases-loop-kept : goal.decreases-loop-kept
decreases-loop-kept l = length l.kept.items - l.kept.at

-- the items before this one are written
abbrev pub invariant-loop-kept : goal.invariant-loop-kept
invariant-loop-kept l = record {
  along : (context : Context) (table : TableMap) (item : List ℕ) (looks : ℕ) → KeptWentTo context table item l.fn.kept l.kept looks looks l.fn.out l.out;
  living : (table : TableMap) → KeptLives table l.fn.kept → KeptLives table l.kept;
}
