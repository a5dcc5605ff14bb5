use Rattle.std.proofs.Common.{sym, subst}
use Rattle.doll_job.specs.Jobs.{JobLives}
use Rattle.doll_core_tests.proofs.driving.answer.Goals as goal

pub returns : goal.returns
returns c = record {
  lives = λ checked table lives. subst (JobLives checked table) (sym c.answer.ensures) (record { there = lives.there; vars = lives.vars; frames = lives.frames });
}
