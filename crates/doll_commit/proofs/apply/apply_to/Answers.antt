use Rattle.std.proofs.Common.{◌≤◌, length, arith}
use Rattle.doll_commit.specs.declared.apply.TheConstants.{MOST_CHANGES}
use Rattle.doll_commit.specs.Answers.{seen}
use Rattle.doll_commit.proofs.Moments.{carries}
use Rattle.doll_commit.proofs.Commits.{commit_is}
use Rattle.doll_commit.proofs.apply.apply_to.Goals as goal

pub returns-clause-exact : goal.returns-clause-exact
returns-clause-exact c =
    let few : length c.args.commit.now.changes ≤ MOST_CHANGES = omega arith in
    commit_is c.args.table c.args.schema.now c.args.commit.now c.as_slice.result.now (seen c.in_ok-course.course) c.in_ok-finish.field-0 few c.as_slice.ensures c.in_ok-course.ensures.exact c.in_ok-finish.ensures.exact

pub returns-clause-moments : goal.returns-clause-moments
returns-clause-moments c =
    let few : length c.args.commit.now.changes ≤ MOST_CHANGES = omega arith in
    carries c.args.schema.now c.args.table c.args.commit.now c.in_ok-finish.field-0
    (commit_is c.args.table c.args.schema.now c.args.commit.now c.as_slice.result.now (seen c.in_ok-course.course) c.in_ok-finish.field-0 few c.as_slice.ensures c.in_ok-course.ensures.exact c.in_ok-finish.ensures.exact)
