use Rattle.doll_lint.specs.Found.{reached_blocks}
use Rattle.doll_lint.proofs.Blocks.{more_grows}
use Rattle.doll_lint.proofs.lint.add_all.Goals as goal

pub loop-one-preserved : goal.loop-one-preserved
loop-one-preserved c =
    more_grows c.args.set.now c.args.schema.now (reached_blocks c.args.set.now c.args.schema.now) c.args.reached.now c.loop-one.one-index c.one-item.result c.args.found.now c.loop-one.found c.add_reached.new.found
    c.loop-one-test.true c.one-item.is c.loop-one.invariant c.in_ok-add_reached.ensures
