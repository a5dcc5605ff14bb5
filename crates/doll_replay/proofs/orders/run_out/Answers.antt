use Rattle.doll_core.specs.States.{state_of}
use Rattle.doll_replay.proofs.Running.{last_one, one_more}
use Rattle.doll_replay.proofs.orders.run_out.Goals as goal

pub returns-then-came : goal.returns-then-came
returns-then-came c =
    last_one c.args.session c.args.now (state_of c.args.core.now) (state_of c.loop-came.core) (state_of c.tell_event.new.core) c.args.out.now.items c.loop-came.out.items c.tell_event.new.out.items
    c.in_ok-came.came c.loop-came.invariant.so_far c.in_ok-came.ensures c.if-came.true

pub loop-came-preserved : goal.loop-came-preserved
loop-came-preserved c = record {
  so_far =
      one_more c.args.session c.args.now (state_of c.args.core.now) (state_of c.loop-came.core) (state_of c.tell_event.new.core) c.args.out.now.items c.loop-came.out.items c.tell_event.new.out.items
      c.in_ok-came.came c.loop-came.invariant.so_far c.in_ok-came.ensures c.if-came.false;
}
