use Rattle.std.proofs.Common.{rules}
use Rattle.doll_core.specs.States.{state_of}
use Rattle.doll_replay.proofs.Running.{come_at, none_got, one_got_ok}
use Rattle.doll_replay.proofs.orders.get.Goals as goal

pub returns-then-not-came : goal.returns-then-not-came
returns-then-not-came c =
    none_got c.args.target.now c.args.now (state_of c.args.core.now) (state_of c.tell_event.new.core) c.args.out.now.items c.tell_event.new.out.items c.in_ok-came.came (come_at c.in_ok-target.target c.args.target.now c.args.now (state_of c.args.core.now) (state_of c.tell_event.new.core) c.args.out.now.items c.tell_event.new.out.items c.in_ok-came.came c.in_ok-target.ensures c.in_ok-came.ensures) (search rules)

pub returns : goal.returns
returns c =
    one_got_ok c.args.target.now c.args.now (state_of c.args.core.now) (state_of c.tell_event.new.core) (state_of c.run_out.new.core) c.args.out.now.items c.tell_event.new.out.items c.run_out.new.out.items c.in_ok-came.came c.run_out.result (come_at c.in_ok-target.target c.args.target.now c.args.now (state_of c.args.core.now) (state_of c.tell_event.new.core) c.args.out.now.items c.tell_event.new.out.items c.in_ok-came.came c.in_ok-target.ensures c.in_ok-came.ensures) (search rules) c.run_out.ensures
