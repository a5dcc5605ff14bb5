use Rattle.std.proofs.Common.{rules, length}
use Rattle.doll_core.specs.States.{state_of}
use Rattle.doll_replay.proofs.Played.{line_within, next_played, next_stopped, none_written, whole_played}
use Rattle.doll_replay.proofs.playing.replay.Goals as goal

pub loop-order-init : goal.loop-order-init
loop-order-init c = record { counted = (search rules); played = none_written c.args.orders.now (state_of c.args.core.now) c.new-out.result.items (search rules) }

pub overflow_add-line : goal.overflow_add-line
overflow_add-line c = let below = line_within c.loop-order.line c.loop-order.order-index (length c.args.orders.now) c.loop-order.invariant.counted c.loop-order-test.true c.requires.few in search rules

pub returns-then-not-branch : goal.returns-then-not-branch
returns-then-not-branch c =
    next_stopped c.args.orders.now c.order-item.result (state_of c.args.core.now) (state_of c.loop-order.core) (state_of c.play_order.new.core) c.loop-order.line c.loop-order.order-index c.loop-order.now c.loop-order.out.items c.play_order.new.out.items
    c.in_ok-play_order.field-0 c.loop-order.invariant.counted c.loop-order-test.true c.order-item.is c.loop-order.invariant.played c.in_ok-play_order.ensures c.if-not-branch.true

pub loop-order-preserved : goal.loop-order-preserved
loop-order-preserved c = record {
  counted = (search rules);
  played =
      next_played c.args.orders.now c.order-item.result (state_of c.args.core.now) (state_of c.loop-order.core) (state_of c.play_order.new.core) c.loop-order.order-index c.loop-order.now c.clock_behind-now.result c.loop-order.out.items c.play_order.new.out.items
      c.in_ok-play_order.field-0 c.loop-order-test.true c.order-item.is c.clock_behind-now.ensures c.loop-order.invariant.played c.in_ok-play_order.ensures c.if-not-branch.false;
}

pub returns : goal.returns
returns c =
    whole_played c.args.orders.now (state_of c.args.core.now) (state_of c.loop-order.core) c.loop-order.order-index c.loop-order.now c.loop-order.out.items c.from_vec.result (search rules) (search rules) c.loop-order.invariant.played
