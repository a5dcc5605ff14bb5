use Rattle.std.proofs.Common.{◌≡◌}
use Rattle.doll_core.specs.States.{state_of}
use Rattle.doll_replay.proofs.Played.{Played}
use Rattle.doll_replay.proofs.playing.replay.Given as goal

abbrev pub invariant-loop-order : goal.invariant-loop-order
invariant-loop-order l = record {
  counted : l.line ≡ l.order-index;
  played : Played l.fn.orders (state_of l.fn.core) (state_of l.core) l.order-index l.now l.out.items;
}
