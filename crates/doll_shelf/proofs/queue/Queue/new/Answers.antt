use Rattle.std.specs.List.{IsDistinct}
use Rattle.doll_shelf.proofs.queue.Queue.new.Goals as goal

pub invariant_of-result : goal.invariant_of-result
unfolding IsDistinct
invariant_of-result c = (tt, tt)
