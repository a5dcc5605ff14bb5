use Rattle.std.proofs.Common.{subst, sym}
use Rattle.std.specs.List.{IsDistinct}
use Rattle.std.specs.Map.{keys_of}
use Rattle.std.specs.Str.{bytes_eq}
use Rattle.doll_shelf.specs.Queue.{IsEndless, queued}
use Rattle.doll_shelf.proofs.queue.Queue.take_map.Goals as goal

pub invariant_of-self-2 : goal.invariant_of-self-2
unfolding IsDistinct
invariant_of-self-2 c = subst (λ map. IsEndless map × IsDistinct bytes_eq (keys_of (queued map))) (sym c.take.ensures.after) (tt, tt)
