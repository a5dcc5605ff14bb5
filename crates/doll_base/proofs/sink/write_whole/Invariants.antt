use Rattle.std.proofs.Common.{◌≡◌, length, ◌-◌, ◌≤◌, take}
use Rattle.doll_base.specs.Faults.{KeepsCount}
use Rattle.doll_base.specs.Streams.{Appended}
use Rattle.doll_base.proofs.sink.write_whole.Given as goal

abbrev pub invariant-loop-done : goal.invariant-loop-done
invariant-loop-done g l = record {
  within : l.done ≤ length l.bytes;
  so_far : Appended (g.K.Sink.held l.initial.sink) (g.K.Sink.held l.sink) (take l.done l.bytes);
  uncalled : l.done ≡ 0 → l.sink ≡ l.initial.sink;
  count : KeepsCount (g.K.Sink.faults l.initial.sink) (g.K.Sink.faults l.sink);
}

abbrev pub decreases-loop-done : goal.decreases-loop-done
decreases-loop-done g l = length l.bytes - l.done
