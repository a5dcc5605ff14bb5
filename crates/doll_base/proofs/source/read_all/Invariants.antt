use Rattle.std.proofs.Common.{◌+◌, ◌-◌, ◌≤◌, vec_len}
use Rattle.doll_base.specs.Faults.{KeepsCount}
use Rattle.doll_base.specs.Streams.{Took}
use Rattle.doll_base.proofs.source.read_all.Given as goal

abbrev pub invariant-loop-piece : goal.invariant-loop-piece
invariant-loop-piece g l = record {
  within : vec_len l.bytes ≤ l.most + 1;
  taken : Took (g.S.Source.left l.initial.source) (g.S.Source.left l.source) l.bytes.items;
  count : KeepsCount (g.S.Source.faults l.initial.source) (g.S.Source.faults l.source);
}

abbrev pub decreases-loop-piece : goal.decreases-loop-piece
decreases-loop-piece g l = l.most + 1 - vec_len l.bytes
