use Rattle.std.proofs.Common.{rules}
use Rattle.doll_base.proofs.Streams.{Appended-more}
use Rattle.doll_base.proofs.sink.write_whole.Goals as goal

pub loop-done-preserved : goal.loop-done-preserved
loop-done-preserved g c = record {
  within = search rules;
  so_far = Appended-more (g.K.Sink.held c.args.sink.now) (g.K.Sink.held c.loop-done.sink) (g.K.Sink.held c.write.new.self) c.args.bytes.now c.loop-done.done c.in_ok-count.count c.loop-done.invariant.so_far c.in_ok-count.ensures.bytes;
  uncalled = search rules;
  count = search rules;
}
