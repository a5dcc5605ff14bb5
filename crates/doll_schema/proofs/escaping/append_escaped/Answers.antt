use Rattle.std.proofs.Common.{◌++◌, sym, arith}
use Rattle.doll_schema.specs.Escape.{escaped}
use Rattle.doll_schema.proofs.Pieces.{waits}
use Rattle.doll_schema.proofs.escaping.append_escaped.Goals as goal

pub loop-at-preserved-in_default : goal.loop-at-preserved-in_default
loop-at-preserved-in_default c = record {
  within = omega arith;
  so_far = waits c.args.bytes.now c.loop-at.out.items (c.args.out.now.items ++ escaped c.args.bytes.now) c.loop-at.from c.loop-at.at c.loop-at.invariant.within c.loop-at-test.true (sym c.in_default.ensures) c.loop-at.invariant.so_far;
  kept = c.loop-at.invariant.kept;
}
