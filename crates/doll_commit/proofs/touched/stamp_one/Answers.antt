use Rattle.std.proofs.Common.{sym, arith}
use Rattle.doll_commit.proofs.Stamps.{row_within}
use Rattle.doll_commit.proofs.touched.stamp_one.Goals as goal

pub put-requires : goal.put-requires
put-requires c = omega (arith, c.requires, row_within c.args.table.now c.args.one.0 c.args.one.1 c.in-Some.row.now (sym c.in-Some.ensures))
