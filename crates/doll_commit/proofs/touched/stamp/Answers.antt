use Rattle.std.proofs.Common.{take}
use Rattle.doll_commit.proofs.Stamps.{whole_stamped}
use Rattle.doll_commit.proofs.touched.stamp.Goals as goal

pub stamp_one-requires : goal.stamp_one-requires
stamp_one-requires c = whole_stamped c.args.moment c.args.table.now c.loop-one.table (take c.loop-one.one-index c.args.refs.now) c.requires c.loop-one.invariant
