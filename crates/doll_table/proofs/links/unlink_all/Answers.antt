use Rattle.doll_table.proofs.Fewer.{gone_at}
use Rattle.doll_table.proofs.links.unlink_all.Goals as goal

pub unlink_gone-requires : goal.unlink_gone-requires
unlink_gone-requires c = gone_at c.args.rows.now c.args.living.now c.args.ids.now c.loop-id.id-index c.requires c.loop-id-test.true
