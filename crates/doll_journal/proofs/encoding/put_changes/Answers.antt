use Rattle.std.proofs.Common.{◌<◌, ◌^◌, length, arith, rules}
use Rattle.std.specs.List.{flat_map}
use Rattle.doll_journal.specs.Spelling.{change_bytes}
use Rattle.doll_journal.proofs.Parts.{change_long, count_le, item_below, behind_count}
use Rattle.doll_journal.proofs.encoding.put_changes.Goals as goal

pub overflow_cast-changes : goal.overflow_cast-changes
overflow_cast-changes c =
    let all = behind_count (length c.args.changes.now) (2 ^ 32) (flat_map change_bytes c.args.changes.now) c.requires in
    let fits : length c.args.changes.now < 2 ^ 32 = omega (arith, count_le change_bytes change_long c.args.changes.now, all) in
    search rules

pub put_change-requires : goal.put_change-requires
put_change-requires c =
    let all = behind_count (length c.args.changes.now) (2 ^ 32) (flat_map change_bytes c.args.changes.now) c.requires in
    item_below change_bytes c.args.changes.now c.loop-change.change-index c.change-item.result (2 ^ 32) c.change-item.is c.loop-change-test.true all
