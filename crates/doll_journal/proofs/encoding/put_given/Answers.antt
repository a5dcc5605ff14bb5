use Rattle.std.proofs.Common.{◌<◌, ◌^◌, length, arith, rules}
use Rattle.std.specs.List.{flat_map}
use Rattle.doll_journal.specs.Spelling.{pair_bytes}
use Rattle.doll_journal.proofs.Parts.{pair_long, count_le, item_below, behind_count}
use Rattle.doll_journal.proofs.encoding.put_given.Goals as goal

pub overflow_cast-given : goal.overflow_cast-given
overflow_cast-given c =
    let all = behind_count (length c.args.given.now) (2 ^ 32) (flat_map pair_bytes c.args.given.now) c.requires in
    let fits : length c.args.given.now < 2 ^ 32 = omega (arith, count_le pair_bytes pair_long c.args.given.now, all) in
    search rules

pub put_pair-requires : goal.put_pair-requires
put_pair-requires c =
    let all = behind_count (length c.args.given.now) (2 ^ 32) (flat_map pair_bytes c.args.given.now) c.requires in
    item_below pair_bytes c.args.given.now c.loop-pair.pair-index c.pair-item.result (2 ^ 32) c.pair-item.is c.loop-pair-test.true all
