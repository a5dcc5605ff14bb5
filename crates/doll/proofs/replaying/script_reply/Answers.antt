use Rattle.std.proofs.Common.{◌≡◌, length, ap, arith}
use Rattle.doll_script.proofs.Texts.{targets_are_texts}
use Rattle.doll.proofs.Playing.{all_may_play, orders_count}
use Rattle.doll.proofs.replaying.script_reply.Goals as goal

pub played_reply-requires-clause-storable : goal.played_reply-requires-clause-storable
played_reply-requires-clause-storable c =
    let texts = targets_are_texts c.as_slice.result.now c.in-Ok.script.lines (rw c.as_slice.ensures c.requires.lines) c.in-Ok.ensures.exact in
    rw c.as_slice-in-Ok.ensures (all_may_play c.in-Ok.script.lines c.in-Ok.ensures.storable texts)

pub played_reply-requires-clause-few : goal.played_reply-requires-clause-few
played_reply-requires-clause-few c =
    let orders : length c.as_slice-in-Ok.result.now ≡ length c.in-Ok.script.lines = ap length c.as_slice-in-Ok.ensures in
    let lines : length c.as_slice.result.now ≡ length c.args.stage.script = ap length c.as_slice.ensures in
    let count = orders_count c.as_slice.result.now c.in-Ok.script.lines c.in-Ok.ensures.exact in
    omega (arith, orders, lines, count, c.len.ensures, c.if-len-ge4294967296.false)
