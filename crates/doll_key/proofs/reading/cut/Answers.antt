use Rattle.doll_key.proofs.Finding.{cut_is}
use Rattle.doll_key.proofs.reading.cut.Goals as goal

pub returns : goal.returns
returns c =
    rw (c.split_at.ensures.front, c.split_at.ensures.back) (cut_is c.args.stop c.prefix_len.result c.args.text.now c.prefix_len.ensures.value)
