use Rattle.std.proofs.Common.{◌∙◌}
use Rattle.doll_key.proofs.Finding.{are_bytes, decodes}
use Rattle.doll_key.proofs.reading.text_in.Goals as goal

pub returns : goal.returns
returns c =
    let appended = rw c.new-bytes.ensures.items at c.in_ok-append_to.ensures.ok in
    let bytes = c.from_vec.ensures ∙ appended in
    decodes c.args.escaped.now c.from_vec.result (bytes ∙ c.percent_decode.ensures.bytes) (rw bytes (are_bytes _ c.percent_decode.ensures.small))
