use Rattle.std.proofs.Common.{◌∙◌, ◌+◌, sym, ap}
use Rattle.std.proofs.lemmas.List.Splits.{length-slice_split}
use Rattle.doll_text.specs.Segments.{is_slash}
use Rattle.doll_text.proofs.segments.segment_count.Goals as goal

pub returns : goal.returns
returns c = ap (λ n. n + 1) c.slash_count.ensures.value ∙ sym (length-slice_split is_slash c.args.text.now)
