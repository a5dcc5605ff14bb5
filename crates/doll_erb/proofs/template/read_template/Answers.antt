use Rattle.std.proofs.Common.{◌≡◌, arith, length}
use Rattle.doll_erb.proofs.Cuts.{tiles_count}
use Rattle.doll_erb.proofs.template.read_template.Goals as goal

-- a template has no more pieces than bytes
pub read_pieces-requires-clause-numbers : goal.read_pieces-requires-clause-numbers
read_pieces-requires-clause-numbers c =
    let count = tiles_count 0 (length c.args.text.now) c.in_ok-tags.tags c.in_ok-tags.ensures.tiles in
    let same : c.as_slice.result.now ≡ c.in_ok-tags.tags = c.as_slice.ensures in
    rw same (omega (arith, count, c.requires))
