use Rattle.std.proofs.Common.{◌≡◌, ◌+◌, length}
use Rattle.doll_erb.specs.Cuts.{pieces_after, Tiles}
use Rattle.doll_erb.proofs.Cuts.{with_front}
use Rattle.doll_erb.proofs.piece.cut.Given as goal

-- the pieces so far, before those of what is left, are those of the template
abbrev pub invariant-loop-rest : goal.invariant-loop-rest
invariant-loop-rest l = record {
  pieces : with_front l.tags (pieces_after 0 l.at l.rest) ≡ pieces_after 0 0 l.text;
  length : l.at + length l.rest ≡ length l.text;
  tiles : Tiles 0 l.tags l.at;
}

abbrev pub decreases-loop-rest : goal.decreases-loop-rest
decreases-loop-rest l = length l.rest
