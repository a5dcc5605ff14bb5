use Rattle.std.proofs.Common.{◌≡◌, ◌+◌, length}
use Rattle.doll_erb.specs.Pieces.{place_of}
use Rattle.doll_erb.proofs.Places.{from_place}
use Rattle.doll_erb.proofs.piece.place_of.Given as goal

-- the mark stands first where it stands first in what is left
abbrev pub invariant-loop-rest : goal.invariant-loop-rest
invariant-loop-rest l = record {
  place : from_place l.place (place_of l.a l.b l.rest) ≡ place_of l.a l.b l.bytes;
  length : l.place + length l.rest ≡ length l.bytes;
}

abbrev pub decreases-loop-rest : goal.decreases-loop-rest
decreases-loop-rest l = length l.rest
