use Rattle.std.proofs.Common.{◌≡◌, ◌≤◌, ◌+◌, [], length}
use Rattle.doll_erb.specs.Trees.{state, with_pieces}
use Rattle.doll_erb.specs.Readings.{state_of}
use Rattle.doll_erb.proofs.template.read_pieces.Given as goal

-- what was read so far, with what is left, is what all pieces come to
abbrev pub invariant-loop-tag : goal.invariant-loop-tag
invariant-loop-tag l = record {
  value : with_pieces l.text (state [] [] [] 0) l.tags ≡ with_pieces l.text (state_of l.reading) l.rest;
  numbers : l.reading.number + length l.rest ≤ length l.tags;
}

abbrev pub decreases-loop-tag : goal.decreases-loop-tag
decreases-loop-tag l = length l.rest
