use Rattle.std.proofs.Common.{◌≡◌, length}
use Rattle.doll_excerpt.specs.Places.{last_line}
use Rattle.doll_excerpt.proofs.Lines.{line_with}
use Rattle.doll_excerpt.proofs.place.last_line.Given as goal

-- the last line is that of the rest, or else the line so far
abbrev pub invariant-loop-rest : goal.invariant-loop-rest
invariant-loop-rest l = line_with l.line l.rest ≡ last_line l.bytes

abbrev pub decreases-loop-rest : goal.decreases-loop-rest
decreases-loop-rest l = length l.rest
