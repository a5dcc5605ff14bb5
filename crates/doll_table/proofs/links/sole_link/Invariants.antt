use Rattle.doll_table.proofs.Linking.{IsSole}
use Rattle.doll_table.proofs.links.sole_link.Given as goal

-- what is found so far is the one link of the places passed
abbrev pub invariant-loop-place : goal.invariant-loop-place
invariant-loop-place l = IsSole l.row l.place l.found
