use Rattle.std.proofs.Common.{◌≡◌, ℕ, ◌||◌}
use Rattle.doll_table.specs.Ids.{has_id}
use Rattle.doll_table.specs.Links.{linked}
use Rattle.doll_table.proofs.Linking.{is_early}
use Rattle.doll_table.proofs.links.link.Given as goal

-- the links of the places passed are there
abbrev pub invariant-loop-place : goal.invariant-loop-place
invariant-loop-place l = (place parent child : ℕ) → has_id (linked l.links place parent) child ≡ (has_id (linked l.initial.links place parent) child || is_early l.row l.id l.place place parent child)
