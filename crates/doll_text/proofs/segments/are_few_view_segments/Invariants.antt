use Rattle.std.proofs.Common.{◌≡◌, ◌&&◌, length}
use Rattle.std.specs.Prelude.{nat_le}
use Rattle.doll_text.specs.Segments.{are_view_segments, segments}
use Rattle.doll_text.proofs.Views.{is_view_path}
use Rattle.doll_text.proofs.segments.are_few_view_segments.Given as goal

-- the path is one where what is left is one of the segments that are left
abbrev pub invariant-loop-more : goal.invariant-loop-more
invariant-loop-more l = is_view_path l.more l.rest ≡ (are_view_segments (segments l.path) && nat_le (length (segments l.path)) 8)

abbrev pub decreases-loop-more : goal.decreases-loop-more
decreases-loop-more l = l.more
