use Rattle.std.proofs.Common.{◌≡◌, []}
use Rattle.serde_json.specs.View.{members_view}
use Rattle.doll_views.specs.Views.{in_place, with_views}
use Rattle.doll_views.proofs.views.all_views.Given as goal

-- those so far and those that are left are all
abbrev pub invariant-loop-name : goal.invariant-loop-name
invariant-loop-name l = with_views (in_place l.files.items) (members_view l.name-iterator) ≡ with_views [] (members_view l.views.entries)
