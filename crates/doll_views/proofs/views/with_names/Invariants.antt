use Rattle.std.proofs.Common.{◌≡◌, drop}
use Rattle.serde_json.specs.View.{items_view}
use Rattle.doll_digest.specs.Registries.{names_in}
use Rattle.doll_views.specs.Files.{wanted_names}
use Rattle.doll_views.specs.Views.{in_place, unwanted, with_names}
use Rattle.doll_views.proofs.views.with_names.Given as goal

-- those so far and those that are left are all
abbrev pub invariant-loop-name : goal.invariant-loop-name
invariant-loop-name l = record {
  so_far :
      with_names (record { files = in_place l.files.items; wanted = in_place l.wanted.items }) (items_view (drop l.name-index l.names))
      ≡ with_names (unwanted (in_place l.initial.files.items)) (items_view l.names);
  seen : names_in l.seen.keys ≡ wanted_names l.wanted.items;
}
