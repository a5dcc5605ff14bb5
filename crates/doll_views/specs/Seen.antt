-- What the code's bundle and its parts stand for.
use Rattle.std.specs.Option.{option_map}
use Rattle.serde_json.specs.View.{items_view, view}
use Rattle.doll_views.specs.declared.bundle.Bundle as lent_bundle
use Rattle.doll_views.specs.declared.bundle.Loaded as lent_loaded
use Rattle.doll_views.specs.declared.form.Parts as lent_parts
use Rattle.doll_views.specs.declared.views.Listing as lent_listing
use Rattle.doll_views.specs.Bundles.{Bundle, Loaded}
use Rattle.doll_views.specs.Forms.{Parts}
use Rattle.doll_views.specs.Views.{Listing}

abbrev pub seen_parts : lent_parts.Parts → Parts
seen_parts parts = record {
  schema = view parts.schema.now;
  routes = option_map (λ d. view d.now) parts.routes;
  views = option_map (λ d. view d.now) parts.views;
  files = option_map (λ d. view d.now) parts.files;
  settings = option_map (λ d. view d.now) parts.settings;
  commits = option_map (λ d. view d.now) parts.commits;
  script = option_map (λ d. view d.now) parts.script;
}

abbrev pub seen_listing : lent_listing.Listing → Listing
seen_listing listed = record { files = listed.files.items; wanted = listed.wanted.items }

abbrev pub seen_bundle : lent_bundle.Bundle → Bundle
seen_bundle bundle = record {
  schema = bundle.schema;
  routes = bundle.routes;
  settings = bundle.settings;
  listing = seen_listing bundle.listing;
  commits = option_map (λ d. view d.now) bundle.commits;
  script = option_map (λ d. view d.now) bundle.script;
}

abbrev pub seen_loaded : lent_loaded.Loaded → Loaded
seen_loaded loaded = record {
  schema = loaded.schema;
  routes = loaded.routes;
  set = loaded.set;
  settings = loaded.settings;
  commits = items_view loaded.commits.now;
  script = option_map (λ d. view d.now) loaded.script;
}
