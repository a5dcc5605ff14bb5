-- What a bundle is, and what it is with the files that a folder gives (this project's own).
use Rattle.std.specs.Prelude.{◌≡◌, ℕ, List, Option, None, Some, Result, Ok, Err, if◌then◌else◌}
use Rattle.std.specs.Option.{ok_or}
use Rattle.std.specs.Str.{is_utf8}
use Rattle.serde_json.specs.Data.{Data, Items, no_items}
use Rattle.serde_json.specs.Find.{as_array}
use Rattle.serde_json.specs.Read.{read}
use Rattle.doll_text.specs.Steps.{◌>>=◌}
use Rattle.doll_base.specs.declared.in_memory.ViewFile.{ViewFile}
use Rattle.doll_schema.specs.declared.model.Schema.{Schema}
use Rattle.doll_schema.specs.Models.{ModelList}
use Rattle.doll_schema.specs.Schemas.{schema_of}
use Rattle.doll_route.specs.Routes.{AreRoutesOf}
use Rattle.doll_route.specs.declared.route.Route.{Route}
use Rattle.doll_set.specs.Sets.{ReadSet}
use Rattle.doll_settings.specs.Settings.{AreWithinBounds}
use Rattle.doll_settings.specs.declared.settings.SiteSettings.{SiteSettings}
use Rattle.doll_views.specs.declared.refusal.BundlePart.TheVariants as part
use Rattle.doll_views.specs.declared.refusal.Kind.{Kind}
use Rattle.doll_views.specs.declared.refusal.Kind.TheVariants as kind
use Rattle.doll_views.specs.declared.refusal.Refusal.{Refusal}
use Rattle.doll_views.specs.declared.refusal.Refusal.TheVariants.{Refused}
use Rattle.doll_views.specs.Faults.{or_schema_refusal, routes_in}
use Rattle.doll_views.specs.Files.{files_of}
use Rattle.doll_views.specs.Forms.{json_refusal, parts_of, settings_of}
use Rattle.doll_views.specs.Sets.{set_in}
use Rattle.doll_views.specs.Views.{Listing, listing_of}

-- the JSON value that bytes are
abbrev pub json_of : List ℕ → Option Data
json_of bytes = if is_utf8 bytes then read bytes else None

-- ---- what is read of a bundle before anything is asked of the outside

pub record Bundle : Type 0 where
  pub schema : Schema
  pub routes : List Route
  pub settings : SiteSettings
  -- its files, of which those that are wanted are in the folder
  pub listing : Listing
  pub commits : Option Data
  pub script : Option Data

-- the bundle of a JSON value: form, schema, routes, settings and files in turn, or the first refusal
unfoldable pub bundle_in : Data → Result Bundle Refusal
bundle_in json = do
  parts ← parts_of json
  schema ← or_schema_refusal (schema_of parts.schema)
  routes ← routes_in schema parts.routes
  settings ← settings_of parts.settings
  listing ← listing_of parts.views parts.files
  Ok (record {
    schema = schema;
    routes = routes;
    settings = settings;
    listing = listing;
    commits = parts.commits;
    script = parts.script;
  })

-- the bundle of bytes
unfoldable pub bundle_of : List ℕ → Result Bundle Refusal
bundle_of bytes = ok_or (json_of bytes) json_refusal >>= bundle_in

-- ---- with the files of a folder

pub record Loaded : Type 0 where
  pub schema : Schema
  pub routes : List Route
  pub set : ReadSet
  pub settings : SiteSettings
  pub commits : Items
  pub script : Option Data

abbrev pub commit_refusal : ℕ → Kind → Refusal
commit_refusal number what = Refused part.Commits number what

-- the array of a bundle's commits, an empty one where they are left out; null is no array
abbrev pub commits_in : Option Data → Result Items Refusal
commits_in None = Ok no_items
commits_in (Some commits) = ok_or (as_array commits) (commit_refusal 0 kind.BadForm)

-- a bundle with its files: the set that they make, and the array of commits
abbrev pub with_files : Bundle → List ViewFile → Result Loaded Refusal
with_files bundle files = do
  set ← set_in files
  commits ← commits_in bundle.commits
  Ok (record {
    schema = bundle.schema;
    routes = bundle.routes;
    set = set;
    settings = bundle.settings;
    commits = commits;
    script = bundle.script;
  })

-- a bundle whose folder gave these bytes: its files, the set that they make and the array of commits in turn
unfoldable pub loaded_of : Bundle → List (Option (List ℕ)) → Result Loaded Refusal
loaded_of bundle given = files_of bundle.listing given >>= with_files bundle

-- ---- what holds of all that is read

-- The schema was read from JSON, the routes are ones of it, and the settings are within their bounds.
pub record WasRead (schema : ModelList) (routes : List Route) (settings : SiteSettings) : Type 0 where
  pub source : Data
  pub schema_in : schema_of source ≡ Ok schema
  pub routes_of : AreRoutesOf schema routes
  pub within : AreWithinBounds settings
