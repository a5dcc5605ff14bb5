-- The form of a bundle (this project's own).
use Rattle.std.specs.Prelude.{ℕ, List, [], ◌∷◌, Option, Result, Ok, codes}
use Rattle.std.specs.Option.{ok_or}
use Rattle.serde_json.specs.Data.{Data}
use Rattle.serde_json.specs.Find.{get}
use Rattle.doll_text.specs.Steps.{◌>>=◌, ◌>>◌, check}
use Rattle.doll_schema.specs.Json.{has_only}
use Rattle.doll_settings.specs.Settings.{settings_in}
use Rattle.doll_settings.specs.declared.settings.SiteSettings.{SiteSettings}
use Rattle.doll_views.specs.declared.refusal.BundlePart.TheVariants as part
use Rattle.doll_views.specs.declared.refusal.Kind.TheVariants as kind
use Rattle.doll_views.specs.declared.refusal.Refusal.{Refusal}
use Rattle.doll_views.specs.declared.refusal.Refusal.TheVariants.{Refused}

-- the parts of a bundle; all but the schema may be left out
pub record Parts : Type 0 where
  pub schema : Data
  pub routes : Option Data
  pub views : Option Data
  pub files : Option Data
  pub settings : Option Data
  pub commits : Option Data
  pub script : Option Data

abbrev pub bundle_keys : List (List ℕ)
bundle_keys =
    codes "schema" ∷ codes "routes" ∷ codes "views" ∷ codes "files" ∷ codes "settings" ∷ codes "commits" ∷ codes "script" ∷ []

-- a text that is no JSON, and JSON that isn't of the form of a bundle
abbrev pub json_refusal : Refusal
json_refusal = Refused part.Json 0 kind.BadForm

-- the parts of a bundle: an object with a schema and no key that isn't listed
abbrev pub parts_of : Data → Result Parts Refusal
parts_of bundle = do
  check (has_only bundle_keys bundle) json_refusal
  schema ← ok_or (get (codes "schema") bundle) json_refusal
  Ok (record {
    schema = schema;
    routes = get (codes "routes") bundle;
    views = get (codes "views") bundle;
    files = get (codes "files") bundle;
    settings = get (codes "settings") bundle;
    commits = get (codes "commits") bundle;
    script = get (codes "script") bundle;
  })

-- settings that aren't of the form
abbrev pub settings_refusal : Refusal
settings_refusal = Refused part.Settings 0 kind.BadForm

-- the settings of a bundle, the usual ones where they are left out
abbrev pub settings_of : Option Data → Result SiteSettings Refusal
settings_of settings = ok_or (settings_in settings) settings_refusal
