-- The settings of a site (this project's own).
use Rattle.std.specs.Prelude.{ℕ, ◌≤◌, ◌^◌, ◌-◌, Bool, true, List, [], ◌∷◌, Option, Some, None, option_and_then, codes, if◌then◌else◌}
use Rattle.serde_json.specs.Data.{Data}
use Rattle.serde_json.specs.Find.{get}
use Rattle.doll_entry.specs.declared.judging.TheConstants.{LATEST_TIME}
use Rattle.doll_schema.specs.Json.{has_only}
use Rattle.doll_shelf.specs.Settings.{AreValid}
use Rattle.doll_shelf.specs.declared.settings.ShelfSettings.{ShelfSettings}
use Rattle.doll_shelf.specs.declared.settings.TheConstants.{MOST_IN_BATCH}
use Rattle.doll_settings.specs.Numbers.{limit_or, number_or}
use Rattle.doll_settings.specs.declared.settings.SiteSettings.{SiteSettings}
use Rattle.doll_settings.specs.declared.settings.TheConstants.{DEFAULT_AGE, DEFAULT_BATCH, DEFAULT_PARTS, MOST_SHARDS, MOST_WORKERS}

-- a setting, and those behind it where it is one
infixl 10 ◌>>=◌
abbrev ◌>>=◌ : {A B : Type 0} → Option A → (A → Option B) → Option B
o >>= f = option_and_then f o

abbrev pub setting_keys : List (List ℕ)
setting_keys =
    codes "expires_in" ∷ codes "race_condition_ttl" ∷ codes "max_entries" ∷ codes "max_size" ∷ codes "max_age"
    ∷ codes "expiry_batch_size" ∷ codes "shards" ∷ codes "workers" ∷ []

-- an object without other keys than these; settings may be left out, and null isn't left out
abbrev pub are_listed : Option Data → Bool
are_listed None = true
are_listed (Some d) = has_only setting_keys d

-- what stands under a key
abbrev pub under : List ℕ → Option Data → Option Data
under key settings = option_and_then (get key) settings

-- a time in microseconds that may be left open
abbrev pub time_limit : Option ℕ → Option Data → Option (Option ℕ)
time_limit = limit_or 0 LATEST_TIME

-- a count or a size that may be left open
abbrev pub count_limit : Option Data → Option (Option ℕ)
count_limit = limit_or 1 (2 ^ 64 - 1) None

-- how the shelf keeps entries; times are in microseconds
abbrev pub shelf_in : Option Data → Option ShelfSettings
shelf_in settings = do
  expires_in ← time_limit None (under (codes "expires_in") settings)
  race_ttl ← number_or 0 LATEST_TIME 0 (under (codes "race_condition_ttl") settings)
  max_entries ← count_limit (under (codes "max_entries") settings)
  max_size ← count_limit (under (codes "max_size") settings)
  max_age ← time_limit (Some DEFAULT_AGE) (under (codes "max_age") settings)
  batch ← number_or 1 MOST_IN_BATCH DEFAULT_BATCH (under (codes "expiry_batch_size") settings)
  Some (record {
    expires_in = expires_in;
    race_ttl = race_ttl;
    max_entries = max_entries;
    max_size = max_size;
    max_age = max_age;
    batch = batch;
  })

-- the shelf's settings with the parts that it is in and the workers
abbrev pub site_in : Option Data → Option SiteSettings
site_in settings = do
  shelf ← shelf_in settings
  shards ← number_or 1 MOST_SHARDS DEFAULT_PARTS (under (codes "shards") settings)
  workers ← number_or 1 MOST_WORKERS DEFAULT_PARTS (under (codes "workers") settings)
  Some (record { shelf = shelf; shards = shards; workers = workers })

-- the settings that a JSON value says, if it is of the form: each key may be left out, and so may all
abbrev pub settings_in : Option Data → Option SiteSettings
settings_in settings = if are_listed settings then site_in settings else None

-- Settings that a shelf takes, with 1 to 64 shards and as many workers.
pub record AreWithinBounds (settings : SiteSettings) : Type 0 where
  pub shelf : AreValid settings.shelf
  pub some_shards : 1 ≤ settings.shards
  pub most_shards : settings.shards ≤ MOST_SHARDS
  pub some_workers : 1 ≤ settings.workers
  pub most_workers : settings.workers ≤ MOST_WORKERS
