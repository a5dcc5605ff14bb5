-- The settings that a shelf in memory takes (this project's own).
use Rattle.std.specs.Prelude.{ℕ, ◌≤◌, Option, Some, None, ⊤}
use Rattle.doll_entry.specs.declared.judging.TheConstants.{LATEST_TIME}
use Rattle.doll_shelf.specs.declared.settings.ShelfSettings.{ShelfSettings}
use Rattle.doll_shelf.specs.declared.settings.TheConstants.{MOST_IN_BATCH}

-- what is set is at least 1
abbrev pub IsPositive : Option ℕ → Type 0
IsPositive None = ⊤
IsPositive (Some most) = 1 ≤ most

-- what is set is a time that counts
abbrev pub IsTime : Option ℕ → Type 0
IsTime None = ⊤
IsTime (Some time) = time ≤ LATEST_TIME

-- times of at most 2^62 microseconds, batches of 1 to 10,000 entries, and limits of at least 1
pub record AreValid (settings : ShelfSettings) : Type 0 where
  pub expires_in : IsTime settings.expires_in
  pub race_ttl : settings.race_ttl ≤ LATEST_TIME
  pub max_age : IsTime settings.max_age
  pub max_entries : IsPositive settings.max_entries
  pub max_size : IsPositive settings.max_size
  pub some_batch : 1 ≤ settings.batch
  pub most_batch : settings.batch ≤ MOST_IN_BATCH
