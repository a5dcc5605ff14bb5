-- What the calls of a shelf give, where it tells its entries (this project's own).
use Rattle.std.specs.Prelude.{◌≡◌, ◌⊎◌, ◌+◌, ◌≤◌, ℕ, List, length, Option, Some, None, ⊤}
use Rattle.std.specs.List.{IsDistinct}
use Rattle.std.specs.Prelude.{map}
use Rattle.std.specs.Str.{bytes_eq}
use Rattle.doll_entry.specs.declared.entry.Entry.{Entry}
use Rattle.doll_shelf.specs.Batches.{after_batch}
use Rattle.doll_shelf.specs.Settings.{AreValid}
use Rattle.doll_shelf.specs.declared.settings.ShelfSettings.{ShelfSettings}

-- The entries before and after a call are told or aren't, and where they are, this holds of them.
abbrev pub WhereTold : (List Entry → List Entry → Type 0) → Option (List Entry) → Option (List Entry) → Type 0
WhereTold P None None = ⊤
WhereTold P None (Some new) = ⊥
WhereTold P (Some old) None = ⊥
WhereTold P (Some old) (Some new) = P old new

-- A write that is refused leaves all as it was, but that its batch may have run.
abbrev pub BatchAtMost : ShelfSettings → ℕ → ℕ → ℕ → Option (List Entry) → Option (List Entry) → Type 0
BatchAtMost settings now old_writes new_writes old new =
    ((new_writes ≡ old_writes) × (new ≡ old))
    ⊎ ((old_writes ≡ settings.batch) × (new_writes ≡ 0) × WhereTold (λ o n. n ≡ after_batch settings now o) old new)

-- what is known of a shelf in memory: its settings, its entries in order, and how often was written since the last batch
pub record Shelved : Type 0 where
  pub settings : ShelfSettings
  pub entries : List Entry
  pub writes : ℕ

-- within a limit that is set, and as many more as there were writes since the last batch
abbrev pub IsWithin : Option ℕ → ℕ → ℕ → Type 0
IsWithin None more amount = ⊤
IsWithin (Some most) more amount = amount ≤ most + more

-- what is true of a shelf in memory: valid settings, and since the last batch at most as many writes as a batch has entries and
-- at most so many entries more than the most that a batch leaves
pub record IsSound (shelf : Shelved) : Type 0 where
  pub valid : AreValid shelf.settings
  pub counted : shelf.writes ≤ shelf.settings.batch
  pub bounded : IsWithin shelf.settings.max_entries shelf.writes (length shelf.entries)

-- no two entries have one key
abbrev pub AreDistinct : List Entry → Type 0
AreDistinct entries = IsDistinct bytes_eq (map (λ entry. entry.fresh.key) entries)

-- Of every shelf: keys are distinct, no more was written since the last batch than a batch has entries, and there are at most so
-- many entries more than the most that a batch leaves.
pub record IsShelf (shelf : Shelved) : Type 0 where
  pub distinct : AreDistinct shelf.entries
  pub counted : shelf.writes ≤ shelf.settings.batch
  pub bounded : IsWithin shelf.settings.max_entries shelf.settings.batch (length shelf.entries)
