-- What a batch removes, and what a write leaves (this project's own, after Solid Cache: first in, first out, in batches).
use Rattle.std.specs.Prelude.{ℕ, ◌+◌, ◌-◌, ◌*◌, ◌==◌, Bool, false, ◌&&◌, ◌||◌, nat_le, nat_lt, min, List, length, take, drop, Option, Some, None, if◌then◌else◌}
use Rattle.std.specs.List.{prefix_len}
use Rattle.doll_entry.specs.Judging.{counted_time}
use Rattle.doll_entry.specs.declared.entry.Entry.{Entry}
use Rattle.doll_entry.specs.declared.entry.Fresh.{Fresh}
use Rattle.doll_shelf.specs.Entries.{put, total_size}
use Rattle.doll_shelf.specs.declared.settings.ShelfSettings.{ShelfSettings}

-- ---- a batch

-- whether an amount is above a limit; one that isn't set is never passed
abbrev pub exceeds : Option ℕ → ℕ → Bool
exceeds None amount = false
exceeds (Some most) amount = nat_lt most amount

-- whether entries are too many or too large
abbrev pub are_over : ShelfSettings → List Entry → Bool
are_over settings entries = exceeds settings.max_entries (length entries) || exceeds settings.max_size (total_size entries)

-- whether what was written at one time is older than an age at another
abbrev pub is_older_since : Option ℕ → ℕ → ℕ → Bool
is_older_since age time written_at = nat_lt written_at time && exceeds age (time - written_at)

-- whether an entry is older than an age at a time
abbrev pub is_older : Option ℕ → ℕ → Entry → Bool
is_older age time entry = is_older_since age time entry.written_at

-- how many of the first entries a batch removes: so many as it may where they are over, else those at the front that are too old
abbrev pub removed_count : ShelfSettings → ℕ → List Entry → ℕ
removed_count settings now entries =
    if are_over settings entries then min settings.batch (length entries)
    else prefix_len (is_older settings.max_age (counted_time now)) (take settings.batch entries)

-- the entries that a batch leaves
abbrev pub after_batch : ShelfSettings → ℕ → List Entry → List Entry
after_batch settings now entries = drop (removed_count settings now entries) entries

-- ---- a write

-- whether a batch runs before the next write
abbrev pub is_full : ShelfSettings → ℕ → Bool
is_full settings writes = writes == settings.batch

-- the entries to which a write adds
abbrev pub ready_entries : ShelfSettings → ℕ → ℕ → List Entry → List Entry
ready_entries settings writes now entries = if is_full settings writes then after_batch settings now entries else entries

-- the count of writes to which it adds
abbrev pub ready_writes : ShelfSettings → ℕ → ℕ
ready_writes settings writes = if is_full settings writes then 0 else writes

-- when an entry that is written at a time expires
abbrev pub expiry_after : Option ℕ → ℕ → Option ℕ
expiry_after None time = None
expiry_after (Some expires_in) time = Some (time + expires_in)

-- the entry of a fragment that is written
abbrev pub entry_of : ShelfSettings → Fresh → ℕ → Entry
entry_of settings fresh now = record {
  fresh = fresh;
  written_at = counted_time now;
  expires_at = expiry_after settings.expires_in (counted_time now);
}

-- the entries that a write leaves
abbrev pub after_write : ShelfSettings → ℕ → Fresh → ℕ → List Entry → List Entry
after_write settings writes fresh now entries = put (entry_of settings fresh now) (ready_entries settings writes now entries)

-- whether it is time for a batch: half as many writes as a batch has entries
abbrev pub is_due : ShelfSettings → ℕ → Bool
is_due settings writes = nat_le settings.batch (2 * writes)
