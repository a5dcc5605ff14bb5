-- Entries by their keys (this project's own).
use Rattle.std.specs.Prelude.{ℕ, List, map}
use Rattle.doll_entry.specs.declared.entry.Entry.{Entry}
use Rattle.doll_shelf.specs.declared.kept.Kept.{Kept}

-- the entry that is kept under a key
abbrev pub entry_kept : List ℕ × Kept → Entry
entry_kept kept = record {
  fresh = record {
    key = kept.0;
    versions = kept.1.versions;
    value = kept.1.value;
    vars = kept.1.vars;
    block = kept.1.block;
    origin = kept.1.origin;
  };
  written_at = kept.1.written_at;
  expires_at = kept.1.expires_at;
}

-- the entries that are kept
abbrev pub entries_of : List (List ℕ × Kept) → List Entry
entries_of kept = map entry_kept kept
