-- Entries in the order in which their keys came (this project's own).
use Rattle.std.specs.Prelude.{ℕ, ◌+◌, List, [], ◌∷◌, length, position, sum_by, Option, if◌then◌else◌}
use Rattle.std.specs.Str.{bytes_eq}
use Rattle.doll_entry.specs.declared.entry.Entry.{Entry}

-- the place of the entry under a key
abbrev pub place_of : List ℕ → List Entry → Option ℕ
place_of key entries = position (λ entry. bytes_eq key entry.fresh.key) entries

-- entries after one is written: in the place of the entry under its key, else last
abbrev pub put : Entry → List Entry → List Entry
put entry [] = entry ∷ []
put entry (first ∷ more) = if bytes_eq entry.fresh.key first.fresh.key then entry ∷ more else first ∷ put entry more

-- the size of an entry: the bytes of its key and of its fragment
abbrev pub size_of : Entry → ℕ
size_of entry = length entry.fresh.key + length entry.fresh.value

-- the size of entries
abbrev pub total_size : List Entry → ℕ
total_size entries = sum_by size_of entries
