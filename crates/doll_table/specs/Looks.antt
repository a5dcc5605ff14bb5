-- What a look at a table changes: the count of looks alone (this project's own).
use Rattle.std.specs.Prelude.{ℕ, ◌≡◌, ◌+◌, ◌-◌, ◌^◌, min}
use Rattle.doll_table.specs.Tables.{TableMap}

-- one look more, or the count stands at its last value; the table stays
abbrev pub Looked : TableMap → ℕ → TableMap → ℕ → Type 0
Looked table looks after more = (after ≡ table) × (more ≡ min (looks + 1) (2 ^ 64 - 1))
