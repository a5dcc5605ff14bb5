-- Readings of a clock (this project's own).
use Rattle.std.specs.Prelude.{ℕ, ◌≤◌, List, length, Option}
use Rattle.doll_base.specs.Streams.{Appended}

-- The clock gave readings, at most so many and perhaps none.
abbrev pub ReadsClock : ℕ → Option (List ℕ) → Option (List ℕ) → Type 0
ReadsClock most before after = (readings : List ℕ) × Appended before after readings × (length readings ≤ most)
