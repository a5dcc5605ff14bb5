-- What a clock that was given its readings answers (this project's own).
use Rattle.std.specs.Prelude.{ℕ, ◌-◌, List, length, min, slice_index}

-- The reading with this number from 0. Past the end it is the last, and 0 where there is none.
abbrev pub reading_at : List ℕ → ℕ → ℕ
reading_at readings number = slice_index readings (min number (length readings - 1))

-- What is known of such a clock: the readings that it has, and those that it gave.
pub record Readings : Type 0 where
  pub listed : List ℕ
  pub given : List ℕ
