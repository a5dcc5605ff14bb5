-- A text behind a text (this project's own).
use Rattle.std.specs.Prelude.{ℕ, List, ◌++◌, Option, option_map}

-- a text with another one behind it, where there is such a one
abbrev pub appended : List ℕ → Option (List ℕ) → Option (List ℕ)
appended text more = option_map (λ behind. text ++ behind) more
