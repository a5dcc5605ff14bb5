-- The numbers of a script (this project's own).
use Rattle.std.specs.Prelude.{ℕ, ◌+◌, ◌-◌, ◌*◌, Bool, not, ◌&&◌, ◌==◌, nat_le, nat_lt, List, length, slice_index, fold, min, Option, Some, None, option_map, option_and_then, if◌then◌else◌}
use Rattle.std.specs.List.{list_all}
use Rattle.std.specs.Char.{is_ascii_digit}
use Rattle.doll_script.specs.declared.numbers.TheConstants.{GREATEST_NUMBER, LATEST_NOW, MOST_SESSIONS, ZERO}

-- the number that decimal digits say, behind a number already read
abbrev pub digits_from : ℕ → List ℕ → ℕ
digits_from = fold (λ number digit. 10 * number + (digit - 48))

-- digits, at least one, and no zero before others
abbrev pub are_digits : List ℕ → Bool
are_digits text = not (slice_index text 0 == ZERO && nat_lt 1 (length text)) && nat_lt 0 (length text) && list_all is_ascii_digit text

-- a number of a script: decimal, at most 2^64 - 1, without a zero before it
abbrev pub number_in : List ℕ → Option ℕ
number_in text = if nat_le (digits_from 0 text) GREATEST_NUMBER && are_digits text then Some (digits_from 0 text) else None

-- the number of a session: from 1 to 1,000
abbrev pub session_in : List ℕ → Option ℕ
session_in text = option_and_then (λ n. if nat_le 1 n && nat_le n MOST_SESSIONS then Some n else None) (number_in text)

-- what a clock shows that is told a number of microseconds: 2^62 at most
abbrev pub clock_in : List ℕ → Option ℕ
clock_in text = option_map (λ n. min n LATEST_NOW) (number_in text)
