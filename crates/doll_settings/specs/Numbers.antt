-- The numbers that settings are (this project's own).
use Rattle.std.specs.Prelude.{ℕ, ◌≤◌, ◌&&◌, nat_le, Bool, Option, Some, None, is_some, option_and_then, option_map, if◌then◌else◌, ⊤}
use Rattle.serde_json.specs.Data.{Data}
use Rattle.serde_json.specs.Find.{as_null, as_number, as_u64}

-- a whole number from the least to the most
abbrev pub number_in : ℕ → ℕ → Data → Option ℕ
number_in least most d =
    option_and_then (λ n. if nat_le least n && nat_le n most then Some n else None) (option_and_then as_u64 (as_number d))

abbrev pub is_null : Data → Bool
is_null d = is_some (as_null d)

-- a limit: such a number, or null, which sets none
abbrev pub limit_in : ℕ → ℕ → Data → Option (Option ℕ)
limit_in least most d = if is_null d then Some None else option_map Some (number_in least most d)

-- the number, or the default where it is left out; null is no number
abbrev pub number_or : ℕ → ℕ → ℕ → Option Data → Option ℕ
number_or least most default None = Some default
number_or least most default (Some d) = number_in least most d

-- the limit, or the default where it is left out; null isn't left out
abbrev pub limit_or : ℕ → ℕ → Option ℕ → Option Data → Option (Option ℕ)
limit_or least most default None = Some default
limit_or least most default (Some d) = limit_in least most d

-- ---- what is read is within its bounds

abbrev pub IsBetween : ℕ → ℕ → ℕ → Type 0
IsBetween least most n = (least ≤ n) × (n ≤ most)

-- so is what is set, where something is
abbrev pub IsSetBetween : ℕ → ℕ → Option ℕ → Type 0
IsSetBetween least most None = ⊤
IsSetBetween least most (Some n) = IsBetween least most n
