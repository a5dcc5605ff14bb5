-- Handing out a fragment (this project's own).
use Rattle.std.specs.Prelude.{◌≡◌, ℕ, List, ⊤}
use Rattle.doll_entry.specs.declared.asks.Fetched.{Fetched}
use Rattle.doll_entry.specs.declared.asks.Fetched.TheVariants.{Hit, Miss}
use Rattle.doll_entry.specs.declared.asks.Miss.TheVariants as miss

-- The answer is this fragment, or want of memory.
abbrev pub Shares : List ℕ → Fetched → Type 0
Shares value (Hit given) = given ≡ value
Shares value (Miss miss.Memory) = ⊤
Shares value (Miss why) = ⊥
