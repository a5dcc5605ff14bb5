-- What rendering through a cache still has to do (this project's own).
use Rattle.std.specs.Prelude.{ℕ, List, Option}
use Rattle.doll_entry.specs.declared.asks.Ask.{Ask}
use Rattle.doll_entry.specs.declared.entry.Fresh.{Fresh}

-- A number is that of the looks at the table which may be taken before what stands behind it.
pub data Run : Type 0 where
  -- these bytes are written, and nothing is left
  Ends : ℕ → List ℕ → Run
  -- it asks for a block, and goes on by the bytes that were found, where some were
  Reads : ℕ → Ask → (Option (List ℕ) → Run) → Run
  -- it asks for several blocks at once
  ReadsMany : ℕ → List Ask → (List (Option (List ℕ)) → Run) → Run
  -- it hands in a block that it has rendered, and goes on
  Writes : ℕ → Fresh → Run → Run

-- what follows so many looks since the last call and these bytes
abbrev pub Rest : Type 0
Rest = ℕ → List ℕ → Run
