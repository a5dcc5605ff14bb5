-- How far a rendering came (this project's own).
use Rattle.std.specs.Prelude.{ℕ, Bool, true, false, List}
use Rattle.doll_plain.specs.Direct.{Variables}
use Rattle.doll_entry.specs.declared.asks.Ask.{Ask}
use Rattle.doll_entry.specs.declared.asks.BlockId.{BlockId}
use Rattle.doll_entry.specs.declared.entry.Fresh.{Fresh}
use Rattle.doll_frames.specs.declared.flow.Flow.{Flow}
use Rattle.doll_frames.specs.declared.flow.Flow.TheVariants as flow
use Rattle.doll_frames.specs.declared.keys.BlockKey.{BlockKey}

abbrev pub is_done : Flow → Bool
is_done flow.Done = true
is_done other = false

-- a block by the numbers of its set and its template, and its own
abbrev pub block_id : ℕ → ℕ → ℕ → BlockId
block_id tree template block = record { tree = tree; template = template; block = block }

-- the question for a block
abbrev pub ask_for : BlockKey → Variables → BlockId → Ask
ask_for key vars block = record { key = key.text; versions = key.versions; block = block; vars = vars }

-- a block that was rendered
abbrev pub fresh_of : BlockKey → Variables → BlockId → List ℕ → ℕ → Fresh
fresh_of key vars block bytes origin =
    record { key = key.text; versions = key.versions; value = bytes; vars = vars; block = block; origin = origin }
