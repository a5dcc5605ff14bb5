-- What is known of a source, of a sink and of a folder in memory, and what their calls do to them (this project's own).
use Rattle.std.specs.Prelude.{ℕ, List, length, min}
use Rattle.doll_base.specs.Faults.{Plan}

-- A source in memory: the bytes that are left, the most that a call gives, and the plan of its faults.
pub record Feed : Type 0 where
  pub left : List ℕ
  pub piece : ℕ
  pub plan : Plan

-- How many bytes a call with this much room gives where it does not fail.
abbrev pub given_count : Feed → ℕ → ℕ
given_count feed room = min room (min feed.piece (length feed.left))

-- A sink in memory: the bytes that it holds, the most that a call takes, and the plan of its faults.
pub record Store : Type 0 where
  pub held : List ℕ
  pub piece : ℕ
  pub plan : Plan

-- A folder in memory: its files, each a name and its bytes, the names that were asked for, and the plan of its faults.
pub record Files : Type 0 where
  pub files : List (List ℕ × List ℕ)
  pub asked : List (List ℕ)
  pub plan : Plan
