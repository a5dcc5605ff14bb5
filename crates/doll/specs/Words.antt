-- What the words of the program ask for (this project's own).
use Rattle.std.specs.Prelude.{ℕ, List, [], ◌∷◌, bytes_eq, codes, Option, None, Some, if◌then◌else◌}
use Rattle.doll.specs.declared.words.Command as lent
use Rattle.doll.specs.declared.words.Command.TheVariants as lent_command

-- the page of a path, the faults of the templates, the digests of all templates, or the report of the script
pub data Command : Type 0 where
  Plain : List ℕ → Command
  Lint : Command
  Digests : Command
  Replay : Command

-- what the code's command stands for
abbrev pub seen_command : lent.Command → Command
seen_command (lent_command.Plain path) = Plain path.now
seen_command lent_command.Lint = Lint
seen_command lent_command.Digests = Digests
seen_command lent_command.Replay = Replay

-- what the words ask for, where they are one of the forms
abbrev pub command_of : List (List ℕ) → Option Command
command_of (word ∷ []) =
    if bytes_eq word (codes "lint") then Some Lint
    else if bytes_eq word (codes "digests") then Some Digests
    else if bytes_eq word (codes "replay") then Some Replay
    else None
command_of (word ∷ path ∷ []) = if bytes_eq word (codes "plain") then Some (Plain path) else None
command_of words = None
