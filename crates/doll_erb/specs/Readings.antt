-- What the reader of blocks holds, as the fold sees it (this project's own).
use Rattle.std.specs.Prelude.{◌≡◌, List, [], ◌∷◌, reverse, Option, Result, MatchOption}
use Rattle.doll_text.specs.Gives.{GivesBy}
use Rattle.doll_erb.specs.declared.node.ErbFault.{ErbFault}
use Rattle.doll_erb.specs.declared.node.ErbFault.TheVariants.{Memory}
use Rattle.doll_erb.specs.declared.template.Reading.{Reading}
use Rattle.doll_erb.specs.declared.frame.Frame.{Frame}
use Rattle.doll_erb.specs.Trees.{State, state}

-- the innermost block stands last in the reader, and first in the fold
abbrev pub state_of : Reading → State
state_of r = state (reverse r.frames) r.nodes r.bytes.items r.number

-- what is read is what is expected, unless memory ran out
abbrev pub GivesState : Result State ErbFault → Result Reading ErbFault → Type 0
GivesState expected result = GivesBy state_of Memory expected result

-- the reader holds this
abbrev pub Holds : State → Reading → Type 0
Holds expected r = state_of r ≡ expected

-- the innermost block is taken from the others, if there is one
abbrev pub TakesInnermost : List Frame → List Frame → Option Frame → Type 0
TakesInnermost old new result = MatchOption result (reverse old ≡ []) (λ innermost. reverse old ≡ innermost ∷ reverse new)
