-- The cut of a template: its pieces, one after another from the first byte to the last (this project's own).
use Rattle.std.specs.Prelude.{ℕ, zero, suc, ◌+◌, ◌-◌, ◌≡◌, List, [], ◌∷◌, Result, Ok, Err}
use Rattle.doll_erb.specs.declared.node.ErbFault.{ErbFault}
use Rattle.doll_erb.specs.declared.piece.Tag.{Tag}
use Rattle.doll_erb.specs.Pieces.{piece_at, IsInside}

-- where a piece ends
abbrev pub end_of : ℕ → Result Tag ErbFault → ℕ
end_of at (Err fault) = at
end_of at (Ok tag) = tag.span.to

-- a piece before the others, or the first fault
abbrev pub before : Result Tag ErbFault → Result (List Tag) ErbFault → Result (List Tag) ErbFault
before (Err fault) rest = Err fault
before (Ok tag) (Err fault) = Err fault
before (Ok tag) (Ok tags) = Ok (tag ∷ tags)

-- the pieces of what is left of a template from a place on, once some bytes are passed over
unfoldable pub pieces_after : ℕ → ℕ → List ℕ → Result (List Tag) ErbFault
pieces_after passed at [] = Ok []
pieces_after zero at (byte ∷ bytes) =
    before (piece_at at (byte ∷ bytes)) (pieces_after (end_of at (piece_at at (byte ∷ bytes)) - at - 1) (at + 1) bytes)
pieces_after (suc passed) at (byte ∷ bytes) = pieces_after passed (at + 1) bytes

-- the pieces of a template, or its first tag that isn't closed or isn't known
abbrev pub cut_of : List ℕ → Result (List Tag) ErbFault
cut_of text = pieces_after 0 0 text

-- pieces that follow one another without a gap from one place to another, each with its content in it
abbrev pub Tiles : ℕ → List Tag → ℕ → Type 0
Tiles from [] to = from ≡ to
Tiles from (tag ∷ tags) to = IsInside from (tag.span.to - from) tag × Tiles tag.span.to tags to
