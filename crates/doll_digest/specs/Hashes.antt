-- A hash for tests (this project's own).
use Rattle.std.specs.Prelude.{ℕ, List, [], ◌∷◌, replicate}

-- the first byte of a text and 15 zeros, or 16 zeros where there is none
abbrev pub first_byte : List ℕ → List ℕ
first_byte [] = replicate 16 0
first_byte (byte ∷ bytes) = byte ∷ replicate 15 0
