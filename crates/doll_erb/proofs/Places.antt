-- Where a mark first stands, step by step.
use Rattle.std.proofs.Common.{◌≡◌, ℕ, ◌+◌, true, false, List, [], ◌∷◌, Option, Some, None, refl, ap, suc, arith}
use Rattle.std.specs.Option.{option_map}
use Rattle.doll_erb.specs.Pieces.{begins_with, place_of}

-- bytes that begin with the mark have it at 0
pub place_found : (a b : ℕ) (bytes : List ℕ) → begins_with a b bytes ≡ true → place_of a b bytes ≡ Some 0
place_found a b [] begins = cc
place_found a b (x ∷ rest) begins = rw begins refl

-- a place that is counted from a later byte
abbrev pub from_place : ℕ → Option ℕ → Option ℕ
from_place at found = option_map (λ place. at + place) found

-- a byte at which the mark doesn't stand is passed over
pub place_passed : (a b x at : ℕ) (rest : List ℕ) → begins_with a b (x ∷ rest) ≡ false → from_place at (place_of a b (x ∷ rest)) ≡ from_place (at + 1) (place_of a b rest)
place_passed a b x at rest begins = rw begins (later (place_of a b rest))
  where
    later : (found : Option ℕ) → option_map (λ place. at + place) (option_map suc found) ≡ option_map (λ place. at + 1 + place) found
    later None = refl
    later (Some place) = ap Some (omega arith)
