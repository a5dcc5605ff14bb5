-- The last line of bytes, found from the front on.
use Rattle.std.proofs.Common.{◌≡◌, ◌||◌, ℕ, List, [], ◌∷◌, Bool, true, false, if◌then◌else◌, refl}
use Rattle.std.specs.List.{list_any}
use Rattle.doll_excerpt.specs.Places.{is_line_end, last_line}

-- the last line, where one begins with `line` before the rest
abbrev pub line_with : List ℕ → List ℕ → List ℕ
line_with line rest = if list_any is_line_end rest then last_line rest else line

begins : (here later : Bool) (a b c : List ℕ) → (if here || later then (if later then a else if here then b else c) else c) ≡ (if later then a else if here then b else c)
begins true true a b c = refl
begins true false a b c = refl
begins false true a b c = refl
begins false false a b c = refl

-- at the beginning all are left
pub all_are_left : (bytes : List ℕ) → line_with bytes bytes ≡ last_line bytes
all_are_left [] = refl
all_are_left (byte ∷ more) = begins (is_line_end byte) (list_any is_line_end more) (last_line more) more (byte ∷ more)

passes : (here later : Bool) (a b c d : List ℕ) → (if here || later then (if later then a else if here then b else c) else d) ≡ (if later then a else if here then b else d)
passes true true a b c d = refl
passes true false a b c d = refl
passes false true a b c d = refl
passes false false a b c d = refl

-- a byte is passed
pub one_less : (line more : List ℕ) (byte : ℕ) → line_with line (byte ∷ more) ≡ line_with (if is_line_end byte then more else line) more
one_less line more byte = passes (is_line_end byte) (list_any is_line_end more) (last_line more) more (byte ∷ more) line
