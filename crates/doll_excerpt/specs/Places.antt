-- The line and the column of a byte in a text, as editors count them (this project's own).
use Rattle.std.specs.Prelude.{ℕ, ◌+◌, ◌==◌, ◌||◌, Bool, List, [], ◌∷◌, nat_lt, take, if◌then◌else◌}
use Rattle.std.specs.List.{list_any}
use Rattle.doll_excerpt.specs.declared.place.Place.{Place}

abbrev pub is_line_end : ℕ → Bool
is_line_end byte = byte == 10

-- the bytes at which a character begins in UTF-8 (RFC 3629): all but the continuation bytes, 128 to 191
abbrev pub begins_character : ℕ → Bool
begins_character byte = nat_lt byte 128 || nat_lt 191 byte

abbrev pub one_if : Bool → ℕ
one_if b = if b then 1 else 0

-- how many bytes are line ends
abbrev pub line_ends : List ℕ → ℕ
line_ends [] = 0
line_ends (byte ∷ more) = one_if (is_line_end byte) + line_ends more

-- how many characters are in bytes
abbrev pub characters : List ℕ → ℕ
characters [] = 0
characters (byte ∷ more) = one_if (begins_character byte) + characters more

-- what stands behind the last line end, all where there is none
abbrev pub last_line : List ℕ → List ℕ
last_line [] = []
last_line (byte ∷ more) = if list_any is_line_end more then last_line more else if is_line_end byte then more else byte ∷ more

-- the column of a byte in a text that is one line, whatever it holds
abbrev pub column_of : List ℕ → ℕ → ℕ
column_of text at = characters (take at text) + 1

-- The place of a byte: its line is one more than the line ends before it, its column one more than the characters from the
-- line's start up to it.
abbrev pub place_of : List ℕ → ℕ → Place
place_of text at = record { line = line_ends (take at text) + 1; column = characters (last_line (take at text)) + 1 }
