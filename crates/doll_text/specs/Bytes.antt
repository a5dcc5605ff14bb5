-- Kinds of bytes (this project's own).
use Rattle.std.specs.Prelude.{ℕ, Bool, not, ◌&&◌, ◌||◌, ◌==◌, nat_le}
use Rattle.std.specs.Char.{is_ascii_digit}
use Rattle.doll_text.specs.declared.bytes.ByteKind.{ByteKind}
use Rattle.doll_text.specs.declared.bytes.ByteKind.TheVariants as kind

-- a lower-case letter
abbrev pub is_lower : ℕ → Bool
is_lower b = nat_le 97 b && nat_le b 122

-- a lower-case letter, a digit or `_`
abbrev pub is_word_byte : ℕ → Bool
is_word_byte b = is_lower b || is_ascii_digit b || b == 95

-- white space: space, tab, `\r` and `\n`
abbrev pub is_space : ℕ → Bool
is_space b = b == 32 || b == 9 || b == 13 || b == 10

-- the bytes of a kind
abbrev pub is_of : ByteKind → ℕ → Bool
is_of kind.Word = is_word_byte
is_of kind.Digit = is_ascii_digit
is_of kind.Space = is_space
is_of kind.Ink = λ b. not (is_space b)
is_of (kind.Other limit) = λ b. not (b == limit)
