-- How a line of a script is taken apart (this project's own).
use Rattle.std.specs.Prelude.{ℕ, ◌+◌, Bool, ◌&&◌, ◌==◌, List, length, take, drop, slice_index, nat_eq, Option, Some, None, if◌then◌else◌}
use Rattle.std.specs.List.{prefix_len, starts_with}
use Rattle.doll_text.specs.Bytes.{is_of}
use Rattle.doll_text.specs.declared.bytes.ByteKind.TheVariants as kind
use Rattle.doll_text.specs.declared.bytes.TheConstants.{SLASH}
use Rattle.doll_script.specs.declared.pieces.TheConstants.{BLANK}

-- what stands behind a text's front
abbrev pub behind : List ℕ → List ℕ → Option (List ℕ)
behind front text = if starts_with nat_eq text front then Some (drop (length front) text) else None

-- how many bytes stand before the first space, or in all where there is none
abbrev pub word_len : List ℕ → ℕ
word_len text = prefix_len (is_of (kind.Other BLANK)) text

-- these bytes
abbrev pub word : List ℕ → List ℕ
word text = take (word_len text) text

-- the text behind the first space, where there is one
abbrev pub behind_word : List ℕ → Option (List ℕ)
behind_word text = if word_len text == length text then None else Some (drop (word_len text + 1) text)

-- a path begins with a slash and has no space
abbrev pub is_path : List ℕ → Bool
is_path text = slice_index text 0 == SLASH && word_len text == length text
