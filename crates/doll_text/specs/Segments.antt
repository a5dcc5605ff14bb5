-- Texts of segments with slashes between them: paths and the names of partials (this project's own).
use Rattle.std.specs.Prelude.{ℕ, Bool, false, ◌&&◌, ◌||◌, ◌==◌, nat_le, List, [], ◌∷◌, length, drop, slice_index}
use Rattle.std.specs.List.{list_all, slice_split, after_last}
use Rattle.doll_text.specs.declared.bytes.TheConstants.{SLASH}
use Rattle.doll_text.specs.declared.segments.TheConstants.{LONGEST_VIRTUAL_PATH, MOST_SEGMENTS, UNDERSCORE}
use Rattle.doll_text.specs.Names.{is_word}

abbrev pub is_slash : ℕ → Bool
is_slash byte = byte == SLASH

-- what stands between the slashes
abbrev pub segments : List ℕ → List (List ℕ)
segments text = slice_split is_slash text

-- each segment is a word
abbrev pub are_words : List ℕ → Bool
are_words text = list_all is_word (segments text)

-- what stands after the last slash, or all where there is none
unfoldable pub last_segment : List ℕ → List ℕ
last_segment text = after_last is_slash text

-- the last segment of a virtual path: a word, or a word behind an underscore
abbrev pub is_view_name : List ℕ → Bool
is_view_name name = is_word name || (slice_index name 0 == UNDERSCORE && is_word (drop 1 name))

-- words, and a view's name behind them
abbrev pub are_view_segments : List (List ℕ) → Bool
are_view_segments [] = false
are_view_segments (name ∷ []) = is_view_name name
are_view_segments (word ∷ more) = is_word word && are_view_segments more

-- a virtual path: at most eight segments in at most 191 bytes, words but for the last, which is a view's name
unfoldable pub is_virtual_path : List ℕ → Bool
is_virtual_path path =
    are_view_segments (segments path) && nat_le (length (segments path)) MOST_SEGMENTS && nat_le (length path) LONGEST_VIRTUAL_PATH
