-- The names of partials, as templates write them, and the comments that name one (this project's own).
use Rattle.std.specs.Prelude.{ℕ, nat_le, Bool, ◌&&◌, ◌==◌, List, length, drop, Option, None, Some, if◌then◌else◌, codes}
use Rattle.std.specs.List.{list_all, take_while, prefix_len, starts_with}
use Rattle.doll_text.specs.declared.bytes.ByteKind.TheVariants as kind
use Rattle.doll_text.specs.Bytes.{is_of, is_space}
use Rattle.doll_text.specs.Segments.{segments, are_words}
use Rattle.doll_erb.specs.declared.partial.TheConstants.{LONGEST_PARTIAL, MOST_SEGMENTS}

-- 1 to 8 words joined by `/`, of at most 190 bytes: with `_` and `.html.erb` they have room in a file's name
unfoldable pub is_partial : List ℕ → Bool
is_partial name = nat_le (length name) LONGEST_PARTIAL && nat_le (length (segments name)) MOST_SEGMENTS && are_words name

-- the bytes without the white space at their front
abbrev pub skip_white : List ℕ → List ℕ
skip_white bytes = drop (prefix_len is_space bytes) bytes

-- the partial's name at the front, if nothing but white space follows it
abbrev pub only_name : List ℕ → Option (List ℕ)
only_name bytes =
    let name = take_while (is_of kind.Ink) bytes in
    if is_partial name && list_all is_space (drop (prefix_len (is_of kind.Ink) bytes) bytes) then Some name else None

-- what goes before the name in a comment
abbrev pub announcement : List ℕ
announcement = codes "Template Dependency: "

-- the name behind what announces it
abbrev pub announced : List ℕ → Option (List ℕ)
announced bytes = if starts_with (λ a b. a == b) bytes announcement then only_name (drop (length announcement) bytes) else None

-- the partial that a comment names: `Template Dependency: ` and directly its name, with white space allowed before the first and behind the second only
unfoldable pub dependency_of : List ℕ → Option (List ℕ)
dependency_of content = announced (skip_white content)
