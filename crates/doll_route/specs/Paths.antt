-- The paths of routes and of requests (this project's own).
use Rattle.std.specs.Prelude.{ℕ, ◌+◌, ◌-◌, ◌*◌, Bool, not, ◌&&◌, ◌||◌, ◌==◌, nat_le, nat_lt, nat_eq, List, ◌∷◌, [], length, take, drop, slice_index, fold, codes, bytes_eq, Option, Some, None, is_some, option_map, if◌then◌else◌}
use Rattle.std.specs.List.{list_all, list_any, starts_with, ends_with, before_first, after_first}
use Rattle.std.specs.Char.{is_ascii_digit}
use Rattle.doll_text.specs.Segments.{are_words}
use Rattle.doll_text.specs.declared.bytes.TheConstants.{SLASH}
use Rattle.doll_route.specs.declared.path.TheConstants.{LONGEST_PATH, GREATEST_ID, ZERO}

-- one or more segments, each a slash and a word
abbrev pub is_literal_path : List ℕ → Bool
is_literal_path path = slice_index path 0 == SLASH && are_words (drop 1 path)

-- what stands before the id of a path that ends in `/:id`: literal segments and a slash
abbrev pub before_id : List ℕ → Option (List ℕ)
before_id path = if ends_with nat_eq path (codes "/:id") then Some (take (length path - 3) path) else None

abbrev pub names_id : List ℕ → Bool
names_id path = is_some (before_id path)

-- the path without `/:id` at its end
abbrev pub literal_part : List ℕ → List ℕ
literal_part path = if ends_with nat_eq path (codes "/:id") then take (length path - 4) path else path

-- A path of a route: a slash alone, or literal segments that `/:id` may follow, in at most 200 bytes.
unfoldable pub is_path : List ℕ → Bool
is_path path = nat_le (length path) LONGEST_PATH && (bytes_eq path (codes "/") || is_literal_path (literal_part path))

-- the paths under which the site itself answers
abbrev pub reserved_paths : List (List ℕ)
reserved_paths = codes "/commit" ∷ codes "/deploy" ∷ codes "/journal" ∷ []

abbrev pub is_reserved_path : List ℕ → Bool
is_reserved_path path = list_any (bytes_eq path) reserved_paths

-- the number that decimal digits say, behind a number already read
abbrev pub digits_from : ℕ → List ℕ → ℕ
digits_from = fold (λ number digit. 10 * number + (digit - 48))

-- an id in a path: a decimal number from 1 to 4,294,967,295 without a zero before it
abbrev pub id_of : List ℕ → Option ℕ
id_of digits =
    if nat_le (digits_from 0 digits) GREATEST_ID && not (slice_index digits 0 == ZERO) && nat_lt 0 (length digits) && list_all is_ascii_digit digits
    then Some (digits_from 0 digits)
    else None

-- the id with which a path goes on behind these bytes
abbrev pub id_behind : List ℕ → List ℕ → Option ℕ
id_behind front path = if starts_with nat_eq path front then id_of (drop (length front) path) else None

-- The id, where there is one, with which a path asks for a route with the path `own`; nothing where it doesn't ask for it. The literal
-- segments are equal, and the segment for `:id` is an id.
abbrev pub requested_behind : Option (List ℕ) → List ℕ → List ℕ → Option (Option ℕ)
requested_behind (Some front) own path = option_map Some (id_behind front path)
requested_behind None own path = if bytes_eq path own then Some None else None

abbrev pub requested : List ℕ → List ℕ → Option (Option ℕ)
requested own path = requested_behind (before_id own) own path

-- the path of a request's target, and its query, which stand before and behind its first question mark
abbrev pub is_question : ℕ → Bool
is_question byte = byte == 63

abbrev pub path_of : List ℕ → List ℕ
path_of target = before_first is_question target

abbrev pub query_of : List ℕ → List ℕ
query_of target = after_first is_question target
