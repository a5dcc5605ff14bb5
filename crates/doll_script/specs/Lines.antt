-- The order of a line of a script (this project's own).
use Rattle.std.specs.Prelude.{ℕ, List, codes, Option, Some, None, option_map, option_and_then, if◌then◌else◌}
use Rattle.std.specs.Str.{bytes_eq, is_utf8}
use Rattle.serde_json.specs.Data.{Data}
use Rattle.serde_json.specs.Read.{read}
use Rattle.doll_journal.specs.Forms.{changes_in}
use Rattle.doll_script.specs.Numbers.{clock_in, number_in, session_in}
use Rattle.doll_script.specs.Pieces.{behind, behind_word, is_path, word}
use Rattle.doll_script.specs.declared.order.Order.{Order}
use Rattle.doll_script.specs.declared.order.Order.TheVariants as order

-- `now`: a number of microseconds
abbrev pub now_in : List ℕ → Option Order
now_in text = option_map order.Now (clock_in text)

-- the JSON value that bytes are, with white space before and behind it or without
abbrev pub json_of : List ℕ → Option Data
json_of bytes = if is_utf8 bytes then read bytes else None

-- `commit`: an array of changes
abbrev pub commit_in : List ℕ → Option Order
commit_in text = option_map order.Commit (option_and_then changes_in (json_of text))

-- what stands behind a path and a space: `seen` and a moment; where nothing stands there, it is 0
abbrev pub seen_behind : Option (List ℕ) → Option ℕ
seen_behind None = Some 0
seen_behind (Some text) = option_and_then number_in (behind (codes "seen ") text)

-- a path, behind which may stand what was seen
abbrev pub start_in : ℕ → List ℕ → Option Order
start_in session text =
    if is_path (word text)
    then option_map (order.Open session (word text)) (seen_behind (behind_word text))
    else None

-- `open`: a session, a space and what it starts with
abbrev pub open_in : List ℕ → Option Order
open_in text = option_and_then (λ session. option_and_then (start_in session) (behind_word text)) (session_in (word text))

-- `turn` and `run`: a session
abbrev pub turn_in : List ℕ → Option Order
turn_in text = option_map order.Turn (session_in text)

abbrev pub run_in : List ℕ → Option Order
run_in text = option_map order.Run (session_in text)

-- `get`: a path
abbrev pub get_in : List ℕ → Option Order
get_in text = if is_path text then Some (order.Get text) else None

-- `expire` alone
abbrev pub expire_in : List ℕ → Option Order
expire_in line = if bytes_eq line (codes "expire") then Some order.Expire else None

-- what is read behind a front, or what the line is otherwise
abbrev pub by_front : Option (List ℕ) → (List ℕ → Option Order) → Option Order → Option Order
by_front (Some rest) reads other = reads rest
by_front None reads other = other

-- the order that a line is, by the word and the space in front of it
unfoldable pub order_in : List ℕ → Option Order
order_in line =
    by_front (behind (codes "now ") line) now_in
    (by_front (behind (codes "commit ") line) commit_in
    (by_front (behind (codes "open ") line) open_in
    (by_front (behind (codes "turn ") line) turn_in
    (by_front (behind (codes "run ") line) run_in
    (by_front (behind (codes "get ") line) get_in
    (expire_in line))))))
