-- How a text is written into a page of HTML.
use Rattle.std.specs.Prelude.{ℕ, ◌==◌, List, [], ◌∷◌, Option, Some, None, unwrap_or, codes, if◌then◌else◌}
use Rattle.std.specs.List.{flat_map}

-- the character reference that stands for a byte that HTML reads as markup (HTML's names, and the number of the apostrophe)
abbrev pub reference : ℕ → Option (List ℕ)
reference byte =
    if byte == 38 then Some (codes "&amp;")
    else if byte == 60 then Some (codes "&lt;")
    else if byte == 62 then Some (codes "&gt;")
    else if byte == 34 then Some (codes "&quot;")
    else if byte == 39 then Some (codes "&#39;")
    else None

-- a byte, or what stands for it
abbrev pub escaped_byte : ℕ → List ℕ
escaped_byte byte = unwrap_or (reference byte) (byte ∷ [])

-- the text with `& < > " '` as references
abbrev pub escaped : List ℕ → List ℕ
escaped = flat_map escaped_byte
