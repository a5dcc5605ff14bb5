-- A text that is escaped piece by piece.
use Rattle.std.proofs.Common.{◌≡◌, ℕ, ◌+◌, ◌-◌, ◌<◌, ◌≤◌, List, [], ◌∷◌, ◌++◌, length, get_or, drop, None, refl, sym, ap, ◌∙◌, append_assoc, length-drop, arith}
use Rattle.std.specs.List.{slice_range}
use Rattle.std.proofs.lemmas.List.{take_more, drop_more, get_or-drop}
use Rattle.doll_schema.specs.Escape.{escaped, reference}

-- a piece with the byte after it
grown : (bytes : List ℕ) (from at : ℕ) → from ≤ at → at < length bytes → slice_range bytes from (at + 1) ≡ slice_range bytes from at ++ get_or bytes at 0 ∷ []
grown bytes from at le lt =
    let more : (at + 1) - from ≡ (at - from) + 1 = omega arith in
    let here : from + (at - from) ≡ at = omega arith in
    rw (more, take_more (drop from bytes) (at - from) 0 (omega (arith, length-drop from bytes)), get_or-drop from bytes (at - from) 0, here) refl

-- a byte that stands as it is joins the piece
pub waits : (bytes out whole : List ℕ) (from at : ℕ) → from ≤ at → at < length bytes → reference (get_or bytes at 0) ≡ None
    → (out ++ slice_range bytes from at) ++ escaped (drop at bytes) ≡ whole
    → (out ++ slice_range bytes from (at + 1)) ++ escaped (drop (at + 1) bytes) ≡ whole
waits bytes out whole from at le lt plain so_far =
    let piece = slice_range bytes from at in
    let rest = escaped (drop (at + 1) bytes) in
    let b = get_or bytes at 0 in
    let opened : escaped (drop at bytes) ≡ b ∷ rest = rw (drop_more bytes at 0 lt, plain) refl in
    let left : (out ++ slice_range bytes from (at + 1)) ++ rest ≡ (out ++ (piece ++ b ∷ [])) ++ rest = rw (grown bytes from at le lt) refl in
    let regrouped : (out ++ (piece ++ b ∷ [])) ++ rest ≡ (out ++ piece) ++ b ∷ rest = ap (λ (x : List ℕ). x ++ rest) (sym (append_assoc out piece (b ∷ []))) ∙ append_assoc (out ++ piece) (b ∷ []) rest in
    left ∙ regrouped ∙ ap (λ (x : List ℕ). (out ++ piece) ++ x) (sym opened) ∙ so_far
