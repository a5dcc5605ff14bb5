-- Which bytes are a text.
use Rattle.std.proofs.Common.{◌≡◌, ℕ, List, Bool, true, false, refl, sym}
use Rattle.std.specs.Str.{IsUtf8, is_utf8}
use Rattle.std.proofs.lemmas.Str.{IsUtf8-from_is_utf8, is_utf8-from_IsUtf8}

pub is_a_text : (bytes : List ℕ) → IsUtf8 bytes → true ≡ is_utf8 bytes
is_a_text bytes text = sym (is_utf8-from_IsUtf8 bytes text)

told_false : (bytes : List ℕ) (b : Bool) → is_utf8 bytes ≡ b → ¬ (IsUtf8 bytes) → false ≡ b
told_false bytes true is none = absurd (none (IsUtf8-from_is_utf8 bytes is))
told_false bytes false is none = refl

pub is_no_text : (bytes : List ℕ) → ¬ (IsUtf8 bytes) → false ≡ is_utf8 bytes
is_no_text bytes none = told_false bytes (is_utf8 bytes) refl none
