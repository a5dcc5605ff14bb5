-- Which bytes are a text, and how many members an object has.
use Rattle.std.proofs.Common.{◌≡◌, ℕ, List, length, Bool, true, false, refl, sym}
use Rattle.std.specs.Str.{IsUtf8, is_utf8}
use Rattle.std.proofs.lemmas.Str.{IsUtf8-from_is_utf8, is_utf8-from_IsUtf8}
use Rattle.serde_json.specs.Events.{members_len}
use Rattle.serde_json.specs.View.{members_view}
use Rattle.serde_json.proofs.Views.{Entry, members_len-members_view}

pub is_a_text : (bytes : List ℕ) → IsUtf8 bytes → true ≡ is_utf8 bytes
is_a_text bytes text = sym (is_utf8-from_IsUtf8 bytes text)

told_false : (bytes : List ℕ) (b : Bool) → is_utf8 bytes ≡ b → ¬ (IsUtf8 bytes) → false ≡ b
told_false bytes true is none = absurd (none (IsUtf8-from_is_utf8 bytes is))
told_false bytes false is none = refl

pub is_no_text : (bytes : List ℕ) → ¬ (IsUtf8 bytes) → false ≡ is_utf8 bytes
is_no_text bytes none = told_false bytes (is_utf8 bytes) refl none

pub members_count : (entries : List Entry) → members_len (members_view entries) ≡ length entries
members_count entries = members_len-members_view entries
