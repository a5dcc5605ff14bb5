-- Bytes that are JSON.
use Rattle.std.proofs.Common.{◌≡◌, ℕ, Bool, true, false, cond, List, None, Some, refl}
use Rattle.std.specs.Str.{IsUtf8, is_utf8}
use Rattle.std.proofs.lemmas.Str.{IsUtf8-from_is_utf8, is_utf8-from_IsUtf8}
use Rattle.serde_json.specs.Data.{Data}
use Rattle.serde_json.specs.Read.{read}
use Rattle.doll_script.specs.Lines.{json_of}

-- text that reads as JSON
pub json_read : (bytes : List ℕ) (d : Data) → IsUtf8 bytes → read bytes ≡ Some d → json_of bytes ≡ Some d
json_read bytes d text is = rw (is_utf8-from_IsUtf8 bytes text) is

-- what is no text, or doesn't read
pub json_none : (bytes : List ℕ) → (IsUtf8 bytes → read bytes ≡ None) → json_of bytes ≡ None
json_none bytes none = by_test (is_utf8 bytes) refl
  where
    by_test : (text : Bool) → is_utf8 bytes ≡ text → cond text (read bytes) None ≡ None
    by_test true is = none (IsUtf8-from_is_utf8 bytes is)
    by_test false is = refl
