-- Fields of bytes, read from left to right, with the first fault that is met and where it stands; and fields made of others.
use Rattle.std.specs.Prelude.{ℕ, zero, suc, ◌-◌, ◌==◌, List, [], ◌∷◌, length, take, drop, nat_le, Result, Ok, Err, if◌then◌else◌}
use Rattle.std.specs.Int.{Width, w32, byte_len, from_be_bytes}
use Rattle.std.specs.Str.{is_utf8}
use Rattle.doll_text.specs.Steps.{◌>>=◌, ◌>>◌, check}
use Rattle.doll_journal.specs.declared.fault.JournalFault.{JournalFault}
use Rattle.doll_journal.specs.declared.fault.JournalFault.TheVariants.{Truncated, BadTag, BadText}

-- where the rest of so many bytes begins
abbrev pub offset : ℕ → List ℕ → ℕ
offset total rest = total - length rest

-- a field and the bytes after it, or the first fault
abbrev pub Field : Type 0 → Type 0
Field X = Result (X × List ℕ) JournalFault

-- a byte
abbrev pub byte_field : ℕ → List ℕ → Field ℕ
byte_field total [] = Err (Truncated (offset total []))
byte_field total (b ∷ rest) = Ok (b, rest)

-- a number of this width
abbrev pub number_field : Width → ℕ → List ℕ → Field ℕ
number_field w total bytes = do
  check (nat_le (byte_len w) (length bytes)) (Truncated (offset total bytes))
  Ok (from_be_bytes w (take (byte_len w) bytes), drop (byte_len w) bytes)

-- a text behind its length
unfoldable pub text_field : ℕ → List ℕ → Field (List ℕ)
text_field total bytes = do
  n ← number_field w32 total bytes
  check (nat_le n.0 (length n.1)) (Truncated (offset total n.1))
  check (is_utf8 (take n.0 n.1)) (BadText (offset total n.1))
  Ok (take n.0 n.1, drop n.0 n.1)

-- a value that has no bytes of its own
abbrev pub nothing : {X : Type 0} → X → List ℕ → Field X
nothing x bytes = Ok (x, bytes)

-- a value that is made of a field's
abbrev pub made_by : {A X : Type 0} → (A → X) → (List ℕ → Field A) → List ℕ → Field X
made_by make field bytes = field bytes >>= λ a. Ok (make a.0, a.1)

-- a field and the one behind it
abbrev pub two : {A B : Type 0} → (List ℕ → Field A) → (List ℕ → Field B) → List ℕ → Field (A × B)
two first second bytes = do
  a ← first bytes
  b ← second a.1
  Ok ((a.0, b.0), b.1)

-- so many fields of one sort, one behind the other
unfoldable pub repeated : {X : Type 0} → (List ℕ → Field X) → ℕ → List ℕ → Field (List X)
repeated one zero bytes = Ok ([], bytes)
repeated one (suc n) bytes = do
  first ← one bytes
  others ← repeated one n first.1
  Ok (first.0 ∷ others.0, others.1)

-- fields of one sort behind their count
abbrev pub counted : {X : Type 0} → ℕ → (List ℕ → Field X) → List ℕ → Field (List X)
counted total one bytes = do
  n ← number_field w32 total bytes
  repeated one n.0 n.1

-- fields by their tags
abbrev pub Cases : Type 0 → Type 0
Cases X = List (ℕ × (List ℕ → Field X))

-- the field behind this tag, which stands at a place
abbrev pub field_behind : {X : Type 0} → Cases X → ℕ → ℕ → List ℕ → Field X
field_behind [] at tag bytes = Err (BadTag at)
field_behind (one ∷ others) at tag bytes = if tag == one.0 then one.1 bytes else field_behind others at tag bytes

-- a tag and the field behind it
abbrev pub tagged : {X : Type 0} → ℕ → Cases X → List ℕ → Field X
tagged total cases bytes = do
  tag ← byte_field total bytes
  field_behind cases (offset total bytes) tag.0 tag.1
