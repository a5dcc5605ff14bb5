-- Which commits have a spelling that is read back.
use Rattle.std.specs.Prelude.{◌≡◌, ℕ, ◌+◌, ◌<◌, ◌≤◌, ◌^◌, List, length, FitsSigned, ⊤}
use Rattle.std.specs.Int.{w64}
use Rattle.std.specs.List.{AllByRecursion}
use Rattle.std.specs.Str.{IsUtf8}
use Rattle.doll_schema.specs.declared.value.Value.{Value}
use Rattle.doll_schema.specs.declared.value.Value.TheVariants.{Nil, Bool, Int, Text}
use Rattle.doll_journal.specs.declared.lengths.TheConstants.{MOST_BYTES}
use Rattle.doll_journal.specs.declared.change.Change.{Change}
use Rattle.doll_journal.specs.declared.change.Change.TheVariants.{Create, Update, Destroy, Touch}
use Rattle.doll_journal.specs.declared.change.Commit.{Commit}
use Rattle.doll_journal.specs.Spelling.{changes_bytes, spelling}

-- a whole number has 64 bits, and a text is UTF-8
abbrev pub FitsValue : Value → Type 0
FitsValue Nil = ⊤
FitsValue (Bool b) = ⊤
FitsValue (Int z) = FitsSigned w64 z
FitsValue (Text text) = IsUtf8 text

-- a name is UTF-8 too
abbrev pub FitsPair : List ℕ × Value → Type 0
FitsPair pair = IsUtf8 pair.0 × FitsValue pair.1

-- so is a model's, and an id has 32 bits
abbrev pub FitsChange : Change → Type 0
FitsChange (Create model given) = IsUtf8 model × AllByRecursion FitsPair given
FitsChange (Update model id given) = IsUtf8 model × (id < 2 ^ 32) × AllByRecursion FitsPair given
FitsChange (Destroy model id) = IsUtf8 model × (id < 2 ^ 32)
FitsChange (Touch model id) = IsUtf8 model × (id < 2 ^ 32)

-- changes that a commit may have, whoever makes it: its bytes are not too many, of which 20 stand before the changes
abbrev pub AreStorable : List Change → Type 0
AreStorable changes = AllByRecursion FitsChange changes × (20 + length (changes_bytes changes) ≤ MOST_BYTES)

-- a commit that has a spelling (this project's own)
abbrev pub IsStorable : Commit → Type 0
IsStorable c = (c.author < 2 ^ 32) × (c.serial < 2 ^ 64) × (c.moment < 2 ^ 64) × AreStorable c.changes

-- no two commits are spelled alike
abbrev pub OneSpelling : Type 0
OneSpelling = (c d : Commit) → IsStorable c → IsStorable d → spelling c ≡ spelling d → c ≡ d
