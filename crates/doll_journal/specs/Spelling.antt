-- The bytes of a commit. Numbers stand with their highest byte first; a text is four bytes of length and its bytes.
use Rattle.std.specs.Prelude.{ℕ, List, [], ◌∷◌, ◌++◌, length, true, false}
use Rattle.std.specs.List.{flat_map}
use Rattle.std.specs.Int.{w32, w64, to_be_bytes, cast_unsigned}
use Rattle.doll_schema.specs.declared.value.Value.{Value}
use Rattle.doll_schema.specs.declared.value.Value.TheVariants.{Nil, Bool, Int, Text}
use Rattle.doll_journal.specs.declared.tags.TheConstants.{NIL_TAG, FALSE_TAG, TRUE_TAG, NUMBER_TAG, TEXT_TAG, CREATE_TAG, UPDATE_TAG, DESTROY_TAG, TOUCH_TAG}
use Rattle.doll_journal.specs.declared.change.Change.{Change}
use Rattle.doll_journal.specs.declared.change.Change.TheVariants.{Create, Update, Destroy, Touch}
use Rattle.doll_journal.specs.declared.change.Commit.{Commit}

-- a text behind its length
abbrev pub text_bytes : List ℕ → List ℕ
text_bytes text = to_be_bytes w32 (length text) ++ text

-- a value behind its tag; a whole number in two's complement
abbrev pub value_bytes : Value → List ℕ
value_bytes Nil = NIL_TAG ∷ []
value_bytes (Bool false) = FALSE_TAG ∷ []
value_bytes (Bool true) = TRUE_TAG ∷ []
value_bytes (Int z) = NUMBER_TAG ∷ to_be_bytes w64 (cast_unsigned w64 z)
value_bytes (Text text) = TEXT_TAG ∷ text_bytes text

-- a name and its value
abbrev pub pair_bytes : List ℕ × Value → List ℕ
pair_bytes pair = text_bytes pair.0 ++ value_bytes pair.1

-- names with values behind their count
abbrev pub given_bytes : List (List ℕ × Value) → List ℕ
given_bytes given = to_be_bytes w32 (length given) ++ flat_map pair_bytes given

-- a change behind its tag
abbrev pub change_bytes : Change → List ℕ
change_bytes (Create model given) = CREATE_TAG ∷ (text_bytes model ++ given_bytes given)
change_bytes (Update model id given) = UPDATE_TAG ∷ (text_bytes model ++ (to_be_bytes w32 id ++ given_bytes given))
change_bytes (Destroy model id) = DESTROY_TAG ∷ (text_bytes model ++ to_be_bytes w32 id)
change_bytes (Touch model id) = TOUCH_TAG ∷ (text_bytes model ++ to_be_bytes w32 id)

-- changes behind their count
abbrev pub changes_bytes : List Change → List ℕ
changes_bytes changes = to_be_bytes w32 (length changes) ++ flat_map change_bytes changes

-- the one spelling of a commit (this project's own)
abbrev pub spelling : Commit → List ℕ
spelling c = to_be_bytes w32 c.author ++ (to_be_bytes w64 c.serial ++ (to_be_bytes w64 c.moment ++ changes_bytes c.changes))
