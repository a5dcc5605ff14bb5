-- The commit that bytes are, field by field.
use Rattle.std.specs.Prelude.{ℕ, ◌==◌, List, [], ◌∷◌, length, true, false, nat_le, Result, Ok}
use Rattle.std.specs.Int.{w32, w64, cast_signed}
use Rattle.doll_schema.specs.declared.value.Value.{Value}
use Rattle.doll_schema.specs.declared.value.Value.TheVariants as values
use Rattle.doll_text.specs.Steps.{◌>>=◌, ◌>>◌, check}
use Rattle.doll_journal.specs.declared.lengths.TheConstants.{MOST_BYTES}
use Rattle.doll_journal.specs.declared.tags.TheConstants.{NIL_TAG, FALSE_TAG, TRUE_TAG, NUMBER_TAG, TEXT_TAG, CREATE_TAG, UPDATE_TAG, DESTROY_TAG, TOUCH_TAG}
use Rattle.doll_journal.specs.declared.change.Change.{Change}
use Rattle.doll_journal.specs.declared.change.Change.TheVariants as changes
use Rattle.doll_journal.specs.declared.change.Commit.{Commit}
use Rattle.doll_journal.specs.declared.fault.JournalFault.{JournalFault}
use Rattle.doll_journal.specs.declared.fault.JournalFault.TheVariants.{TooLarge, Trailing}
use Rattle.doll_journal.specs.Fields.{offset, Field, number_field, text_field, nothing, made_by, two, counted, Cases, tagged}

-- a value by its tag; a whole number in two's complement
abbrev pub value_cases : ℕ → Cases Value
value_cases total =
    (NIL_TAG, nothing values.Nil)
    ∷ (FALSE_TAG, nothing (values.Bool false))
    ∷ (TRUE_TAG, nothing (values.Bool true))
    ∷ (NUMBER_TAG, made_by (λ n. values.Int (cast_signed w64 n)) (number_field w64 total))
    ∷ (TEXT_TAG, made_by values.Text (text_field total))
    ∷ []

unfoldable pub value_field : ℕ → List ℕ → Field Value
value_field total = tagged total (value_cases total)

-- a name and its value
unfoldable pub pair_field : ℕ → List ℕ → Field (List ℕ × Value)
pair_field total = two (text_field total) (value_field total)

-- names with values behind their count
unfoldable pub given_field : ℕ → List ℕ → Field (List (List ℕ × Value))
given_field total = counted total (pair_field total)

-- a model and what it is given
unfoldable pub create_field : ℕ → List ℕ → Field Change
create_field total = made_by (λ x. changes.Create x.0 x.1) (two (text_field total) (given_field total))

-- a model, an id and what it is given
unfoldable pub update_field : ℕ → List ℕ → Field Change
update_field total = made_by (λ x. changes.Update x.0 x.1.0 x.1.1) (two (text_field total) (two (number_field w32 total) (given_field total)))

-- a model and an id
unfoldable pub model_id_field : ℕ → List ℕ → Field (List ℕ × ℕ)
model_id_field total = two (text_field total) (number_field w32 total)

-- a change by its tag
abbrev pub change_cases : ℕ → Cases Change
change_cases total =
    (CREATE_TAG, create_field total)
    ∷ (UPDATE_TAG, update_field total)
    ∷ (DESTROY_TAG, made_by (λ m. changes.Destroy m.0 m.1) (model_id_field total))
    ∷ (TOUCH_TAG, made_by (λ m. changes.Touch m.0 m.1) (model_id_field total))
    ∷ []

unfoldable pub change_field : ℕ → List ℕ → Field Change
change_field total = tagged total (change_cases total)

-- changes behind their count
unfoldable pub changes_field : ℕ → List ℕ → Field (List Change)
changes_field total = counted total (change_field total)

-- the author, the serial number, the moment and the changes
unfoldable pub commit_field : ℕ → List ℕ → Field Commit
commit_field total =
    made_by (λ x. record { author = x.0; serial = x.1.0; moment = x.1.1.0; changes = x.1.1.1 })
    (two (number_field w32 total) (two (number_field w64 total) (two (number_field w64 total) (changes_field total))))

-- all of the bytes as a commit, of which there are not too many
unfoldable pub commit_in : List ℕ → Result Commit JournalFault
commit_in bytes = do
  check (nat_le (length bytes) MOST_BYTES) (TooLarge MOST_BYTES)
  commit ← commit_field (length bytes) bytes
  check (length commit.1 == 0) (Trailing (offset (length bytes) commit.1))
  Ok commit.0
