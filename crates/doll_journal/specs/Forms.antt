-- The changes that a JSON value is.
use Rattle.std.specs.Prelude.{ℕ, ◌^◌, List, [], ◌∷◌, length, nat_le, nat_lt, Option, Some, None, is_some, option_and_then, option_map, codes, if◌then◌else◌}
use Rattle.serde_json.specs.Data.{Data, null, boolean, number, string, array, object, Items, no_items, item, Members, no_members, member}
use Rattle.serde_json.specs.Events.{members_len}
use Rattle.serde_json.specs.Find.{as_i64, get}
use Rattle.doll_schema.specs.declared.value.Value.{Value}
use Rattle.doll_schema.specs.declared.value.Value.TheVariants as values
use Rattle.doll_schema.specs.Json.{has_only, object_at, text_at, whole_at}
use Rattle.doll_journal.specs.declared.forms.TheConstants.{LONGEST_TEXT, MOST_VALUES}
use Rattle.doll_journal.specs.declared.change.Change.{Change}
use Rattle.doll_journal.specs.declared.change.Change.TheVariants as changes

-- a text that isn't too long for a change
abbrev pub short_text : List ℕ → Option (List ℕ)
short_text text = if nat_le (length text) LONGEST_TEXT then Some text else None

-- a value that an attribute may get: null, a truth value, a whole number of 64 bits, or a short text
abbrev pub value_in : Data → Option Value
value_in null = Some values.Nil
value_in (boolean b) = Some (values.Bool b)
value_in (number n) = option_map values.Int (as_i64 n)
value_in (string s) = option_map values.Text (short_text s)
value_in (array ds) = None
value_in (object ms) = None

-- a name with its value
abbrev pub pair_in : List ℕ → Data → Option (List ℕ × Value)
pair_in name d = option_and_then (λ n. option_map (λ v. (n, v)) (value_in d)) (short_text name)

-- a value before others
abbrev pub with_first : {X : Type 0} → Option X → Option (List X) → Option (List X)
with_first first others = option_and_then (λ x. option_map (λ xs. x ∷ xs) others) first

-- the members as names with values, in ascending order of the names
abbrev pub pairs_in : Members → Option (List (List ℕ × Value))
pairs_in no_members = Some []
pairs_in (member name d ms) = with_first (pair_in name d) (pairs_in ms)

-- names with values, of which there are not too many
abbrev pub given_in : Members → Option (List (List ℕ × Value))
given_in ms = if nat_le (members_len ms) MOST_VALUES then pairs_in ms else None

-- what stands under `values`
abbrev pub given_at : Data → Option (List (List ℕ × Value))
given_at d = option_and_then given_in (object_at (codes "values") d)

-- an id of a record
abbrev pub id_at : Data → Option ℕ
id_at d = option_and_then (λ n. if nat_lt n (2 ^ 32) then Some n else None) (whole_at (codes "id") d)

-- the name of a model
abbrev pub model_at : List ℕ → Data → Option (List ℕ)
model_at key d = option_and_then short_text (text_at key d)

-- the four forms, each with exactly its keys
abbrev pub create_in : Data → Option Change
create_in d =
    if has_only (codes "create" ∷ codes "values" ∷ []) d
    then option_and_then (λ m. option_map (λ vs. changes.Create m vs) (given_at d)) (model_at (codes "create") d)
    else None

abbrev pub update_in : Data → Option Change
update_in d =
    if has_only (codes "update" ∷ codes "id" ∷ codes "values" ∷ []) d
    then option_and_then (λ m. option_and_then (λ id. option_map (λ vs. changes.Update m id vs) (given_at d)) (id_at d)) (model_at (codes "update") d)
    else None

abbrev pub destroy_in : Data → Option Change
destroy_in d =
    if has_only (codes "destroy" ∷ codes "id" ∷ []) d
    then option_and_then (λ m. option_map (λ id. changes.Destroy m id) (id_at d)) (model_at (codes "destroy") d)
    else None

abbrev pub touch_in : Data → Option Change
touch_in d =
    if has_only (codes "touch" ∷ codes "id" ∷ []) d
    then option_and_then (λ m. option_map (λ id. changes.Touch m id) (id_at d)) (model_at (codes "touch") d)
    else None

-- a change, by the key that tells its form (this project's own)
abbrev pub change_in : Data → Option Change
change_in d =
    if is_some (get (codes "create") d) then create_in d
    else if is_some (get (codes "update") d) then update_in d
    else if is_some (get (codes "destroy") d) then destroy_in d
    else touch_in d

abbrev pub list_in : Items → Option (List Change)
list_in no_items = Some []
list_in (item d ds) = with_first (change_in d) (list_in ds)

-- an array of changes
abbrev pub changes_in : Data → Option (List Change)
changes_in null = None
changes_in (boolean b) = None
changes_in (number n) = None
changes_in (string s) = None
changes_in (array ds) = list_in ds
changes_in (object ms) = None
