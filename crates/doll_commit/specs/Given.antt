-- The values that a change gives to attributes and foreign keys, by their names (this project's own).
use Rattle.std.specs.Prelude.{ℕ, ◌^◌, ℤ, pos, negsuc, nat_lt, Bool, false, ◌||◌, List, [], ◌∷◌, reverse, bytes_eq, is_some, Option, None, Some, if◌then◌else◌}
use Rattle.std.specs.List.{find}
use Rattle.std.specs.Option.{option_map, option_map_or}
use Rattle.doll_schema.specs.declared.model.Attribute.{Attribute}
use Rattle.doll_schema.specs.declared.model.BelongsTo.{BelongsTo}
use Rattle.doll_schema.specs.declared.model.Model.{Model}
use Rattle.doll_schema.specs.declared.value.Value.{Value}
use Rattle.doll_schema.specs.declared.value.Value.TheVariants as value
use Rattle.doll_table.specs.Tables.{TableMap, row_of}
use Rattle.doll_schema.specs.Lookups.{key_name, attribute_named, key_named}
use Rattle.doll_schema.specs.Values.{has_kind}
use Rattle.doll_commit.specs.declared.fault.Why.{Why}
use Rattle.doll_commit.specs.declared.fault.Why.TheVariants as why

-- names with values
abbrev pub Given : Type 0
Given = List (List ℕ × Value)

-- the last value that a name is given, if it is given any
abbrev pub value_given : Given → List ℕ → Option Value
value_given given name = option_map (λ (pair : List ℕ × Value). pair.1) (find (λ (pair : List ℕ × Value). bytes_eq name pair.0) (reverse given))

-- the id that a whole number is; ids have 32 bits
abbrev pub id_of_int : ℤ → Option ℕ
id_of_int (pos n) = if nat_lt n (2 ^ 32) then Some n else None
id_of_int (negsuc n) = None

-- the foreign key that a value is: nil is none
abbrev pub key_of : Value → Option ℕ
key_of (value.Int z) = id_of_int z
key_of other = None

-- what is wrong with a number for a foreign key: no living row of the parent's model has that id
abbrev pub number_fault : TableMap → ℕ → ℤ → Option Why
number_fault table model z = if option_map_or (λ id. is_some (row_of table model id)) (id_of_int z) false then None else Some why.BadParent

-- what is wrong with a value for a foreign key: it is no whole number, or one that is no id
abbrev pub value_fault : TableMap → BelongsTo → Value → Option Why
value_fault table b value.Nil = None
value_fault table b (value.Int z) = number_fault table b.model z
value_fault table b other = Some why.WrongKind

-- what is wrong with a given value for an attribute, and for a foreign key, of its name
abbrev pub attribute_fault : List ℕ × Value → Attribute → Option Why
attribute_fault pair a = if bytes_eq a.name pair.0 then if has_kind a.kind pair.1 then None else Some why.WrongKind else None

abbrev pub key_fault : TableMap → List ℕ × Value → BelongsTo → Option Why
key_fault table pair b = if bytes_eq (key_name b.name) pair.0 then value_fault table b pair.1 else None

-- the first fault, if there is one, else the second
abbrev pub first_of : Option Why → Option Why → Option Why
first_of first second = option_map_or Some first second

-- the first fault among several things
abbrev pub fault_among : {X : Type 0} → (X → Option Why) → List X → Option Why
fault_among fault [] = None
fault_among fault (x ∷ xs) = first_of (fault x) (fault_among fault xs)

-- whether a name is an attribute's or a foreign key's
abbrev pub is_known : Model → List ℕ → Bool
is_known model name = is_some (attribute_named model name) || is_some (key_named model name)

-- what is wrong with a given value: its name is neither an attribute's nor a foreign key's, or it isn't a value for that
abbrev pub pair_fault : TableMap → Model → List ℕ × Value → Option Why
pair_fault table model pair =
    if is_known model pair.0 then first_of (fault_among (attribute_fault pair) model.attributes) (fault_among (key_fault table pair) model.belongs_to)
    else Some why.UnknownAttribute

-- the first fault of the values, in order
abbrev pub given_fault : TableMap → Model → Given → Option Why
given_fault table model = fault_among (pair_fault table model)
