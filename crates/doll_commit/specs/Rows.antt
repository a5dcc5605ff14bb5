-- The rows that creations and updates leave (this project's own).
use Rattle.std.specs.Prelude.{ℕ, Bool, true, false, not, ◌&&◌, ◌||◌, map, zip, Option, None, is_none}
use Rattle.std.specs.List.{list_any}
use Rattle.std.specs.Option.{option_map_or}
use Rattle.doll_schema.specs.declared.model.Attribute.{Attribute}
use Rattle.doll_schema.specs.declared.model.BelongsTo.{BelongsTo}
use Rattle.doll_schema.specs.declared.model.Model.{Model}
use Rattle.doll_schema.specs.declared.value.Value.{Value}
use Rattle.doll_schema.specs.declared.value.Value.TheVariants as value
use Rattle.doll_schema.specs.declared.value.Row.{Row}
use Rattle.doll_schema.specs.Lookups.{key_name}
use Rattle.doll_commit.specs.Given.{Given, value_given, key_of}

-- a row before its creation: all nil
abbrev pub blank_row : Model → Row
blank_row model = record {
  values = map (λ (a : Attribute). value.Nil) model.attributes;
  parents = map (λ (b : BelongsTo). None) model.belongs_to;
  updated_at = 0;
}

-- the value of an attribute: the one given, else the old one
abbrev pub value_after : Given → Attribute × Value → Value
value_after given pair = option_map_or (λ v. v) (value_given given pair.0.name) pair.1

-- a foreign key: the one given, else the old one
abbrev pub key_after : Given → BelongsTo × Option ℕ → Option ℕ
key_after given pair = option_map_or key_of (value_given given (key_name pair.0.name)) pair.1

-- a row with the values given
abbrev pub row_after : Model → Given → Row → Row
row_after model given old = record old {
  values = map (value_after given) (zip model.attributes old.values);
  parents = map (key_after given) (zip model.belongs_to old.parents);
}

abbrev pub is_nil : Value → Bool
is_nil value.Nil = true
is_nil other = false

-- an attribute or an association to a parent may not be nil, and is
abbrev pub lacks_value : Attribute × Value → Bool
lacks_value pair = not pair.0.null && is_nil pair.1

abbrev pub lacks_parent : BelongsTo × Option ℕ → Bool
lacks_parent pair = not pair.0.null && is_none pair.1

abbrev pub lacks : Model → Row → Bool
lacks model row = list_any lacks_value (zip model.attributes row.values) || list_any lacks_parent (zip model.belongs_to row.parents)
