-- What a name after a dot stands for at a record of a model (this project's own).
use Rattle.std.specs.Prelude.{ℕ, List, codes, bytes_eq, if◌then◌else◌}
use Rattle.std.specs.Option.{option_map_or}
use Rattle.doll_schema.specs.declared.model.Model.{Model}
use Rattle.doll_schema.specs.Lookups.{attribute_named, key_named, parent_named, many_named}
use Rattle.doll_eval.specs.declared.member.Member.{Member}
use Rattle.doll_eval.specs.declared.member.Member.TheVariants as member

-- an association to children
abbrev pub children_member : Model → List ℕ → Member
children_member model name = option_map_or member.Children (many_named model name) member.Unknown

-- an association to a parent or to children
abbrev pub association_member : Model → List ℕ → Member
association_member model name = option_map_or member.Parent (parent_named model name) (children_member model name)

-- what every record has, or an association
abbrev pub common_member : Model → List ℕ → Member
common_member model name =
    if bytes_eq name (codes "id") then member.Id
    else if bytes_eq name (codes "updated_at") then member.UpdatedAt
    else association_member model name

-- a foreign key, what every record has, or an association
abbrev pub key_member : Model → List ℕ → Member
key_member model name = option_map_or member.Key (key_named model name) (common_member model name)

-- what a name of a model stands for: an attribute, a foreign key, what every record has, or an association
abbrev pub member_of : Model → List ℕ → Member
member_of model name = option_map_or member.Attribute (attribute_named model name) (key_member model name)
