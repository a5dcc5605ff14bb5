-- What a schema and its models have under a name or a number (this project's own).
use Rattle.std.specs.Prelude.{ℕ, List, ◌++◌, codes, bytes_eq, position, slice_get, Option, option_and_then}
use Rattle.doll_schema.specs.declared.model.Attribute.{Attribute}
use Rattle.doll_schema.specs.declared.model.BelongsTo.{BelongsTo}
use Rattle.doll_schema.specs.declared.model.HasMany.{HasMany}
use Rattle.doll_schema.specs.declared.model.Model.{Model}
use Rattle.doll_schema.specs.Models.{ModelList}

-- the number of the model with this name
abbrev pub model_named : ModelList → List ℕ → Option ℕ
model_named schema name = position (λ (m : Model). bytes_eq m.name name) schema.models

-- an association of a model to children, by the numbers of both
abbrev pub many_of : ModelList → ℕ → ℕ → Option HasMany
many_of schema model place = option_and_then (λ (m : Model). slice_get m.has_many place) (slice_get schema.models model)

-- the name of the foreign key of an association with this name
abbrev pub key_name : List ℕ → List ℕ
key_name association = association ++ codes "_id"

-- the place of the attribute, the foreign key, the association to a parent or the one to children with this name
abbrev pub attribute_named : Model → List ℕ → Option ℕ
attribute_named model name = position (λ (a : Attribute). bytes_eq a.name name) model.attributes

abbrev pub key_named : Model → List ℕ → Option ℕ
key_named model name = position (λ (b : BelongsTo). bytes_eq (key_name b.name) name) model.belongs_to

abbrev pub parent_named : Model → List ℕ → Option ℕ
parent_named model name = position (λ (b : BelongsTo). bytes_eq b.name name) model.belongs_to

abbrev pub many_named : Model → List ℕ → Option ℕ
many_named model name = position (λ (h : HasMany). bytes_eq h.name name) model.has_many
