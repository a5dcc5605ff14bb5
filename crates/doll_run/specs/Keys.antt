-- The key of a cached block over a table, by its parts (versions beside a key's text are after the recyclable keys of Active Support; the rest is this
-- project's own).
use Rattle.std.specs.Prelude.{ℕ, ◌+◌, ◌^◌, nat_lt, Bool, true, List, [], ◌∷◌, map, slice_get, sum_by, Option, None, Some, Result, Ok}
use Rattle.std.specs.Int.Signed.{mag}
use Rattle.std.specs.List.{flat_map, list_all, slice_index_or}
use Rattle.std.specs.Option.{option_map_or}
use Rattle.doll_schema.specs.declared.model.Model.{Model}
use Rattle.doll_schema.specs.declared.value.Row.{Row}
use Rattle.doll_schema.specs.declared.value.Val.{Val}
use Rattle.doll_schema.specs.declared.value.Val.TheVariants as val
use Rattle.doll_schema.specs.declared.value.Value.{Value}
use Rattle.doll_schema.specs.declared.value.Value.TheVariants as value
use Rattle.doll_schema.specs.Models.{ModelList}
use Rattle.doll_erb.specs.declared.node.KeyPart.{KeyPart}
use Rattle.doll_erb.specs.declared.node.KeyPart.TheVariants as part
use Rattle.doll_table.specs.Tables.{TableMap, row_of}
use Rattle.doll_eval.specs.Values.{looks_of, value_of}
use Rattle.doll_set.specs.Digests.{name_at}
use Rattle.doll_set.specs.Sets.{ReadSet}
use Rattle.doll_set.specs.declared.template.Template.{Template}
use Rattle.doll_plain.specs.Direct.{Variables}
use Rattle.doll_types.specs.declared.types.TypeKind.{TypeKind}
use Rattle.doll_types.specs.declared.types.ValueType.{ValueType}
use Rattle.doll_types.specs.declared.types.ValueType.TheVariants as type
use Rattle.doll_types.specs.Types.{Typing, type_of}
use Rattle.doll_key.specs.declared.components.Component.{Component}
use Rattle.doll_key.specs.declared.components.Component.TheVariants as component
use Rattle.doll_key.specs.declared.parts.KeyParts.{KeyParts}
use Rattle.doll_key.specs.Keys.{key_prefix, key_text}
use Rattle.doll_run.specs.Rendering.{Keyed}

-- ---- parts

-- the plural of the model with a number, nothing where there is none
abbrev pub plural_of : ModelList → ℕ → List ℕ
plural_of schema model = option_map_or (λ (m : Model). m.plural) (slice_get schema.models model) []

-- the id of a record; nil has none
abbrev pub id_of : Val → Option ℕ
id_of (val.Record model id) = Some id
id_of other = None

-- the value that is no record and no list
abbrev pub single_of : Val → Value
single_of (val.Plain v) = v
single_of other = value.Nil

-- the moment of a record's last change; 0 for nil, and for a record that isn't in the table
abbrev pub version_of : TableMap → Val → ℕ
version_of table (val.Record model id) = option_map_or (λ (row : Row). row.updated_at) (row_of table model id) 0
version_of table other = 0

-- a record is looked at for its version
abbrev pub version_looks : Val → ℕ
version_looks (val.Record model id) = 1
version_looks other = 0

-- a value in a key, by the type of the part: a record of its model, also where it is nil, or a single value
abbrev pub component_by : ModelList → Result ValueType TypeKind → Val → Component
component_by schema (Ok (type.Record model)) v = component.Record (plural_of schema model) (id_of v)
component_by schema other v = component.Scalar (single_of v)

-- a record has a version, a single value none
abbrev pub versions_by : TableMap → Result ValueType TypeKind → Val → List ℕ
versions_by table (Ok (type.Record model)) v = version_of table v ∷ []
versions_by table other v = []

abbrev pub looks_by : Result ValueType TypeKind → Val → ℕ
looks_by (Ok (type.Record model)) v = version_looks v
looks_by other v = 0

-- what a part of a key is over a table, where variables have these types and these values
abbrev pub part_component : ModelList → TableMap → Typing → Variables → KeyPart → Component
part_component schema table typing vars (part.Path expr) = component_by schema (type_of schema typing expr) (value_of expr vars schema table)
part_component schema table typing vars (part.Literal text) = component.Literal text

abbrev pub part_versions : ModelList → TableMap → Typing → Variables → KeyPart → List ℕ
part_versions schema table typing vars (part.Path expr) = versions_by table (type_of schema typing expr) (value_of expr vars schema table)
part_versions schema table typing vars (part.Literal text) = []

-- the looks that making a part may take: those of its value, and one for its version
abbrev pub part_looks : ModelList → TableMap → Typing → Variables → KeyPart → ℕ
part_looks schema table typing vars (part.Path expr) =
    looks_of expr vars schema table + looks_by (type_of schema typing expr) (value_of expr vars schema table)
part_looks schema table typing vars (part.Literal text) = 0

-- ---- bounds

-- whether an id has 32 bits
abbrev pub is_id : Option ℕ → Bool
is_id (Some id) = nat_lt id (2 ^ 32)
is_id None = true

-- whether a text is made of bytes
unfoldable pub are_bytes : List ℕ → Bool
are_bytes text = list_all (λ b. nat_lt b 256) text

-- whether a number has 64 bits, or a text is made of bytes
abbrev pub is_value : Value → Bool
is_value value.Nil = true
is_value (value.Bool truth) = true
is_value (value.Int number) = nat_lt (mag number) (2 ^ 63)
is_value (value.Text text) = are_bytes text

-- whether what a part of a key has is as large at most as a key may have it
abbrev pub is_bounded : Component → Bool
is_bounded (component.Record plural id) = is_id id
is_bounded (component.Literal text) = are_bytes text
is_bounded (component.Scalar v) = is_value v

-- ---- keys

-- the digest of the template with a number, nothing where there is none
abbrev pub digest_at : ReadSet → ℕ → List ℕ
digest_at set number = slice_index_or set.digests number []

-- what the key of a block of the template with a number is made of: the path and the digest of the template, and the parts that its tag names, in their order
abbrev pub parts_at : ReadSet → ModelList → TableMap → ℕ → Typing → List KeyPart → Variables → KeyParts
parts_at set schema table number typing key vars = record {
  path = name_at set.templates number;
  digest = digest_at set number;
  components = map (part_component schema table typing vars) key;
}

-- the versions of the records of a key, in their order
abbrev pub versions_at : ModelList → TableMap → Typing → List KeyPart → Variables → List ℕ
versions_at schema table typing key vars = flat_map (part_versions schema table typing vars) key

-- the looks that making a key may take
abbrev pub looks_at : ModelList → TableMap → Typing → List KeyPart → Variables → ℕ
looks_at schema table typing key vars = sum_by (part_looks schema table typing vars) key

-- what stands before the components in the text of a key of the template with a number: its path and its digest; nothing where there is no such template
abbrev pub prefix_at : ReadSet → ℕ → List ℕ
prefix_at set number =
    option_map_or (λ digest. option_map_or (λ (template : Template). key_prefix template.name digest) (slice_get set.templates number) [])
    (slice_get set.digests number) []

-- the text of a key of the template with a number: its path and its digest, then the parts; nothing where there is no such template
abbrev pub text_at : ReadSet → ℕ → List Component → List ℕ
text_at set number components =
    option_map_or
    (λ digest. option_map_or (λ (template : Template). key_text (record { path = template.name; digest = digest; components = components })) (slice_get set.templates number) [])
    (slice_get set.digests number) []

-- The key of a block of a template over a table, by its parts, where variables have these types and these values. It is one where no part is larger than a
-- key may have it: a whole number has 64 bits, for example. Which paths, digests and plurals there are is the site's concern.
unfoldable pub keyed_over : ReadSet → ModelList → TableMap → ℕ → Typing → List KeyPart → Variables → Keyed
keyed_over set schema table number typing key vars = record {
  text = text_at set number (map (part_component schema table typing vars) key);
  versions = versions_at schema table typing key vars;
  looks = looks_at schema table typing key vars;
  is_key = list_all is_bounded (map (part_component schema table typing vars) key);
}
