-- The text of a key's components (this project's own; a record's is after Rails, the escape is that of the URL Standard).
use Rattle.std.specs.Prelude.{ℕ, List, ◌∷◌, ◌++◌, true, false, Option, Some, None, codes}
use Rattle.std.specs.Fmt.{decimal, signed_decimal}
use Rattle.std.specs.List.{flat_map}
use Rattle.percent_encoding.specs.Percent.{percent_encode}
use Rattle.doll_text.specs.declared.bytes.TheConstants.{SLASH}
use Rattle.doll_schema.specs.declared.value.Value.{Value}
use Rattle.doll_schema.specs.declared.value.Value.TheVariants as value
use Rattle.doll_key.specs.declared.components.Component.{Component}
use Rattle.doll_key.specs.declared.components.Component.TheVariants as component
use Rattle.doll_key.specs.declared.components.TheConstants.{COLON, EQUALS, QUOTE}
use Rattle.doll_key.specs.declared.escapes.TheConstants.{ESCAPED}

-- a text with `%` and two upper-case digits for each byte but letters, digits, `-`, `_` and `.`
unfoldable pub escaped : List ℕ → List ℕ
escaped text = percent_encode ESCAPED text

-- the id of a record, or `nil`
abbrev pub id_text : Option ℕ → List ℕ
id_text (Some id) = decimal id
id_text None = codes "nil"

-- a record: its model's plural, a slash and its id
abbrev pub record_text : List ℕ → Option ℕ → List ℕ
record_text plural id = plural ++ SLASH ∷ id_text id

-- a value: `nil`, `true`, `false`, a number in decimal, or a quote and an escaped text
abbrev pub value_text : Value → List ℕ
value_text value.Nil = codes "nil"
value_text (value.Bool true) = codes "true"
value_text (value.Bool false) = codes "false"
value_text (value.Int number) = signed_decimal number
value_text (value.Text text) = QUOTE ∷ escaped text

-- a component: a record, a colon and an escaped literal, or an equals sign and a value
abbrev pub component_text : Component → List ℕ
component_text (component.Record plural id) = record_text plural id
component_text (component.Literal text) = COLON ∷ escaped text
component_text (component.Scalar value) = EQUALS ∷ value_text value

-- a component behind a slash
abbrev pub component_behind : Component → List ℕ
component_behind component = SLASH ∷ component_text component

-- components, each behind a slash
abbrev pub components_text : List Component → List ℕ
components_text components = flat_map component_behind components
