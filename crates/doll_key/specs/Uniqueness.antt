-- Which keys there are, and that each has a text of its own (this project's own).
use Rattle.std.specs.Prelude.{◌≡◌, ◌<◌, ◌^◌, ℕ, true, Option, Some, None, ⊤}
use Rattle.std.specs.Int.Signed.{mag}
use Rattle.std.specs.List.{AllByRecursion}
use Rattle.hex.specs.Hex.{IsBytes}
use Rattle.doll_text.specs.Names.{is_name}
use Rattle.doll_text.specs.Segments.{is_virtual_path}
use Rattle.doll_schema.specs.declared.value.Value.{Value}
use Rattle.doll_schema.specs.declared.value.Value.TheVariants as value
use Rattle.doll_digest.specs.Framing.{IsDigest}
use Rattle.doll_key.specs.declared.components.Component.{Component}
use Rattle.doll_key.specs.declared.components.Component.TheVariants as component
use Rattle.doll_key.specs.declared.parts.KeyParts.{KeyParts}
use Rattle.doll_key.specs.Keys.{key_text}

-- an id of 32 bits, where there is one
abbrev pub IsId : Option ℕ → Type 0
IsId (Some id) = id < 2 ^ 32
IsId None = ⊤

-- a number of 64 bits, or bytes of a text
abbrev pub IsValue : Value → Type 0
IsValue value.Nil = ⊤
IsValue (value.Bool b) = ⊤
IsValue (value.Int number) = mag number < 2 ^ 63
IsValue (value.Text text) = IsBytes text

-- a record of a model whose plural is a name, the bytes of a literal, or a value
abbrev pub IsComponent : Component → Type 0
IsComponent (component.Record plural id) = (is_name plural ≡ true) × IsId id
IsComponent (component.Literal text) = IsBytes text
IsComponent (component.Scalar value) = IsValue value

-- the key of a template at a virtual path
pub record IsKey (parts : KeyParts) : Type 0 where
  pub path : is_virtual_path parts.path ≡ true
  pub digest : IsDigest parts.digest
  pub components : AllByRecursion IsComponent parts.components

-- Keys with equal texts are equal.
abbrev pub OneKey : Type 0
OneKey = (a b : KeyParts) → IsKey a → IsKey b → key_text a ≡ key_text b → a ≡ b
