-- What is read from a key's text (this project's own).
use Rattle.std.specs.Prelude.{◌≡◌, ◌≢◌, ℕ, List, [], ◌∷◌, ◌++◌, true, codes, Option, Some, None, ⊤}
use Rattle.std.specs.List.{All, AllByRecursion}
use Rattle.hex.specs.Hex.{IsBytes}
use Rattle.doll_text.specs.declared.bytes.TheConstants.{SLASH}
use Rattle.doll_text.specs.Segments.{is_virtual_path}
use Rattle.doll_digest.specs.Framing.{IsDigest, hex_digits}
use Rattle.doll_key.specs.declared.components.Component.{Component}
use Rattle.doll_key.specs.declared.parts.KeyParts.{KeyParts}
use Rattle.doll_key.specs.declared.components.TheConstants.{COLON}
use Rattle.doll_key.specs.Components.{component_text, components_text, escaped}
use Rattle.doll_key.specs.Keys.{key_text}
use Rattle.doll_key.specs.Uniqueness.{IsComponent, IsKey}

-- the key whose text this is, or none where no key has it
abbrev pub ReadsAs : List ℕ → Option KeyParts → Type 0
ReadsAs text None = (parts : KeyParts) → IsKey parts → key_text parts ≢ text
ReadsAs text (Some parts) = IsKey parts × (key_text parts ≡ text)

-- ---- what may be read

-- Nothing but what was found can have this text; where nothing was found nothing has it. What was found may be spelled otherwise.
abbrev pub Finds : {X : Type 0} → (X → Type 0) → (X → List ℕ) → List ℕ → Option X → Type 0
Finds Is spelling text None = (x : _) → Is x → spelling x ≢ text
Finds Is spelling text (Some found) = Is found × ((x : _) → Is x → spelling x ≡ text → x ≡ found)

-- an end, or this byte
abbrev pub EndsAt : ℕ → List ℕ → Type 0
EndsAt stop [] = ⊤
EndsAt stop (b ∷ bs) = b ≡ stop

-- another byte than this
abbrev pub IsNot : ℕ → ℕ → Type 0
IsNot stop b = b ≢ stop

-- a text in two parts: the first has no such byte, the second begins with one or is empty
pub record IsCut (stop : ℕ) (text front rest : List ℕ) : Type 0 where
  pub whole : front ++ rest ≡ text
  pub plain : All (IsNot stop) front
  pub ends : EndsAt stop rest

-- a text by what it is escaped as
abbrev pub FindsText : List ℕ → List ℕ → Type 0
FindsText text found = IsBytes found × ((x : List ℕ) → IsBytes x → escaped x ≡ text → x ≡ found)

-- a component, with what stands behind it
abbrev pub IsFirst : Component × List ℕ → Type 0
IsFirst first = IsComponent first.0 × EndsAt SLASH first.1

abbrev pub first_text : Component × List ℕ → List ℕ
first_text first = component_text first.0 ++ first.1

-- a digest by its digits, with what stands behind them
abbrev pub digest_text : List ℕ × List ℕ → List ℕ
digest_text digest = hex_digits digest.0 ++ digest.1

-- a path and a digest, with what stands behind them
abbrev pub IsHead : List ℕ × List ℕ × List ℕ → Type 0
IsHead head = (is_virtual_path head.0 ≡ true) × IsDigest head.1

abbrev pub path_text : List ℕ × List ℕ × List ℕ → List ℕ
path_text head = head.0 ++ COLON ∷ digest_text (head.1, head.2)

-- the same behind what each key begins with
abbrev pub head_text : List ℕ × List ℕ × List ℕ → List ℕ
head_text head = codes "views/" ++ path_text head

-- components
abbrev pub AreComponents : List Component → Type 0
AreComponents components = AllByRecursion IsComponent components

-- components that were made of the front of a text, and what is left of it: whatever has this text goes on behind them with what is left
pub record IsMade (text : List ℕ) (made : List Component) (rest : List ℕ) : Type 0 where
  pub are : AreComponents made
  pub only : (all : List Component) → AreComponents all → components_text all ≡ text
      → (more : List Component) × AreComponents more × (all ≡ made ++ more) × (components_text more ≡ rest)
