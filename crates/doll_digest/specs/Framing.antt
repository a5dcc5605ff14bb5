-- The framed text of a template (this project's own; a length, a colon, bytes and a comma are what others call a netstring).
use Rattle.std.specs.Prelude.{◌≡◌, ◌<◌, ◌^◌, ℕ, List, [], ◌∷◌, ◌++◌, length}
use Rattle.std.specs.List.{AllByRecursion, flat_map}
use Rattle.std.specs.Fmt.{decimal}
use Rattle.hex.specs.Hex.{IsBytes, encode_lower}
use Rattle.doll_digest.specs.declared.framing.TheConstants.{COLON, COMMA}

-- bytes behind their length in decimal, so that where they end can be told
unfoldable pub net : List ℕ → List ℕ
net bytes = decimal (length bytes) ++ COLON ∷ bytes ++ COMMA ∷ []

-- a digest in lower-case hexadecimal digits, of each byte the high one first
abbrev pub hex_digits : List ℕ → List ℕ
hex_digits digest = encode_lower digest

-- a dependency: its name, and its digest in digits
abbrev pub framed_dependency : List ℕ × List ℕ → List ℕ
framed_dependency dependency = net dependency.0 ++ net (hex_digits dependency.1)

-- the framed text of a template with this source and these dependencies, each a name and its digest
unfoldable pub framed_text : List ℕ → List (List ℕ × List ℕ) → List ℕ
framed_text source dependencies = net source ++ flat_map framed_dependency dependencies

-- sixteen bytes
abbrev pub IsDigest : List ℕ → Type 0
IsDigest digest = (length digest ≡ 16) × IsBytes digest

-- a name whose length is a number of 64 bits, and a digest
abbrev pub IsDependency : List ℕ × List ℕ → Type 0
IsDependency dependency = (length dependency.0 < 2 ^ 64) × IsDigest dependency.1

-- Templates with equal framed texts have equal sources and dependencies.
abbrev pub OneTemplate : Type 0
OneTemplate = (a b : List ℕ) (of_a of_b : List (List ℕ × List ℕ)) → length a < 2 ^ 64 → length b < 2 ^ 64
    → AllByRecursion IsDependency of_a → AllByRecursion IsDependency of_b
    → framed_text a of_a ≡ framed_text b of_b → (a ≡ b) × (of_a ≡ of_b)
