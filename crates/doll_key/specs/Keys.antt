-- The text of a key (this project's own, in the manner of Rails' `views/products/index:<digest>/products/1`).
use Rattle.std.specs.Prelude.{ℕ, List, ◌∷◌, ◌++◌, codes}
use Rattle.doll_digest.specs.Framing.{hex_digits}
use Rattle.doll_key.specs.declared.parts.KeyParts.{KeyParts}
use Rattle.doll_key.specs.declared.components.TheConstants.{COLON}
use Rattle.doll_key.specs.Components.{components_text}

-- what stands before the components: the template's path and its digest in hexadecimal digits
abbrev pub key_prefix : List ℕ → List ℕ → List ℕ
key_prefix path digest = codes "views/" ++ path ++ COLON ∷ hex_digits digest

-- the text of a key
abbrev pub key_text : KeyParts → List ℕ
key_text parts = key_prefix parts.path parts.digest ++ components_text parts.components
