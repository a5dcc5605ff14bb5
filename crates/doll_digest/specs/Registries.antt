-- What a registry holds, and what entering a template gives and leaves (this project's own).
use Rattle.std.specs.Prelude.{◌≡◌, ◌<◌, ℕ, List, [], ◌∷◌, ◌++◌, map, length, Contains, Option, None, Some, Vec, Result, Ok, Err, if◌then◌else◌, ⊤}
use Rattle.std.specs.List.{list_any, position_or_len, slice_index_or, AllByRecursion, IsDistinct}
use Rattle.std.specs.declared.alloc.Global.{Global}
use Rattle.std.specs.Map.{lookup, keys_of, values_of}
use Rattle.std.specs.Str.{bytes_eq}
use Rattle.doll_digest.specs.Framing.{framed_text}
use Rattle.doll_digest.specs.declared.registry.DigestFault.{DigestFault}
use Rattle.doll_digest.specs.declared.registry.DigestFault.TheVariants.{Clash}

-- the names, each at its number, and the framed texts, each behind the digest that it is kept under
pub record Registered : Type 0 where
  pub names : List (List ℕ)
  pub texts : List (List ℕ × List ℕ)

-- no names and no texts
abbrev pub empty : Registered
empty = record { names = []; texts = [] }

-- ---- names

-- the names that a set holds, by its keys
abbrev pub names_in : List (Vec ℕ Global) → List (List ℕ)
names_in keys = map (λ key. key.items) keys

-- the number of a name: the place where it stands, or comes to stand
abbrev pub number_of : List (List ℕ) → List ℕ → ℕ
number_of names name = position_or_len (bytes_eq name) names

-- the names, and this one behind them where it isn't among them
abbrev pub name_added : List (List ℕ) → List ℕ → List (List ℕ)
name_added names name = if list_any (bytes_eq name) names then names else names ++ name ∷ []

-- the registry after a name was asked for
abbrev pub with_name : Registered → List ℕ → Registered
with_name registry name = record { names = name_added registry.names name; texts = registry.texts }

-- the name with a number
abbrev pub name_at : List (List ℕ) → ℕ → List ℕ
name_at names number = slice_index_or names number []

-- Each number has the name that it had.
abbrev pub NumbersStay : List (List ℕ) → List (List ℕ) → Type 0
NumbersStay old new = (number : ℕ) → number < length old → (number < length new) × (name_at new number ≡ name_at old number)

-- ---- dependencies

-- each number is that of a name
abbrev pub AreNumbered : List (List ℕ) → List (ℕ × List ℕ) → Type 0
AreNumbered names dependencies = AllByRecursion (λ dependency. dependency.0 < length names) dependencies

-- dependencies by their names
abbrev pub named : List (List ℕ) → List (ℕ × List ℕ) → List (List ℕ × List ℕ)
named names dependencies = map (λ dependency. (name_at names dependency.0, dependency.1)) dependencies

-- the framed text of a template with these dependencies
abbrev pub text_of : Registered → List ℕ → List (ℕ × List ℕ) → List ℕ
text_of registry source dependencies = framed_text source (named registry.names dependencies)

-- ---- framed texts

-- the framed text that is kept under a digest
abbrev pub text_under : List (List ℕ × List ℕ) → List ℕ → Option (List ℕ)
text_under texts digest = lookup (bytes_eq digest) texts

-- each text is kept under its hash, and no two texts under the same
abbrev pub AreKept : (List ℕ → List ℕ) → List (List ℕ × List ℕ) → Type 0
AreKept hash texts = AllByRecursion (λ kept. kept.0 ≡ hash kept.1) texts × IsDistinct bytes_eq (keys_of texts)

-- the digest that two framed texts share, or their clash where they differ
abbrev pub compared : List ℕ → List ℕ → List ℕ → Result (List ℕ) DigestFault
compared digest old new = if bytes_eq old new then Ok digest else Err (Clash old new)

-- the digest of a framed text, or its clash with the text that is kept under it
abbrev pub answered : List ℕ → List ℕ → Option (List ℕ) → Result (List ℕ) DigestFault
answered digest text None = Ok digest
answered digest text (Some old) = compared digest old text

-- what entering a framed text gives
abbrev pub entered : (List ℕ → List ℕ) → Registered → List ℕ → Result (List ℕ) DigestFault
entered hash registry text = answered (hash text) text (text_under registry.texts (hash text))

-- texts with this one behind them where none is kept under its digest
abbrev pub text_added : List (List ℕ × List ℕ) → List ℕ → List ℕ → Option (List ℕ) → List (List ℕ × List ℕ)
text_added texts digest text None = texts ++ (digest, text) ∷ []
text_added texts digest text (Some old) = texts

-- the texts after one is kept under a digest
abbrev pub texts_with : List (List ℕ × List ℕ) → List ℕ → List ℕ → List (List ℕ × List ℕ)
texts_with texts digest text = text_added texts digest text (text_under texts digest)

-- the registry after a framed text was entered
abbrev pub with_text : (List ℕ → List ℕ) → Registered → List ℕ → Registered
with_text hash registry text = record { names = registry.names; texts = texts_with registry.texts (hash text) text }

-- Each text that is kept under a digest stays kept under it.
abbrev pub TextsStay : List (List ℕ × List ℕ) → List (List ℕ × List ℕ) → Type 0
TextsStay old new = (digest text : List ℕ) → text_under old digest ≡ Some text → text_under new digest ≡ Some text

-- Kept texts with the same hash are equal.
abbrev pub AreApart : (List ℕ → List ℕ) → List (List ℕ × List ℕ) → Type 0
AreApart hash texts = (a b : List ℕ) → Contains (values_of texts) a → Contains (values_of texts) b → hash a ≡ hash b → a ≡ b
