-- The digests of templates, which change with a template and with what it depends on (after Action View's digests; the framed text is this project's own).
use Rattle.std.specs.Prelude.{◌≡◌, ◌<◌, ℕ, false, List, [], ◌∷◌, length, map, MatchResult, Option, Result, Ok, Err}
use Rattle.std.specs.List.{AllByRecursion, flat_map, fold, range_with_len, slice_index_or}
use Rattle.doll_text.specs.Steps.{◌>>◌}
use Rattle.doll_digest.specs.Framing.{framed_text}
use Rattle.doll_digest.specs.Registries.{Registered, with_name, with_text, entered}
use Rattle.doll_digest.specs.Registries.{name_at as named_at}
use Rattle.doll_digest.specs.declared.registry.DigestFault.{DigestFault}
use Rattle.doll_graph.specs.Graphs.{Graph, dependencies, first_longer, has_longer, layer}
use Rattle.doll_graph.specs.Levels.{by_levels}
use Rattle.doll_set.specs.Dependencies.{names_of}
use Rattle.doll_set.specs.declared.template.Template.{Template}
use Rattle.doll_set.specs.declared.limits.TheConstants.{LONGEST_CHAIN}

-- the sources of templates
abbrev pub sources : List Template → List (List ℕ)
sources templates = map (λ (t : Template). t.source) templates

-- the name and the source of the template with a number
abbrev pub name_at : List Template → ℕ → List ℕ
name_at templates number = slice_index_or (names_of templates) number []

abbrev pub source_at : List Template → ℕ → List ℕ
source_at templates number = slice_index_or (sources templates) number []

-- ---- digests

-- a dependency as a framed text has it: its name, and its digest
abbrev pub beside : List Template → (ℕ → List ℕ) → ℕ → List ℕ × List ℕ
beside templates digest number = (name_at templates number, digest number)

-- the framed text of a template, by the digests of what it depends on
abbrev pub framed_with : List Template → Graph → ℕ → (ℕ → List ℕ) → List ℕ
framed_with templates graph number digest = framed_text (source_at templates number) (map (beside templates digest) (dependencies graph number))

-- the digest of a template: the hash of its framed text, in which the digests of its dependencies stand
unfoldable pub digest_of : (List ℕ → List ℕ) → List Template → Graph → ℕ → List ℕ
digest_of hash templates graph number = by_levels [] (λ n digest. hash (framed_with templates graph n digest)) LONGEST_CHAIN number

-- the framed text whose hash that is
unfoldable pub framed_of : (List ℕ → List ℕ) → List Template → Graph → ℕ → List ℕ
framed_of hash templates graph number = framed_with templates graph number (digest_of hash templates graph)

-- the digests of all
abbrev pub digests_of : (List ℕ → List ℕ) → List Template → Graph → List (List ℕ)
digests_of hash templates graph = map (digest_of hash templates graph) (range_with_len 0 (length templates))

-- ---- graphs that have digests

-- each dependency is one of the things
abbrev pub EachIsThere : Graph → Type 0
EachIsThere graph = (number : ℕ) → AllByRecursion (λ d. d < length graph) (dependencies graph number)

-- the first from which too long a chain begins
unfoldable pub too_deep : Graph → Option ℕ
too_deep graph = first_longer graph LONGEST_CHAIN

-- ---- registries

-- things by their layers: each after what it depends on, those with shorter chains first, of these by their numbers
unfoldable pub in_layers : Graph → ℕ → List ℕ
in_layers graph most = flat_map (layer graph) (range_with_len 0 most)

-- the order in which templates are entered
abbrev pub entry_order : Graph → List ℕ
entry_order graph = in_layers graph LONGEST_CHAIN

-- a registry with the names of templates
abbrev pub with_names : Registered → List Template → Registered
with_names registry templates = fold with_name registry (names_of templates)

-- texts entered one after another, or the first clash
abbrev pub all_entered : (List ℕ → List ℕ) → Registered → List (List ℕ) → Result Registered DigestFault
all_entered hash registry [] = Ok registry
all_entered hash registry (text ∷ texts) = entered hash registry text >> all_entered hash (with_text hash registry text) texts

-- templates with these numbers entered one after another, or the first clash
unfoldable pub these_entered : (List ℕ → List ℕ) → List Template → Graph → Registered → List ℕ → Result Registered DigestFault
these_entered hash templates graph registry numbers = all_entered hash registry (map (framed_of hash templates graph) numbers)

-- the registry once templates are entered, or the first clash
abbrev pub registered : (List ℕ → List ℕ) → Registered → List Template → Graph → Result Registered DigestFault
registered hash registry templates graph = these_entered hash templates graph (with_names registry templates) (entry_order graph)

-- A call left the registry that is expected of it, or refused as is expected, unless memory ran out.
abbrev pub Leaves : {X : Type 0} → DigestFault → Result Registered DigestFault → Registered → Result X DigestFault → Type 0
Leaves memory expected new result = MatchResult result (λ _. expected ≡ Ok new) (λ e. (e ≡ memory → ⊥) → expected ≡ Err e)

-- ---- digests so far

-- the digest of a template stands at its number
unfoldable pub IsKnown : (List ℕ → List ℕ) → List Template → Graph → List (List ℕ) → ℕ → Type 0
IsKnown hash templates graph digests number = slice_index_or digests number [] ≡ digest_of hash templates graph number

-- those of all that a template depends on do
unfoldable pub IsReady : (List ℕ → List ℕ) → List Template → Graph → List (List ℕ) → ℕ → Type 0
IsReady hash templates graph digests number = AllByRecursion (λ d. (d < length graph) × IsKnown hash templates graph digests d) (dependencies graph number)

-- these are the numbers of names in a registry, in the order of the names
pub record AreNumbersOf (registry : List (List ℕ)) (ids : List ℕ) (wanted : List (List ℕ)) : Type 0 where
  pub within : AllByRecursion (λ id. id < length registry) ids
  pub named : map (named_at registry) ids ≡ wanted

-- these are, and are templates
abbrev pub AreReady : (List ℕ → List ℕ) → List Template → Graph → List (List ℕ) → List ℕ → Type 0
AreReady hash templates graph digests numbers = AllByRecursion (λ number. (number < length graph) × IsReady hash templates graph digests number) numbers

-- each from which no chain of more than n templates begins is known
unfoldable pub AreKnown : (List ℕ → List ℕ) → List Template → Graph → List (List ℕ) → ℕ → Type 0
AreKnown hash templates graph digests n = (number : ℕ) → number < length graph → has_longer graph n number ≡ false → IsKnown hash templates graph digests number

-- each that was known still is
unfoldable pub KnownStay : (List ℕ → List ℕ) → List Template → Graph → List (List ℕ) → List (List ℕ) → Type 0
KnownStay hash templates graph old new = (number : ℕ) → IsKnown hash templates graph old number → IsKnown hash templates graph new number

-- a template by its name's number, and its digest
abbrev pub numbered : List ℕ → List (List ℕ) → ℕ → ℕ × List ℕ
numbered ids digests number = (slice_index_or ids number 0, slice_index_or digests number [])
