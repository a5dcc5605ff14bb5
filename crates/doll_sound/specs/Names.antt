-- Sites whose templates and models have what keys are made of (this project's own).
use Rattle.std.specs.Prelude.{◌≡◌, ◌<◌, ℕ, true, List, length, slice_get, Some, Ok}
use Rattle.std.specs.List.{AllByRecursion}
use Rattle.md5.specs.Md5.{md5}
use Rattle.serde_json.specs.Data.{Data}
use Rattle.doll_base.specs.declared.in_memory.ViewFile.{ViewFile}
use Rattle.doll_text.specs.Names.{is_name}
use Rattle.doll_text.specs.Segments.{is_virtual_path}
use Rattle.doll_digest.specs.Framing.{IsDigest}
use Rattle.doll_digest.specs.Registries.{Registered}
use Rattle.doll_route.specs.declared.route.Route.{Route}
use Rattle.doll_schema.specs.declared.model.BelongsTo.{BelongsTo}
use Rattle.doll_schema.specs.declared.model.HasMany.{HasMany}
use Rattle.doll_schema.specs.declared.model.Model.{Model}
use Rattle.doll_schema.specs.Models.{ModelList}
use Rattle.doll_schema.specs.Schemas.{schema_of}
use Rattle.doll_set.specs.Digests.{name_at}
use Rattle.doll_set.specs.Sets.{ReadSet, set_of}
use Rattle.doll_table.specs.Tables.{TableMap}
use Rattle.doll_plain.specs.Direct.{Variables}
use Rattle.doll_types.specs.Sound.{HaveTypes}
use Rattle.doll_lint.specs.Blocks.{Block}
use Rattle.doll_lint.specs.Faults.{IsBlock}
use Rattle.doll_run.specs.Keys.{digest_at}
use Rattle.doll_sound.specs.Keys.{HasKey, keyed_of}

-- each template has a virtual path and a digest
abbrev pub HasPaths : ReadSet → Type 0
HasPaths set = (number : ℕ) → number < length set.templates → (is_virtual_path (name_at set.templates number) ≡ true) × IsDigest (digest_at set number)

-- A model's plural is a name, and its associations lead to models of the schema.
pub record IsNamed (schema : ModelList) (model : Model) : Type 0 where
  pub plural : is_name model.plural ≡ true
  pub parents : AllByRecursion (λ (b : BelongsTo). b.model < length schema.models) model.belongs_to
  pub children : AllByRecursion (λ (many : HasMany). many.model < length schema.models) model.has_many

-- so is each model
abbrev pub AreNamed : ModelList → Type 0
AreNamed schema = (number : ℕ) (model : Model) → slice_get schema.models number ≡ Some model → IsNamed schema model

-- Templates and models have what keys are made of.
pub record HasNames (set : ReadSet) (schema : ModelList) : Type 0 where
  pub paths : HasPaths set
  pub models : AreNamed schema

-- ---- what was read

-- in a set that was read, by a hash that gives digests, each template has a virtual path and a digest
abbrev pub SetsHavePaths : Type 0
SetsHavePaths =
    (hash : List ℕ → List ℕ) (registry : Registered) (files : List ViewFile) (set : ReadSet)
    → ((text : List ℕ) → IsDigest (hash text)) → set_of hash registry files ≡ Ok set → HasPaths set

-- in a schema that was read each model's plural is a name, and associations lead to models
abbrev pub SchemasHaveNames : Type 0
SchemasHaveNames = (json : Data) (schema : ModelList) → schema_of json ≡ Ok schema → AreNamed schema

-- MD5 gives digests
abbrev pub Md5GivesDigests : Type 0
Md5GivesDigests = (text : List ℕ) → IsDigest (md5 text)

-- a set and a schema that were read have names
abbrev pub WhatWasReadHasNames : Type 0
WhatWasReadHasNames =
    (json : Data) (schema : ModelList) (hash : List ℕ → List ℕ) (registry : Registered) (files : List ViewFile) (set : ReadSet)
    → schema_of json ≡ Ok schema → ((text : List ℕ) → IsDigest (hash text)) → set_of hash registry files ≡ Ok set → HasNames set schema

-- ---- keys

-- In a set with names, what a renderer takes for the key of a block that a page reaches is its key.
abbrev pub KeysAreKeys : Type 0
KeysAreKeys =
    (set : ReadSet) (schema : ModelList) (routes : List Route) (block : Block) (table : TableMap) (vars : Variables)
    → HasNames set schema → IsBlock set schema routes block → HaveTypes table block.typing vars → (keyed_of set schema block table vars).is_key ≡ true
    → HasKey set schema block table vars (keyed_of set schema block table vars).text (keyed_of set schema block table vars).versions
