-- The key of a cached block over a table, and when it has one (versions beside a key's text are after the recyclable keys of Active Support; the rest is
-- this project's own).
use Rattle.std.specs.Prelude.{◌≡◌, ℕ, List}
use Rattle.doll_schema.specs.Models.{ModelList}
use Rattle.doll_table.specs.Tables.{TableMap}
use Rattle.doll_set.specs.Digests.{name_at}
use Rattle.doll_set.specs.Sets.{ReadSet}
use Rattle.doll_plain.specs.Direct.{Variables}
use Rattle.doll_types.specs.Sound.{HaveTypes}
use Rattle.doll_lint.specs.Blocks.{Block}
use Rattle.doll_key.specs.declared.parts.KeyParts.{KeyParts}
use Rattle.doll_key.specs.Keys.{key_text}
use Rattle.doll_key.specs.Uniqueness.{IsKey}
use Rattle.doll_run.specs.Keys.{digest_at, keyed_over, parts_at, versions_at}
use Rattle.doll_run.specs.Rendering.{Keyed}

-- what a block's key is made of: the path and the digest of its template, and the parts that its tag names, in their order
abbrev pub key_of : ReadSet → ModelList → Block → TableMap → Variables → KeyParts
key_of set schema block table vars = parts_at set schema table block.template block.typing block.key vars

-- the versions of the records of the key, in their order
abbrev pub versions_of : ModelList → Block → TableMap → Variables → List ℕ
versions_of schema block table vars = versions_at schema table block.typing block.key vars

-- the key by which a renderer asks for a block
abbrev pub keyed_of : ReadSet → ModelList → Block → TableMap → Variables → Keyed
keyed_of set schema block table vars = keyed_over set schema table block.template block.typing block.key vars

-- A block has this key text and these versions, with these variables over a table. It has none where a variable isn't of its type there, or where
-- what the key is made of is no key, such as a whole number of more than 64 bits.
pub record HasKey (set : ReadSet) (schema : ModelList) (block : Block) (table : TableMap) (vars : Variables) (text versions : List ℕ) : Type 0 where
  pub types : HaveTypes table block.typing vars
  pub is_key : IsKey (key_of set schema block table vars)
  pub text_is : key_text (key_of set schema block table vars) ≡ text
  pub versions_are : versions_of schema block table vars ≡ versions

-- Keys with equal texts, of whichever two sets, name a template with one path and one digest.
abbrev pub KeysTellTemplates : Type 0
KeysTellTemplates =
    (set other : ReadSet) (schema others : ModelList) (block twin : Block) (table later : TableMap) (vars more : Variables)
    (text versions updated : List ℕ) → HasKey set schema block table vars text versions → HasKey other others twin later more text updated
    → (name_at set.templates block.template ≡ name_at other.templates twin.template)
    × (digest_at set block.template ≡ digest_at other twin.template)
