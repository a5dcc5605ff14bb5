-- The items of a cached collection, each with its key and the question for it (this project's own).
use Rattle.std.specs.Prelude.{ℕ, Bool, List, [], ◌∷◌}
use Rattle.doll_erb.specs.declared.node.KeyPart.{KeyPart}
use Rattle.doll_schema.specs.Models.{ModelList}
use Rattle.doll_schema.specs.declared.value.Val.TheVariants as val
use Rattle.doll_table.specs.Tables.{TableMap}
use Rattle.doll_eval.specs.Living as living
use Rattle.doll_set.specs.Sets.{ReadSet}
use Rattle.doll_plain.specs.Direct.{Variables}
use Rattle.doll_types.specs.declared.types.ValueType.{ValueType}
use Rattle.doll_types.specs.Types.{Typing}
use Rattle.doll_lint.specs.Blocks.{item_key, item_number}
use Rattle.doll_entry.specs.declared.asks.Ask.{Ask}
use Rattle.doll_run.specs.Rendering.{Keyed, only}
use Rattle.doll_frames.specs.Flows.{ask_for, block_id}
use Rattle.doll_run.specs.Keys.{keyed_over}
use Rattle.doll_frames.specs.declared.frame.KeptItem.{KeptItem}
use Rattle.doll_frames.specs.declared.keys.BlockKey.{BlockKey}

abbrev pub AreLiving : TableMap → Variables → Type 0
AreLiving = living.AreLiving

-- a key without its looks
abbrev pub key_by : Keyed → BlockKey
key_by keyed = record { text = keyed.text; versions = keyed.versions }

-- the key of a block over a table, the looks that making it may take, and whether it is one
abbrev pub key_over : ReadSet → ModelList → TableMap → ℕ → Typing → List KeyPart → Variables → BlockKey
key_over set schema table number typing key vars = key_by (keyed_over set schema table number typing key vars)

abbrev pub looks_over : ReadSet → ModelList → TableMap → ℕ → Typing → List KeyPart → Variables → ℕ
looks_over set schema table number typing key vars = (keyed_over set schema table number typing key vars).looks

abbrev pub is_key_over : ReadSet → ModelList → TableMap → ℕ → Typing → List KeyPart → Variables → Bool
is_key_over set schema table number typing key vars = (keyed_over set schema table number typing key vars).is_key

-- those of an item that stands alone under a name
abbrev pub one_keyed : ReadSet → ModelList → TableMap → ℕ → List ℕ → ValueType → ℕ → ℕ → Keyed
one_keyed set schema table partial name of model id =
    keyed_over set schema table partial ((name, of) ∷ []) (item_key name) (only name (val.Record model id))

-- an item with its key
unfoldable pub kept_item : ReadSet → ModelList → TableMap → ℕ → List ℕ → ValueType → ℕ → ℕ → KeptItem
kept_item set schema table partial name of model id = record { id = id; key = key_by (one_keyed set schema table partial name of model id) }

-- the question for an item
unfoldable pub item_ask : ReadSet → ModelList → TableMap → ℕ → ℕ → List ℕ → ValueType → ℕ → ℕ → Ask
item_ask set schema table tree partial name of model id =
    ask_for (key_by (one_keyed set schema table partial name of model id)) (only name (val.Record model id)) (block_id tree partial item_number)

-- the looks that its key may take
unfoldable pub item_looks : ReadSet → ModelList → TableMap → ℕ → List ℕ → ValueType → ℕ → ℕ → ℕ
item_looks set schema table partial name of model id = (one_keyed set schema table partial name of model id).looks

-- whether it has one
unfoldable pub item_has_key : ReadSet → ModelList → TableMap → ℕ → List ℕ → ValueType → ℕ → ℕ → Bool
item_has_key set schema table partial name of model id = (one_keyed set schema table partial name of model id).is_key
