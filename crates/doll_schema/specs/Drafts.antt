-- A schema's models as the JSON has them, each with its own faults.
use Rattle.std.specs.Prelude.{ℕ, ◌&&◌, ◌||◌, Bool, true, false, not, List, [], ◌∷◌, ◌++◌, length, nat_lt, Option, Some, None, option_and_then, is_some, Result, Ok, codes, if◌then◌else◌}
use Rattle.std.specs.List.{list_any}
use Rattle.std.specs.Option.{ok_or}
use Rattle.std.specs.Str.{bytes_eq}
use Rattle.serde_json.specs.Data.{Data, Items, no_items, item}
use Rattle.serde_json.specs.Find.{as_str, get}
use Rattle.doll_schema.specs.declared.draft.ManyDraft.{ManyDraft}
use Rattle.doll_schema.specs.declared.draft.ModelDraft.{ModelDraft}
use Rattle.doll_schema.specs.declared.draft.ParentDraft.{ParentDraft}
use Rattle.doll_schema.specs.declared.fault.Part.{Part}
use Rattle.doll_schema.specs.declared.fault.Part.TheVariants as parts
use Rattle.doll_schema.specs.declared.fault.Place.{Place}
use Rattle.doll_schema.specs.declared.fault.SchemaFault.{SchemaFault}
use Rattle.doll_schema.specs.declared.fault.SchemaFault.TheVariants.{BadForm, DuplicateName, TooMany, UnknownKind}
use Rattle.doll_schema.specs.declared.limits.TheConstants.{MOST_MODELS, MOST_ATTRIBUTES, MOST_PARENTS, MOST_MANYS}
use Rattle.doll_schema.specs.declared.model.Attribute.{Attribute}
use Rattle.doll_schema.specs.declared.model.Kind.{Kind}
use Rattle.doll_schema.specs.declared.model.Kind.TheVariants.{Boolean, Integer, Text}
use Rattle.doll_schema.specs.Lookups.{key_name}
use Rattle.doll_schema.specs.Json.{bool_or, has_only, list_at, list_or_empty, text_at}
use Rattle.doll_text.specs.Names.{is_name}
use Rattle.doll_text.specs.Steps.{◌>>=◌, ◌>>◌, check}

-- the place of an item of a model's part
abbrev pub place : ℕ → Part → ℕ → Place
place model part n = record { model = model; part = part; item = n }

-- the name under a key
abbrev pub name_at : List ℕ → Data → Option (List ℕ)
name_at key d = option_and_then (λ text. if is_name text then Some text else None) (text_at key d)

-- the kinds that an attribute may have
abbrev pub kind_named : List ℕ → Option Kind
kind_named text =
    if bytes_eq text (codes "integer") then Some Integer
    else if bytes_eq text (codes "text") then Some Text
    else if bytes_eq text (codes "boolean") then Some Boolean
    else None

-- whether children go with their parent, by the word for it
abbrev pub destroy_named : List ℕ → Option Bool
destroy_named text =
    if bytes_eq text (codes "destroy") then Some true
    else if bytes_eq text (codes "restrict") then Some false
    else None

-- children keep their parent where nothing is said
abbrev pub destroy_if_given : Option Data → Option Bool
destroy_if_given None = Some false
destroy_if_given (Some d) = option_and_then destroy_named (as_str d)

-- a name that an attribute, an association or a foreign key has
abbrev pub is_taken : List ℕ → List Attribute → List ParentDraft → List ManyDraft → Bool
is_taken name attributes parents manys =
    list_any (λ a. bytes_eq name a.name) attributes
    || list_any (λ p. bytes_eq name p.name || bytes_eq name p.key) parents
    || list_any (λ m. bytes_eq name m.name) manys

-- an attribute behind others of its model
abbrev pub attribute_draft : Place → List Attribute → Data → Result Attribute SchemaFault
attribute_draft at earlier d = do
  check (has_only (codes "name" ∷ codes "kind" ∷ codes "null" ∷ []) d) (BadForm at)
  name ← ok_or (name_at (codes "name") d) (BadForm at)
  kind_text ← ok_or (text_at (codes "kind") d) (BadForm at)
  null ← ok_or (bool_or (codes "null") true d) (BadForm at)
  check (nat_lt at.item MOST_ATTRIBUTES) (TooMany at)
  kind ← ok_or (kind_named kind_text) (UnknownKind at)
  check (not (is_taken name earlier [] [])) (DuplicateName at)
  Ok (record { name = name; kind = kind; null = null })

-- an association to a parent, behind the attributes and others of its kind
abbrev pub parent_draft : Place → List Attribute → List ParentDraft → Data → Result ParentDraft SchemaFault
parent_draft at attributes earlier d = do
  check (has_only (codes "name" ∷ codes "model" ∷ codes "touch" ∷ codes "null" ∷ []) d) (BadForm at)
  name ← ok_or (name_at (codes "name") d) (BadForm at)
  model ← ok_or (text_at (codes "model") d) (BadForm at)
  touch ← ok_or (bool_or (codes "touch") false d) (BadForm at)
  null ← ok_or (bool_or (codes "null") false d) (BadForm at)
  check (nat_lt at.item MOST_PARENTS) (TooMany at)
  check (not (is_taken name attributes earlier [] || is_taken (key_name name) attributes earlier [])) (DuplicateName at)
  Ok (record { name = name; key = key_name name; model = model; touch = touch; null = null })

-- an association to children, behind all others
abbrev pub many_draft : Place → List Attribute → List ParentDraft → List ManyDraft → Data → Result ManyDraft SchemaFault
many_draft at attributes parents earlier d = do
  check (has_only (codes "name" ∷ codes "model" ∷ codes "inverse" ∷ codes "dependent" ∷ []) d) (BadForm at)
  name ← ok_or (name_at (codes "name") d) (BadForm at)
  model ← ok_or (text_at (codes "model") d) (BadForm at)
  inverse ← ok_or (text_at (codes "inverse") d) (BadForm at)
  destroy ← ok_or (destroy_if_given (get (codes "dependent") d)) (BadForm at)
  check (nat_lt at.item MOST_MANYS) (TooMany at)
  check (not (is_taken name attributes parents earlier)) (DuplicateName at)
  Ok (record { name = name; model = model; inverse = inverse; destroy = destroy })

-- the attributes, each behind those before it
abbrev pub attributes_from : ℕ → List Attribute → Items → Result (List Attribute) SchemaFault
attributes_from model earlier no_items = Ok earlier
attributes_from model earlier (item d ds) = do
  attribute ← attribute_draft (place model parts.Attributes (length earlier)) earlier d
  attributes_from model (earlier ++ attribute ∷ []) ds

abbrev pub parents_from : ℕ → List Attribute → List ParentDraft → Items → Result (List ParentDraft) SchemaFault
parents_from model attributes earlier no_items = Ok earlier
parents_from model attributes earlier (item d ds) = do
  parent ← parent_draft (place model parts.BelongsTo (length earlier)) attributes earlier d
  parents_from model attributes (earlier ++ parent ∷ []) ds

abbrev pub manys_from : ℕ → List Attribute → List ParentDraft → List ManyDraft → Items → Result (List ManyDraft) SchemaFault
manys_from model attributes parents earlier no_items = Ok earlier
manys_from model attributes parents earlier (item d ds) = do
  many ← many_draft (place model parts.HasMany (length earlier)) attributes parents earlier d
  manys_from model attributes parents (earlier ++ many ∷ []) ds

-- the three arrays of a model, of which the last two may be left out
abbrev pub attributes_of : ℕ → Data → Result (List Attribute) SchemaFault
attributes_of model d = do
  items ← ok_or (list_at (codes "attributes") d) (BadForm (place model parts.Attributes 0))
  attributes_from model [] items

abbrev pub parents_of : ℕ → List Attribute → Data → Result (List ParentDraft) SchemaFault
parents_of model attributes d = do
  items ← ok_or (list_or_empty (codes "belongs_to") d) (BadForm (place model parts.BelongsTo 0))
  parents_from model attributes [] items

abbrev pub manys_of : ℕ → List Attribute → List ParentDraft → Data → Result (List ManyDraft) SchemaFault
manys_of model attributes parents d = do
  items ← ok_or (list_or_empty (codes "has_many") d) (BadForm (place model parts.HasMany 0))
  manys_from model attributes parents [] items

-- a name of the model's own, which none of the earlier models has
abbrev pub own_name : Place → List ℕ → (List ℕ → Bool) → Data → Result (List ℕ) SchemaFault
own_name at key stands d = do
  name ← ok_or (name_at key d) (BadForm at)
  check (not (stands name)) (DuplicateName at)
  Ok name

-- a name, a plural of one of these models
abbrev pub is_model : List ModelDraft → List ℕ → Bool
is_model models name = list_any (λ m. bytes_eq name m.name) models

abbrev pub is_plural : List ModelDraft → List ℕ → Bool
is_plural models name = list_any (λ m. bytes_eq name m.plural) models

-- an object with a model's keys
abbrev pub has_model_keys : Data → Bool
has_model_keys d =
    has_only (codes "name" ∷ codes "plural" ∷ codes "attributes" ∷ codes "belongs_to" ∷ codes "has_many" ∷ []) d
    && is_some (get (codes "name") d) && is_some (get (codes "plural") d) && is_some (get (codes "attributes") d)

-- a model of these names, its parts in order
abbrev pub model_with : ℕ → List ℕ → List ℕ → Data → Result ModelDraft SchemaFault
model_with model name plural d = do
  attributes ← attributes_of model d
  parents ← parents_of model attributes d
  manys ← manys_of model attributes parents d
  Ok (record { name = name; plural = plural; attributes = attributes; belongs_to = parents; has_many = manys })

-- a model behind the earlier ones, its parts in order (this project's own)
abbrev pub model_draft : List ModelDraft → Data → Result ModelDraft SchemaFault
model_draft earlier d = do
  check (has_model_keys d) (BadForm (place (length earlier) parts.Whole 0))
  check (nat_lt (length earlier) MOST_MODELS) (TooMany (place (length earlier) parts.Whole 0))
  name ← own_name (place (length earlier) parts.Name 0) (codes "name") (is_model earlier) d
  plural ← own_name (place (length earlier) parts.Plural 0) (codes "plural") (is_plural earlier) d
  model_with (length earlier) name plural d

abbrev pub models_from : List ModelDraft → Items → Result (List ModelDraft) SchemaFault
models_from earlier no_items = Ok earlier
models_from earlier (item d ds) = do
  model ← model_draft earlier d
  models_from (earlier ++ model ∷ []) ds

-- an object with the models and nothing else
abbrev pub model_items : Data → Option Items
model_items d = if has_only (codes "models" ∷ []) d then list_at (codes "models") d else None

-- all models, or the first fault that one of them has by itself
abbrev pub drafts_of : Data → Result (List ModelDraft) SchemaFault
drafts_of d = do
  items ← ok_or (model_items d) (BadForm (place 0 parts.Whole 0))
  models_from [] items
