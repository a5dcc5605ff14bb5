-- The schema that a JSON value is: its models, and what they refer to.
use Rattle.std.specs.Prelude.{ℕ, ◌&&◌, ◌==◌, Bool, not, List, [], ◌∷◌, ◌++◌, length, Option, option_and_then, position, slice_get, Result, Ok}
use Rattle.std.specs.List.{list_any}
use Rattle.std.specs.Option.{ok_or}
use Rattle.std.specs.Str.{bytes_eq}
use Rattle.serde_json.specs.Data.{Data}
use Rattle.doll_schema.specs.declared.draft.ManyDraft.{ManyDraft}
use Rattle.doll_schema.specs.declared.draft.ModelDraft.{ModelDraft}
use Rattle.doll_schema.specs.declared.draft.ParentDraft.{ParentDraft}
use Rattle.doll_schema.specs.declared.fault.Part.TheVariants as parts
use Rattle.doll_schema.specs.declared.fault.Place.{Place}
use Rattle.doll_schema.specs.declared.fault.SchemaFault.{SchemaFault}
use Rattle.doll_schema.specs.declared.fault.SchemaFault.TheVariants.{BadInverse, UnknownModel}
use Rattle.doll_schema.specs.declared.model.BelongsTo.{BelongsTo}
use Rattle.doll_schema.specs.declared.model.HasMany.{HasMany}
use Rattle.doll_schema.specs.declared.model.Model.{Model}
use Rattle.doll_schema.specs.declared.model.Schema.{Schema}
use Rattle.doll_schema.specs.Drafts.{drafts_of, place}
use Rattle.doll_text.specs.Steps.{◌>>=◌, ◌>>◌, check}

-- the number of the draft with this name
abbrev pub draft_named : List ModelDraft → List ℕ → Option ℕ
draft_named models name = position (λ (m : ModelDraft). bytes_eq name m.name) models

-- the number of the association with this name to the model `own`
abbrev pub parent_draft_named : List ParentDraft → List ℕ → List ℕ → Option ℕ
parent_draft_named parents own name = position (λ (p : ParentDraft). bytes_eq name p.name && bytes_eq own p.model) parents

-- the same among those of a model
abbrev pub inverse_named : List ModelDraft → ℕ → List ℕ → List ℕ → Option ℕ
inverse_named models child own name = option_and_then (λ (m : ModelDraft). parent_draft_named m.belongs_to own name) (slice_get models child)

-- an association to the children of one of these already
abbrev pub has_inverse : List HasMany → ℕ → ℕ → Bool
has_inverse manys child inverse = list_any (λ m. m.model == child && m.inverse == inverse) manys

-- an association to a parent, its model looked up
abbrev pub belongs_to_of : List ModelDraft → Place → ParentDraft → Result BelongsTo SchemaFault
belongs_to_of models at draft = do
  model ← ok_or (draft_named models draft.model) (UnknownModel at)
  Ok (record { name = draft.name; model = model; touch = draft.touch; null = draft.null })

-- an association to children, their model and its inverse looked up: an association of theirs to the model `own`, and none of an earlier one
abbrev pub has_many_of : List ModelDraft → List ℕ → Place → List HasMany → ManyDraft → Result HasMany SchemaFault
has_many_of models own at earlier draft = do
  child ← ok_or (draft_named models draft.model) (UnknownModel at)
  inverse ← ok_or (inverse_named models child own draft.inverse) (BadInverse at)
  check (not (has_inverse earlier child inverse)) (BadInverse at)
  Ok (record { name = draft.name; model = child; inverse = inverse; destroy = draft.destroy })

abbrev pub belongs_to_from : List ModelDraft → ℕ → List BelongsTo → List ParentDraft → Result (List BelongsTo) SchemaFault
belongs_to_from models n earlier [] = Ok earlier
belongs_to_from models n earlier (draft ∷ drafts) = do
  parent ← belongs_to_of models (place n parts.BelongsTo (length earlier)) draft
  belongs_to_from models n (earlier ++ parent ∷ []) drafts

abbrev pub has_many_from : List ModelDraft → ℕ → List ℕ → List HasMany → List ManyDraft → Result (List HasMany) SchemaFault
has_many_from models n own earlier [] = Ok earlier
has_many_from models n own earlier (draft ∷ drafts) = do
  many ← has_many_of models own (place n parts.HasMany (length earlier)) earlier draft
  has_many_from models n own (earlier ++ many ∷ []) drafts

-- a model with its associations looked up among all models
abbrev pub linked_model : List ModelDraft → ℕ → ModelDraft → Result Model SchemaFault
linked_model models n draft = do
  parents ← belongs_to_from models n [] draft.belongs_to
  manys ← has_many_from models n draft.name [] draft.has_many
  Ok (record { name = draft.name; plural = draft.plural; attributes = draft.attributes; belongs_to = parents; has_many = manys })

abbrev pub linked_from : List ModelDraft → List Model → List ModelDraft → Result (List Model) SchemaFault
linked_from models earlier [] = Ok earlier
linked_from models earlier (draft ∷ drafts) = do
  model ← linked_model models (length earlier) draft
  linked_from models (earlier ++ model ∷ []) drafts

-- the schema, or the first fault: those that a model has by itself, then those of what the models refer to (this project's own)
abbrev pub schema_of : Data → Result Schema SchemaFault
schema_of d = do
  drafts ← drafts_of d
  models ← linked_from drafts [] drafts
  Ok (record { models = models })
