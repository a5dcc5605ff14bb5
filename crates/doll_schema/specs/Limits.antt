-- How much a schema may hold (this project's own).
use Rattle.std.specs.Prelude.{◌≤◌, List, length, All}
use Rattle.doll_schema.specs.declared.limits.TheConstants.{MOST_MODELS, MOST_ATTRIBUTES, MOST_PARENTS, MOST_MANYS}
use Rattle.doll_schema.specs.declared.draft.ModelDraft.{ModelDraft}
use Rattle.doll_schema.specs.declared.model.Model.{Model}

-- at most as many models as a schema may have
abbrev pub AreFewModels : {M : Type 0} → List M → Type 0
AreFewModels models = length models ≤ MOST_MODELS

-- at most as many attributes, associations to parents and associations to children as a model may have
abbrev pub AreFewParts : {A B H : Type 0} → List A → List B → List H → Type 0
AreFewParts attributes parents manys = (length attributes ≤ MOST_ATTRIBUTES) × (length parents ≤ MOST_PARENTS) × (length manys ≤ MOST_MANYS)

-- a model as it is written has few parts, and so has one whose associations are looked up
abbrev pub HasFewDrafts : ModelDraft → Type 0
HasFewDrafts m = AreFewParts m.attributes m.belongs_to m.has_many

abbrev pub HasFewParts : Model → Type 0
HasFewParts m = AreFewParts m.attributes m.belongs_to m.has_many

-- the models are few, and each has few parts
abbrev pub AreDraftsWithinLimits : List ModelDraft → Type 0
AreDraftsWithinLimits models = AreFewModels models × All HasFewDrafts models

abbrev pub AreWithinLimits : List Model → Type 0
AreWithinLimits models = AreFewModels models × All HasFewParts models
