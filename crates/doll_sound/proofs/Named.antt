-- What was read has names.
use Rattle.std.proofs.Common.{◌≡◌, ◌<◌, ℕ, List, [], ◌∷◌, ◌++◌, length, Ok, sym, ap, subst, ◌∙◌}
use Rattle.std.specs.Prelude.{not}
use Rattle.std.specs.List.{AllByRecursion}
use Rattle.std.specs.Option.{ok_or}
use Rattle.std.proofs.lemmas.List.{length-map}
use Rattle.doll_text.specs.Steps.{check}
use Rattle.doll_schema.specs.declared.draft.ManyDraft.{ManyDraft}
use Rattle.doll_schema.specs.declared.draft.ModelDraft.{ModelDraft}
use Rattle.doll_schema.specs.declared.draft.ParentDraft.{ParentDraft}
use Rattle.doll_schema.specs.declared.fault.Part.TheVariants as parts
use Rattle.doll_schema.specs.declared.fault.Place.{Place}
use Rattle.doll_schema.specs.declared.fault.SchemaFault.TheVariants.{BadInverse, UnknownModel}
use Rattle.doll_schema.specs.declared.model.BelongsTo.{BelongsTo}
use Rattle.doll_schema.specs.declared.model.HasMany.{HasMany}
use Rattle.doll_schema.specs.declared.model.Model.{Model}
use Rattle.doll_schema.specs.Drafts.{drafts_of, place}
use Rattle.doll_schema.specs.Schemas.{belongs_to_from, belongs_to_of, draft_named, has_inverse, has_many_from, has_many_of, inverse_named, linked_from, linked_model}
use Rattle.doll_set.proofs.Depending.{position_within}
use Rattle.doll_sound.specs.Names.{SchemasHaveNames, WhatWasReadHasNames}
use Rattle.doll_sound.proofs.Read.{bound, linked_plurals, passed, plurals_are, there}
use Rattle.doll_sound.proofs.ReadSets.{sets_have_paths}
use Rattle.doll_sound.proofs.Types.{joined, one_of}

module _ (all : List ModelDraft) where
  -- associations lead to models
  abbrev ToParent : BelongsTo → Type 0
  ToParent b = b.model < length all

  abbrev ToChildren : HasMany → Type 0
  ToChildren many = many.model < length all

  parent_leads : (at : Place) (draft : ParentDraft) (b : BelongsTo) → belongs_to_of all at draft ≡ Ok b → ToParent b
  parent_leads at draft b e =
      let model = bound (ok_or (draft_named all draft.model) (UnknownModel at)) _ b e in
      let same : model.0 ≡ b.model = cc model.2 in
      subst (λ n. n < length all) same (position_within _ all model.0 (there (draft_named all draft.model) (UnknownModel at) model.0 model.1))

  children_lead : (own : List ℕ) (at : Place) (earlier : List HasMany) (draft : ManyDraft) (many : HasMany) → has_many_of all own at earlier draft ≡ Ok many → ToChildren many
  children_lead own at earlier draft many e =
      let child = bound (ok_or (draft_named all draft.model) (UnknownModel at)) _ many e in
      let inverse = bound (ok_or (inverse_named all child.0 own draft.inverse) (BadInverse at)) _ many child.2 in
      let made : HasMany = record { name = draft.name; model = child.0; inverse = inverse.0; destroy = draft.destroy } in
      let new = passed (check (not (has_inverse earlier child.0 inverse.0)) (BadInverse at)) (Ok made) many inverse.2 in
      let same : child.0 ≡ many.model = cc new.2 in
      subst (λ n. n < length all) same (position_within _ all child.0 (there (draft_named all draft.model) (UnknownModel at) child.0 child.1))

  parents_lead : (n : ℕ) (earlier : List BelongsTo) (drafts : List ParentDraft) (bs : List BelongsTo) → belongs_to_from all n earlier drafts ≡ Ok bs → AllByRecursion ToParent earlier → AllByRecursion ToParent bs
  parents_lead n earlier [] bs e so = let same : earlier ≡ bs = cc e in subst (AllByRecursion ToParent) same so
  parents_lead n earlier (draft ∷ drafts) bs e so =
      let one = bound (belongs_to_of all (place n parts.BelongsTo (length earlier)) draft) _ bs e in
      parents_lead n (earlier ++ one.0 ∷ []) drafts bs one.2 (joined ToParent earlier (one.0 ∷ []) so (parent_leads (place n parts.BelongsTo (length earlier)) draft one.0 one.1, tt))

  manys_lead : (n : ℕ) (own : List ℕ) (earlier : List HasMany) (drafts : List ManyDraft) (ms : List HasMany) → has_many_from all n own earlier drafts ≡ Ok ms → AllByRecursion ToChildren earlier → AllByRecursion ToChildren ms
  manys_lead n own earlier [] ms e so = let same : earlier ≡ ms = cc e in subst (AllByRecursion ToChildren) same so
  manys_lead n own earlier (draft ∷ drafts) ms e so =
      let one = bound (has_many_of all own (place n parts.HasMany (length earlier)) earlier draft) _ ms e in
      manys_lead n own (earlier ++ one.0 ∷ []) drafts ms one.2 (joined ToChildren earlier (one.0 ∷ []) so (children_lead own (place n parts.HasMany (length earlier)) earlier draft one.0 one.1, tt))

  abbrev Leads : Model → Type 0
  Leads m = AllByRecursion ToParent m.belongs_to × AllByRecursion ToChildren m.has_many

  model_leads : (n : ℕ) (draft : ModelDraft) (m : Model) → linked_model all n draft ≡ Ok m → Leads m
  model_leads n draft m e =
      let parents = bound (belongs_to_from all n [] draft.belongs_to) _ m e in
      let manys = bound (has_many_from all n draft.name [] draft.has_many) _ m parents.2 in
      let same : record { name = draft.name; plural = draft.plural; attributes = draft.attributes; belongs_to = parents.0; has_many = manys.0 } ≡ m = cc manys.2 in
      subst Leads same (parents_lead n [] draft.belongs_to parents.0 parents.1 tt, manys_lead n draft.name [] draft.has_many manys.0 manys.1 tt)

  pub models_lead : (earlier : List Model) (drafts : List ModelDraft) (models : List Model) → linked_from all earlier drafts ≡ Ok models → AllByRecursion Leads earlier → AllByRecursion Leads models
  models_lead earlier [] models e so = let same : earlier ≡ models = cc e in subst (AllByRecursion Leads) same so
  models_lead earlier (draft ∷ drafts) models e so =
      let one = bound (linked_model all (length earlier) draft) _ models e in
      models_lead (earlier ++ one.0 ∷ []) drafts models one.2 (joined Leads earlier (one.0 ∷ []) so (model_leads (length earlier) draft one.0 one.1, tt))

-- there are as many models as drafts
as_many : (drafts : List ModelDraft) (models : List Model) → linked_from drafts [] drafts ≡ Ok models → length drafts ≡ length models
as_many drafts models e =
    sym (length-map drafts (λ (m : ModelDraft). m.plural)) ∙ ap length (sym (linked_plurals drafts [] drafts models e)) ∙ length-map models (λ (m : Model). m.plural)

pub schemas_have_names : SchemasHaveNames
schemas_have_names json schema read number model at =
    let drafts = bound (drafts_of json) _ schema read in
    let models = bound (linked_from drafts.0 [] drafts.0) _ schema drafts.2 in
    let is : models.0 ≡ schema.models = cc models.2 in
    let many : length drafts.0 ≡ length schema.models = as_many drafts.0 models.0 models.1 ∙ ap length is in
    let leads = one_of (Leads drafts.0) schema.models number model (subst (AllByRecursion (Leads drafts.0)) is (models_lead drafts.0 [] drafts.0 models.0 models.1 tt)) at in
    record {
      plural = (plurals_are json schema read).1 number model at;
      parents = subst (λ n. AllByRecursion (λ (b : BelongsTo). b.model < n) model.belongs_to) many leads.0;
      children = subst (λ n. AllByRecursion (λ (m : HasMany). m.model < n) model.has_many) many leads.1;
    }

pub read_has_names : WhatWasReadHasNames
read_has_names json schema hash registry files set read gives e =
    record { paths = sets_have_paths hash registry files set gives e; models = schemas_have_names json schema read }
