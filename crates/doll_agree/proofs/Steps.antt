-- What steps from records lead to.
use Rattle.std.proofs.Common.{◌≡◌, ℕ, Bool, true, false, ◌&&◌, true≢false, List, [], ◌∷◌, Option, None, Some, refl, ap, sym, subst, ◌∙◌}
use Rattle.std.specs.Prelude.{slice_get, nat_eq, option_and_then, if◌then◌else◌}
use Rattle.std.specs.Option.{option_map_or}
use Rattle.std.proofs.lemmas.Bool.{eqb-true}
use Rattle.doll_schema.specs.Lookups.{many_of}
use Rattle.doll_schema.specs.Models.{ModelList}
use Rattle.doll_schema.specs.declared.model.BelongsTo.{BelongsTo}
use Rattle.doll_schema.specs.declared.model.HasMany.{HasMany}
use Rattle.doll_schema.specs.declared.model.Model.{Model}
use Rattle.doll_schema.specs.declared.value.Row.{Row}
use Rattle.doll_schema.specs.declared.value.Val.{Val}
use Rattle.doll_schema.specs.declared.value.Val.TheVariants as val
use Rattle.doll_table.specs.Tables.{TableMap, children_of, ids_under, parent_of, row_of}
use Rattle.doll_eval.specs.declared.member.Member.{Member}
use Rattle.doll_eval.specs.declared.member.Member.TheVariants as member
use Rattle.doll_eval.specs.Members.{member_of}
use Rattle.doll_eval.specs.Operations.{nil}
use Rattle.doll_eval.specs.Values.{member_value, step}
use Rattle.doll_types.specs.declared.types.ValueType.TheVariants as type
use Rattle.doll_types.specs.Sound.{HasType}
use Rattle.doll_lint.specs.declared.path.PathStep.{PathStep}
use Rattle.doll_lint.specs.declared.path.PathStep.TheVariants as along
use Rattle.doll_lint.specs.Paths.{inverse_touches, leads_back, then_step, touches, touches_model}
use Rattle.doll_lint.specs.Readings.{member_at}
use Rattle.doll_past.specs.Facts.{Touches}
use Rattle.doll_agree.specs.Standing.{AreChild, At, ListAt, Pages}
use Rattle.doll_agree.proofs.Told.{first_holds, second_holds}

-- ---- the schema

-- an association to children that a model has
pub record HasIt (schema : ModelList) (model at : ℕ) (many : HasMany) : Type 0 where
  pub model_is : Model
  pub there : slice_get schema.models model ≡ Some model_is
  pub among : slice_get model_is.has_many at ≡ Some many

pub has_it : (schema : ModelList) (model at : ℕ) (many : HasMany) → many_of schema model at ≡ Some many → HasIt schema model at many
has_it schema model at many = by (slice_get schema.models model) refl
  where
    by : (o : Option Model) → slice_get schema.models model ≡ o → option_and_then (λ (m : Model). slice_get m.has_many at) o ≡ Some many → HasIt schema model at many
    by None is e = absurd (cc e)
    by (Some m) is e = record { model_is = m; there = is; among = e }

-- a member other than an unknown one has a model
pub model_there : (schema : ModelList) (model : ℕ) (name : List ℕ) (k : Member) → member_at schema model name ≡ k → (k ≡ member.Unknown → ⊥) → (m : Model) × (slice_get schema.models model ≡ Some m)
model_there schema model name k = by (slice_get schema.models model)
  where
    by : (o : Option Model) → option_map_or (λ (m : Model). member_of m name) o member.Unknown ≡ k → (k ≡ member.Unknown → ⊥) → (m : Model) × (o ≡ Some m)
    by None e known = absurd (known (sym e))
    by (Some m) e known = (m, refl)

-- what touches by its steps touches
pub touching : (schema : ModelList) (model at : ℕ) (many : HasMany) → many_of schema model at ≡ Some many → touches schema (along.Children model at) ≡ true → Touches schema model many
touching schema model at many is touch = in_model (slice_get schema.models many.model) refl (sym (ap (λ (o : Option HasMany). option_map_or (inverse_touches schema model) o false) is) ∙ touch)
  where
    in_parent : (m : Model) → slice_get schema.models many.model ≡ Some m → (o : Option BelongsTo) → slice_get m.belongs_to many.inverse ≡ o → option_map_or (touches_model model) o false ≡ true → Touches schema model many
    in_parent m m_is None o_is e = absurd (true≢false (sym e))
    in_parent m m_is (Some b) o_is e = record {
      child = m;
      is_child = m_is;
      back = b;
      leads_back = o_is;
      to_model = eqb-true b.model model (first_holds (nat_eq b.model model) b.touch e);
      touch = second_holds (nat_eq b.model model) b.touch e;
    }

    in_model : (o : Option Model) → slice_get schema.models many.model ≡ o → option_map_or (λ (m : Model). option_map_or (touches_model model) (slice_get m.belongs_to many.inverse) false) o false ≡ true → Touches schema model many
    in_model None is e = absurd (true≢false (sym e))
    in_model (Some m) is e = in_parent m is (slice_get m.belongs_to many.inverse) refl e

pub many_there : (schema : ModelList) (model at : ℕ) → touches schema (along.Children model at) ≡ true → (many : HasMany) × (many_of schema model at ≡ Some many)
many_there schema model at = by (many_of schema model at)
  where
    by : (o : Option HasMany) → option_map_or (inverse_touches schema model) o false ≡ true → (many : HasMany) × (o ≡ Some many)
    by None e = absurd (true≢false (sym e))
    by (Some many) e = (many, refl)

-- ---- one step

module _ (schema : ModelList) (table : TableMap) where
  -- a step from a living record is what it has as the member
  pub step_is : (model id : ℕ) (name : List ℕ) (m : Model) (row : Row) (k : Member) → slice_get schema.models model ≡ Some m → row_of table model id ≡ Some row → member_at schema model name ≡ k
      → step schema table (val.Record model id) name ≡ member_value table m model id row k
  step_is model id name m row k there lives is =
      ap (λ (o : Option Model). option_map_or (λ (m : Model). option_map_or (λ (row : Row). member_value table m model id row (member_of m name)) (row_of table model id) nil) o nil) there
      ∙ ap (λ (o : Option Row). option_map_or (λ (row : Row). member_value table m model id row (member_of m name)) o nil) lives
      ∙ ap (member_value table m model id row) (sym (ap (λ (o : Option Model). option_map_or (λ (m : Model). member_of m name) o member.Unknown) there) ∙ is)

  -- to the children of a record
  pub children_are : (model id at : ℕ) (name : List ℕ) (row : Row) (many : HasMany) → table.schema ≡ schema → row_of table model id ≡ Some row → member_at schema model name ≡ member.Children at → many_of schema model at ≡ Some many
      → step schema table (val.Record model id) name ≡ val.List many.model (ids_under table many.model many.inverse id)
  children_are model id at name row many same lives is is_many =
      let has = has_it schema model at many is_many in
      step_is model id name has.model_is row (member.Children at) has.there lives is
      ∙ ap (λ (o : Option HasMany). option_map_or (λ (h : HasMany). val.List h.model (children_of table model at id)) o nil) has.among
      ∙ ap (λ (s : ModelList). val.List many.model (option_map_or (λ (h : HasMany). ids_under table h.model h.inverse id) (many_of s model at) [])) same
      ∙ ap (λ (o : Option HasMany). val.List many.model (option_map_or (λ (h : HasMany). ids_under table h.model h.inverse id) o [])) is_many

  -- back to the record that a child touches
  pub back_is : (model at : ℕ) (name : List ℕ) (many : HasMany) (owner child : ℕ) (row : Row) → Touches schema model many → row_of table many.model child ≡ Some row → parent_of row many.inverse ≡ Some owner
      → member_at schema many.model name ≡ member.Parent many.inverse → step schema table (val.Record many.model child) name ≡ val.Record model owner
  back_is model at name many owner child row touch lives names is =
      step_is many.model child name touch.child row (member.Parent many.inverse) touch.is_child lives is
      ∙ ap (λ (o : Option BelongsTo). option_map_or (λ (b : BelongsTo). option_map_or (λ key. val.Record b.model key) (parent_of row many.inverse) nil) o nil) touch.leads_back
      ∙ ap (λ (o : Option ℕ). option_map_or (λ key. val.Record touch.back.model key) o nil) names
      ∙ ap (λ n. val.Record n owner) touch.to_model

-- ---- paths with a step more

module _ (p : Pages) where
  -- the parent of a child is the record whose child it is
  leading : (from k model at : ℕ) (name : List ℕ) (c d a b : Val) → member_at p.schema model name ≡ member.Parent at → AreChild p from k c d a b → leads_back p.schema (along.Children from k) (along.Parent model at) ≡ true
      → (step p.schema p.one a name ≡ c) × (step p.schema p.other b name ≡ d)
  leading from k model at name c d a b is child leads = (
    ap (λ v. step p.schema p.one v name) child.here ∙ back_is p.schema p.one from at name child.many child.owner child.child child.same.row child.touches child.same.lives child.same.names named ∙ sym child.owner_here,
    ap (λ v. step p.schema p.other v name) child.there ∙ back_is p.schema p.other from at name child.many child.owner child.child child.same.row child.touches child.same.same child.same.names named ∙ sym child.owner_there,
  )
    where
      inverse : (nat_eq child.many.model model && nat_eq child.many.inverse at) ≡ true
      inverse = sym (ap (λ (o : Option HasMany). option_map_or (λ (many : HasMany). nat_eq many.model model && nat_eq many.inverse at) o false) child.is) ∙ leads

      named : member_at p.schema child.many.model name ≡ member.Parent child.many.inverse
      named =
          ap (λ n. member_at p.schema n name) (eqb-true child.many.model model (first_holds (nat_eq child.many.model model) (nat_eq child.many.inverse at) inverse))
          ∙ is
          ∙ ap member.Parent (sym (eqb-true child.many.inverse at (second_holds (nat_eq child.many.model model) (nat_eq child.many.inverse at) inverse)))

  -- the values that a step to a parent leads to stand at the longer path
  pub to_parent : (root : List ℕ) (steps : List PathStep) (a b : Val) (model at : ℕ) (name : List ℕ) → member_at p.schema model name ≡ member.Parent at → HasType p.one (type.Record model) a → At p root steps a b
      → At p root (then_step p.schema steps (along.Parent model at)) (step p.schema p.one a name) (step p.schema p.other b name)
  to_parent root [] a b model at name is has stands = (a, b, stands, record { name = name; is = is; typed = has; here = refl; there = refl })
  to_parent root (along.Parent m k ∷ before) a b model at name is has stands = (a, b, stands, record { name = name; is = is; typed = has; here = refl; there = refl })
  to_parent root (along.Children m k ∷ before) a b model at name is has stands = by (leads_back p.schema (along.Children m k) (along.Parent model at)) refl
    where
      by : (t : Bool) → leads_back p.schema (along.Children m k) (along.Parent model at) ≡ t
          → At p root (if t then before else along.Parent model at ∷ along.Children m k ∷ before) (step p.schema p.one a name) (step p.schema p.other b name)
      by true leads =
          let same = leading m k model at name stands.0 stands.1 a b is stands.3 leads in
          subst (λ v. At p root before v (step p.schema p.other b name)) (sym same.0) (subst (At p root before stands.0) (sym same.1) stands.2)
      by false leads = (a, b, stands, record { name = name; is = is; typed = has; here = refl; there = refl })

  -- and so do those of a step to children
  pub to_children : (root : List ℕ) (steps : List PathStep) (a b : Val) (model at : ℕ) (name : List ℕ) → member_at p.schema model name ≡ member.Children at → HasType p.one (type.Record model) a → At p root steps a b
      → ListAt p root (then_step p.schema steps (along.Children model at)) (step p.schema p.one a name) (step p.schema p.other b name)
  to_children root [] a b model at name is has stands = (a, b, stands, record { name = name; is = is; typed = has; here = refl; there = refl })
  to_children root (along.Parent m k ∷ before) a b model at name is has stands = (a, b, stands, record { name = name; is = is; typed = has; here = refl; there = refl })
  to_children root (along.Children m k ∷ before) a b model at name is has stands = (a, b, stands, record { name = name; is = is; typed = has; here = refl; there = refl })
