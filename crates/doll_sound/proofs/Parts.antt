-- Keys that are equal part by part: their shapes are equal, and so is what stands in each part.
use Rattle.std.proofs.Common.{◌≡◌, ℕ, true, true≢false, List, [], ◌∷◌, ◌++◌, map, Option, None, Some, Result, Ok, Err, ◌⊎◌, inl, inr, IsSome, refl, ap, sym, subst, ◌∙◌}
use Rattle.std.specs.Prelude.{⊤, slice_get}
use Rattle.std.specs.List.{AllByRecursion, flat_map}
use Rattle.std.specs.Option.{option_map_or}
use Rattle.doll_text.specs.Names.{is_name}
use Rattle.doll_expr.specs.declared.expr.Expr.{Expr}
use Rattle.doll_schema.specs.declared.model.Model.{Model}
use Rattle.doll_schema.specs.declared.value.Row.{Row}
use Rattle.doll_schema.specs.declared.value.Val.{Val}
use Rattle.doll_schema.specs.declared.value.Val.TheVariants as val
use Rattle.doll_schema.specs.declared.value.Value.TheVariants as value
use Rattle.doll_schema.specs.Models.{ModelList}
use Rattle.doll_erb.specs.declared.node.KeyPart.{KeyPart}
use Rattle.doll_erb.specs.declared.node.KeyPart.TheVariants as part
use Rattle.doll_table.specs.Fits.{Fits}
use Rattle.doll_table.specs.Tables.{TableMap, row_of}
use Rattle.doll_eval.specs.Values.{value_of}
use Rattle.doll_plain.specs.Direct.{Variables}
use Rattle.doll_types.specs.declared.types.TypeKind.{TypeKind}
use Rattle.doll_types.specs.declared.types.ValueType.{ValueType}
use Rattle.doll_types.specs.declared.types.ValueType.TheVariants as type
use Rattle.doll_types.specs.Findings.{is_key}
use Rattle.doll_types.specs.Sound.{HasType, HaveTypes}
use Rattle.doll_types.specs.Types.{Typing, type_of}
use Rattle.doll_types.proofs.Values.{values}
use Rattle.doll_lint.specs.declared.block.PartShape.TheVariants as shape
use Rattle.doll_lint.specs.Blocks.{part_shape, value_shape}
use Rattle.doll_key.specs.declared.components.Component.{Component}
use Rattle.doll_key.specs.declared.components.Component.TheVariants as component
use Rattle.doll_key.specs.Uniqueness.{IsComponent}
use Rattle.doll_agree.specs.Bodies.{AreOfOneHistory}
use Rattle.doll_agree.specs.Keys.{HasSameRow, KeysAgree, PartAgrees}
use Rattle.doll_agree.specs.Standing.{IsKeyPart}
use Rattle.doll_agree.proofs.Lists.{of_each}
use Rattle.doll_run.specs.Keys.{component_by, id_of, part_component, part_versions, plural_of, single_of, version_of, versions_by}
use Rattle.doll_sound.specs.Sites.{HasDistinctPlurals}

-- ---- sorts of parts

-- the type of a record
abbrev pub IsRecord : Result ValueType TypeKind → Type 0
IsRecord r = (m : ℕ) × (r ≡ Ok (type.Record m))

-- a part whose type is that of no record is a single value in each key
pub record IsSingle (r : Result ValueType TypeKind) : Type 0 where
  pub component_is : (schema : ModelList) (v : Val) → component_by schema r v ≡ component.Scalar (single_of v)
  pub versions_are : (table : TableMap) (v : Val) → versions_by table r v ≡ []
  pub shape_is : value_shape r ≡ shape.Single

pub sort_of : (r : Result ValueType TypeKind) → IsRecord r ⊎ IsSingle r
sort_of (Ok (type.Record m)) = inl (m, refl)
sort_of (Ok type.Integer) = inr (record { component_is = λ schema v. refl; versions_are = λ table v. refl; shape_is = refl })
sort_of (Ok type.Text) = inr (record { component_is = λ schema v. refl; versions_are = λ table v. refl; shape_is = refl })
sort_of (Ok type.Boolean) = inr (record { component_is = λ schema v. refl; versions_are = λ table v. refl; shape_is = refl })
sort_of (Ok (type.List m)) = inr (record { component_is = λ schema v. refl; versions_are = λ table v. refl; shape_is = refl })
sort_of (Ok type.Nil) = inr (record { component_is = λ schema v. refl; versions_are = λ table v. refl; shape_is = refl })
sort_of (Err kind) = inr (record { component_is = λ schema v. refl; versions_are = λ table v. refl; shape_is = refl })

-- no part with a type is a literal
no_literal : (schema : ModelList) (r : Result ValueType TypeKind) (v : Val) (text : List ℕ) → component_by schema r v ≡ component.Literal text → ⊥
no_literal schema r v text e = by (sort_of r)
  where
    by : IsRecord r ⊎ IsSingle r → ⊥
    by (inl a) = absurd (cc (ap (λ t. component_by schema t v) (sym a.1) ∙ e))
    by (inr a) = absurd (cc (sym (a.component_is schema v) ∙ e))

-- ---- models by their plurals

no_name : is_name [] ≡ true → ⊥
unfolding is_name
no_name e = true≢false (sym e)

module _ (schema : ModelList) (plurals : HasDistinctPlurals schema) where
  model_at : (m : ℕ) → is_name (plural_of schema m) ≡ true → (one : Model) × (slice_get schema.models m ≡ Some one) × (plural_of schema m ≡ one.plural)
  model_at m named = by (slice_get schema.models m) refl named
    where
      by : (found : Option Model) → slice_get schema.models m ≡ found → is_name (option_map_or (λ (m : Model). m.plural) found []) ≡ true
          → (one : Model) × (found ≡ Some one) × (option_map_or (λ (m : Model). m.plural) found [] ≡ one.plural)
      by None is e = absurd (no_name e)
      by (Some one) is e = (one, refl, refl)

  pub one_model : (m n : ℕ) → is_name (plural_of schema m) ≡ true → plural_of schema m ≡ plural_of schema n → m ≡ n
  one_model m n named e =
      let one = model_at m named in
      let other = model_at n (ap is_name (sym e) ∙ named) in
      plurals m n one.0 other.0 one.1 other.1 (sym one.2 ∙ e ∙ other.2)

  -- ---- shapes

  shape_same : (r q : Result ValueType TypeKind) (x y : Val) → IsComponent (component_by schema r x) → component_by schema r x ≡ component_by schema q y → value_shape r ≡ value_shape q
  shape_same r q x y is e = by (sort_of r) (sort_of q)
    where
      by : IsRecord r ⊎ IsSingle r → IsRecord q ⊎ IsSingle q → value_shape r ≡ value_shape q
      by (inl a) (inl b) =
          let both : component.Record (plural_of schema a.0) (id_of x) ≡ component.Record (plural_of schema b.0) (id_of y) = ap (λ t. component_by schema t x) (sym a.1) ∙ e ∙ ap (λ t. component_by schema t y) b.1 in
          let named : IsComponent (component.Record (plural_of schema a.0) (id_of x)) = subst (λ t. IsComponent (component_by schema t x)) a.1 is in
          let same : plural_of schema a.0 ≡ plural_of schema b.0 = cc in
          ap value_shape a.1 ∙ ap shape.Record (one_model a.0 b.0 named.0 same) ∙ ap value_shape (sym b.1)
      by (inl a) (inr b) = absurd (cc (ap (λ t. component_by schema t x) (sym a.1) ∙ e ∙ b.component_is schema y))
      by (inr a) (inl b) = absurd (cc (sym (a.component_is schema x) ∙ e ∙ ap (λ t. component_by schema t y) b.1))
      by (inr a) (inr b) = a.shape_is ∙ sym b.shape_is

  module _ (one other : TableMap) (typing types : Typing) (here there : Variables) where
    abbrev here_part : KeyPart → Component
    here_part = part_component schema one typing here

    abbrev there_part : KeyPart → Component
    there_part = part_component schema other types there

    part_same : (p q : KeyPart) → IsComponent (here_part p) → here_part p ≡ there_part q → part_shape schema typing p ≡ part_shape schema types q
    part_same (part.Path e) (part.Path f) is same = shape_same (type_of schema typing e) (type_of schema types f) (value_of e here schema one) (value_of f there schema other) is same
    part_same (part.Literal s) (part.Literal t) is same = let texts : s ≡ t = cc in ap shape.Literal texts
    part_same (part.Path e) (part.Literal t) is same = absurd (no_literal schema (type_of schema typing e) (value_of e here schema one) t same)
    part_same (part.Literal s) (part.Path f) is same = absurd (no_literal schema (type_of schema types f) (value_of f there schema other) s (sym same))

    pub shapes_same : (ps qs : List KeyPart) → AllByRecursion IsComponent (map here_part ps) → map here_part ps ≡ map there_part qs → map (part_shape schema typing) ps ≡ map (part_shape schema types) qs
    shapes_same [] [] all same = refl
    shapes_same [] (q ∷ qs) all same = absurd (cc same)
    shapes_same (p ∷ ps) [] all same = absurd (cc same)
    shapes_same (p ∷ ps) (q ∷ qs) all same =
        let first : here_part p ≡ there_part q = cc in
        let rest : map here_part ps ≡ map there_part qs = cc in
        let first_shape = part_same p q all.0 first in
        let more = shapes_same ps qs all.1 rest in
        λ i. first_shape i ∷ more i

-- ---- values

module _ (schema : ModelList) (one other : TableMap) (history : AreOfOneHistory schema one other) where
  -- a record that lives in both tables with one version has one row
  same_version : (m id : ℕ) → IsSome (row_of one m id) → IsSome (row_of other m id) → version_of one (val.Record m id) ≡ version_of other (val.Record m id) → row_of one m id ≡ row_of other m id
  same_version m id here there e = by (row_of one m id) (row_of other m id) refl refl here there e
    where
      by : (a b : Option Row) → row_of one m id ≡ a → row_of other m id ≡ b → IsSome a → IsSome b
          → option_map_or (λ (row : Row). row.updated_at) a 0 ≡ option_map_or (λ (row : Row). row.updated_at) b 0 → row_of one m id ≡ row_of other m id
      by None b is_a is_b here there e = absurd (cc here)
      by (Some a) None is_a is_b here there e = absurd (cc there)
      by (Some a) (Some b) is_a is_b here there e = in_order history
        where
          in_order : AreOfOneHistory schema one other → row_of one m id ≡ row_of other m id
          in_order (inl later) = later.same_row m id a b is_a is_b e
          in_order (inr later) = sym (later.same_row m id b a is_b is_a (sym e))

  -- what has the type of a single value that may stand in a key is one
  plain : (expr : Expr) (t : ValueType) (table : TableMap) (v : Val) → is_key expr t ≡ true → IsSingle (Ok t) → HasType table t v → v ≡ val.Plain (single_of v)
  plain expr t table (val.Plain v) key single has = refl
  plain expr (type.Record m) table (val.Record of id) key single has = absurd (cc single.shape_is)
  plain expr type.Integer table (val.Record of id) key single has = elim has [ ]
  plain expr type.Text table (val.Record of id) key single has = elim has [ ]
  plain expr type.Boolean table (val.Record of id) key single has = elim has [ ]
  plain expr (type.List m) table (val.Record of id) key single has = elim has [ ]
  plain expr type.Nil table (val.Record of id) key single has = elim has [ ]
  plain expr (type.List m) table (val.List of ids) key single has = absurd (true≢false (sym key))
  plain expr type.Integer table (val.List of ids) key single has = elim has [ ]
  plain expr type.Text table (val.List of ids) key single has = elim has [ ]
  plain expr type.Boolean table (val.List of ids) key single has = elim has [ ]
  plain expr (type.Record m) table (val.List of ids) key single has = elim has [ ]
  plain expr type.Nil table (val.List of ids) key single has = elim has [ ]

  -- what has the type of a record is nil or a record that lives
  abbrev Living : TableMap → ℕ → Val → Type 0
  Living table m v = (id : ℕ) × (v ≡ val.Record m id) × IsSome (row_of table m id)

  living : (table : TableMap) (m : ℕ) (v : Val) → HasType table (type.Record m) v → (v ≡ val.Plain value.Nil) ⊎ Living table m v
  living table m (val.Plain value.Nil) has = inl refl
  living table m (val.Plain (value.Bool b)) has = elim has [ ]
  living table m (val.Plain (value.Int n)) has = elim has [ ]
  living table m (val.Plain (value.Text t)) has = elim has [ ]
  living table m (val.Record of id) has = inr (id, ap (λ model. val.Record model id) has.0, has.1)
  living table m (val.List of ids) has = elim has [ ]

  record_same : (m : ℕ) (x y : Val) → HasType one (type.Record m) x → HasType other (type.Record m) y → id_of x ≡ id_of y → version_of one x ≡ version_of other y → (x ≡ y) × HasSameRow one other x
  record_same m x y has had ids versions = by (living one m x has) (living other m y had)
    where
      by : (x ≡ val.Plain value.Nil) ⊎ Living one m x → (y ≡ val.Plain value.Nil) ⊎ Living other m y → (x ≡ y) × HasSameRow one other x
      by (inl a) (inl b) = (a ∙ sym b, subst (HasSameRow one other) (sym a) tt)
      by (inl a) (inr b) = absurd (cc (sym (ap id_of a) ∙ ids ∙ ap id_of b.1))
      by (inr a) (inl b) = absurd (cc (sym (ap id_of a.1) ∙ ids ∙ ap id_of b))
      by (inr a) (inr b) =
          let both : Some a.0 ≡ Some b.0 = sym (ap id_of a.1) ∙ ids ∙ ap id_of b.1 in
          let same_id : a.0 ≡ b.0 = cc in
          let same : x ≡ y = a.1 ∙ ap (val.Record m) same_id ∙ sym b.1 in
          let alive : IsSome (row_of other m a.0) = subst (λ id. IsSome (row_of other m id)) (sym same_id) b.2 in
          let version : version_of one (val.Record m a.0) ≡ version_of other (val.Record m a.0) = ap (version_of one) (sym a.1) ∙ versions ∙ ap (version_of other) (b.1 ∙ ap (val.Record m) (sym same_id)) in
          (same, subst (HasSameRow one other) (sym a.1) (same_version m a.0 a.2 alive version))

  -- the versions of equal parts stand at one place
  step_versions : (r q : Result ValueType TypeKind) (x y : Val) (more rest : List ℕ) → component_by schema r x ≡ component_by schema q y → versions_by one r x ++ more ≡ versions_by other q y ++ rest
      → (versions_by one r x ≡ versions_by other q y) × (more ≡ rest)
  step_versions r q x y more rest e versions = by (sort_of r) (sort_of q)
    where
      by : IsRecord r ⊎ IsSingle r → IsRecord q ⊎ IsSingle q → (versions_by one r x ≡ versions_by other q y) × (more ≡ rest)
      by (inl a) (inl b) =
          let ahead : versions_by one r x ≡ version_of one x ∷ [] = ap (λ t. versions_by one t x) a.1 in
          let beside : versions_by other q y ≡ version_of other y ∷ [] = ap (λ t. versions_by other t y) b.1 in
          let both : version_of one x ∷ more ≡ version_of other y ∷ rest = ap (λ v. v ++ more) (sym ahead) ∙ versions ∙ ap (λ v. v ++ rest) beside in
          let same : version_of one x ≡ version_of other y = cc in
          let after : more ≡ rest = cc in
          (ahead ∙ ap (λ v. v ∷ []) same ∙ sym beside, after)
      by (inl a) (inr b) = absurd (cc (ap (λ t. component_by schema t x) (sym a.1) ∙ e ∙ b.component_is schema y))
      by (inr a) (inl b) = absurd (cc (sym (a.component_is schema x) ∙ e ∙ ap (λ t. component_by schema t y) b.1))
      by (inr a) (inr b) =
          let ahead = a.versions_are one x in
          let beside = b.versions_are other y in
          (ahead ∙ sym beside, ap (λ v. v ++ more) (sym ahead) ∙ versions ∙ ap (λ v. v ++ rest) beside)

  module _ (plurals : HasDistinctPlurals schema) where
    -- equal parts with equal versions have one value, and a record one row
    values_same : (e f : Expr) (t u : ValueType) (x y : Val) → is_key e t ≡ true → is_key f u ≡ true → HasType one t x → HasType other u y → IsComponent (component_by schema (Ok t) x)
        → component_by schema (Ok t) x ≡ component_by schema (Ok u) y → versions_by one (Ok t) x ≡ versions_by other (Ok u) y → (x ≡ y) × HasSameRow one other x
    values_same e f t u x y key twin has had is same versions = by (sort_of (Ok t)) (sort_of (Ok u))
      where
        by : IsRecord (Ok t) ⊎ IsSingle (Ok t) → IsRecord (Ok u) ⊎ IsSingle (Ok u) → (x ≡ y) × HasSameRow one other x
        by (inl a) (inl b) =
            let of : t ≡ type.Record a.0 = cc a.1 in
            let to : u ≡ type.Record b.0 = cc b.1 in
            let parts : component.Record (plural_of schema a.0) (id_of x) ≡ component.Record (plural_of schema b.0) (id_of y) = ap (λ t. component_by schema (Ok t) x) (sym of) ∙ same ∙ ap (λ t. component_by schema (Ok t) y) to in
            let named : IsComponent (component.Record (plural_of schema a.0) (id_of x)) = subst (λ t. IsComponent (component_by schema (Ok t) x)) of is in
            let one_plural : plural_of schema a.0 ≡ plural_of schema b.0 = cc in
            let ids : id_of x ≡ id_of y = cc in
            let both : version_of one x ∷ [] ≡ version_of other y ∷ [] = ap (λ t. versions_by one (Ok t) x) (sym of) ∙ versions ∙ ap (λ t. versions_by other (Ok t) y) to in
            let moments : version_of one x ≡ version_of other y = cc in
            record_same a.0 x y (subst (λ t. HasType one t x) of has) (subst (λ t. HasType other t y) (to ∙ ap type.Record (sym (one_model schema plurals a.0 b.0 named.0 one_plural))) had) ids moments
        by (inl a) (inr b) = absurd (cc (ap (λ t. component_by schema t x) (sym a.1) ∙ same ∙ b.component_is schema y))
        by (inr a) (inl b) = absurd (cc (sym (a.component_is schema x) ∙ same ∙ ap (λ t. component_by schema t y) b.1))
        by (inr a) (inr b) =
            let parts : component.Scalar (single_of x) ≡ component.Scalar (single_of y) = sym (a.component_is schema x) ∙ same ∙ b.component_is schema y in
            let value : single_of x ≡ single_of y = cc in
            let here = plain e t one x key a has in
            let there = plain f u other y twin b had in
            (here ∙ ap val.Plain value ∙ sym there, subst (HasSameRow one other) (sym here) tt)

    module _ (typing types : Typing) (here there : Variables) (fits : Fits schema one) (fits_there : Fits schema other) (have : HaveTypes one typing here) (had : HaveTypes other types there) where
      -- two parts have one value, and where this is a record, one row; literals are left out
      abbrev pub AreSame : List KeyPart → List KeyPart → Type 0
      AreSame [] [] = ⊤
      AreSame (part.Path e ∷ ps) (part.Path f ∷ qs) = ((value_of e here schema one ≡ value_of f there schema other) × HasSameRow one other (value_of e here schema one)) × AreSame ps qs
      AreSame (part.Literal s ∷ ps) (part.Literal t ∷ qs) = AreSame ps qs
      AreSame ps qs = ⊥

      abbrev pub IsTypedPart : Typing → KeyPart → Type 0
      IsTypedPart typing (part.Path e) = IsKeyPart schema typing e
      IsTypedPart typing (part.Literal text) = ⊤

      paths_same : (e f : Expr) → IsKeyPart schema typing e → IsKeyPart schema types f → IsComponent (part_component schema one typing here (part.Path e)) → part_component schema one typing here (part.Path e) ≡ part_component schema other types there (part.Path f)
          → part_versions schema one typing here (part.Path e) ≡ part_versions schema other types there (part.Path f)
          → (value_of e here schema one ≡ value_of f there schema other) × HasSameRow one other (value_of e here schema one)
      paths_same e f of to is same versions =
          values_same e f of.0 to.0 (value_of e here schema one) (value_of f there schema other) of.2 to.2
          (values schema one typing here e of.0 fits have of.1) (values schema other types there f to.0 fits_there had to.1)
          (subst (λ r. IsComponent (component_by schema r (value_of e here schema one))) of.1 is)
          (ap (λ r. component_by schema r (value_of e here schema one)) (sym of.1) ∙ same ∙ ap (λ r. component_by schema r (value_of f there schema other)) to.1)
          (ap (λ r. versions_by one r (value_of e here schema one)) (sym of.1) ∙ versions ∙ ap (λ r. versions_by other r (value_of f there schema other)) to.1)

      pub all_same : (ps qs : List KeyPart) → AllByRecursion (IsTypedPart typing) ps → AllByRecursion (IsTypedPart types) qs → AllByRecursion IsComponent (map (part_component schema one typing here) ps)
          → map (part_component schema one typing here) ps ≡ map (part_component schema other types there) qs
          → flat_map (part_versions schema one typing here) ps ≡ flat_map (part_versions schema other types there) qs → AreSame ps qs
      all_same [] [] of to all same versions = tt
      all_same [] (q ∷ qs) of to all same versions = absurd (cc same)
      all_same (p ∷ ps) [] of to all same versions = absurd (cc same)
      all_same (part.Path e ∷ ps) (part.Path f ∷ qs) of to all same versions =
          let first : part_component schema one typing here (part.Path e) ≡ part_component schema other types there (part.Path f) = cc in
          let rest : map (part_component schema one typing here) ps ≡ map (part_component schema other types there) qs = cc in
          let split = step_versions (type_of schema typing e) (type_of schema types f) (value_of e here schema one) (value_of f there schema other)
          (flat_map (part_versions schema one typing here) ps) (flat_map (part_versions schema other types there) qs) first versions in
          (paths_same e f of.0 to.0 all.0 first split.0, all_same ps qs of.1 to.1 all.1 rest split.1)
      all_same (part.Literal s ∷ ps) (part.Literal t ∷ qs) of to all same versions =
          let rest : map (part_component schema one typing here) ps ≡ map (part_component schema other types there) qs = cc in all_same ps qs of.1 to.1 all.1 rest versions
      all_same (part.Path e ∷ ps) (part.Literal t ∷ qs) of to all same versions =
          let first : component_by schema (type_of schema typing e) (value_of e here schema one) ≡ component.Literal t = cc in absurd (no_literal schema (type_of schema typing e) (value_of e here schema one) t first)
      all_same (part.Literal s ∷ ps) (part.Path f ∷ qs) of to all same versions =
          let first : component_by schema (type_of schema types f) (value_of f there schema other) ≡ component.Literal s = cc in absurd (no_literal schema (type_of schema types f) (value_of f there schema other) s first)

      abbrev PartHolds : KeyPart → Type 0
      PartHolds (part.Path e) = PartAgrees schema one other here there e
      PartHolds (part.Literal text) = ⊤

      parts_hold : (ps : List KeyPart) → AreSame ps ps → AllByRecursion PartHolds ps
      parts_hold [] same = tt
      parts_hold (part.Path e ∷ ps) same = (record { value = same.0.0; row = same.0.1 }, parts_hold ps same.1)
      parts_hold (part.Literal text ∷ ps) same = (tt, parts_hold ps same)

      -- of one key each part agrees
      pub key_same : (ps : List KeyPart) → AreSame ps ps → KeysAgree schema one other here there ps
      key_same ps same e among = of_each PartHolds ps (part.Path e) (parts_hold ps same) among
