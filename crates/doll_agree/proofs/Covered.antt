-- Values at a path that a key tells are the same on both pages.
use Rattle.std.proofs.Common.{◌≡◌, ℕ, Bool, true, false, ◌&&◌, ◌||◌, true≢false, List, [], ◌∷◌, Option, None, Some, IsSome, is_some, refl, ap, sym, subst, ◌∙◌}
use Rattle.std.specs.Prelude.{slice_get, ⊤}
use Rattle.std.specs.List.{AllByRecursion}
use Rattle.std.specs.Option.{option_map_or}
use Rattle.doll_expr.specs.declared.expr.Expr.{Expr}
use Rattle.doll_erb.specs.declared.node.KeyPart.{KeyPart}
use Rattle.doll_schema.specs.Lookups.{many_of}
use Rattle.doll_schema.specs.declared.model.BelongsTo.{BelongsTo}
use Rattle.doll_schema.specs.declared.model.HasMany.{HasMany}
use Rattle.doll_schema.specs.declared.model.Model.{Model}
use Rattle.doll_schema.specs.declared.value.Row.{Row}
use Rattle.doll_schema.specs.declared.value.Val.{Val}
use Rattle.doll_schema.specs.declared.value.Val.TheVariants as val
use Rattle.doll_table.specs.Tables.{TableMap, ids_under, parent_of, row_of}
use Rattle.doll_eval.specs.declared.member.Member.{Member}
use Rattle.doll_eval.specs.declared.member.Member.TheVariants as member
use Rattle.doll_eval.specs.Operations.{nil}
use Rattle.doll_eval.specs.Values.{member_value, step, value_of}
use Rattle.doll_types.specs.declared.types.ValueType.{ValueType}
use Rattle.doll_types.specs.declared.types.ValueType.TheVariants as type
use Rattle.doll_types.specs.Findings.{is_key}
use Rattle.doll_types.specs.Sound.{HasType}
use Rattle.doll_types.specs.Types.{Typing}
use Rattle.doll_types.proofs.Values.{values}
use Rattle.doll_lint.specs.declared.path.PathStep.{PathStep}
use Rattle.doll_lint.specs.declared.path.PathStep.TheVariants as along
use Rattle.doll_lint.specs.Paths.{covers, is_named, settles, touches}
use Rattle.doll_lint.specs.Readings.{member_at}
use Rattle.doll_past.specs.Facts.{Touches}
use Rattle.doll_agree.specs.Keys.{HasSameRow}
use Rattle.doll_agree.specs.Standing.{AreAsked, AreChildren, At, HasSameRows, IsSameChild, IsTold, ItemsAt, ListAt, Pages, named_paths}
use Rattle.doll_agree.proofs.Lists.{each_then}
use Rattle.doll_agree.proofs.Steps.{children_are, many_there, model_there, step_is, touching}
use Rattle.doll_agree.proofs.Told.{first_holds, second_holds, told}

-- a record that a value is lives in a table
abbrev pub LivesIn : TableMap → Val → Type 0
LivesIn table (val.Plain v) = ⊤
LivesIn table (val.Record model id) = IsSome (row_of table model id)
LivesIn table (val.List model ids) = ⊤

pub lives_too : (one other : TableMap) (v : Val) → HasSameRows one other v → LivesIn one v → LivesIn other v
lives_too one other (val.Plain v) same lives = tt
lives_too one other (val.Record model id) same lives = subst (λ (o : Option Row). IsSome o) same lives
lives_too one other (val.List model ids) same lives = tt

-- of the model that it is of
pub of_model : (table : TableMap) (m model id : ℕ) → m ≡ model → IsSome (row_of table model id) → IsSome (row_of table m id)
of_model table m model id same lives = subst (λ n. IsSome (row_of table n id)) (sym same) lives

pub some_row : (o : Option Row) → IsSome o → (row : Row) × (o ≡ Some row)
some_row None lives = absurd (cc lives)
some_row (Some row) lives = (row, refl)

module _ (p : Pages) (typing : Typing) (key : List KeyPart) (asked : AreAsked p typing key) where
  -- ---- parts

  -- a part of a key is no list
  single_rows : (expr : Expr) (v : Val) (t : ValueType) → HasSameRow p.one p.other v → HasType p.one t v → is_key expr t ≡ true → HasSameRows p.one p.other v
  single_rows expr (val.Plain v) t row has may = tt
  single_rows expr (val.Record model id) t row has may = row
  single_rows expr (val.List model ids) type.Integer row has may = absurd has
  single_rows expr (val.List model ids) type.Text row has may = absurd has
  single_rows expr (val.List model ids) type.Boolean row has may = absurd has
  single_rows expr (val.List model ids) (type.Record m) row has may = absurd has
  single_rows expr (val.List model ids) (type.List m) row has may = absurd (true≢false (sym may))
  single_rows expr (val.List model ids) type.Nil row has may = absurd has

  no_list : (expr : Expr) (model : ℕ) (ids : List ℕ) (t : ValueType) → HasType p.one t (val.List model ids) → is_key expr t ≡ true → ⊥
  no_list expr model ids type.Integer has may = has
  no_list expr model ids type.Text has may = has
  no_list expr model ids type.Boolean has may = has
  no_list expr model ids (type.Record m) has may = has
  no_list expr model ids (type.List m) has may = true≢false (sym may)
  no_list expr model ids type.Nil has may = has

  -- what stands where a part of the key does is the same
  pub part_same : (root : List ℕ) (steps : List PathStep) (a b : Val) → IsTold p key root steps → At p root steps a b → (a ≡ b) × HasSameRows p.one p.other a
  part_same root steps a b t at =
      let ends = t.values a b at in
      let agrees = asked.agree t.expr t.among in
      let may = asked.parts t.expr t.among in
      let here : Val = value_of t.expr p.here p.schema p.one in (
        ends.0 ∙ agrees.value ∙ sym ends.1,
        subst (HasSameRows p.one p.other) (sym ends.0) (single_rows t.expr here may.0 agrees.row (values p.schema p.one typing p.here t.expr may.0 asked.fits asked.have may.1) may.2),
      )

  -- ---- records

  -- what is covered is the same, and so is its row
  pub covered : (root : List ℕ) (steps : List PathStep) (a b : Val) → covers p.schema (named_paths p.schema typing key) root steps ≡ true → At p root steps a b → (a ≡ b) × HasSameRows p.one p.other a
  covered root [] a b is at = part_same root [] a b (told p typing key asked root [] is) at
  covered root (along.Parent model k ∷ before) a b is at = by (is_named (named_paths p.schema typing key) root (along.Parent model k ∷ before)) refl is
    where
      by : (t : Bool) → is_named (named_paths p.schema typing key) root (along.Parent model k ∷ before) ≡ t → (t || false) ≡ true → (a ≡ b) × HasSameRows p.one p.other a
      by true named e = part_same root (along.Parent model k ∷ before) a b (told p typing key asked root (along.Parent model k ∷ before) named) at
      by false named e = absurd (true≢false (sym e))
  covered root (along.Children model k ∷ before) a b is at =
      let child = at.3 in (
        child.here ∙ sym child.there,
        subst (HasSameRows p.one p.other) (sym child.here) (child.same.lives ∙ sym child.same.same),
      )

  -- a step that reads a row is the same from the same row
  pub own_same : (model id : ℕ) (name : List ℕ) (k : Member) → member_at p.schema model name ≡ k → (k ≡ member.Unknown → ⊥) → ((m : Model) (row : Row) → member_value p.one m model id row k ≡ member_value p.other m model id row k)
      → IsSome (row_of p.one model id) → row_of p.one model id ≡ row_of p.other model id → step p.schema p.one (val.Record model id) name ≡ step p.schema p.other (val.Record model id) name
  own_same model id name k is known own lives same =
      let m = model_there p.schema model name k is known in
      let row = some_row (row_of p.one model id) lives in
      step_is p.schema p.one model id name m.0 row.0 k m.1 row.1 is ∙ own m.0 row.0 ∙ sym (step_is p.schema p.other model id name m.0 row.0 k m.1 (sym same ∙ row.1) is)

  -- the id of a record that lives in both
  pub id_same : (model id : ℕ) (name : List ℕ) → member_at p.schema model name ≡ member.Id → IsSome (row_of p.one model id) → IsSome (row_of p.other model id)
      → step p.schema p.one (val.Record model id) name ≡ step p.schema p.other (val.Record model id) name
  id_same model id name is here there =
      let m = model_there p.schema model name member.Id is (λ e. cc e) in
      let row = some_row (row_of p.one model id) here in
      let other = some_row (row_of p.other model id) there in
      step_is p.schema p.one model id name m.0 row.0 member.Id m.1 row.1 is ∙ sym (step_is p.schema p.other model id name m.0 other.0 member.Id m.1 other.1 is)

  -- the parent of a living record lives
  parent_lives : (model id at : ℕ) (name : List ℕ) (row : Row) → member_at p.schema model name ≡ member.Parent at → row_of p.other model id ≡ Some row → LivesIn p.other (step p.schema p.other (val.Record model id) name)
  parent_lives model id at name row is lives =
      let m = model_there p.schema model name (member.Parent at) is (λ e. cc e) in
      subst (LivesIn p.other) (sym (step_is p.schema p.other model id name m.0 row (member.Parent at) m.1 lives is))
      (of_parent m.0 m.1 (slice_get m.0.belongs_to at) refl)
    where
      of_key : (m : Model) → slice_get p.schema.models model ≡ Some m → (b : BelongsTo) → slice_get m.belongs_to at ≡ Some b → (o : Option ℕ) → parent_of row at ≡ o → LivesIn p.other (option_map_or (λ key. val.Record b.model key) o nil)
      of_key m there b among None named = tt
      of_key m there b among (Some owner) named = (asked.fits_there.rows model id m row there lives).parents at b owner among named

      of_parent : (m : Model) → slice_get p.schema.models model ≡ Some m → (o : Option BelongsTo) → slice_get m.belongs_to at ≡ o → LivesIn p.other (option_map_or (λ (b : BelongsTo). option_map_or (λ key. val.Record b.model key) (parent_of row at) nil) o nil)
      of_parent m there None among = tt
      of_parent m there (Some b) among = of_key m there b among (parent_of row at) refl

  -- the parent of a record that is covered
  parents_same : (model at : ℕ) (name : List ℕ) (c d : Val) → member_at p.schema model name ≡ member.Parent at → HasType p.one (type.Record model) c → c ≡ d → HasSameRows p.one p.other c
      → (step p.schema p.one c name ≡ step p.schema p.other d name) × LivesIn p.other (step p.schema p.other d name)
  parents_same model at name (val.Plain v) d is has same rows = (ap (λ x. step p.schema p.other x name) same, subst (λ x. LivesIn p.other (step p.schema p.other x name)) same tt)
  parents_same model at name (val.List m ids) d is has same rows = absurd has
  parents_same model at name (val.Record m id) d is has same rows =
      let is_own : member_at p.schema m name ≡ member.Parent at = ap (λ n. member_at p.schema n name) has.0 ∙ is in
      let lives = of_model p.one m model id has.0 has.1 in
      let there = some_row (row_of p.other m id) (subst (λ (o : Option Row). IsSome o) rows lives) in (
        own_same m id name (member.Parent at) is_own (λ e. cc e) (λ m row. refl) lives rows ∙ ap (λ x. step p.schema p.other x name) same,
        subst (λ x. LivesIn p.other (step p.schema p.other x name)) same (parent_lives m id at name there.0 is_own there.1),
      )

  -- what is settled is the same
  pub settled : (root : List ℕ) (steps : List PathStep) (a b : Val) → settles p.schema (named_paths p.schema typing key) root steps ≡ true → LivesIn p.one a → At p root steps a b → (a ≡ b) × LivesIn p.other b
  settled root [] a b is lives at =
      let same = covered root [] a b is at in
      (same.0, subst (LivesIn p.other) same.0 (lives_too p.one p.other a same.1 lives))
  settled root (along.Parent model k ∷ before) a b is lives at = by (covers p.schema (named_paths p.schema typing key) root (along.Parent model k ∷ before)) refl is
    where
      by : (t : Bool) → covers p.schema (named_paths p.schema typing key) root (along.Parent model k ∷ before) ≡ t → (t || covers p.schema (named_paths p.schema typing key) root before) ≡ true → (a ≡ b) × LivesIn p.other b
      by true covers_it e =
          let same = covered root (along.Parent model k ∷ before) a b covers_it at in
          (same.0, subst (LivesIn p.other) same.0 (lives_too p.one p.other a same.1 lives))
      by false covers_it e =
          let same = covered root before at.0 at.1 e at.2 in
          let ends = parents_same model k at.3.name at.0 at.1 at.3.is at.3.typed same.0 same.1 in
          (at.3.here ∙ ends.0 ∙ sym at.3.there, subst (LivesIn p.other) (sym at.3.there) ends.1)
  settled root (along.Children model k ∷ before) a b is lives at =
      let child = at.3 in (
        child.here ∙ sym child.there,
        subst (LivesIn p.other) (sym child.there) (ap (λ (o : Option Row). is_some o) child.same.same),
      )

  -- ---- lists

  -- a variable that the key names is no list
  root_list : (root : List ℕ) (model : ℕ) (a b : Val) → IsTold p key root [] → At p root [] a b → HasType p.one (type.List model) a → (a ≡ b) × ItemsAt p root [] a
  root_list root model (val.Plain v) b t at has = ((part_same root [] (val.Plain v) b t at).0, tt)
  root_list root model (val.Record m id) b t at has = absurd has
  root_list root model (val.List m ids) b t at has =
      let ends = t.values (val.List m ids) b at in
      let may = asked.parts t.expr t.among in
      absurd (no_list t.expr m ids may.0 (subst (HasType p.one may.0) (sym ends.0) (values p.schema p.one typing p.here t.expr may.0 asked.fits asked.have may.1)) may.2)

  -- the children of a record that is covered, where they touch it
  children_same : (root : List ℕ) (before : List PathStep) (model k : ℕ) (c d a b : Val) → touches p.schema (along.Children model k) ≡ true → At p root before c d → AreChildren p model k c d a b → c ≡ d → HasSameRows p.one p.other c
      → (a ≡ b) × ItemsAt p root (along.Children model k ∷ before) a
  children_same root before model k (val.Plain v) d a b touch at lists same rows = (
    lists.here ∙ ap (λ x. step p.schema p.other x lists.name) same ∙ sym lists.there,
    subst (ItemsAt p root (along.Children model k ∷ before)) (sym lists.here) tt,
  )
  children_same root before model k (val.List m ids) d a b touch at lists same rows = absurd lists.typed
  children_same root before model k (val.Record m id) d a b touch at lists same rows = (here ∙ ap (val.List many.model) agree.0 ∙ sym there, subst (ItemsAt p root (along.Children model k ∷ before)) (sym here) items)
    where
      many : HasMany
      many = (many_there p.schema model k touch).0

      many_is : many_of p.schema model k ≡ Some many
      many_is = (many_there p.schema model k touch).1

      touch_is : Touches p.schema model many
      touch_is = touching p.schema model k many many_is touch

      row : Row
      row = (some_row (row_of p.one model id) lists.typed.1).0

      lives : row_of p.one model id ≡ Some row
      lives = (some_row (row_of p.one model id) lists.typed.1).1

      lives_there : row_of p.other model id ≡ Some row
      lives_there = sym (subst (λ n. row_of p.one n id ≡ row_of p.other n id) lists.typed.0 rows) ∙ lives

      owner_there : d ≡ val.Record model id
      owner_there = sym same ∙ ap (λ n. val.Record n id) lists.typed.0

      here : a ≡ val.List many.model (ids_under p.one many.model many.inverse id)
      here =
          lists.here ∙ ap (λ n. step p.schema p.one (val.Record n id) lists.name) lists.typed.0
          ∙ children_are p.schema p.one model id k lists.name row many asked.fits.same lives lists.is many_is

      there : b ≡ val.List many.model (ids_under p.other many.model many.inverse id)
      there =
          lists.there ∙ ap (λ v. step p.schema p.other v lists.name) owner_there
          ∙ children_are p.schema p.other model id k lists.name row many asked.fits_there.same lives_there lists.is many_is

      agree : (ids_under p.one many.model many.inverse id ≡ ids_under p.other many.model many.inverse id) × AllByRecursion (IsSameChild p.one p.other many id) (ids_under p.one many.model many.inverse id)
      agree = asked.children model id many row lives lives_there touch_is

      child_at : (child : ℕ) → IsSameChild p.one p.other many id child → At p root (along.Children model k ∷ before) (val.Record many.model child) (val.Record many.model child)
      child_at child is = (
        val.Record m id,
        d,
        at,
        record {
          many = many;
          is = many_is;
          touches = touch_is;
          owner = id;
          child = child;
          owner_here = ap (λ n. val.Record n id) lists.typed.0;
          owner_there = owner_there;
          here = refl;
          there = refl;
          same = is;
        },
      )

      items : AllByRecursion (λ child. At p root (along.Children model k ∷ before) (val.Record many.model child) (val.Record many.model child)) (ids_under p.one many.model many.inverse id)
      items =
          each_then (IsSameChild p.one p.other many id) (λ child. At p root (along.Children model k ∷ before) (val.Record many.model child) (val.Record many.model child)) child_at
          (ids_under p.one many.model many.inverse id) agree.1

  -- a list that is covered is the same, and each of it stands there
  pub list_covered : (root : List ℕ) (steps : List PathStep) (model : ℕ) (a b : Val) → covers p.schema (named_paths p.schema typing key) root steps ≡ true → HasType p.one (type.List model) a → ListAt p root steps a b
      → (a ≡ b) × ItemsAt p root steps a
  list_covered root [] model a b is has at = root_list root model a b (told p typing key asked root [] is) at has
  list_covered root (along.Parent from k ∷ before) model a b is has at = absurd at
  list_covered root (along.Children from k ∷ before) model a b is has at = by (is_named (named_paths p.schema typing key) root (along.Children from k ∷ before)) refl is
    where
      by : (t : Bool) → is_named (named_paths p.schema typing key) root (along.Children from k ∷ before) ≡ t
          → (t || (touches p.schema (along.Children from k) && covers p.schema (named_paths p.schema typing key) root before)) ≡ true → (a ≡ b) × ItemsAt p root (along.Children from k ∷ before) a
      by true named e = absurd (true≢false (sym (told p typing key asked root (along.Children from k ∷ before) named).parents.0))
      by false named e =
          let touch = first_holds (touches p.schema (along.Children from k)) (covers p.schema (named_paths p.schema typing key) root before) e in
          let same = covered root before at.0 at.1 (second_holds (touches p.schema (along.Children from k)) (covers p.schema (named_paths p.schema typing key) root before) e) at.2 in
          children_same root before from k at.0 at.1 a b touch at.2 at.3 same.0 same.1
