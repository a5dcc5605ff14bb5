-- What is found in a typed set, and what a body of it needs of a key: part by part.
use Rattle.std.proofs.Common.{◌≡◌, ℕ, Bool, true, false, true≢false, List, [], ◌∷◌, ◌++◌, map, Option, Some, Result, Ok, Err, inl, inr, IsSome, refl, ap, sym, subst, ◌∙◌}
use Rattle.std.specs.List.{AllByRecursion, flat_map}
use Rattle.std.proofs.lemmas.List.Elements.{recursion_from_All}
use Rattle.doll_text.specs.Steps.{◌>>=◌, ◌>>◌, check}
use Rattle.doll_expr.specs.declared.expr.Expr.{Expr}
use Rattle.doll_erb.specs.declared.node.KeyPart.{KeyPart}
use Rattle.doll_erb.specs.declared.node.Local.{Local}
use Rattle.doll_schema.specs.Models.{ModelList}
use Rattle.doll_schema.specs.declared.value.Val.{Val}
use Rattle.doll_schema.specs.declared.value.Val.TheVariants as val
use Rattle.doll_table.specs.Tables.{row_of}
use Rattle.doll_eval.specs.Values.{value_of}
use Rattle.doll_route.specs.declared.route.Route.{Route}
use Rattle.doll_set.specs.Dependencies.{names_of, partial_of}
use Rattle.doll_set.specs.Digests.{name_at}
use Rattle.doll_set.specs.Sets.{ReadSet}
use Rattle.doll_plain.specs.Direct.{Variables, items_of}
use Rattle.doll_types.specs.declared.findings.Finding.{Finding}
use Rattle.doll_types.specs.declared.findings.Finding.TheVariants.{Fault, Call}
use Rattle.doll_types.specs.declared.types.TypeKind.{TypeKind}
use Rattle.doll_types.specs.declared.types.TypeKind.TheVariants.{NotPrintable}
use Rattle.doll_types.specs.declared.types.ValueType.{ValueType}
use Rattle.doll_types.specs.declared.types.ValueType.TheVariants as type
use Rattle.doll_types.specs.Findings.{failed, items_type, local_found, locals_typing, with_items}
use Rattle.doll_types.specs.Reached.{IsReached}
use Rattle.doll_types.specs.Sound.{HasType}
use Rattle.doll_types.specs.Types.{Typing, is_printable, item_type, printed_type, type_of}
use Rattle.doll_types.proofs.Values.{values}
use Rattle.doll_lint.specs.declared.needs.Need.{Need}
use Rattle.doll_lint.specs.declared.path.Path.{Path}
use Rattle.doll_lint.specs.declared.reading.Reading.{Reading}
use Rattle.doll_lint.specs.declared.reading.Wanted.{Wanted}
use Rattle.doll_lint.specs.Faults.{is_met}
use Rattle.doll_lint.specs.Needs.{Needs, Setting, collection_needs, each_needs, local_needs, local_standing, looking_wants, needs_at, place, render_needs, with_type}
use Rattle.doll_lint.specs.Readings.{Standing, looked, looked_at, reading_of}
use Rattle.doll_agree.specs.Standing.{AreAsked, AreInScope, AreSingle, AtSome, EachItem, Pages, Stand, Wait}
use Rattle.doll_agree.proofs.Expressions.{Told, stands, told_of}
use Rattle.doll_agree.proofs.Suiting.{IsSimple}
use Rattle.doll_agree.proofs.Lists.{back, each_mapped, front}
use Rattle.doll_agree.proofs.Readings.{of_type}
use Rattle.doll_agree.proofs.Scopes.{AreLocalsTold}
use Rattle.doll_agree.proofs.Stands.{lists_covered, names}
use Rattle.doll_agree.proofs.Told.{ok_same}

-- ---- what is found in a typed set

-- no fault is found in a template with a number, and each partial that it renders is reached
abbrev pub IsGood : ReadSet → ModelList → List Route → ℕ → Finding → Type 0
IsGood set schema routes number (Fault at kind) = ⊥
IsGood set schema routes number (Call name types) =
    (partial : ℕ) → partial_of (names_of set.templates) (name_at set.templates number) name ≡ Some partial → IsReached set schema routes (record { template = partial; typing = types })

printable_simple : (t : ValueType) → is_printable t ≡ true → IsSimple t
printable_simple type.Integer e = tt
printable_simple type.Text e = tt
printable_simple type.Boolean e = tt
printable_simple (type.Record model) e = absurd (true≢false (sym e))
printable_simple (type.List model) e = absurd (true≢false (sym e))
printable_simple type.Nil e = tt

module _ (set : ReadSet) (schema : ModelList) (routes : List Route) (number : ℕ) where
  abbrev pub AreGood : List Finding → Type 0
  AreGood found = AllByRecursion (IsGood set schema routes number) found

  -- what has no fault has a type
  pub typed_well : (at : ℕ) (r : Result ValueType TypeKind) → AreGood (failed at r) → (t : ValueType) × (r ≡ Ok t)
  typed_well at (Err kind) good = absurd good.0
  typed_well at (Ok t) good = (t, refl)

  -- what is written has a simple one
  pub written_well : (at : ℕ) (r : Result ValueType TypeKind) → AreGood (failed at (r >>= printed_type)) → (t : ValueType) × (r ≡ Ok t) × IsSimple t
  written_well at (Err kind) good = absurd good.0
  written_well at (Ok t) good = (t, refl, by (is_printable t) refl good)
    where
      by : (b : Bool) → is_printable t ≡ b → AreGood (failed at (check b NotPrintable >> Ok t)) → IsSimple t
      by true is good = printable_simple t is
      by false is good = absurd good.0

  -- what is walked has items with a type
  pub walked_well : (at : ℕ) (r : Result ValueType TypeKind) (found : ValueType → List Finding) → AreGood (with_items at r found) → (t : ValueType) × (r ≡ Ok t) × AreGood (found t)
  walked_well at (Err kind) found good = absurd good.0
  walked_well at (Ok t) found good = (t, refl, good)

  -- locals have their types
  pub locals_well : (types : Typing) (at : ℕ) (locals : List Local) → AreGood (flat_map (local_found schema types at) locals) → (ts : Typing) × (locals_typing schema types locals ≡ Ok ts)
  locals_well types at [] good = ([], refl)
  locals_well types at (l ∷ locals) good =
      by (type_of schema types l.value) (locals_typing schema types locals) (front (IsGood set schema routes number) (local_found schema types at l) (flat_map (local_found schema types at) locals) good)
      (locals_well types at locals (back (IsGood set schema routes number) (local_found schema types at l) (flat_map (local_found schema types at) locals) good))
    where
      by : (r : Result ValueType TypeKind) (rs : Result Typing TypeKind) → AreGood (failed at r) → ((ts : Typing) × (rs ≡ Ok ts)) → (ts : Typing) × (((r >>= (λ t. Ok (l.name, t))) >>= (λ one. rs >>= (λ more. Ok (one ∷ more)))) ≡ Ok ts)
      by (Err kind) rs good more = absurd good.0
      by (Ok t) rs good more = ((l.name, t) ∷ more.0, ap (λ (rs : Result Typing TypeKind). rs >>= (λ more. Ok ((l.name, t) ∷ more))) more.1)

-- ---- lists

module _ (p : Pages) (typing : Typing) (key : List KeyPart) (asked : AreAsked p typing key) where
  -- a part of a page for each record of a list that stands at some paths
  records_same : (paths : List Path) (model m : ℕ) (ids : List ℕ) (f g : Val → List ℕ) → m ≡ model → AllByRecursion (λ id. IsSome (row_of p.one model id)) ids → AllByRecursion (λ id. AtSome p paths (val.Record m id) (val.Record m id)) ids
      → ((x : Val) → HasType p.one (type.Record model) x → Wait p (type.Record model) paths x x → f x ≡ g x) → flat_map f (map (λ id. val.Record m id) ids) ≡ flat_map g (map (λ id. val.Record m id) ids)
  records_same paths model m [] f g same live at each = refl
  records_same paths model m (id ∷ ids) f g same live at each =
      ap (λ w. w ++ flat_map f (map (λ id. val.Record m id) ids)) (each (val.Record m id) (same, live.0) (inr at.0))
      ∙ ap (λ w. g (val.Record m id) ++ w) (records_same paths model m ids f g same live.1 at.1 each)

  list_same : (paths : List Path) (model : ℕ) (a : Val) (f g : Val → List ℕ) → HasType p.one (type.List model) a → EachItem (λ x. AtSome p paths x x) a
      → ((x : Val) → HasType p.one (type.Record model) x → Wait p (type.Record model) paths x x → f x ≡ g x) → flat_map f (items_of a) ≡ flat_map g (items_of a)
  list_same paths model (val.Plain v) f g has at each = refl
  list_same paths model (val.Record m id) f g has at each = refl
  list_same paths model (val.List m ids) f g has at each = records_same paths model m ids f g has.0 (recursion_from_All (λ id. IsSome (row_of p.one model id)) ids has.1) at each

  none_walked : (a b : Val) (f g : Val → List ℕ) → AreSingle a b → flat_map f (items_of a) ≡ flat_map g (items_of b)
  none_walked a b f g s = ap (λ v. flat_map f (items_of v)) s.1 ∙ ap (λ v. flat_map g (items_of v)) (sym s.2)

  walked_same : (of item : ValueType) (paths : List Path) (a b : Val) (f g : Val → List ℕ) → item_type of ≡ Ok item → Stand p of paths a b → HasType p.one of a → Told p typing key asked (looked_at (Ok of) paths)
      → ((x : Val) → HasType p.one item x → Wait p item paths x x → f x ≡ g x) → flat_map f (items_of a) ≡ flat_map g (items_of b)
  walked_same type.Integer item paths a b f g is s has told each = absurd (cc is)
  walked_same type.Text item paths a b f g is s has told each = absurd (cc is)
  walked_same type.Boolean item paths a b f g is s has told each = absurd (cc is)
  walked_same (type.Record model) item paths a b f g is s has told each = absurd (cc is)
  walked_same type.Nil item paths a b f g is s has told each = none_walked a b f g s
  walked_same (type.List model) item paths a b f g is (inl s) has told each = none_walked a b f g s
  walked_same (type.List model) item paths a b f g is (inr s) has told each =
      let same = lists_covered p typing key asked paths model a b s told has in
      list_same paths model a f g has same.1 (subst (λ t. (x : Val) → HasType p.one t x → Wait p t paths x x → f x ≡ g x) (sym (ok_same is)) each)
      ∙ ap (λ v. flat_map g (items_of v)) same.0

  module _ (inner : Typing) (standing : Standing) (here there : Variables) (scope : AreInScope p inner standing here there) where
    -- a part of a page for each item of a list whose needs are told
    pub each_same : (list : Expr) (item : ValueType) (f g : Val → List ℕ) → items_type p.schema inner list ≡ Ok item → Told p typing key asked (looking_wants (reading_of p.schema inner standing list))
        → ((x : Val) → HasType p.one item x → Wait p item (reading_of p.schema inner standing list).paths x x → f x ≡ g x)
        → flat_map f (items_of (value_of list here p.schema p.one)) ≡ flat_map g (items_of (value_of list there p.schema p.other))
    each_same list item f g is told each = by (type_of p.schema inner list) refl is
      where
        by : (r : Result ValueType TypeKind) → type_of p.schema inner list ≡ r → (r >>= item_type) ≡ Ok item → flat_map f (items_of (value_of list here p.schema p.one)) ≡ flat_map g (items_of (value_of list there p.schema p.other))
        by (Err kind) typed e = absurd (cc e)
        by (Ok of) typed e =
            let read : Reading = reading_of p.schema inner standing list in
            walked_same of item read.paths (value_of list here p.schema p.one) (value_of list there p.schema p.other) f g e
            (stands p typing key asked inner standing here there scope list of typed (front (told_of p typing key asked) read.wants (looked read) told))
            (values p.schema p.one inner here list of asked.fits scope.have typed)
            (subst (λ t. Told p typing key asked (looked_at t read.paths)) (of_type p.schema inner standing list ∙ typed) (back (told_of p typing key asked) read.wants (looked read) told))
            each

-- ---- needs

module _ (p : Pages) (typing : Typing) (key : List KeyPart) (asked : AreAsked p typing key) where
  abbrev pub need_told : Need → Type 0
  need_told need = is_met p.schema (names p typing key asked) need ≡ true

  -- a key tells all that is needed
  abbrev pub AreTold : List Need → Type 0
  AreTold needs = AllByRecursion need_told needs

  pub wants_told : (at : ℕ) (wants : List Wanted) → AreTold (needs_at at wants) → Told p typing key asked wants
  wants_told at wants told = each_mapped need_told (λ (w : Wanted). record { path = w.path; grade = w.grade; at = at }) wants told

  pub each_told : (setting : Setting) (at : ℕ) (list : Expr) (name : List ℕ) (body : Needs) (outer : Option ℕ) (inner : Typing) (standing : Standing) (item : ValueType) → items_type setting.schema inner list ≡ Ok item
      → AreTold (each_needs setting at list name body outer inner standing)
      → Told p typing key asked (looking_wants (reading_of setting.schema inner standing list))
      × AreTold (body outer (inner ++ (name, item) ∷ []) (standing ++ (name, (reading_of setting.schema inner standing list).paths) ∷ []))
  unfolding each_needs
  each_told setting at list name body outer inner standing item is told =
      let read : Reading = reading_of setting.schema inner standing list in
      let then : ValueType → List Need = λ t. body outer (inner ++ (name, t) ∷ []) (standing ++ (name, read.paths) ∷ []) in (
        wants_told (place outer at) (looking_wants read) (front need_told (needs_at (place outer at) (looking_wants read)) (with_type (items_type setting.schema inner list) then) told),
        subst (λ r. AreTold (with_type r then)) is (back need_told (needs_at (place outer at) (looking_wants read)) (with_type (items_type setting.schema inner list) then) told),
      )

  pub collection_told : (setting : Setting) (at : ℕ) (name : List ℕ) (list : Expr) (item : List ℕ) (outer : Option ℕ) (inner : Typing) (standing : Standing) (of : ValueType) → items_type setting.schema inner list ≡ Ok of
      → AreTold (collection_needs setting at name list item outer inner standing)
      → Told p typing key asked (looking_wants (reading_of setting.schema inner standing list))
      × AreTold (setting.partial name (Some (place outer at)) ((item, of) ∷ []) ((item, (reading_of setting.schema inner standing list).paths) ∷ []))
  unfolding collection_needs
  collection_told setting at name list item outer inner standing of is told =
      let read : Reading = reading_of setting.schema inner standing list in
      let then : ValueType → List Need = λ t. setting.partial name (Some (place outer at)) ((item, t) ∷ []) ((item, read.paths) ∷ []) in (
        wants_told (place outer at) (looking_wants read) (front need_told (needs_at (place outer at) (looking_wants read)) (with_type (items_type setting.schema inner list) then) told),
        subst (λ r. AreTold (with_type r then)) is (back need_told (needs_at (place outer at) (looking_wants read)) (with_type (items_type setting.schema inner list) then) told),
      )

  pub locals_told : (inner : Typing) (standing : Standing) (here there : Variables) (scope : AreInScope p inner standing here there) (at : ℕ) (locals : List Local) → AreTold (flat_map (local_needs p.schema inner standing at) locals)
      → AreLocalsTold p typing key asked inner standing here there scope locals
  locals_told inner standing here there scope at [] told = tt
  locals_told inner standing here there scope at (l ∷ locals) told = (
    wants_told at (looking_wants (reading_of p.schema inner standing l.value)) (front need_told (local_needs p.schema inner standing at l) (flat_map (local_needs p.schema inner standing at) locals) told),
    locals_told inner standing here there scope at locals (back need_told (local_needs p.schema inner standing at l) (flat_map (local_needs p.schema inner standing at) locals) told),
  )

  pub render_told : (setting : Setting) (at : ℕ) (name : List ℕ) (locals : List Local) (outer : Option ℕ) (inner : Typing) (standing : Standing) (types : Typing) → locals_typing setting.schema inner locals ≡ Ok types
      → AreTold (render_needs setting at name locals outer inner standing)
      → AreTold (flat_map (local_needs setting.schema inner standing (place outer at)) locals) × AreTold (setting.partial name (Some (place outer at)) types (local_standing setting.schema inner standing locals))
  unfolding render_needs
  render_told setting at name locals outer inner standing types is told =
      let own : List Need = flat_map (local_needs setting.schema inner standing (place outer at)) locals in
      let then : Typing → List Need = λ types. setting.partial name (Some (place outer at)) types (local_standing setting.schema inner standing locals) in (
        front need_told own (with_type (locals_typing setting.schema inner locals) then) told,
        subst (λ r. AreTold (with_type r then)) is (back need_told own (with_type (locals_typing setting.schema inner locals) then) told),
      )
