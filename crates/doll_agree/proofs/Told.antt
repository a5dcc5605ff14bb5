-- What a key names is the value of one of its parts.
use Rattle.std.proofs.Common.{◌≡◌, ℕ, Bool, true, false, cond, ◌&&◌, ◌||◌, true≢false, List, [], ◌∷◌, ◌++◌, map, reverse, find, bytes_eq, Option, None, Some, Result, Ok, Err, refl, ap, sym, subst, ◌∙◌}
use Rattle.std.specs.Prelude.{slice_get, get_or, nat_eq, option_and_then, option_map, position}
use Rattle.std.specs.List.{AllByRecursion, Contains, list_any}
use Rattle.std.specs.Option.{ok_or, option_map_or}
use Rattle.std.proofs.lemmas.Bool.{eqb-true}
use Rattle.std.proofs.lemmas.List.{map-append, reverse-append}
use Rattle.std.proofs.lemmas.List.Elements.{Contains-append_right}
use Rattle.std.proofs.lemmas.List.Quantifiers.{position-Some}
use Rattle.std.proofs.lemmas.Slice.Eq.{bytes_eq-Decides}
use Rattle.doll_text.specs.Steps.{◌>>=◌}
use Rattle.doll_expr.specs.declared.expr.Expr.{Expr, roll-Expr}
use Rattle.doll_expr.specs.declared.expr.Expr.TheFolds.{fold-roll-Expr, ind-Expr, map-Expr}
use Rattle.doll_expr.specs.declared.expr.Expr.TheOpen.{Expr-F}
use Rattle.doll_erb.specs.declared.node.KeyPart.{KeyPart}
use Rattle.doll_erb.specs.declared.node.KeyPart.TheVariants as part
use Rattle.doll_schema.specs.Lookups.{attribute_named, key_named, many_named, parent_named}
use Rattle.doll_schema.specs.Models.{ModelList}
use Rattle.doll_schema.specs.declared.model.Attribute.{Attribute}
use Rattle.doll_schema.specs.declared.model.BelongsTo.{BelongsTo}
use Rattle.doll_schema.specs.declared.model.HasMany.{HasMany}
use Rattle.doll_schema.specs.declared.model.Kind.{Kind}
use Rattle.doll_schema.specs.declared.model.Kind.TheVariants as kinds
use Rattle.doll_schema.specs.declared.model.Model.{Model}
use Rattle.doll_schema.specs.declared.value.Val.{Val}
use Rattle.doll_table.specs.Tables.{TableMap}
use Rattle.doll_eval.specs.declared.member.Member.{Member}
use Rattle.doll_eval.specs.declared.member.Member.TheVariants as member
use Rattle.doll_eval.specs.Members.{association_member, children_member, common_member, key_member, member_of}
use Rattle.doll_eval.specs.Values.{Meaning, meaning_of, meaning_step, step, value_of, variable}
use Rattle.doll_plain.specs.Direct.{Variables}
use Rattle.doll_types.specs.declared.types.TypeKind.TheVariants.{UnknownStep, UnknownVariable}
use Rattle.doll_types.specs.declared.types.ValueType.{ValueType}
use Rattle.doll_types.specs.declared.types.ValueType.TheVariants as type
use Rattle.doll_types.specs.Findings.{is_key, is_path, path_step}
use Rattle.doll_types.specs.Types.{Typing, kind_type, member_type, part_type, step_type, type_of, type_step, variable_type}
use Rattle.doll_lint.specs.declared.path.Path.{Path}
use Rattle.doll_lint.specs.declared.path.PathStep.{PathStep}
use Rattle.doll_lint.specs.declared.path.PathStep.TheVariants as along
use Rattle.doll_lint.specs.declared.reading.Reading.{Reading}
use Rattle.doll_lint.specs.Blocks.{part_paths, paths_by, record_paths, scope_roots, variable_in, variable_step}
use Rattle.doll_lint.specs.Paths.{is_named, is_parent, path_to, root_path, same_path, same_step, same_steps, then_step}
use Rattle.doll_lint.specs.Readings.{member_at, member_reading, reading_of, reading_with, stands_for, step_reading}
use Rattle.doll_agree.specs.Standing.{AreAsked, At, IsTold, Pages, named_paths}
use Rattle.doll_agree.proofs.Lists.{first_is, from_flat, from_map, none_among, only_is}
use Rattle.doll_agree.proofs.Readings.{Typed, of_type, read_by}

-- ---- results

pub ok_same : {X F : Type 0} {x y : X} → (let r : Result X F = Ok x in r ≡ Ok y) → x ≡ y
ok_same e = cc

pub some_same : {X : Type 0} {x y : X} → Some x ≡ Some y → x ≡ y
some_same e = cc

pub some_of : {X F : Type 0} (o : Option X) (fault : F) (x : X) → ok_or o fault ≡ Ok x → o ≡ Some x
some_of None fault x e = absurd (cc e)
some_of (Some y) fault x e = ap Some (ok_same e)

-- ---- the same path

pub first_holds : (a b : Bool) → (a && b) ≡ true → a ≡ true
first_holds true b e = refl
first_holds false b e = absurd (true≢false (sym e))

pub second_holds : (a b : Bool) → (a && b) ≡ true → b ≡ true
second_holds true b e = e
second_holds false b e = absurd (true≢false (sym e))

both_numbers : (make : ℕ → ℕ → PathStep) (m a n b : ℕ) → (nat_eq m n && nat_eq a b) ≡ true → make m a ≡ make n b
both_numbers make m a n b e = ap (λ x. make x a) (eqb-true m n (first_holds (nat_eq m n) (nat_eq a b) e)) ∙ ap (make n) (eqb-true a b (second_holds (nat_eq m n) (nat_eq a b) e))

step_is : (s t : PathStep) → same_step s t ≡ true → s ≡ t
step_is (along.Parent m a) (along.Parent n b) e = both_numbers along.Parent m a n b e
step_is (along.Parent m a) (along.Children n b) e = absurd (true≢false (sym e))
step_is (along.Children m a) (along.Parent n b) e = absurd (true≢false (sym e))
step_is (along.Children m a) (along.Children n b) e = both_numbers along.Children m a n b e

steps_are : (ones others : List PathStep) → same_steps ones others ≡ true → ones ≡ others
steps_are [] [] e = refl
steps_are [] (other ∷ others) e = absurd (true≢false (sym e))
steps_are (one ∷ ones) [] e = absurd (true≢false (sym e))
steps_are (one ∷ ones) (other ∷ others) e =
    ap (λ s. s ∷ ones) (step_is one other (first_holds (same_step one other) (same_steps ones others) e))
    ∙ ap (λ more. other ∷ more) (steps_are ones others (second_holds (same_step one other) (same_steps ones others) e))

any_among : {X : Type 0} (test : X → Bool) (xs : List X) → list_any test xs ≡ true → (x : X) × Contains xs x × (test x ≡ true)
any_among test [] e = absurd (true≢false (sym e))
any_among {X} test (x ∷ xs) e = by (test x) refl e (any_among test xs)
  where
    by : (b : Bool) → test x ≡ b → (b || list_any test xs) ≡ true → (list_any test xs ≡ true → (y : X) × Contains xs y × (test y ≡ true)) → (y : X) × Contains (x ∷ xs) y × (test y ≡ true)
    by true is e later = (x, first_is x xs, is)
    by false is e later = let more = later e in (more.0, Contains-append_right (x ∷ []) xs more.0 more.1, more.2)

-- ---- the names of associations to parents

either : {X : Type 0} (o : Option X) (make : X → Member) (other m : Member) → option_map_or make o other ≡ m → ((x : X) → make x ≡ m → ⊥) → other ≡ m
either None make other m e never = e
either (Some x) make other m e never = absurd (never x e)

named_common : (m : Model) (name : List ℕ) (at : ℕ) → common_member m name ≡ member.Parent at → association_member m name ≡ member.Parent at
named_common m name at = by (bytes_eq name _) (bytes_eq name _)
  where
    by : (a b : Bool) → cond a member.Id (cond b member.UpdatedAt (association_member m name)) ≡ member.Parent at → association_member m name ≡ member.Parent at
    by true b e = absurd (cc e)
    by false true e = absurd (cc e)
    by false false e = e

named_association : (m : Model) (name : List ℕ) (at : ℕ) → association_member m name ≡ member.Parent at → parent_named m name ≡ Some at
named_association m name at = by (parent_named m name)
  where
    none : (o : Option ℕ) → option_map_or member.Children o member.Unknown ≡ member.Parent at → ⊥
    none None e = cc e
    none (Some k) e = cc e

    by : (o : Option ℕ) → option_map_or member.Parent o (children_member m name) ≡ member.Parent at → o ≡ Some at
    by None e = absurd (none (many_named m name) e)
    by (Some k) e = ap Some cc

named_member : (m : Model) (name : List ℕ) (at : ℕ) → member_of m name ≡ member.Parent at → parent_named m name ≡ Some at
named_member m name at e =
    named_association m name at
    (named_common m name at
    (either (key_named m name) member.Key (common_member m name) (member.Parent at) (either (attribute_named m name) member.Attribute (key_member m name) (member.Parent at) e (λ x is. cc is)) (λ x is. cc is)))

-- an association has one name
pub one_name : (schema : ModelList) (model at : ℕ) (one other : List ℕ) → member_at schema model one ≡ member.Parent at → member_at schema model other ≡ member.Parent at → one ≡ other
one_name schema model at one other is are = by (slice_get schema.models model) is are
  where
    in_list : (bs : List BelongsTo) → position (λ (b : BelongsTo). bytes_eq b.name one) bs ≡ Some at → position (λ (b : BelongsTo). bytes_eq b.name other) bs ≡ Some at → one ≡ other
    in_list [] here there = absurd (cc here)
    in_list (b ∷ bs) here there =
        sym ((bytes_eq-Decides (get_or (b ∷ bs) at b).name one).0 (position-Some (λ (b : BelongsTo). bytes_eq b.name one) (b ∷ bs) at b here).1)
        ∙ (bytes_eq-Decides (get_or (b ∷ bs) at b).name other).0 (position-Some (λ (b : BelongsTo). bytes_eq b.name other) (b ∷ bs) at b there).1

    by : (o : Option Model) → option_map_or (λ (m : Model). member_of m one) o member.Unknown ≡ member.Parent at → option_map_or (λ (m : Model). member_of m other) o member.Unknown ≡ member.Parent at → one ≡ other
    by None is are = absurd (cc is)
    by (Some m) is are = in_list m.belongs_to (named_member m one at is) (named_member m other at are)

-- what leads from a record to a record is an association to a parent
pub parent_step : (schema : ModelList) (from model : ℕ) (name : List ℕ) → part_type schema name (type.Record from) ≡ Some (type.Record model) → (at : ℕ) × (member_at schema from name ≡ member.Parent at)
parent_step schema from model name = by (slice_get schema.models from)
  where
    kind : (k : Kind) → kind_type k ≡ type.Record model → ⊥
    kind kinds.Integer e = cc e
    kind kinds.Text e = cc e
    kind kinds.Boolean e = cc e

    attribute : (o : Option Attribute) → option_map (λ (a : Attribute). kind_type a.kind) o ≡ Some (type.Record model) → ⊥
    attribute None e = cc e
    attribute (Some a) e = kind a.kind (some_same e)

    children : (o : Option HasMany) → option_map (λ (many : HasMany). type.List many.model) o ≡ Some (type.Record model) → ⊥
    children None e = cc e
    children (Some many) e = cc e

    of_kind : (m : Model) (k : Member) → member_type m k ≡ Some (type.Record model) → (at : ℕ) × (k ≡ member.Parent at)
    of_kind m (member.Attribute at) e = absurd (attribute (slice_get m.attributes at) e)
    of_kind m (member.Key at) e = absurd (cc e)
    of_kind m member.Id e = absurd (cc e)
    of_kind m member.UpdatedAt e = absurd (cc e)
    of_kind m (member.Parent at) e = (at, refl)
    of_kind m (member.Children at) e = absurd (children (slice_get m.has_many at) e)
    of_kind m member.Unknown e = absurd (cc e)

    by : (o : Option Model) → option_and_then (λ (m : Model). member_type m (member_of m name)) o ≡ Some (type.Record model) → (at : ℕ) × (option_map_or (λ (m : Model). member_of m name) o member.Unknown ≡ member.Parent at)
    by None e = absurd (cc e)
    by (Some m) e = of_kind m (member_of m name) e

-- ---- the variables of a scope

map_reverse : {X Y : Type 0} (go : X → Y) (xs : List X) → reverse (map go xs) ≡ map go (reverse xs)
map_reverse go [] = refl
map_reverse go (x ∷ xs) =
    reverse-append (go x ∷ []) (map go xs)
    ∙ ap (λ ys. ys ++ go x ∷ []) (map_reverse go xs)
    ∙ sym (map-append go (reverse xs) (x ∷ []))
    ∙ ap (map go) (sym (reverse-append (x ∷ []) xs))

abbrev Binding : Type 0
Binding = List ℕ × ValueType

abbrev Root : Type 0
Root = List ℕ × List Path

abbrev root_of : Binding → Root
root_of v = (v.0, root_path v.0 ∷ [])

-- each stands for itself
pub scope_root : (typing : Typing) (name : List ℕ) (t : ValueType) → variable_type typing name ≡ Some t → stands_for (scope_roots typing) name ≡ root_path name ∷ []
scope_root typing name t e = ap (λ (rs : List Root). option_map_or (λ (one : Root). one.1) (find (λ (one : Root). bytes_eq one.0 name) rs) []) (map_reverse root_of typing) ∙ each (reverse typing) e
  where
    each : (ys : Typing) → option_map (λ (b : Binding). b.1) (find (λ (b : Binding). bytes_eq b.0 name) ys) ≡ Some t → option_map_or (λ (one : Root). one.1) (find (λ (one : Root). bytes_eq one.0 name) (map root_of ys)) [] ≡ root_path name ∷ []
    each [] e = absurd (cc e)
    each (y ∷ ys) e = by (bytes_eq y.0 name) refl e (each ys)
      where
        by : (b : Bool) → bytes_eq y.0 name ≡ b → option_map (λ (b : Binding). b.1) (cond b (Some y) (find (λ (b : Binding). bytes_eq b.0 name) ys)) ≡ Some t
            → (option_map (λ (b : Binding). b.1) (find (λ (b : Binding). bytes_eq b.0 name) ys) ≡ Some t → option_map_or (λ (one : Root). one.1) (find (λ (one : Root). bytes_eq one.0 name) (map root_of ys)) [] ≡ root_path name ∷ [])
            → option_map_or (λ (one : Root). one.1) (cond b (Some (root_of y)) (find (λ (one : Root). bytes_eq one.0 name) (map root_of ys))) [] ≡ root_path name ∷ []
        by true is e later = ap (λ n. root_path n ∷ []) ((bytes_eq-Decides y.0 name).0 is)
        by false is e later = later e

-- ---- steps to parents

abbrev AreParentSteps : List PathStep → Type 0
AreParentSteps steps = AllByRecursion (λ s. is_parent s ≡ true) steps

then_parent : (schema : ModelList) (steps : List PathStep) (model at : ℕ) → AreParentSteps steps → then_step schema steps (along.Parent model at) ≡ along.Parent model at ∷ steps
then_parent schema [] model at all = refl
then_parent schema (along.Parent m b ∷ before) model at all = refl
then_parent schema (along.Children m b ∷ before) model at all = absurd (true≢false (sym all.0))

-- ---- the path of a part of a key

module _ (p : Pages) (typing : Typing) where
  abbrev typed : Expr → Typed
  typed = type_of p.schema typing

  abbrev reading : Expr → Reading
  reading = reading_of p.schema typing (scope_roots typing)

  -- a path leads to the value of an expression
  abbrev Leads : Val → Val → Path → Type 0
  Leads here there q = AreParentSteps q.steps × ((a b : Val) → At p q.root q.steps a b → (a ≡ here) × (b ≡ there))

  abbrev Chained : Expr → Type 0
  Chained e = is_path e ≡ true → (model : ℕ) → typed e ≡ Ok (type.Record model) → (q : Path) → Contains (reading e).paths q → Leads (value_of e p.here p.schema p.one) (value_of e p.there p.schema p.other) q

  abbrev Part : Type 0
  Part = (e : Expr) × Chained e

  abbrev Made : Expr-F Expr → Type 0
  Made x = path_step (map-Expr Expr Bool is_path x) ≡ true → (model : ℕ) → type_step p.schema typing (map-Expr Expr Typed typed x) ≡ Ok (type.Record model)
      → (q : Path) → Contains (reading_with p.schema (scope_roots typing) (map-Expr Expr Reading reading x) (Ok (type.Record model))).paths q
      → Leads (meaning_step (map-Expr Expr Meaning meaning_of x) p.here p.schema p.one).value (meaning_step (map-Expr Expr Meaning meaning_of x) p.there p.schema p.other).value q

  rolled : (x : Expr-F Expr) → Made x → Chained (roll-Expr x)
  rolled x made path model is q among =
      let t : type_step p.schema typing (map-Expr Expr Typed typed x) ≡ Ok (type.Record model) = sym (fold-roll-Expr Typed (type_step p.schema typing) x) ∙ is in
      let lead = made (sym (fold-roll-Expr Bool path_step x) ∙ path) model t q
      (subst (λ (r : Reading). Contains r.paths q) (read_by p.schema typing (scope_roots typing) x ∙ ap (reading_with p.schema (scope_roots typing) (map-Expr Expr Reading reading x)) t) among) in
      let same = fold-roll-Expr Meaning meaning_step x in (
        lead.0,
        λ a b at. let values = lead.1 a b at in (values.0 ∙ sym (ap (λ (m : Meaning). (m p.here p.schema p.one).value) same), values.1 ∙ sym (ap (λ (m : Meaning). (m p.there p.schema p.other).value) same)),
      )

  -- a step from a record to its parent
  stepped : (e : Expr) (name : List ℕ) → Chained e → is_path e ≡ true → (from model : ℕ) → typed e ≡ Ok (type.Record from) → part_type p.schema name (type.Record from) ≡ Some (type.Record model)
      → (q : Path) → Contains (step_reading p.schema (Ok (type.Record from)) name (Ok (type.Record model)) (reading e)).paths q
      → Leads (step p.schema p.one (value_of e p.here p.schema p.one) name) (step p.schema p.other (value_of e p.there p.schema p.other) name) q
  stepped e name chained path from model is part q among = of_path found.0 (chained path from is found.0 found.1) found.2
    where
      at : ℕ
      at = (parent_step p.schema from model name part).0

      member_is : member_at p.schema from name ≡ member.Parent at
      member_is = (parent_step p.schema from model name part).1

      found : (before : Path) × Contains (reading e).paths before × (q ≡ path_to p.schema (along.Parent from at) before)
      found =
          from_map (path_to p.schema (along.Parent from at)) (reading e).paths q
          (subst (λ m. Contains (member_reading p.schema from m (Ok (type.Record model)) (reading e).paths (reading e).wants).paths q) member_is among)

      of_path : (before : Path) → Leads (value_of e p.here p.schema p.one) (value_of e p.there p.schema p.other) before → q ≡ path_to p.schema (along.Parent from at) before
          → Leads (step p.schema p.one (value_of e p.here p.schema p.one) name) (step p.schema p.other (value_of e p.there p.schema p.other) name) q
      of_path before lead longer = subst (Leads (step p.schema p.one (value_of e p.here p.schema p.one) name) (step p.schema p.other (value_of e p.there p.schema p.other) name)) (sym longer) (
        subst AreParentSteps (sym plain) (refl, lead.0),
        λ a b stands. values a b (subst (λ steps. At p before.root steps a b) plain stands),
      )
        where
          plain : then_step p.schema before.steps (along.Parent from at) ≡ along.Parent from at ∷ before.steps
          plain = then_parent p.schema before.steps from at lead.0

          values : (a b : Val) → At p before.root (along.Parent from at ∷ before.steps) a b
              → (a ≡ step p.schema p.one (value_of e p.here p.schema p.one) name) × (b ≡ step p.schema p.other (value_of e p.there p.schema p.other) name)
          values a b stands =
              let ends = lead.1 stands.0 stands.1 stands.2 in
              let same : stands.3.name ≡ name = one_name p.schema from at stands.3.name name stands.3.is member_is in (
                stands.3.here ∙ ap (λ c. step p.schema p.one c stands.3.name) ends.0 ∙ ap (step p.schema p.one (value_of e p.here p.schema p.one)) same,
                stands.3.there ∙ ap (λ c. step p.schema p.other c stands.3.name) ends.1 ∙ ap (step p.schema p.other (value_of e p.there p.schema p.other)) same,
              )

  layer : (y : Expr-F Part) → Made (map-Expr Part Expr (λ p. p.0) y)
  layer Expr-F.Nil path model is q among = absurd (true≢false (sym path))
  layer Expr-F.True path model is q among = absurd (true≢false (sym path))
  layer Expr-F.False path model is q among = absurd (true≢false (sym path))
  layer (Expr-F.Int n) path model is q among = absurd (true≢false (sym path))
  layer (Expr-F.Text text) path model is q among = absurd (true≢false (sym path))
  layer (Expr-F.Var name) path model is q among =
      let only : q ≡ root_path name =
      only_is (root_path name) q (subst (λ ps. Contains ps q) (scope_root typing name (type.Record model) (some_of (variable_type typing name) (UnknownVariable name) (type.Record model) is)) among) in
      subst (Leads (variable p.here name) (variable p.there name)) (sym only) (tt, λ a b at. at)
  layer (Expr-F.Step of name) path model is q among = by (typed of.0) refl (of_type p.schema typing (scope_roots typing) of.0) is
    where
      by : (t : Typed) → typed of.0 ≡ t → (reading of.0).of ≡ typed of.0 → (t >>= step_type p.schema name) ≡ Ok (type.Record model)
          → Leads (step p.schema p.one (value_of of.0 p.here p.schema p.one) name) (step p.schema p.other (value_of of.0 p.there p.schema p.other) name) q
      by (Ok (type.Record from)) typed_so of_so e =
          stepped of.0 name of.1 path from model typed_so (some_of (part_type p.schema name (type.Record from)) (UnknownStep name) (type.Record model) e) q
          (subst (λ t. Contains (step_reading p.schema t name (Ok (type.Record model)) (reading of.0)).paths q) (of_so ∙ typed_so) among)
      by (Ok type.Integer) typed_so of_so e = absurd (cc e)
      by (Ok type.Text) typed_so of_so e = absurd (cc e)
      by (Ok type.Boolean) typed_so of_so e = absurd (cc e)
      by (Ok (type.List m)) typed_so of_so e = absurd (cc e)
      by (Ok type.Nil) typed_so of_so e = absurd (cc e)
      by (Err k) typed_so of_so e = absurd (cc e)
  layer (Expr-F.Ask of query) path model is q among = absurd (true≢false (sym path))
  layer (Expr-F.Not of) path model is q among = absurd (true≢false (sym path))
  layer (Expr-F.Neg of) path model is q among = absurd (true≢false (sym path))
  layer (Expr-F.Binary o left right) path model is q among = absurd (true≢false (sym path))

  chained : (e : Expr) → Chained e
  chained = ind-Expr Chained (λ x y is. subst (λ z. Chained (roll-Expr z)) is (rolled (map-Expr Part Expr (λ p. p.0) y) (layer y)))

-- ---- a variable by itself

abbrev Means : Expr → Type 0
Means e = (name : List ℕ) → variable_in e ≡ Some name → (vars : Variables) (schema : ModelList) (table : TableMap) → value_of e vars schema table ≡ variable vars name

abbrev Meant : Type 0
Meant = (e : Expr) × Means e

variable_layer : (x : Expr-F Expr) (name : List ℕ) → variable_step (map-Expr Expr (Option (List ℕ)) variable_in x) ≡ Some name → (vars : Variables) (schema : ModelList) (table : TableMap)
    → (meaning_step (map-Expr Expr Meaning meaning_of x) vars schema table).value ≡ variable vars name
variable_layer Expr-F.Nil name e vars schema table = absurd (cc e)
variable_layer Expr-F.True name e vars schema table = absurd (cc e)
variable_layer Expr-F.False name e vars schema table = absurd (cc e)
variable_layer (Expr-F.Int n) name e vars schema table = absurd (cc e)
variable_layer (Expr-F.Text text) name e vars schema table = absurd (cc e)
variable_layer (Expr-F.Var own) name e vars schema table = ap (variable vars) (some_same e)
variable_layer (Expr-F.Step of step) name e vars schema table = absurd (cc e)
variable_layer (Expr-F.Ask of query) name e vars schema table = absurd (cc e)
variable_layer (Expr-F.Not of) name e vars schema table = absurd (cc e)
variable_layer (Expr-F.Neg of) name e vars schema table = absurd (cc e)
variable_layer (Expr-F.Binary o left right) name e vars schema table = absurd (cc e)

variable_rolled : (x : Expr-F Expr) → Means (roll-Expr x)
variable_rolled x name e vars schema table =
    ap (λ (m : Meaning). (m vars schema table).value) (fold-roll-Expr Meaning meaning_step x)
    ∙ variable_layer x name (sym (fold-roll-Expr (Option (List ℕ)) variable_step x) ∙ e) vars schema table

variable_means : (e : Expr) → Means e
variable_means = ind-Expr Means (λ x y is. subst (λ z. Means (roll-Expr z)) is (variable_rolled (map-Expr Meant Expr (λ p. p.0) y)))

-- ---- what a key names

module _ (p : Pages) (typing : Typing) (key : List KeyPart) (asked : AreAsked p typing key) where
  -- a variable as a part of a key
  by_variable : (expr : Expr) (name : List ℕ) → Contains key (part.Path expr) → variable_in expr ≡ Some name → IsTold p key name []
  by_variable expr name among is = record {
    expr = expr;
    among = among;
    parents = tt;
    values = λ a b at. (at.0 ∙ sym (variable_means expr name is p.here p.schema p.one), at.1 ∙ sym (variable_means expr name is p.there p.schema p.other));
  }

  -- steps from one
  by_steps : (expr : Expr) (q : Path) → Contains key (part.Path expr) → Contains (record_paths (reading p typing expr)) q → IsTold p key q.root q.steps
  by_steps expr q among stands = by (typed p typing expr) refl (of_type p.schema typing (scope_roots typing) expr) (asked.parts expr among)
    where
      by : (t : Typed) → typed p typing expr ≡ t → (reading p typing expr).of ≡ typed p typing expr → ((t : ValueType) × (typed p typing expr ≡ Ok t) × (is_key expr t ≡ true)) → IsTold p key q.root q.steps
      by (Ok (type.Record model)) is of_so may =
          let lead = chained p typing expr (subst (λ t. is_key expr t ≡ true) (ok_same (sym may.1 ∙ is)) may.2) model is q
          (subst (λ t. Contains (paths_by t (reading p typing expr).paths) q) (of_so ∙ is) stands) in
          record { expr = expr; among = among; parents = lead.0; values = lead.1 }
      by (Ok type.Integer) is of_so may = none_among q (subst (λ t. Contains (paths_by t (reading p typing expr).paths) q) (of_so ∙ is) stands)
      by (Ok type.Text) is of_so may = none_among q (subst (λ t. Contains (paths_by t (reading p typing expr).paths) q) (of_so ∙ is) stands)
      by (Ok type.Boolean) is of_so may = none_among q (subst (λ t. Contains (paths_by t (reading p typing expr).paths) q) (of_so ∙ is) stands)
      by (Ok (type.List m)) is of_so may = none_among q (subst (λ t. Contains (paths_by t (reading p typing expr).paths) q) (of_so ∙ is) stands)
      by (Ok type.Nil) is of_so may = none_among q (subst (λ t. Contains (paths_by t (reading p typing expr).paths) q) (of_so ∙ is) stands)
      by (Err k) is of_so may = none_among q (subst (λ t. Contains (paths_by t (reading p typing expr).paths) q) (of_so ∙ is) stands)

  by_part : (one : KeyPart) (q : Path) → Contains key one → Contains (part_paths p.schema typing (scope_roots typing) one) q → IsTold p key q.root q.steps
  by_part (part.Literal text) q among stands = none_among q stands
  by_part (part.Path expr) q among stands = by (variable_in expr) refl stands
    where
      by : (o : Option (List ℕ)) → variable_in expr ≡ o → Contains (option_map_or (λ name. root_path name ∷ []) o (record_paths (reading p typing expr))) q → IsTold p key q.root q.steps
      by None is stands = by_steps expr q among stands
      by (Some name) is stands = subst (λ (q : Path). IsTold p key q.root q.steps) (sym (only_is (root_path name) q stands)) (by_variable expr name among is)

  -- what a key names is one of its parts
  pub told : (root : List ℕ) (steps : List PathStep) → is_named (named_paths p.schema typing key) root steps ≡ true → IsTold p key root steps
  told root steps named = by found.0 found.1 found.2
    where
      own : Path
      own = record { root = root; steps = steps }

      found : (q : Path) × Contains (named_paths p.schema typing key) q × (same_path own q ≡ true)
      found = any_among (same_path own) (named_paths p.schema typing key) named

      by : (q : Path) → Contains (named_paths p.schema typing key) q → same_path own q ≡ true → IsTold p key root steps
      by q among same =
          let from = from_flat (part_paths p.schema typing (scope_roots typing)) key q among in
          subst (λ r. IsTold p key r steps) (sym ((bytes_eq-Decides root q.root).0 (first_holds (bytes_eq root q.root) (same_steps steps q.steps) same)))
          (subst (IsTold p key q.root) (sym (steps_are steps q.steps (second_holds (bytes_eq root q.root) (same_steps steps q.steps) same))) (by_part from.0 q from.1 from.2))
