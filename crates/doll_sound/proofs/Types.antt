-- Where the associations of models lead to models, each type that an expression has is of a model of the schema.
use Rattle.std.proofs.Common.{◌≡◌, ◌<◌, ℕ, zero, suc, Bool, true, false, cond, List, [], ◌∷◌, ◌++◌, length, map, Option, None, Some, Result, Ok, Err, inl, inr, refl, sym, subst, ◌∙◌, arith}
use Rattle.std.specs.Prelude.{⊤, find, option_and_then, option_map, reverse, slice_get}
use Rattle.std.specs.List.{AllByRecursion}
use Rattle.std.specs.Option.{option_map_or}
use Rattle.std.proofs.lemmas.List.{reverse-append}
use Rattle.doll_text.specs.Steps.{◌>>=◌}
use Rattle.doll_expr.specs.declared.expr.Expr.{Expr, ind-Expr, map-Expr, roll-Expr}
use Rattle.doll_expr.specs.declared.expr.Expr.TheFolds.{fold-roll-Expr}
use Rattle.doll_expr.specs.declared.expr.Expr.TheOpen.{Expr-F}
use Rattle.doll_expr.specs.declared.expr.Op.{Op}
use Rattle.doll_expr.specs.declared.expr.Op.TheVariants as op
use Rattle.doll_schema.specs.declared.model.Attribute.{Attribute}
use Rattle.doll_schema.specs.declared.model.BelongsTo.{BelongsTo}
use Rattle.doll_schema.specs.declared.model.HasMany.{HasMany}
use Rattle.doll_schema.specs.declared.model.Kind.{Kind}
use Rattle.doll_schema.specs.declared.model.Kind.TheVariants as kinds
use Rattle.doll_schema.specs.declared.model.Model.{Model}
use Rattle.doll_schema.specs.Models.{ModelList}
use Rattle.doll_erb.specs.declared.node.Local.{Local}
use Rattle.doll_eval.specs.declared.member.Member.{Member}
use Rattle.doll_eval.specs.declared.member.Member.TheVariants as member
use Rattle.doll_eval.specs.Members.{member_of}
use Rattle.doll_route.specs.declared.route.Route.{Route}
use Rattle.doll_route.specs.declared.route.Subject.{Subject}
use Rattle.doll_route.specs.declared.route.Subject.TheVariants as subject
use Rattle.doll_types.specs.declared.types.TypeKind.{TypeKind}
use Rattle.doll_types.specs.declared.types.TypeKind.TheVariants.{UnknownStep, UnknownVariable}
use Rattle.doll_types.specs.declared.types.ValueType.{ValueType}
use Rattle.doll_types.specs.declared.types.ValueType.TheVariants as type
use Rattle.doll_types.specs.Findings.{items_type, locals_typing}
use Rattle.doll_types.specs.Reached.{route_typing, subject_typing}
use Rattle.doll_types.specs.Types.{Typing, binary_type, is_number, item_type, kind_type, member_type, negated_type, part_type, query_type, sides_type, step_type, type_of, type_step, variable_type}
use Rattle.doll_agree.proofs.Suiting.{IsSimple, SuitsCommon, after_same, binary_simple, checked_same, query_simple, sides_suit}
use Rattle.doll_agree.proofs.Told.{ok_same, some_of, some_same}
use Rattle.doll_sound.specs.Names.{IsNamed}

-- ---- lists

pub one_of : {X : Type 0} (P : X → Type 0) (xs : List X) (n : ℕ) (x : X) → AllByRecursion P xs → slice_get xs n ≡ Some x → P x
one_of P [] n x all e = absurd (cc e)
one_of P (y ∷ xs) zero x all e = subst P (some_same e) all.0
one_of P (y ∷ xs) (suc n) x all e = one_of P xs n x all.1 e

pub within_of : {X : Type 0} (xs : List X) (n : ℕ) (x : X) → slice_get xs n ≡ Some x → n < length xs
within_of [] n x e = absurd (cc e)
within_of (y ∷ xs) zero x e = omega arith
within_of (y ∷ xs) (suc n) x e = omega (arith, within_of xs n x e)

pub joined : {X : Type 0} (P : X → Type 0) (xs ys : List X) → AllByRecursion P xs → AllByRecursion P ys → AllByRecursion P (xs ++ ys)
joined P [] ys first more = more
joined P (x ∷ xs) ys first more = (first.0, joined P xs ys first.1 more)

module _ (schema : ModelList) (models : (number : ℕ) (model : Model) → slice_get schema.models number ≡ Some model → IsNamed schema model) where
  -- a type is of a model of the schema, if it is of one
  abbrev pub IsKnown : ValueType → Type 0
  IsKnown (type.Record model) = model < length schema.models
  IsKnown (type.List model) = model < length schema.models
  IsKnown type.Integer = ⊤
  IsKnown type.Text = ⊤
  IsKnown type.Boolean = ⊤
  IsKnown type.Nil = ⊤

  abbrev IsKnownVariable : List ℕ × ValueType → Type 0
  IsKnownVariable v = IsKnown v.1

  abbrev pub AreKnown : Typing → Type 0
  AreKnown typing = AllByRecursion IsKnownVariable typing

  simple_known : (t : ValueType) → IsSimple t → IsKnown t
  simple_known type.Integer simple = tt
  simple_known type.Text simple = tt
  simple_known type.Boolean simple = tt
  simple_known (type.Record model) simple = absurd simple
  simple_known (type.List model) simple = absurd simple
  simple_known type.Nil simple = tt

  pub bound_known : (typing : Typing) (name : List ℕ) (t : ValueType) → AreKnown typing → IsKnown t → AreKnown (typing ++ (name, t) ∷ [])
  bound_known typing name t all known = joined IsKnownVariable typing ((name, t) ∷ []) all (known, tt)

  -- ---- variables

  found_known : (test : List ℕ × ValueType → Bool) (typing : Typing) (t : ValueType) → AreKnown typing → option_map (λ (v : List ℕ × ValueType). v.1) (find test typing) ≡ Some t → IsKnown t
  found_known test [] t all e = absurd (cc e)
  found_known test (v ∷ typing) t all e = by (test v) (found_known test typing t all.1) e
    where
      by : (b : Bool) → (option_map (λ (v : List ℕ × ValueType). v.1) (find test typing) ≡ Some t → IsKnown t) → option_map (λ (v : List ℕ × ValueType). v.1) (cond b (Some v) (find test typing)) ≡ Some t → IsKnown t
      by true more e = subst IsKnown (some_same e) all.0
      by false more e = more e

  reversed_known : (typing : Typing) → AreKnown typing → AreKnown (reverse typing)
  reversed_known [] all = tt
  reversed_known (v ∷ typing) all = subst AreKnown (sym (reverse-append (v ∷ []) typing)) (joined IsKnownVariable (reverse typing) (v ∷ []) (reversed_known typing all.1) (all.0, tt))

  -- ---- steps

  kind_known : (k : Kind) → IsKnown (kind_type k)
  kind_known kinds.Integer = tt
  kind_known kinds.Text = tt
  kind_known kinds.Boolean = tt

  attribute_known : (o : Option Attribute) (t : ValueType) → option_map (λ (a : Attribute). kind_type a.kind) o ≡ Some t → IsKnown t
  attribute_known None t e = absurd (cc e)
  attribute_known (Some a) t e = subst IsKnown (some_same e) (kind_known a.kind)

  parent_known : (m : Model) (is : IsNamed schema m) (at : ℕ) (o : Option BelongsTo) (t : ValueType) → slice_get m.belongs_to at ≡ o → option_map (λ (b : BelongsTo). type.Record b.model) o ≡ Some t → IsKnown t
  parent_known m is at None t there e = absurd (cc e)
  parent_known m is at (Some b) t there e = subst IsKnown (some_same e) (one_of (λ (b : BelongsTo). b.model < length schema.models) m.belongs_to at b is.parents there)

  children_known : (m : Model) (is : IsNamed schema m) (at : ℕ) (o : Option HasMany) (t : ValueType) → slice_get m.has_many at ≡ o → option_map (λ (many : HasMany). type.List many.model) o ≡ Some t → IsKnown t
  children_known m is at None t there e = absurd (cc e)
  children_known m is at (Some many) t there e = subst IsKnown (some_same e) (one_of (λ (many : HasMany). many.model < length schema.models) m.has_many at many is.children there)

  member_known : (m : Model) (is : IsNamed schema m) (k : Member) (t : ValueType) → member_type m k ≡ Some t → IsKnown t
  member_known m is (member.Attribute at) t e = attribute_known (slice_get m.attributes at) t e
  member_known m is (member.Key at) t e = subst IsKnown (some_same e) tt
  member_known m is member.Id t e = subst IsKnown (some_same e) tt
  member_known m is member.UpdatedAt t e = subst IsKnown (some_same e) tt
  member_known m is (member.Parent at) t e = parent_known m is at (slice_get m.belongs_to at) t refl e
  member_known m is (member.Children at) t e = children_known m is at (slice_get m.has_many at) t refl e
  member_known m is member.Unknown t e = absurd (cc e)

  part_known : (name : List ℕ) (model : ℕ) (o : Option Model) (t : ValueType) → slice_get schema.models model ≡ o → option_and_then (λ (m : Model). member_type m (member_of m name)) o ≡ Some t → IsKnown t
  part_known name model None t is e = absurd (cc e)
  part_known name model (Some m) t is e = member_known m (models model m is) (member_of m name) t e

  step_known : (name : List ℕ) (from t : ValueType) → step_type schema name from ≡ Ok t → IsKnown t
  step_known name type.Nil t e = subst IsKnown (ok_same e) tt
  step_known name (type.Record model) t e = part_known name model (slice_get schema.models model) t refl (some_of (part_type schema name (type.Record model)) (UnknownStep name) t e)
  step_known name type.Integer t e = absurd (cc e)
  step_known name type.Text t e = absurd (cc e)
  step_known name type.Boolean t e = absurd (cc e)
  step_known name (type.List model) t e = absurd (cc e)

  -- ---- operators

  sides_known : (l r t : ValueType) → IsKnown l → IsKnown r → sides_type l r ≡ Ok t → IsKnown t
  sides_known l r t left right e = let s = sides_suit l r t e in by s.0 s.1
    where
      by : SuitsCommon l t → SuitsCommon r t → IsKnown t
      by (inl a) other = subst IsKnown a left
      by (inr a) (inl b) = subst IsKnown b right
      by (inr a) (inr b) = subst IsKnown (ok_same (sym (λ i. sides_type (a i) (b i)) ∙ e)) tt

  binary_known : (o : Op) (l r t : ValueType) → IsKnown l → IsKnown r → binary_type o l r ≡ Ok t → IsKnown t
  binary_known op.Or l r t left right e = sides_known l r t left right e
  binary_known op.And l r t left right e = sides_known l r t left right e
  binary_known op.Eq l r t left right e = simple_known t (binary_simple op.Eq l r t e)
  binary_known op.Ne l r t left right e = simple_known t (binary_simple op.Ne l r t e)
  binary_known op.Lt l r t left right e = simple_known t (binary_simple op.Lt l r t e)
  binary_known op.Le l r t left right e = simple_known t (binary_simple op.Le l r t e)
  binary_known op.Gt l r t left right e = simple_known t (binary_simple op.Gt l r t e)
  binary_known op.Ge l r t left right e = simple_known t (binary_simple op.Ge l r t e)
  binary_known op.Add l r t left right e = simple_known t (binary_simple op.Add l r t e)
  binary_known op.Sub l r t left right e = simple_known t (binary_simple op.Sub l r t e)
  binary_known op.Mul l r t left right e = simple_known t (binary_simple op.Mul l r t e)

  -- ---- expressions

  module _ (typing : Typing) (all : AreKnown typing) where
    abbrev Holds : Expr → Type 0
    Holds e = (t : ValueType) → type_of schema typing e ≡ Ok t → IsKnown t

    abbrev Part : Type 0
    Part = (e : Expr) × Holds e

    abbrev Made : Expr-F Expr → Type 0
    Made x = (t : ValueType) → type_step schema typing (map-Expr Expr (Result ValueType TypeKind) (type_of schema typing) x) ≡ Ok t → IsKnown t

    rolled : (x : Expr-F Expr) → Made x → Holds (roll-Expr x)
    rolled x made t typed = made t (sym (fold-roll-Expr (Result ValueType TypeKind) (type_step schema typing) x) ∙ typed)

    -- what is made of a part whose type is known
    through : (e : Expr) (go : ValueType → Result ValueType TypeKind) (t : ValueType) → Holds e → (type_of schema typing e >>= go) ≡ Ok t → ((from : ValueType) → IsKnown from → go from ≡ Ok t → IsKnown t) → IsKnown t
    through e go t holds typed then = by (type_of schema typing e) refl typed
      where
        by : (r : Result ValueType TypeKind) → type_of schema typing e ≡ r → (r >>= go) ≡ Ok t → IsKnown t
        by (Ok from) is typed = then from (holds from is) typed
        by (Err k) is typed = absurd (cc typed)

    layer : (y : Expr-F Part) → Made (map-Expr Part Expr (λ p. p.0) y)
    layer Expr-F.Nil t typed = subst IsKnown (ok_same typed) tt
    layer Expr-F.True t typed = subst IsKnown (ok_same typed) tt
    layer Expr-F.False t typed = subst IsKnown (ok_same typed) tt
    layer (Expr-F.Int n) t typed = subst IsKnown (ok_same typed) tt
    layer (Expr-F.Text text) t typed = subst IsKnown (ok_same typed) tt
    layer (Expr-F.Var name) t typed = found_known _ (reverse typing) t (reversed_known typing all) (some_of (variable_type typing name) (UnknownVariable name) t typed)
    layer (Expr-F.Step of name) t typed = through of.0 (step_type schema name) t of.1 typed (λ from known e. step_known name from t e)
    layer (Expr-F.Ask of q) t typed = through of.0 (query_type q) t of.1 typed (λ from known e. simple_known t (query_simple q from t e))
    layer (Expr-F.Not of) t typed = subst IsKnown (after_same (type_of schema typing of.0) type.Boolean t typed) tt
    layer (Expr-F.Neg of) t typed = through of.0 negated_type t of.1 typed (λ from known e. subst IsKnown (checked_same (is_number from) type.Integer t e) tt)
    layer (Expr-F.Binary o left right) t typed =
        through left.0 (λ l. type_of schema typing right.0 >>= binary_type o l) t left.1 typed
        (λ l known e. through right.0 (binary_type o l) t right.1 e (λ r knows is. binary_known o l r t known knows is))

    all_hold : (e : Expr) → Holds e
    all_hold = ind-Expr Holds (λ x y is. subst (λ z. Holds (roll-Expr z)) is (rolled (map-Expr Part Expr (λ p. p.0) y) (layer y)))

  -- in a scope of such types each expression has such a type
  pub type_known : (typing : Typing) → AreKnown typing → (expr : Expr) (t : ValueType) → type_of schema typing expr ≡ Ok t → IsKnown t
  type_known typing all expr t is = all_hold typing all expr t is

  -- so have the items of lists
  pub items_known : (typing : Typing) → AreKnown typing → (list : Expr) (t : ValueType) → items_type schema typing list ≡ Ok t → IsKnown t
  items_known typing all list t e = by (type_of schema typing list) refl e
    where
      item : (of : ValueType) → IsKnown of → item_type of ≡ Ok t → IsKnown t
      item (type.List model) known e = subst IsKnown (ok_same e) known
      item type.Nil known e = subst IsKnown (ok_same e) tt
      item type.Integer known e = absurd (cc e)
      item type.Text known e = absurd (cc e)
      item type.Boolean known e = absurd (cc e)
      item (type.Record model) known e = absurd (cc e)

      by : (r : Result ValueType TypeKind) → type_of schema typing list ≡ r → (r >>= item_type) ≡ Ok t → IsKnown t
      by (Err kind) is e = absurd (cc e)
      by (Ok of) is e = item of (type_known typing all list of is) e

  -- and locals
  pub locals_known : (typing : Typing) → AreKnown typing → (locals : List Local) (types : Typing) → locals_typing schema typing locals ≡ Ok types → AreKnown types
  locals_known typing all [] types e = subst AreKnown (ok_same e) tt
  locals_known typing all (l ∷ locals) types e = by (type_of schema typing l.value) refl (locals_typing schema typing locals) refl (locals_known typing all locals) e
    where
      by : (r : Result ValueType TypeKind) → type_of schema typing l.value ≡ r → (rs : Result Typing TypeKind) → locals_typing schema typing locals ≡ rs → ((more : Typing) → locals_typing schema typing locals ≡ Ok more → AreKnown more)
          → ((r >>= (λ t. Ok (l.name, t))) >>= (λ one. rs >>= (λ more. Ok (one ∷ more)))) ≡ Ok types → AreKnown types
      by (Err kind) is rs are rest e = absurd (cc e)
      by (Ok t) is (Err kind) are rest e = absurd (cc e)
      by (Ok t) is (Ok more) are rest e = subst AreKnown (ok_same e) (type_known typing all l.value t is, rest more are)

  -- ---- routes

  texts_known : (names : List (List ℕ)) → AreKnown (map (λ name. (name, type.Text)) names)
  texts_known [] = tt
  texts_known (name ∷ names) = (tt, texts_known names)

  subject_known : (of : Subject) → AreKnown (subject_typing schema of)
  subject_known (subject.Record model) = by (slice_get schema.models model) refl
    where
      by : (o : Option Model) → slice_get schema.models model ≡ o → AreKnown (option_map_or (λ name. (name, type.Record model) ∷ []) (option_map (λ (m : Model). m.name) o) [])
      by None is = tt
      by (Some m) is = (within_of schema.models model m is, tt)
  subject_known (subject.List model) = by (slice_get schema.models model) refl
    where
      by : (o : Option Model) → slice_get schema.models model ≡ o → AreKnown (option_map_or (λ name. (name, type.List model) ∷ []) (option_map (λ (m : Model). m.plural) o) [])
      by None is = tt
      by (Some m) is = (within_of schema.models model m is, tt)
  subject_known subject.Nothing = tt

  pub route_known : (route : Route) → AreKnown (route_typing schema route)
  route_known route = joined IsKnownVariable (subject_typing schema route.subject) (map (λ name. (name, type.Text)) route.params) (subject_known route.subject) (texts_known route.params)
