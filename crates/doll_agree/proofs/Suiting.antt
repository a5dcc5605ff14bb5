-- The types that steps, questions and operators give.
use Rattle.std.proofs.Common.{◌≡◌, ℕ, Bool, true, false, cond, ◌&&◌, true≢false, List, Option, None, Some, ◌⊎◌, inl, inr, Result, Ok, Err, refl, ap, sym, subst, ◌∙◌}
use Rattle.std.specs.Prelude.{slice_get, option_and_then, option_map, ⊤}
use Rattle.std.specs.Option.{option_map_or}
use Rattle.std.proofs.lemmas.Bool.{eqb-true}
use Rattle.doll_text.specs.Steps.{◌>>=◌, ◌>>◌}
use Rattle.doll_expr.specs.declared.expr.Op.{Op}
use Rattle.doll_expr.specs.declared.expr.Op.TheVariants as op
use Rattle.doll_expr.specs.declared.expr.Query.{Query}
use Rattle.doll_expr.specs.declared.expr.Query.TheVariants as query
use Rattle.doll_schema.specs.Models.{ModelList}
use Rattle.doll_schema.specs.declared.model.Attribute.{Attribute}
use Rattle.doll_schema.specs.declared.model.BelongsTo.{BelongsTo}
use Rattle.doll_schema.specs.declared.model.HasMany.{HasMany}
use Rattle.doll_schema.specs.declared.model.Kind.{Kind}
use Rattle.doll_schema.specs.declared.model.Kind.TheVariants as kinds
use Rattle.doll_schema.specs.declared.model.Model.{Model}
use Rattle.doll_eval.specs.declared.member.Member.{Member}
use Rattle.doll_eval.specs.declared.member.Member.TheVariants as member
use Rattle.doll_eval.specs.Members.{member_of}
use Rattle.doll_types.specs.declared.types.TypeKind.{TypeKind}
use Rattle.doll_types.specs.declared.types.TypeKind.TheVariants.{Mismatch}
use Rattle.doll_types.specs.declared.types.ValueType.{ValueType}
use Rattle.doll_types.specs.declared.types.ValueType.TheVariants as type
use Rattle.doll_types.specs.Types.{binary_type, checked, common_type, is_number, is_ordered, kind_type, member_type, ordered_type, part_type, query_type, same_or_none, same_type, sides_type}
use Rattle.doll_lint.specs.Readings.{member_at}
use Rattle.doll_agree.proofs.Told.{ok_same, some_of, some_same}

-- the type of what is single, or nil
abbrev pub IsSimple : ValueType → Type 0
IsSimple type.Integer = ⊤
IsSimple type.Text = ⊤
IsSimple type.Boolean = ⊤
IsSimple (type.Record model) = ⊥
IsSimple (type.List model) = ⊥
IsSimple type.Nil = ⊤

-- ---- members

-- the type that a member has by what it is
abbrev pub SuitsMember : Member → ValueType → Type 0
SuitsMember (member.Parent at) t = (model : ℕ) × (t ≡ type.Record model)
SuitsMember (member.Children at) t = (model : ℕ) × (t ≡ type.List model)
SuitsMember member.Unknown t = ⊥
SuitsMember (member.Attribute at) t = IsSimple t
SuitsMember (member.Key at) t = IsSimple t
SuitsMember member.Id t = IsSimple t
SuitsMember member.UpdatedAt t = IsSimple t

kind_simple : (k : Kind) → IsSimple (kind_type k)
kind_simple kinds.Integer = tt
kind_simple kinds.Text = tt
kind_simple kinds.Boolean = tt

attribute_simple : (o : Option Attribute) (t : ValueType) → option_map (λ (a : Attribute). kind_type a.kind) o ≡ Some t → IsSimple t
attribute_simple None t e = absurd (cc e)
attribute_simple (Some a) t e = subst IsSimple (some_same e) (kind_simple a.kind)

parent_record : (o : Option BelongsTo) (t : ValueType) → option_map (λ (b : BelongsTo). type.Record b.model) o ≡ Some t → (model : ℕ) × (t ≡ type.Record model)
parent_record None t e = absurd (cc e)
parent_record (Some b) t e = (b.model, sym (some_same e))

children_list : (o : Option HasMany) (t : ValueType) → option_map (λ (many : HasMany). type.List many.model) o ≡ Some t → (model : ℕ) × (t ≡ type.List model)
children_list None t e = absurd (cc e)
children_list (Some many) t e = (many.model, sym (some_same e))

member_suits : (m : Model) (k : Member) (t : ValueType) → member_type m k ≡ Some t → SuitsMember k t
member_suits m (member.Attribute at) t e = attribute_simple (slice_get m.attributes at) t e
member_suits m (member.Key at) t e = subst IsSimple (some_same e) tt
member_suits m member.Id t e = subst IsSimple (some_same e) tt
member_suits m member.UpdatedAt t e = subst IsSimple (some_same e) tt
member_suits m (member.Parent at) t e = parent_record (slice_get m.belongs_to at) t e
member_suits m (member.Children at) t e = children_list (slice_get m.has_many at) t e
member_suits m member.Unknown t e = cc e

pub part_suits : (schema : ModelList) (from : ℕ) (name : List ℕ) (t : ValueType) → part_type schema name (type.Record from) ≡ Some t → SuitsMember (member_at schema from name) t
part_suits schema from name t = by (slice_get schema.models from)
  where
    by : (o : Option Model) → option_and_then (λ (m : Model). member_type m (member_of m name)) o ≡ Some t → SuitsMember (option_map_or (λ (m : Model). member_of m name) o member.Unknown) t
    by None e = absurd (cc e)
    by (Some m) e = member_suits m (member_of m name) t e

-- ---- results

pub checked_same : (b : Bool) (given t : ValueType) → checked b given ≡ Ok t → given ≡ t
checked_same true given t e = ok_same e
checked_same false given t e = absurd (cc e)

pub checked_holds : (b : Bool) (given t : ValueType) → checked b given ≡ Ok t → b ≡ true
checked_holds true given t e = refl
checked_holds false given t e = absurd (cc e)

pub after_same : (r : Result ValueType TypeKind) (given t : ValueType) → (r >> Ok given) ≡ Ok t → given ≡ t
after_same (Ok x) given t e = ok_same e
after_same (Err k) given t e = absurd (cc e)

-- ---- operators

same_types : (a b : ValueType) → same_type a b ≡ true → a ≡ b
same_types type.Integer type.Integer e = refl
same_types type.Text type.Text e = refl
same_types type.Boolean type.Boolean e = refl
same_types (type.Record m) (type.Record n) e = ap type.Record (eqb-true m n e)
same_types (type.List m) (type.List n) e = ap type.List (eqb-true m n e)
same_types type.Nil type.Nil e = refl
same_types a b e = absurd (true≢false (sym e))

-- a side of an operator has the common type, or is nil
abbrev pub SuitsCommon : ValueType → ValueType → Type 0
SuitsCommon side t = (side ≡ t) ⊎ (side ≡ type.Nil)

one_type : (a b t : ValueType) → same_or_none a b ≡ Some t → SuitsCommon a t × SuitsCommon b t
one_type a b t = by (same_type a b) refl
  where
    by : (r : Bool) → same_type a b ≡ r → cond r (Some a) None ≡ Some t → SuitsCommon a t × SuitsCommon b t
    by true is e = (inl (some_same e), inl (sym (same_types a b is) ∙ some_same e))
    by false is e = absurd (cc e)

common_suits : (a b t : ValueType) → common_type a b ≡ Some t → SuitsCommon a t × SuitsCommon b t
common_suits type.Nil b t e = (inr refl, inl (some_same e))
common_suits a type.Nil t e = (inl (some_same e), inr refl)
common_suits a b t e = one_type a b t e

pub sides_suit : (a b t : ValueType) → sides_type a b ≡ Ok t → SuitsCommon a t × SuitsCommon b t
sides_suit a b t e = common_suits a b t (some_of (common_type a b) Mismatch t e)

ordered_simple : (t : ValueType) → is_ordered t ≡ true → IsSimple t
ordered_simple type.Integer e = tt
ordered_simple type.Text e = tt
ordered_simple type.Boolean e = tt
ordered_simple (type.Record model) e = absurd (true≢false (sym e))
ordered_simple (type.List model) e = absurd (true≢false (sym e))
ordered_simple type.Nil e = tt

pub number_simple : (t : ValueType) → is_number t ≡ true → IsSimple t
number_simple type.Integer e = tt
number_simple type.Text e = tt
number_simple type.Boolean e = tt
number_simple (type.Record model) e = absurd (true≢false (sym e))
number_simple (type.List model) e = absurd (true≢false (sym e))
number_simple type.Nil e = tt

sum_simple : (r : Result ValueType TypeKind) (t : ValueType) → (r >>= (λ common. checked (is_ordered common) common)) ≡ Ok t → IsSimple t
sum_simple (Ok common) t e = subst IsSimple (checked_same (is_ordered common) common t e) (ordered_simple common (checked_holds (is_ordered common) common t e))
sum_simple (Err k) t e = absurd (cc e)

-- what has operators that look at both sides is single
abbrev pub LooksAtBoth : Op → ValueType → Type 0
LooksAtBoth op.Or t = ⊤
LooksAtBoth op.And t = ⊤
LooksAtBoth o t = IsSimple t

pub binary_simple : (o : Op) (a b t : ValueType) → binary_type o a b ≡ Ok t → LooksAtBoth o t
binary_simple op.Or a b t e = tt
binary_simple op.And a b t e = tt
binary_simple op.Eq a b t e = subst IsSimple (after_same (sides_type a b) type.Boolean t e) tt
binary_simple op.Ne a b t e = subst IsSimple (after_same (sides_type a b) type.Boolean t e) tt
binary_simple op.Lt a b t e = subst IsSimple (after_same (ordered_type a b) type.Boolean t e) tt
binary_simple op.Le a b t e = subst IsSimple (after_same (ordered_type a b) type.Boolean t e) tt
binary_simple op.Gt a b t e = subst IsSimple (after_same (ordered_type a b) type.Boolean t e) tt
binary_simple op.Ge a b t e = subst IsSimple (after_same (ordered_type a b) type.Boolean t e) tt
binary_simple op.Add a b t e = sum_simple (sides_type a b) t e
binary_simple op.Sub a b t e = subst IsSimple (checked_same (is_number a && is_number b) type.Integer t e) tt
binary_simple op.Mul a b t e = subst IsSimple (checked_same (is_number a && is_number b) type.Integer t e) tt

-- ---- questions

pub query_simple : (q : Query) (of t : ValueType) → query_type q of ≡ Ok t → IsSimple t
query_simple query.Size of t e = subst IsSimple (checked_same _ type.Integer t e) tt
query_simple query.Empty of t e = subst IsSimple (checked_same _ type.Boolean t e) tt
query_simple query.Any of t e = subst IsSimple (checked_same _ type.Boolean t e) tt
query_simple query.IsNil of t e = subst IsSimple (ok_same e) tt
