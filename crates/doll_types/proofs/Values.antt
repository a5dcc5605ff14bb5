-- The value of a typed expression has its type.
use Rattle.std.proofs.Common.{◌≡◌, ℕ, ◌==◌, Bool, true, false, not, cond, List, [], ◌∷◌, ◌++◌, reverse, find, bytes_eq, Option, Some, None, IsTrue, Result, Ok, Err, ◌⊎◌, inl, inr, ℤ, pos, neg_ℤ, ◌+ℤ◌, ◌-ℤ◌, ◌*ℤ◌, refl, ap, sym, subst, ◌∙◌, arith}
use Rattle.std.specs.Prelude.{slice_get, option_and_then, option_map}
use Rattle.std.specs.Option.{ok_or, option_map_or}
use Rattle.std.proofs.lemmas.Bool.Decides.{nat_tests}
use Rattle.std.proofs.lemmas.List.{append-nil, append_assoc, reverse-append}
use Rattle.doll_text.specs.Steps.{◌>>=◌, ◌>>◌}
use Rattle.doll_expr.specs.declared.expr.Expr.{Expr, roll-Expr}
use Rattle.doll_expr.specs.declared.expr.Expr.TheFolds.{fold-roll-Expr, ind-Expr, map-Expr}
use Rattle.doll_expr.specs.declared.expr.Expr.TheOpen.{Expr-F}
use Rattle.doll_expr.specs.declared.expr.Op.{Op}
use Rattle.doll_expr.specs.declared.expr.Op.TheVariants as op
use Rattle.doll_expr.specs.declared.expr.Query.{Query}
use Rattle.doll_expr.specs.declared.expr.Query.TheVariants as query
use Rattle.doll_erb.specs.declared.node.Local.{Local}
use Rattle.doll_schema.specs.declared.value.Value.{Value}
use Rattle.doll_schema.specs.declared.value.Value.TheVariants as value
use Rattle.doll_schema.specs.declared.value.Val.{Val}
use Rattle.doll_schema.specs.declared.value.Val.TheVariants as val
use Rattle.doll_schema.specs.declared.value.Row.{Row}
use Rattle.doll_schema.specs.declared.model.Attribute.{Attribute}
use Rattle.doll_schema.specs.declared.model.BelongsTo.{BelongsTo}
use Rattle.doll_schema.specs.declared.model.HasMany.{HasMany}
use Rattle.doll_schema.specs.declared.model.Kind.{Kind}
use Rattle.doll_schema.specs.declared.model.Kind.TheVariants as kinds
use Rattle.doll_schema.specs.declared.model.Model.{Model}
use Rattle.doll_schema.specs.Lookups.{many_of}
use Rattle.doll_schema.specs.Models.{ModelList}
use Rattle.doll_schema.specs.Values.{has_kind}
use Rattle.doll_table.specs.Fits.{Fits}
use Rattle.doll_table.specs.Tables.{TableMap, children_of, parent_of, row_of}
use Rattle.doll_eval.specs.declared.member.Member.{Member}
use Rattle.doll_eval.specs.declared.member.Member.TheVariants as member
use Rattle.doll_eval.specs.Members.{member_of}
use Rattle.doll_eval.specs.Operations.{added, asked, has_64_bits, is_settled, is_true, multiplied, negated, nil, operated, size_of, subtracted, truth, whole}
use Rattle.doll_eval.specs.Values.{Meaning, Outcome, binary, meaning_of, meaning_step, member_value, record_step, step, value_of}
use Rattle.doll_eval.proofs.Livings.{children_live}
use Rattle.doll_types.specs.declared.types.ValueType.{ValueType}
use Rattle.doll_types.specs.declared.types.ValueType.TheVariants.{Integer, Text, Boolean, Record, List as ListOf, Nil}
use Rattle.doll_types.specs.declared.types.TypeKind.{TypeKind}
use Rattle.doll_types.specs.declared.types.TypeKind.TheVariants.{Mismatch, UnknownStep, UnknownVariable}
use Rattle.doll_types.specs.Findings.{locals_typing}
use Rattle.doll_types.specs.Sound.{BoundHaveTypes, HasType, HaveTypes, LocalsHaveTypes, ValueHasType, ValuesHaveTypes, locals_values}
use Rattle.doll_types.specs.Types.{Typing, binary_type, checked, common_type, is_number, is_ordered, kind_type, member_type, negated_type, ordered_type, part_type, query_type, sides_type, step_type, type_of, type_step, variable_type}

-- ---- results

ok_same : {X F : Type 0} {x y : X} → (let r : Result X F = Ok x in r ≡ Ok y) → x ≡ y
ok_same e = cc

some_same : {X : Type 0} {x y : X} → Some x ≡ Some y → x ≡ y
some_same e = cc

some_of : {X F : Type 0} (o : Option X) (fault : F) (x : X) → ok_or o fault ≡ Ok x → o ≡ Some x
some_of None fault x e = absurd (cc e)
some_of (Some y) fault x e = ap Some (ok_same e)

checked_same : (b : Bool) (given t : ValueType) → checked b given ≡ Ok t → given ≡ t
checked_same true given t e = ok_same e
checked_same false given t e = absurd (cc e)

checked_holds : (b : Bool) (given t : ValueType) → checked b given ≡ Ok t → b ≡ true
checked_holds true given t e = refl
checked_holds false given t e = absurd (cc e)

after_same : (r : Result ValueType TypeKind) (given t : ValueType) → (r >> Ok given) ≡ Ok t → given ≡ t
after_same (Ok x) given t e = ok_same e
after_same (Err k) given t e = absurd (cc e)

-- ---- nil

nil_has : (t : ValueType) → ValueHasType t value.Nil
nil_has Integer = tt
nil_has Text = tt
nil_has Boolean = tt
nil_has (Record model) = tt
nil_has (ListOf model) = tt
nil_has Nil = tt

-- what is always nil has every type
nil_fits : (table : TableMap) (t : ValueType) (v : Val) → HasType table Nil v → HasType table t v
nil_fits table t (val.Plain value.Nil) has = nil_has t
nil_fits table t (val.Plain (value.Bool b)) has = absurd has
nil_fits table t (val.Plain (value.Int n)) has = absurd has
nil_fits table t (val.Plain (value.Text text)) has = absurd has
nil_fits table t (val.Record model id) has = absurd has
nil_fits table t (val.List model ids) has = absurd has

whole_has : (table : TableMap) (n : ℤ) → HasType table Integer (whole n)
whole_has table n = by (has_64_bits n)
  where
    by : (b : Bool) → HasType table Integer (cond b (val.Plain (value.Int n)) nil)
    by true = tt
    by false = tt

either_has : {X : Type 0} (table : TableMap) (t : ValueType) (f : X → Val) (o : Option X) → ((x : X) → o ≡ Some x → HasType table t (f x)) → HasType table t (option_map_or f o nil)
either_has table t f None each = nil_has t
either_has table t f (Some x) each = each x refl

along : (table : TableMap) (v : Val) {t u : ValueType} → t ≡ u → HasType table t v → HasType table u v
along table v e has = subst (λ t. HasType table t v) e has

-- ---- common types

same_numbers : (m n : ℕ) → (m == n) ≡ true → m ≡ n
same_numbers m n e = grind (arith, nat_tests)

abbrev Fitting : ValueType → ValueType → Type 0
Fitting a t = (a ≡ t) ⊎ (a ≡ Nil)

same_model : (make : ℕ → ValueType) (m n : ℕ) (t : ValueType) → cond (m == n) (Some (make m)) None ≡ Some t → Fitting (make m) t × Fitting (make n) t
same_model make m n t e = by (m == n) refl e
  where
    by : (b : Bool) → (m == n) ≡ b → cond b (Some (make m)) None ≡ Some t → Fitting (make m) t × Fitting (make n) t
    by true is e = (inl (some_same e), inl (ap make (sym (same_numbers m n is)) ∙ some_same e))
    by false is e = absurd (cc e)

common_fits : (a b t : ValueType) → common_type a b ≡ Some t → Fitting a t × Fitting b t
common_fits Integer Integer t e = (inl (some_same e), inl (some_same e))
common_fits Integer Text t e = absurd (cc e)
common_fits Integer Boolean t e = absurd (cc e)
common_fits Integer (Record n) t e = absurd (cc e)
common_fits Integer (ListOf n) t e = absurd (cc e)
common_fits Integer Nil t e = (inl (some_same e), inr refl)
common_fits Text Integer t e = absurd (cc e)
common_fits Text Text t e = (inl (some_same e), inl (some_same e))
common_fits Text Boolean t e = absurd (cc e)
common_fits Text (Record n) t e = absurd (cc e)
common_fits Text (ListOf n) t e = absurd (cc e)
common_fits Text Nil t e = (inl (some_same e), inr refl)
common_fits Boolean Integer t e = absurd (cc e)
common_fits Boolean Text t e = absurd (cc e)
common_fits Boolean Boolean t e = (inl (some_same e), inl (some_same e))
common_fits Boolean (Record n) t e = absurd (cc e)
common_fits Boolean (ListOf n) t e = absurd (cc e)
common_fits Boolean Nil t e = (inl (some_same e), inr refl)
common_fits (Record m) Integer t e = absurd (cc e)
common_fits (Record m) Text t e = absurd (cc e)
common_fits (Record m) Boolean t e = absurd (cc e)
common_fits (Record m) (Record n) t e = same_model Record m n t e
common_fits (Record m) (ListOf n) t e = absurd (cc e)
common_fits (Record m) Nil t e = (inl (some_same e), inr refl)
common_fits (ListOf m) Integer t e = absurd (cc e)
common_fits (ListOf m) Text t e = absurd (cc e)
common_fits (ListOf m) Boolean t e = absurd (cc e)
common_fits (ListOf m) (Record n) t e = absurd (cc e)
common_fits (ListOf m) (ListOf n) t e = same_model ListOf m n t e
common_fits (ListOf m) Nil t e = (inl (some_same e), inr refl)
common_fits Nil Integer t e = (inr refl, inl (some_same e))
common_fits Nil Text t e = (inr refl, inl (some_same e))
common_fits Nil Boolean t e = (inr refl, inl (some_same e))
common_fits Nil (Record n) t e = (inr refl, inl (some_same e))
common_fits Nil (ListOf n) t e = (inr refl, inl (some_same e))
common_fits Nil Nil t e = (inr refl, inl (some_same e))

fits_has : (table : TableMap) (a t : ValueType) (v : Val) → Fitting a t → HasType table a v → HasType table t v
fits_has table a t v (inl e) has = along table v e has
fits_has table a t v (inr e) has = nil_fits table t v (along table v e has)

-- ---- operators

negated_has : (table : TableMap) (v : Val) → HasType table Integer (negated v)
negated_has table (val.Plain value.Nil) = tt
negated_has table (val.Plain (value.Bool x)) = tt
negated_has table (val.Plain (value.Int x)) = whole_has table (neg_ℤ x)
negated_has table (val.Plain (value.Text x)) = tt
negated_has table (val.Record mx x) = tt
negated_has table (val.List mx x) = tt

subtracted_has : (table : TableMap) (a b : Val) → HasType table Integer (subtracted a b)
subtracted_has table (val.Plain value.Nil) (val.Plain value.Nil) = tt
subtracted_has table (val.Plain value.Nil) (val.Plain (value.Bool y)) = tt
subtracted_has table (val.Plain value.Nil) (val.Plain (value.Int y)) = tt
subtracted_has table (val.Plain value.Nil) (val.Plain (value.Text y)) = tt
subtracted_has table (val.Plain value.Nil) (val.Record my y) = tt
subtracted_has table (val.Plain value.Nil) (val.List my y) = tt
subtracted_has table (val.Plain (value.Bool x)) (val.Plain value.Nil) = tt
subtracted_has table (val.Plain (value.Bool x)) (val.Plain (value.Bool y)) = tt
subtracted_has table (val.Plain (value.Bool x)) (val.Plain (value.Int y)) = tt
subtracted_has table (val.Plain (value.Bool x)) (val.Plain (value.Text y)) = tt
subtracted_has table (val.Plain (value.Bool x)) (val.Record my y) = tt
subtracted_has table (val.Plain (value.Bool x)) (val.List my y) = tt
subtracted_has table (val.Plain (value.Int x)) (val.Plain value.Nil) = tt
subtracted_has table (val.Plain (value.Int x)) (val.Plain (value.Bool y)) = tt
subtracted_has table (val.Plain (value.Int x)) (val.Plain (value.Int y)) = whole_has table (x -ℤ y)
subtracted_has table (val.Plain (value.Int x)) (val.Plain (value.Text y)) = tt
subtracted_has table (val.Plain (value.Int x)) (val.Record my y) = tt
subtracted_has table (val.Plain (value.Int x)) (val.List my y) = tt
subtracted_has table (val.Plain (value.Text x)) (val.Plain value.Nil) = tt
subtracted_has table (val.Plain (value.Text x)) (val.Plain (value.Bool y)) = tt
subtracted_has table (val.Plain (value.Text x)) (val.Plain (value.Int y)) = tt
subtracted_has table (val.Plain (value.Text x)) (val.Plain (value.Text y)) = tt
subtracted_has table (val.Plain (value.Text x)) (val.Record my y) = tt
subtracted_has table (val.Plain (value.Text x)) (val.List my y) = tt
subtracted_has table (val.Record mx x) (val.Plain value.Nil) = tt
subtracted_has table (val.Record mx x) (val.Plain (value.Bool y)) = tt
subtracted_has table (val.Record mx x) (val.Plain (value.Int y)) = tt
subtracted_has table (val.Record mx x) (val.Plain (value.Text y)) = tt
subtracted_has table (val.Record mx x) (val.Record my y) = tt
subtracted_has table (val.Record mx x) (val.List my y) = tt
subtracted_has table (val.List mx x) (val.Plain value.Nil) = tt
subtracted_has table (val.List mx x) (val.Plain (value.Bool y)) = tt
subtracted_has table (val.List mx x) (val.Plain (value.Int y)) = tt
subtracted_has table (val.List mx x) (val.Plain (value.Text y)) = tt
subtracted_has table (val.List mx x) (val.Record my y) = tt
subtracted_has table (val.List mx x) (val.List my y) = tt

multiplied_has : (table : TableMap) (a b : Val) → HasType table Integer (multiplied a b)
multiplied_has table (val.Plain value.Nil) (val.Plain value.Nil) = tt
multiplied_has table (val.Plain value.Nil) (val.Plain (value.Bool y)) = tt
multiplied_has table (val.Plain value.Nil) (val.Plain (value.Int y)) = tt
multiplied_has table (val.Plain value.Nil) (val.Plain (value.Text y)) = tt
multiplied_has table (val.Plain value.Nil) (val.Record my y) = tt
multiplied_has table (val.Plain value.Nil) (val.List my y) = tt
multiplied_has table (val.Plain (value.Bool x)) (val.Plain value.Nil) = tt
multiplied_has table (val.Plain (value.Bool x)) (val.Plain (value.Bool y)) = tt
multiplied_has table (val.Plain (value.Bool x)) (val.Plain (value.Int y)) = tt
multiplied_has table (val.Plain (value.Bool x)) (val.Plain (value.Text y)) = tt
multiplied_has table (val.Plain (value.Bool x)) (val.Record my y) = tt
multiplied_has table (val.Plain (value.Bool x)) (val.List my y) = tt
multiplied_has table (val.Plain (value.Int x)) (val.Plain value.Nil) = tt
multiplied_has table (val.Plain (value.Int x)) (val.Plain (value.Bool y)) = tt
multiplied_has table (val.Plain (value.Int x)) (val.Plain (value.Int y)) = whole_has table (x *ℤ y)
multiplied_has table (val.Plain (value.Int x)) (val.Plain (value.Text y)) = tt
multiplied_has table (val.Plain (value.Int x)) (val.Record my y) = tt
multiplied_has table (val.Plain (value.Int x)) (val.List my y) = tt
multiplied_has table (val.Plain (value.Text x)) (val.Plain value.Nil) = tt
multiplied_has table (val.Plain (value.Text x)) (val.Plain (value.Bool y)) = tt
multiplied_has table (val.Plain (value.Text x)) (val.Plain (value.Int y)) = tt
multiplied_has table (val.Plain (value.Text x)) (val.Plain (value.Text y)) = tt
multiplied_has table (val.Plain (value.Text x)) (val.Record my y) = tt
multiplied_has table (val.Plain (value.Text x)) (val.List my y) = tt
multiplied_has table (val.Record mx x) (val.Plain value.Nil) = tt
multiplied_has table (val.Record mx x) (val.Plain (value.Bool y)) = tt
multiplied_has table (val.Record mx x) (val.Plain (value.Int y)) = tt
multiplied_has table (val.Record mx x) (val.Plain (value.Text y)) = tt
multiplied_has table (val.Record mx x) (val.Record my y) = tt
multiplied_has table (val.Record mx x) (val.List my y) = tt
multiplied_has table (val.List mx x) (val.Plain value.Nil) = tt
multiplied_has table (val.List mx x) (val.Plain (value.Bool y)) = tt
multiplied_has table (val.List mx x) (val.Plain (value.Int y)) = tt
multiplied_has table (val.List mx x) (val.Plain (value.Text y)) = tt
multiplied_has table (val.List mx x) (val.Record my y) = tt
multiplied_has table (val.List mx x) (val.List my y) = tt

-- a number's type is that of numbers
sum_has : (table : TableMap) (t : ValueType) (x : ℤ) (v : Val) → ValueHasType t (value.Int x) → HasType table Integer v → HasType table t v
sum_has table Integer x v has whole = whole
sum_has table Text x v has whole = absurd has
sum_has table Boolean x v has whole = absurd has
sum_has table (Record m) x v has whole = absurd has
sum_has table (ListOf m) x v has whole = absurd has
sum_has table Nil x v has whole = absurd has

joined_has : (table : TableMap) (t : ValueType) (x y : List ℕ) → ValueHasType t (value.Text x) → ValueHasType t (value.Text y)
joined_has table Integer x y has = absurd has
joined_has table Text x y has = tt
joined_has table Boolean x y has = absurd has
joined_has table (Record m) x y has = absurd has
joined_has table (ListOf m) x y has = absurd has
joined_has table Nil x y has = absurd has

added_has : (table : TableMap) (t : ValueType) (a b : Val) → HasType table t a → HasType table t (added a b)
added_has table t (val.Plain value.Nil) (val.Plain value.Nil) has = nil_has t
added_has table t (val.Plain value.Nil) (val.Plain (value.Bool y)) has = nil_has t
added_has table t (val.Plain value.Nil) (val.Plain (value.Int y)) has = nil_has t
added_has table t (val.Plain value.Nil) (val.Plain (value.Text y)) has = nil_has t
added_has table t (val.Plain value.Nil) (val.Record my y) has = nil_has t
added_has table t (val.Plain value.Nil) (val.List my y) has = nil_has t
added_has table t (val.Plain (value.Bool x)) (val.Plain value.Nil) has = nil_has t
added_has table t (val.Plain (value.Bool x)) (val.Plain (value.Bool y)) has = nil_has t
added_has table t (val.Plain (value.Bool x)) (val.Plain (value.Int y)) has = nil_has t
added_has table t (val.Plain (value.Bool x)) (val.Plain (value.Text y)) has = nil_has t
added_has table t (val.Plain (value.Bool x)) (val.Record my y) has = nil_has t
added_has table t (val.Plain (value.Bool x)) (val.List my y) has = nil_has t
added_has table t (val.Plain (value.Int x)) (val.Plain value.Nil) has = nil_has t
added_has table t (val.Plain (value.Int x)) (val.Plain (value.Bool y)) has = nil_has t
added_has table t (val.Plain (value.Int x)) (val.Plain (value.Int y)) has = sum_has table t x (whole (x +ℤ y)) has (whole_has table (x +ℤ y))
added_has table t (val.Plain (value.Int x)) (val.Plain (value.Text y)) has = nil_has t
added_has table t (val.Plain (value.Int x)) (val.Record my y) has = nil_has t
added_has table t (val.Plain (value.Int x)) (val.List my y) has = nil_has t
added_has table t (val.Plain (value.Text x)) (val.Plain value.Nil) has = nil_has t
added_has table t (val.Plain (value.Text x)) (val.Plain (value.Bool y)) has = nil_has t
added_has table t (val.Plain (value.Text x)) (val.Plain (value.Int y)) has = nil_has t
added_has table t (val.Plain (value.Text x)) (val.Plain (value.Text y)) has = joined_has table t x (x ++ y) has
added_has table t (val.Plain (value.Text x)) (val.Record my y) has = nil_has t
added_has table t (val.Plain (value.Text x)) (val.List my y) has = nil_has t
added_has table t (val.Record mx x) (val.Plain value.Nil) has = nil_has t
added_has table t (val.Record mx x) (val.Plain (value.Bool y)) has = nil_has t
added_has table t (val.Record mx x) (val.Plain (value.Int y)) has = nil_has t
added_has table t (val.Record mx x) (val.Plain (value.Text y)) has = nil_has t
added_has table t (val.Record mx x) (val.Record my y) has = nil_has t
added_has table t (val.Record mx x) (val.List my y) has = nil_has t
added_has table t (val.List mx x) (val.Plain value.Nil) has = nil_has t
added_has table t (val.List mx x) (val.Plain (value.Bool y)) has = nil_has t
added_has table t (val.List mx x) (val.Plain (value.Int y)) has = nil_has t
added_has table t (val.List mx x) (val.Plain (value.Text y)) has = nil_has t
added_has table t (val.List mx x) (val.Record my y) has = nil_has t
added_has table t (val.List mx x) (val.List my y) has = nil_has t

query_has : (table : TableMap) (q : Query) (from t : ValueType) (v : Val) → query_type q from ≡ Ok t → HasType table t (asked q v)
query_has table query.Size from t v e =
    along table (asked query.Size v) (checked_same _ Integer t e) (either_has table Integer (λ n. whole (pos n)) (size_of v) (λ n is. whole_has table (pos n)))
query_has table query.Empty from t v e =
    along table (asked query.Empty v) (checked_same _ Boolean t e) (either_has table Boolean (λ n. truth (n == 0)) (size_of v) (λ n is. tt))
query_has table query.Any from t v e =
    along table (asked query.Any v) (checked_same _ Boolean t e) (either_has table Boolean (λ n. truth (not (n == 0))) (size_of v) (λ n is. tt))
query_has table query.IsNil from t v e = along table (asked query.IsNil v) (ok_same e) tt

-- a side of an operator that has a type in common with the other
left_has : (table : TableMap) (l r t : ValueType) (v : Val) → sides_type l r ≡ Ok t → HasType table l v → HasType table t v
left_has table l r t v e has = fits_has table l t v (common_fits l r t (some_of (common_type l r) Mismatch t e)).0 has

right_has : (table : TableMap) (l r t : ValueType) (v : Val) → sides_type l r ≡ Ok t → HasType table r v → HasType table t v
right_has table l r t v e has = fits_has table r t v (common_fits l r t (some_of (common_type l r) Mismatch t e)).1 has

-- an ordered type is the one that both sides have
ordered_sides : (l r t : ValueType) → ordered_type l r ≡ Ok t → sides_type l r ≡ Ok t
ordered_sides l r t e = by (sides_type l r) e
  where
    by : (s : Result ValueType TypeKind) → (s >>= (λ common. checked (is_ordered common) common)) ≡ Ok t → s ≡ Ok t
    by (Ok common) e = ap Ok (checked_same (is_ordered common) common t e)
    by (Err k) e = absurd (cc e)

either_side : (table : TableMap) (l r t : ValueType) (b : Bool) (a o : Outcome) (right : Val) → sides_type l r ≡ Ok t → HasType table l a.value → HasType table r right → o.value ≡ right → HasType table t (cond b a o).value
either_side table l r t true a o right e left has is = left_has table l r t a.value e left
either_side table l r t false a o right e left has is = subst (λ v. HasType table t v) (sym is) (right_has table l r t right e has)

binary_has : (table : TableMap) (o : Op) (l r t : ValueType) (a b : Outcome) → HasType table l a.value → HasType table r b.value → binary_type o l r ≡ Ok t → HasType table t (binary o a b).value
binary_has table op.Or l r t a b left right e = either_side table l r t (is_settled op.Or a.value) a _ b.value e left right refl
binary_has table op.And l r t a b left right e = either_side table l r t (is_settled op.And a.value) a _ b.value e left right refl
binary_has table op.Eq l r t a b left right e = along table (operated op.Eq a.value b.value) (after_same (sides_type l r) Boolean t e) tt
binary_has table op.Ne l r t a b left right e = along table (operated op.Ne a.value b.value) (after_same (sides_type l r) Boolean t e) tt
binary_has table op.Lt l r t a b left right e = along table (operated op.Lt a.value b.value) (after_same (ordered_type l r) Boolean t e) tt
binary_has table op.Le l r t a b left right e = along table (operated op.Le a.value b.value) (after_same (ordered_type l r) Boolean t e) tt
binary_has table op.Gt l r t a b left right e = along table (operated op.Gt a.value b.value) (after_same (ordered_type l r) Boolean t e) tt
binary_has table op.Ge l r t a b left right e = along table (operated op.Ge a.value b.value) (after_same (ordered_type l r) Boolean t e) tt
binary_has table op.Add l r t a b left right e = added_has table t a.value b.value (left_has table l r t a.value (ordered_sides l r t e) left)
binary_has table op.Sub l r t a b left right e = along table (subtracted a.value b.value) (checked_same _ Integer t e) (subtracted_has table a.value b.value)
binary_has table op.Mul l r t a b left right e = along table (multiplied a.value b.value) (checked_same _ Integer t e) (multiplied_has table a.value b.value)

-- ---- steps

kind_has : (k : Kind) (v : Value) → IsTrue (has_kind k v) → ValueHasType (kind_type k) v
kind_has kinds.Integer value.Nil e = tt
kind_has kinds.Integer (value.Bool x) e = absurd (cc e)
kind_has kinds.Integer (value.Int x) e = tt
kind_has kinds.Integer (value.Text x) e = absurd (cc e)
kind_has kinds.Text value.Nil e = tt
kind_has kinds.Text (value.Bool x) e = absurd (cc e)
kind_has kinds.Text (value.Int x) e = absurd (cc e)
kind_has kinds.Text (value.Text x) e = tt
kind_has kinds.Boolean value.Nil e = tt
kind_has kinds.Boolean (value.Bool x) e = tt
kind_has kinds.Boolean (value.Int x) e = absurd (cc e)
kind_has kinds.Boolean (value.Text x) e = absurd (cc e)

module _ (schema : ModelList) (table : TableMap) (fits : Fits schema table) where
  attribute_has : (m : Model) (model id at : ℕ) (row : Row) (t : ValueType) (a : Option Attribute) → slice_get schema.models model ≡ Some m → row_of table model id ≡ Some row → slice_get m.attributes at ≡ a → option_map (λ (a : Attribute). kind_type a.kind) a ≡ Some t → HasType table t (option_map_or val.Plain (slice_get row.values at) nil)
  attribute_has m model id at row t None is lives among e = absurd (cc e)
  attribute_has m model id at row t (Some a) is lives among e =
      either_has table t val.Plain (slice_get row.values at)
      (λ v there. along table (val.Plain v) (some_same e) (kind_has a.kind v ((fits.rows model id m row is lives).kinds at a v among there)))

  parent_has : (m : Model) (model id at : ℕ) (row : Row) (t : ValueType) (b : Option BelongsTo) → slice_get schema.models model ≡ Some m → row_of table model id ≡ Some row → slice_get m.belongs_to at ≡ b → option_map (λ (b : BelongsTo). Record b.model) b ≡ Some t → HasType table t (option_map_or (λ (b : BelongsTo). option_map_or (λ key. val.Record b.model key) (parent_of row at) nil) b nil)
  parent_has m model id at row t None is lives among e = absurd (cc e)
  parent_has m model id at row t (Some b) is lives among e =
      either_has table t (λ key. val.Record b.model key) (parent_of row at)
      (λ key there. along table (val.Record b.model key) (some_same e) (refl, (fits.rows model id m row is lives).parents at b key among there))

  children_has : (m : Model) (model id at : ℕ) (t : ValueType) (h : Option HasMany) → slice_get schema.models model ≡ Some m → slice_get m.has_many at ≡ h → option_map (λ (many : HasMany). ListOf many.model) h ≡ Some t → HasType table t (option_map_or (λ (many : HasMany). val.List many.model (children_of table model at id)) h nil)
  children_has m model id at t None is among e = absurd (cc e)
  children_has m model id at t (Some many) is among e =
      let same : many_of table.schema model at ≡ Some many = rw (fits.same, is) among in
      along table (val.List many.model (children_of table model at id)) (some_same e) (refl, rw same (children_live table many.model many.inverse id))

  member_has : (m : Model) (model id : ℕ) (row : Row) (part : Member) (t : ValueType) → slice_get schema.models model ≡ Some m → row_of table model id ≡ Some row → member_type m part ≡ Some t → HasType table t (member_value table m model id row part)
  member_has m model id row (member.Attribute at) t is lives e = attribute_has m model id at row t (slice_get m.attributes at) is lives refl e
  member_has m model id row (member.Key at) t is lives e =
      along table (member_value table m model id row (member.Key at)) (some_same e) (either_has table Integer (λ key. val.Plain (value.Int (pos key))) (parent_of row at) (λ key there. tt))
  member_has m model id row member.Id t is lives e = along table (member_value table m model id row member.Id) (some_same e) tt
  member_has m model id row member.UpdatedAt t is lives e = along table (member_value table m model id row member.UpdatedAt) (some_same e) (whole_has table (pos row.updated_at))
  member_has m model id row (member.Parent at) t is lives e = parent_has m model id at row t (slice_get m.belongs_to at) is lives refl e
  member_has m model id row (member.Children at) t is lives e = children_has m model id at t (slice_get m.has_many at) is refl e
  member_has m model id row member.Unknown t is lives e = absurd (cc e)

  record_has : (model id : ℕ) (name : List ℕ) (t : ValueType) → part_type schema name (Record model) ≡ Some t → HasType table t (record_step schema table model id name)
  record_has model id name t e = by (slice_get schema.models model) refl e
    where
      by : (o : Option Model) → slice_get schema.models model ≡ o → option_and_then (λ (m : Model). member_type m (member_of m name)) o ≡ Some t → HasType table t (option_map_or (λ (m : Model). option_map_or (λ (row : Row). member_value table m model id row (member_of m name)) (row_of table model id) nil) o nil)
      by None is e = nil_has t
      by (Some m) is e = either_has table t (λ (row : Row). member_value table m model id row (member_of m name)) (row_of table model id) (λ row lives. member_has m model id row (member_of m name) t is lives e)

  step_has : (from : ValueType) (v : Val) (name : List ℕ) (t : ValueType) → HasType table from v → step_type schema name from ≡ Ok t → HasType table t (step schema table v name)
  step_has from (val.Plain v) name t has e = nil_has t
  step_has from (val.List of ids) name t has e = nil_has t
  step_has (Record model) (val.Record of id) name t has e =
      subst (λ m. HasType table t (record_step schema table m id name)) (sym has.0) (record_has model id name t (some_of (part_type schema name (Record model)) (UnknownStep name) t e))
  step_has Integer (val.Record of id) name t has e = absurd has
  step_has Text (val.Record of id) name t has e = absurd has
  step_has Boolean (val.Record of id) name t has e = absurd has
  step_has (ListOf model) (val.Record of id) name t has e = absurd has
  step_has Nil (val.Record of id) name t has e = absurd has

  -- ---- expressions

  module _ (typing : Typing) (vars : List (List ℕ × Val)) (have : HaveTypes table typing vars) where
    abbrev Holds : Expr → Type 0
    Holds e = (t : ValueType) → type_of schema typing e ≡ Ok t → HasType table t (value_of e vars schema table)

    abbrev Part : Type 0
    Part = (e : Expr) × Holds e

    -- the same of an expression by its parts
    abbrev Made : Expr-F Expr → Type 0
    Made x = (t : ValueType) → type_step schema typing (map-Expr Expr (Result ValueType TypeKind) (type_of schema typing) x) ≡ Ok t → HasType table t (meaning_step (map-Expr Expr Meaning meaning_of x) vars schema table).value

    rolled : (x : Expr-F Expr) → Made x → Holds (roll-Expr x)
    rolled x made t typed =
        subst (λ (o : Outcome). HasType table t o.value) (sym (ap (λ (m : Meaning). m vars schema table) (fold-roll-Expr Meaning meaning_step x)))
        (made t (sym (fold-roll-Expr (Result ValueType TypeKind) (type_step schema typing) x) ∙ typed))

    -- what is made of a part whose type is known
    through : (e : Expr) (go : ValueType → Result ValueType TypeKind) (t : ValueType) (v : Val) → Holds e → (type_of schema typing e >>= go) ≡ Ok t → ((from : ValueType) → HasType table from (value_of e vars schema table) → go from ≡ Ok t → HasType table t v) → HasType table t v
    through e go t v holds typed then = by (type_of schema typing e) refl typed
      where
        by : (r : Result ValueType TypeKind) → type_of schema typing e ≡ r → (r >>= go) ≡ Ok t → HasType table t v
        by (Ok from) is typed = then from (holds from is) typed
        by (Err k) is typed = absurd (cc typed)

    layer : (y : Expr-F Part) → Made (map-Expr Part Expr (λ p. p.0) y)
    layer Expr-F.Nil t typed = nil_has t
    layer Expr-F.True t typed = along table (truth true) (ok_same typed) tt
    layer Expr-F.False t typed = along table (truth false) (ok_same typed) tt
    layer (Expr-F.Int n) t typed = along table (val.Plain (value.Int n)) (ok_same typed) tt
    layer (Expr-F.Text text) t typed = along table (val.Plain (value.Text text)) (ok_same typed) tt
    layer (Expr-F.Var name) t typed = have name t (some_of (variable_type typing name) (UnknownVariable name) t typed)
    layer (Expr-F.Step of name) t typed =
        through of.0 (step_type schema name) t (step schema table (value_of of.0 vars schema table) name) of.1 typed
        (λ from has e. step_has from (value_of of.0 vars schema table) name t has e)
    layer (Expr-F.Ask of q) t typed =
        through of.0 (query_type q) t (asked q (value_of of.0 vars schema table)) of.1 typed
        (λ from has e. query_has table q from t (value_of of.0 vars schema table) e)
    layer (Expr-F.Not of) t typed = along table (truth (not (is_true (value_of of.0 vars schema table)))) (after_same (type_of schema typing of.0) Boolean t typed) tt
    layer (Expr-F.Neg of) t typed =
        through of.0 negated_type t (negated (value_of of.0 vars schema table)) of.1 typed
        (λ from has e. along table (negated (value_of of.0 vars schema table)) (checked_same (is_number from) Integer t e) (negated_has table (value_of of.0 vars schema table)))
    layer (Expr-F.Binary o left right) t typed =
        let a : Outcome = meaning_of left.0 vars schema table in
        let b : Outcome = meaning_of right.0 vars schema table in
        through left.0 (λ l. type_of schema typing right.0 >>= binary_type o l) t (binary o a b).value left.1 typed
        (λ l has e. through right.0 (binary_type o l) t (binary o a b).value right.1 e
        (λ r had is. binary_has table o l r t a b has had is))

    all_hold : (e : Expr) → Holds e
    all_hold = ind-Expr Holds (λ x y is. subst (λ z. Holds (roll-Expr z)) is (rolled (map-Expr Part Expr (λ p. p.0) y) (layer y)))

pub values : ValuesHaveTypes
values schema table typing vars expr t fits have typed = all_hold schema table fits typing vars have expr t typed

-- ---- variables

reverse_last : {X : Type 0} (xs : List X) (x : X) → reverse (xs ++ x ∷ []) ≡ x ∷ reverse xs
reverse_last xs x = reverse-append xs (x ∷ [])

no_variables : (table : TableMap) → HaveTypes table [] []
no_variables table name t e = absurd (cc e)

pub bound : BoundHaveTypes
bound table typing vars name t v have has wanted u e =
    rw (reverse_last vars (name, v)) (by (bytes_eq name wanted) (rw (reverse_last typing (name, t)) at e))
  where
    by : (b : Bool) → option_map (λ (b : List ℕ × ValueType). b.1) (cond b (Some (name, t)) (find (λ (b : List ℕ × ValueType). bytes_eq b.0 wanted) (reverse typing))) ≡ Some u → HasType table u (option_map_or (λ (b : List ℕ × Val). b.1) (cond b (Some (name, v)) (find (λ (b : List ℕ × Val). bytes_eq b.0 wanted) (reverse vars))) nil)
    by true e = along table v (some_same e) has
    by false e = have wanted u e

locals_from : (schema : ModelList) (table : TableMap) (typing : Typing) (vars : List (List ℕ × Val)) (locals : List Local) (types before : Typing) (values_before : List (List ℕ × Val)) → Fits schema table → HaveTypes table typing vars → HaveTypes table before values_before → locals_typing schema typing locals ≡ Ok types → HaveTypes table (before ++ types) (values_before ++ locals_values schema table vars locals)
locals_from schema table typing vars [] types before values_before fits have so e =
    subst (λ ts. HaveTypes table (before ++ ts) (values_before ++ [])) (ok_same e)
    (subst (λ ts. HaveTypes table ts (values_before ++ [])) (sym (append-nil before)) (subst (λ vs. HaveTypes table before vs) (sym (append-nil values_before)) so))
locals_from schema table typing vars (l ∷ locals) types before values_before fits have so e =
    by (type_of schema typing l.value) refl (locals_typing schema typing locals) refl e (λ b vb more so e. locals_from schema table typing vars locals more b vb fits have so e)
  where
    v : Val
    v = value_of l.value vars schema table

    by : (r : Result ValueType TypeKind) → type_of schema typing l.value ≡ r → (rs : Result Typing TypeKind) → locals_typing schema typing locals ≡ rs → ((r >>= (λ t. Ok (l.name, t))) >>= (λ one. rs >>= (λ more. Ok (one ∷ more)))) ≡ Ok types
        → ((b : Typing) (vb : List (List ℕ × Val)) (more : Typing) → HaveTypes table b vb → locals_typing schema typing locals ≡ Ok more → HaveTypes table (b ++ more) (vb ++ locals_values schema table vars locals))
        → HaveTypes table (before ++ types) (values_before ++ ((l.name, v) ∷ locals_values schema table vars locals))
    by (Err k) is rs are e later = absurd (cc e)
    by (Ok t) is (Err k) are e later = absurd (cc e)
    by (Ok t) is (Ok more) are e later =
        subst (λ ts. HaveTypes table (before ++ ts) (values_before ++ ((l.name, v) ∷ locals_values schema table vars locals))) (ok_same e)
        (subst (λ ts. HaveTypes table ts (values_before ++ ((l.name, v) ∷ locals_values schema table vars locals))) (append_assoc before ((l.name, t) ∷ []) more)
        (subst (λ vs. HaveTypes table ((before ++ (l.name, t) ∷ []) ++ more) vs) (append_assoc values_before ((l.name, v) ∷ []) (locals_values schema table vars locals))
        (later (before ++ (l.name, t) ∷ []) (values_before ++ (l.name, v) ∷ []) more
        (bound table before values_before l.name t v so (values schema table typing vars l.value t fits have is)) are)))

pub locals_fit : LocalsHaveTypes
locals_fit schema table typing types vars locals fits have e = locals_from schema table typing vars locals types [] [] fits have (no_variables table) e
