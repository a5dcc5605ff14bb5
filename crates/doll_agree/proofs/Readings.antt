-- What an expression is to a lint has the expression's type.
use Rattle.std.proofs.Common.{◌≡◌, ℕ, List, Result, Ok, Err, refl, ap, sym, subst, ◌∙◌}
use Rattle.doll_expr.specs.declared.expr.Expr.{Expr, roll-Expr}
use Rattle.doll_expr.specs.declared.expr.Expr.TheFolds.{fold-roll-Expr, ind-Expr, map-Expr}
use Rattle.doll_expr.specs.declared.expr.Expr.TheOpen.{Expr-F}
use Rattle.doll_expr.specs.declared.expr.Op.{Op}
use Rattle.doll_expr.specs.declared.expr.Op.TheVariants as op
use Rattle.doll_schema.specs.Models.{ModelList}
use Rattle.doll_eval.specs.declared.member.Member.{Member}
use Rattle.doll_eval.specs.declared.member.Member.TheVariants as member
use Rattle.doll_types.specs.declared.types.TypeKind.{TypeKind}
use Rattle.doll_types.specs.declared.types.ValueType.{ValueType}
use Rattle.doll_types.specs.declared.types.ValueType.TheVariants as type
use Rattle.doll_types.specs.Types.{Typing, type_of, type_step}
use Rattle.doll_lint.specs.declared.path.Path.{Path}
use Rattle.doll_lint.specs.declared.reading.Reading.{Reading}
use Rattle.doll_lint.specs.declared.reading.Wanted.{Wanted}
use Rattle.doll_lint.specs.Readings.{Standing, binary_reading, member_at, member_reading, reading_of, reading_step, reading_with, step_reading, types_in, variable_reading}

abbrev pub Typed : Type 0
Typed = Result ValueType TypeKind

variable_of : (paths : List Path) (t : Typed) → (variable_reading paths t).of ≡ t
variable_of paths (Ok type.Integer) = refl
variable_of paths (Ok type.Text) = refl
variable_of paths (Ok type.Boolean) = refl
variable_of paths (Ok (type.Record model)) = refl
variable_of paths (Ok (type.List model)) = refl
variable_of paths (Ok type.Nil) = refl
variable_of paths (Err kind) = refl

member_of : (schema : ModelList) (model : ℕ) (m : Member) (t : Typed) (paths : List Path) (wants : List Wanted) → (member_reading schema model m t paths wants).of ≡ t
member_of schema model (member.Attribute at) t paths wants = refl
member_of schema model (member.Key at) t paths wants = refl
member_of schema model member.Id t paths wants = refl
member_of schema model member.UpdatedAt t paths wants = refl
member_of schema model (member.Parent at) t paths wants = refl
member_of schema model (member.Children at) t paths wants = refl
member_of schema model member.Unknown t paths wants = refl

step_of : (schema : ModelList) (from : Typed) (name : List ℕ) (t : Typed) (reading : Reading) → (step_reading schema from name t reading).of ≡ t
step_of schema (Ok type.Integer) name t reading = refl
step_of schema (Ok type.Text) name t reading = refl
step_of schema (Ok type.Boolean) name t reading = refl
step_of schema (Ok (type.Record model)) name t reading = member_of schema model (member_at schema model name) t reading.paths reading.wants
step_of schema (Ok (type.List model)) name t reading = refl
step_of schema (Ok type.Nil) name t reading = refl
step_of schema (Err kind) name t reading = refl

binary_of : (o : Op) (t : Typed) (left right : Reading) → (binary_reading o t left right).of ≡ t
binary_of op.Or t left right = refl
binary_of op.And t left right = refl
binary_of op.Eq t left right = refl
binary_of op.Ne t left right = refl
binary_of op.Lt t left right = refl
binary_of op.Le t left right = refl
binary_of op.Gt t left right = refl
binary_of op.Ge t left right = refl
binary_of op.Add t left right = refl
binary_of op.Sub t left right = refl
binary_of op.Mul t left right = refl

module _ (schema : ModelList) (typing : Typing) (standing : Standing) where
  abbrev reading : Expr → Reading
  reading = reading_of schema typing standing

  abbrev typed : Expr → Typed
  typed = type_of schema typing

  with_of : (layer : Expr-F Reading) (t : Typed) → (reading_with schema standing layer t).of ≡ t
  with_of Expr-F.Nil t = refl
  with_of Expr-F.True t = refl
  with_of Expr-F.False t = refl
  with_of (Expr-F.Int n) t = refl
  with_of (Expr-F.Text text) t = refl
  with_of (Expr-F.Var name) t = variable_of _ t
  with_of (Expr-F.Step from name) t = step_of schema from.of name t from
  with_of (Expr-F.Ask of query) t = refl
  with_of (Expr-F.Not of) t = refl
  with_of (Expr-F.Neg of) t = refl
  with_of (Expr-F.Binary o left right) t = binary_of o t left right

  abbrev HasOf : Expr → Type 0
  HasOf e = (reading e).of ≡ typed e

  abbrev Part : Type 0
  Part = (e : Expr) × HasOf e

  -- the types of the parts of an expression
  types_same : (y : Expr-F Part) → types_in (map-Expr Expr Reading reading (map-Expr Part Expr (λ p. p.0) y)) ≡ map-Expr Expr Typed typed (map-Expr Part Expr (λ p. p.0) y)
  types_same Expr-F.Nil = refl
  types_same Expr-F.True = refl
  types_same Expr-F.False = refl
  types_same (Expr-F.Int n) = refl
  types_same (Expr-F.Text text) = refl
  types_same (Expr-F.Var name) = refl
  types_same (Expr-F.Step of name) = ap (λ t. Expr-F.Step t name) of.1
  types_same (Expr-F.Ask of query) = ap (λ t. Expr-F.Ask t query) of.1
  types_same (Expr-F.Not of) = ap (λ t. Expr-F.Not t) of.1
  types_same (Expr-F.Neg of) = ap (λ t. Expr-F.Neg t) of.1
  types_same (Expr-F.Binary o left right) = ap (λ t. Expr-F.Binary o t (reading right.0).of) left.1 ∙ ap (λ t. Expr-F.Binary o (typed left.0) t) right.1

  rolled : (x : Expr-F Expr) → types_in (map-Expr Expr Reading reading x) ≡ map-Expr Expr Typed typed x → HasOf (roll-Expr x)
  rolled x same =
      ap (λ (r : Reading). r.of) (fold-roll-Expr Reading (reading_step schema typing standing) x)
      ∙ with_of (map-Expr Expr Reading reading x) (type_step schema typing (types_in (map-Expr Expr Reading reading x)))
      ∙ ap (type_step schema typing) same
      ∙ sym (fold-roll-Expr Typed (type_step schema typing) x)

  pub of_type : (e : Expr) → HasOf e
  of_type = ind-Expr HasOf (λ x y is. subst (λ z. HasOf (roll-Expr z)) is (rolled (map-Expr Part Expr (λ p. p.0) y) (types_same y)))

  types_are : (x : Expr-F Expr) → types_in (map-Expr Expr Reading reading x) ≡ map-Expr Expr Typed typed x
  types_are Expr-F.Nil = refl
  types_are Expr-F.True = refl
  types_are Expr-F.False = refl
  types_are (Expr-F.Int n) = refl
  types_are (Expr-F.Text text) = refl
  types_are (Expr-F.Var name) = refl
  types_are (Expr-F.Step of name) = ap (λ t. Expr-F.Step t name) (of_type of)
  types_are (Expr-F.Ask of query) = ap (λ t. Expr-F.Ask t query) (of_type of)
  types_are (Expr-F.Not of) = ap (λ t. Expr-F.Not t) (of_type of)
  types_are (Expr-F.Neg of) = ap (λ t. Expr-F.Neg t) (of_type of)
  types_are (Expr-F.Binary o left right) = ap (λ t. Expr-F.Binary o t (reading right).of) (of_type left) ∙ ap (λ t. Expr-F.Binary o (typed left) t) (of_type right)

  -- an expression is read by its parts and its type
  pub read_by : (x : Expr-F Expr) → reading (roll-Expr x) ≡ reading_with schema standing (map-Expr Expr Reading reading x) (type_step schema typing (map-Expr Expr Typed typed x))
  read_by x =
      fold-roll-Expr Reading (reading_step schema typing standing) x
      ∙ ap (λ l. reading_with schema standing (map-Expr Expr Reading reading x) (type_step schema typing l)) (types_are x)
