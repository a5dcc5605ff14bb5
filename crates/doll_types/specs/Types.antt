-- The types of expressions (this project's own).
use Rattle.std.specs.Prelude.{ℕ, ◌==◌, Bool, true, false, ◌&&◌, List, reverse, find, slice_get, bytes_eq, Option, Some, None, option_and_then, option_map, Result, Ok, Err, if◌then◌else◌}
use Rattle.std.specs.Option.{ok_or}
use Rattle.doll_text.specs.Steps.{◌>>=◌, ◌>>◌, check}
use Rattle.doll_expr.specs.declared.expr.Expr.{Expr, fold-Expr}
use Rattle.doll_expr.specs.declared.expr.Expr.TheOpen.{Expr-F}
use Rattle.doll_expr.specs.declared.expr.Op.{Op}
use Rattle.doll_expr.specs.declared.expr.Op.TheVariants as op
use Rattle.doll_expr.specs.declared.expr.Query.{Query}
use Rattle.doll_expr.specs.declared.expr.Query.TheVariants as query
use Rattle.doll_schema.specs.declared.model.Attribute.{Attribute}
use Rattle.doll_schema.specs.declared.model.BelongsTo.{BelongsTo}
use Rattle.doll_schema.specs.declared.model.HasMany.{HasMany}
use Rattle.doll_schema.specs.declared.model.Kind.{Kind}
use Rattle.doll_schema.specs.declared.model.Kind.TheVariants as kind
use Rattle.doll_schema.specs.declared.model.Model.{Model}
use Rattle.doll_schema.specs.Models.{ModelList}
use Rattle.doll_eval.specs.declared.member.Member.{Member}
use Rattle.doll_eval.specs.declared.member.Member.TheVariants as member
use Rattle.doll_eval.specs.Members.{member_of}
use Rattle.doll_types.specs.declared.types.ValueType.{ValueType}
use Rattle.doll_types.specs.declared.types.ValueType.TheVariants.{Integer, Text, Boolean, Record, List as ListOf, Nil}
use Rattle.doll_types.specs.declared.types.TypeKind.{TypeKind}
use Rattle.doll_types.specs.declared.types.TypeKind.TheVariants.{UnknownVariable, UnknownStep, Mismatch, NotPrintable, NotList}

-- ---- typings

-- variables with their types; of one name the last stands
abbrev pub Typing : Type 0
Typing = List (List ℕ × ValueType)

-- the type of the last variable with a name
abbrev pub variable_type : Typing → List ℕ → Option ValueType
variable_type typing name =
    option_map (λ (binding : List ℕ × ValueType). binding.1) (find (λ (binding : List ℕ × ValueType). bytes_eq binding.0 name) (reverse typing))

-- ---- which types an operator takes

-- one and the same type
abbrev pub same_type : ValueType → ValueType → Bool
same_type Integer Integer = true
same_type Text Text = true
same_type Boolean Boolean = true
same_type (Record m) (Record n) = m == n
same_type (ListOf m) (ListOf n) = m == n
same_type Nil Nil = true
same_type a b = false

abbrev pub same_or_none : ValueType → ValueType → Option ValueType
same_or_none a b = if same_type a b then Some a else None

-- the type that two sides have in common: nil fits every type
abbrev pub common_type : ValueType → ValueType → Option ValueType
common_type Nil b = Some b
common_type a Nil = Some a
common_type a b = same_or_none a b

-- whole numbers, which nil fits
abbrev pub is_number : ValueType → Bool
is_number Integer = true
is_number Nil = true
is_number other = false

-- what has an order and can be added: whole numbers and texts, which nil fits
abbrev pub is_ordered : ValueType → Bool
is_ordered Integer = true
is_ordered Text = true
is_ordered Nil = true
is_ordered other = false

-- lists, which nil fits
abbrev pub is_list : ValueType → Bool
is_list (ListOf model) = true
is_list Nil = true
is_list other = false

-- what prints something, or nil
abbrev pub is_printable : ValueType → Bool
is_printable Integer = true
is_printable Text = true
is_printable Boolean = true
is_printable Nil = true
is_printable other = false

-- ---- steps

-- the type of an attribute
abbrev pub kind_type : Kind → ValueType
kind_type kind.Integer = Integer
kind_type kind.Text = Text
kind_type kind.Boolean = Boolean

-- those of an attribute, an association to a parent and one to children, by their places
abbrev pub attribute_type : Model → ℕ → Option ValueType
attribute_type m at = option_map (λ (a : Attribute). kind_type a.kind) (slice_get m.attributes at)

abbrev pub parent_type : Model → ℕ → Option ValueType
parent_type m at = option_map (λ (b : BelongsTo). Record b.model) (slice_get m.belongs_to at)

abbrev pub children_type : Model → ℕ → Option ValueType
children_type m at = option_map (λ (many : HasMany). ListOf many.model) (slice_get m.has_many at)

-- the type of what a record of a model has
abbrev pub member_type : Model → Member → Option ValueType
member_type m (member.Attribute at) = attribute_type m at
member_type m (member.Key at) = Some Integer
member_type m member.Id = Some Integer
member_type m member.UpdatedAt = Some Integer
member_type m (member.Parent at) = parent_type m at
member_type m (member.Children at) = children_type m at
member_type m member.Unknown = None

-- the type of a part of a record; nothing else has parts
abbrev pub part_type : ModelList → List ℕ → ValueType → Option ValueType
part_type schema name (Record model) = option_and_then (λ (m : Model). member_type m (member_of m name)) (slice_get schema.models model)
part_type schema name other = None

-- the type of a name after a dot: on nil it is nil
abbrev pub step_type : ModelList → List ℕ → ValueType → Result ValueType TypeKind
step_type schema name Nil = Ok Nil
step_type schema name from = ok_or (part_type schema name from) (UnknownStep name)

-- ---- operators

-- a type where a test holds
abbrev pub checked : Bool → ValueType → Result ValueType TypeKind
checked holds given = check holds Mismatch >> Ok given

-- the type of the answer to a question: all but `nil?` ask a list
abbrev pub query_type : Query → ValueType → Result ValueType TypeKind
query_type query.Size of = checked (is_list of) Integer
query_type query.Empty of = checked (is_list of) Boolean
query_type query.Any of = checked (is_list of) Boolean
query_type query.IsNil of = Ok Boolean

-- the type of two sides that must have one
abbrev pub sides_type : ValueType → ValueType → Result ValueType TypeKind
sides_type left right = ok_or (common_type left right) Mismatch

-- the same where it must have an order
abbrev pub ordered_type : ValueType → ValueType → Result ValueType TypeKind
ordered_type left right = do
  common ← sides_type left right
  checked (is_ordered common) common

-- a number where both are
abbrev pub numbers_type : ValueType → ValueType → Result ValueType TypeKind
numbers_type left right = checked (is_number left && is_number right) Integer

-- a number with its sign changed
abbrev pub negated_type : ValueType → Result ValueType TypeKind
negated_type of = checked (is_number of) Integer

-- what an operator gives for sides of these types
abbrev pub binary_type : Op → ValueType → ValueType → Result ValueType TypeKind
binary_type op.Or left right = sides_type left right
binary_type op.And left right = sides_type left right
binary_type op.Eq left right = sides_type left right >> Ok Boolean
binary_type op.Ne left right = sides_type left right >> Ok Boolean
binary_type op.Lt left right = ordered_type left right >> Ok Boolean
binary_type op.Le left right = ordered_type left right >> Ok Boolean
binary_type op.Gt left right = ordered_type left right >> Ok Boolean
binary_type op.Ge left right = ordered_type left right >> Ok Boolean
binary_type op.Add left right = ordered_type left right
binary_type op.Sub left right = numbers_type left right
binary_type op.Mul left right = numbers_type left right

-- ---- expressions

-- the type of an expression, or its first fault, by those of its parts: theirs from left to right, then its own
abbrev pub type_step : ModelList → Typing → Expr-F (Result ValueType TypeKind) → Result ValueType TypeKind
type_step schema typing Expr-F.Nil = Ok Nil
type_step schema typing Expr-F.True = Ok Boolean
type_step schema typing Expr-F.False = Ok Boolean
type_step schema typing (Expr-F.Int n) = Ok Integer
type_step schema typing (Expr-F.Text text) = Ok Text
type_step schema typing (Expr-F.Var name) = ok_or (variable_type typing name) (UnknownVariable name)
type_step schema typing (Expr-F.Step of name) = of >>= step_type schema name
type_step schema typing (Expr-F.Ask of query) = of >>= query_type query
type_step schema typing (Expr-F.Not of) = of >> Ok Boolean
type_step schema typing (Expr-F.Neg of) = of >>= negated_type
type_step schema typing (Expr-F.Binary op left right) = left >>= (λ l. right >>= binary_type op l)

-- the type of an expression under a typing, or its first fault
abbrev pub type_of : ModelList → Typing → Expr → Result ValueType TypeKind
type_of schema typing = fold-Expr (Result ValueType TypeKind) (type_step schema typing)

-- the type of what is written
abbrev pub printed_type : ValueType → Result ValueType TypeKind
printed_type t = check (is_printable t) NotPrintable >> Ok t

-- the type of the items of a list; a list that is nil has items that are nil
abbrev pub item_type : ValueType → Result ValueType TypeKind
item_type (ListOf model) = Ok (Record model)
item_type Nil = Ok Nil
item_type other = Err NotList
