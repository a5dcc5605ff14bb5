-- The value of an expression, and how many looks at the table it takes (this project's own).
use Rattle.std.specs.Prelude.{ℕ, ◌+◌, pos, true, false, not, List, reverse, slice_get, find, bytes_eq, if◌then◌else◌}
use Rattle.std.specs.Option.{option_map_or}
use Rattle.doll_expr.specs.declared.expr.Expr.{Expr, fold-Expr}
use Rattle.doll_expr.specs.declared.expr.Expr.TheOpen.{Expr-F}
use Rattle.doll_expr.specs.declared.expr.Op.{Op}
use Rattle.doll_schema.specs.declared.value.Value.TheVariants as value
use Rattle.doll_schema.specs.declared.value.Val.{Val}
use Rattle.doll_schema.specs.declared.value.Val.TheVariants as val
use Rattle.doll_schema.specs.declared.value.Row.{Row}
use Rattle.doll_schema.specs.declared.model.BelongsTo.{BelongsTo}
use Rattle.doll_schema.specs.declared.model.HasMany.{HasMany}
use Rattle.doll_schema.specs.declared.model.Model.{Model}
use Rattle.doll_schema.specs.declared.model.Schema.{Schema}
use Rattle.doll_table.specs.Tables.{TableMap, row_of, parent_of, children_of}
use Rattle.doll_eval.specs.declared.member.Member.{Member}
use Rattle.doll_eval.specs.declared.member.Member.TheVariants as member
use Rattle.doll_eval.specs.Members.{member_of}
use Rattle.doll_eval.specs.Operations.{nil, truth, whole, is_true, asked, negated, is_settled, operated}

-- the value of the last binding of a name, nil where there is none
abbrev pub variable : List (List ℕ × Val) → List ℕ → Val
variable vars name = option_map_or (λ (binding : List ℕ × Val). binding.1) (find (λ (binding : List ℕ × Val). bytes_eq binding.0 name) (reverse vars)) nil

-- an attribute, a parent and the children of a record, nil where there is none
abbrev pub attribute_value : TableMap → ℕ → ℕ → ℕ → Val
attribute_value table model id at = option_map_or (λ (row : Row). option_map_or val.Plain (slice_get row.values at) nil) (row_of table model id) nil

abbrev pub parent_value : TableMap → Model → ℕ → ℕ → ℕ → Val
parent_value table m model id at =
    option_map_or (λ (b : BelongsTo). option_map_or (λ (row : Row). option_map_or (λ key. val.Record b.model key) (parent_of row at) nil) (row_of table model id) nil) (slice_get m.belongs_to at) nil

abbrev pub children_value : TableMap → Model → ℕ → ℕ → ℕ → Val
children_value table m model id at = option_map_or (λ (many : HasMany). val.List many.model (children_of table model at id)) (slice_get m.has_many at) nil

-- what a living record has as a member of its model
abbrev pub member_value : TableMap → Model → ℕ → ℕ → Row → Member → Val
member_value table m model id row (member.Attribute at) = option_map_or val.Plain (slice_get row.values at) nil
member_value table m model id row (member.Key at) = option_map_or (λ key. val.Plain (value.Int (pos key))) (parent_of row at) nil
member_value table m model id row member.Id = val.Plain (value.Int (pos id))
member_value table m model id row member.UpdatedAt = whole (pos row.updated_at)
member_value table m model id row (member.Parent at) = option_map_or (λ (b : BelongsTo). option_map_or (λ key. val.Record b.model key) (parent_of row at) nil) (slice_get m.belongs_to at) nil
member_value table m model id row (member.Children at) = children_value table m model id at
member_value table m model id row member.Unknown = nil

-- a step from a record, nil where the record isn't in the table
abbrev pub record_step : Schema → TableMap → ℕ → ℕ → List ℕ → Val
record_step schema table model id name =
    option_map_or (λ (m : Model). option_map_or (λ (row : Row). member_value table m model id row (member_of m name)) (row_of table model id) nil) (slice_get schema.models model) nil

-- a step from a value; only a record has members
abbrev pub step : Schema → TableMap → Val → List ℕ → Val
step schema table (val.Record model id) name = record_step schema table model id name
step schema table v name = nil

-- the looks at the table that a member takes: one, but none for the `id`
abbrev pub member_looks : Member → ℕ
member_looks member.Id = 0
member_looks other = 1

-- the looks at the table that a step takes: one, but none for a record's `id` and for what is no record
abbrev pub step_looks : Schema → Val → List ℕ → ℕ
step_looks schema (val.Record model id) name = option_map_or (λ (m : Model). member_looks (member_of m name)) (slice_get schema.models model) 0
step_looks schema v name = 0

-- what evaluating an expression comes to
pub record Outcome : Type 0 where
  pub value : Val
  pub looks : ℕ

-- an expression means an outcome under each list of variables, schema and table
abbrev pub Meaning : Type 0
Meaning = List (List ℕ × Val) → Schema → TableMap → Outcome

-- a value that takes no look
abbrev pub simple : Val → Outcome
simple v = record { value = v; looks = 0 }

-- an operator with its two sides; the right one counts only where the left one isn't the answer
abbrev pub binary : Op → Outcome → Outcome → Outcome
binary op left right = (if is_settled op left.value then left else record { value = operated op left.value right.value; looks = left.looks + right.looks })

-- an expression by what its parts mean
abbrev pub meaning_step : Expr-F Meaning → Meaning
meaning_step Expr-F.Nil vars schema table = simple nil
meaning_step Expr-F.True vars schema table = simple (truth true)
meaning_step Expr-F.False vars schema table = simple (truth false)
meaning_step (Expr-F.Int n) vars schema table = simple (val.Plain (value.Int n))
meaning_step (Expr-F.Text text) vars schema table = simple (val.Plain (value.Text text))
meaning_step (Expr-F.Var name) vars schema table = simple (variable vars name)
meaning_step (Expr-F.Step of name) vars schema table =
    let from : Outcome = of vars schema table in
    record { value = step schema table from.value name; looks = from.looks + step_looks schema from.value name }
meaning_step (Expr-F.Ask of query) vars schema table =
    let from : Outcome = of vars schema table in
    record { value = asked query from.value; looks = from.looks }
meaning_step (Expr-F.Not of) vars schema table =
    let from : Outcome = of vars schema table in
    record { value = truth (not (is_true from.value)); looks = from.looks }
meaning_step (Expr-F.Neg of) vars schema table =
    let from : Outcome = of vars schema table in
    record { value = negated from.value; looks = from.looks }
meaning_step (Expr-F.Binary op left right) vars schema table = binary op (left vars schema table) (right vars schema table)

-- what an expression means
abbrev pub meaning_of : Expr → Meaning
meaning_of = fold-Expr Meaning meaning_step

-- the value of an expression
abbrev pub value_of : Expr → List (List ℕ × Val) → Schema → TableMap → Val
value_of expr vars schema table = (meaning_of expr vars schema table).value

-- the looks that evaluating an expression may take
abbrev pub looks_of : Expr → List (List ℕ × Val) → Schema → TableMap → ℕ
looks_of expr vars schema table = (meaning_of expr vars schema table).looks
