-- What the operators and questions of an expression give, and what a value prints (this project's own).
use Rattle.std.specs.Prelude.{ℕ, ◌==◌, ◌^◌, ℤ, pos, negsuc, ◌+ℤ◌, ◌-ℤ◌, ◌*ℤ◌, neg_ℤ, nat_lt, Bool, true, false, not, ◌&&◌, List, [], ◌++◌, codes, length, bytes_eq, Option, Some, None, if◌then◌else◌}
use Rattle.std.specs.Option.{option_map_or}
use Rattle.std.specs.declared.cmp.Ordering.{Ordering}
use Rattle.std.specs.Ordering.{nat_cmp, int_cmp, int_eq, is_lt, is_le, is_gt, is_ge}
use Rattle.std.specs.Cmp.Lexicographic.{slice_cmp}
use Rattle.std.specs.Fmt.{signed_decimal}
use Rattle.doll_schema.specs.Escape.{escaped}
use Rattle.doll_expr.specs.declared.expr.Op.{Op}
use Rattle.doll_expr.specs.declared.expr.Op.TheVariants as op
use Rattle.doll_expr.specs.declared.expr.Query.{Query}
use Rattle.doll_expr.specs.declared.expr.Query.TheVariants as query
use Rattle.doll_schema.specs.declared.value.Value.{Value}
use Rattle.doll_schema.specs.declared.value.Value.TheVariants as value
use Rattle.doll_schema.specs.declared.value.Val.{Val}
use Rattle.doll_schema.specs.declared.value.Val.TheVariants as val

-- nil as a value of a template
abbrev pub nil : Val
nil = val.Plain value.Nil

-- true or false as a value of a template
abbrev pub truth : Bool → Val
truth b = val.Plain (value.Bool b)

-- whether a whole number, signed, has at most 64 bits
abbrev pub has_64_bits : ℤ → Bool
has_64_bits (pos n) = nat_lt n (2 ^ 63)
has_64_bits (negsuc n) = nat_lt n (2 ^ 63)

-- a whole number, nil where it has more than 64 bits
abbrev pub whole : ℤ → Val
whole n = (if has_64_bits n then val.Plain (value.Int n) else nil)

-- a whole number where there is one, else nil
abbrev pub whole_if : Option ℤ → Val
whole_if number = option_map_or (λ n. val.Plain (value.Int n)) number nil

-- whether a value is nil, which a record or a list never is
abbrev pub is_nil : Val → Bool
is_nil (val.Plain value.Nil) = true
is_nil v = false

-- every value but nil and false holds in a test
abbrev pub is_true : Val → Bool
is_true (val.Plain value.Nil) = false
is_true (val.Plain (value.Bool b)) = b
is_true v = true

-- how many records a list has; nil counts as the empty list
abbrev pub size_of : Val → Option ℕ
size_of (val.List model ids) = Some (length ids)
size_of (val.Plain value.Nil) = Some 0
size_of v = None

-- the answer to a question
abbrev pub asked : Query → Val → Val
asked query.Size v = option_map_or (λ n. whole (pos n)) (size_of v) nil
asked query.Empty v = option_map_or (λ n. truth (n == 0)) (size_of v) nil
asked query.Any v = option_map_or (λ n. truth (not (n == 0))) (size_of v) nil
asked query.IsNil v = truth (is_nil v)

-- a number with its sign changed, nil of all else
abbrev pub negated : Val → Val
negated (val.Plain (value.Int n)) = whole (neg_ℤ n)
negated v = nil

-- single values are the same where they are of one kind and hold the same
abbrev pub same_value : Value → Value → Bool
same_value value.Nil value.Nil = true
same_value (value.Bool a) (value.Bool b) = (if a then b else not b)
same_value (value.Int a) (value.Int b) = int_eq a b
same_value (value.Text a) (value.Text b) = bytes_eq a b
same_value a b = false

-- values of one sort are the same by what they hold, records by model and id, lists by their ids
abbrev pub same : Val → Val → Bool
same (val.Plain a) (val.Plain b) = same_value a b
same (val.Record m i) (val.Record n j) = (m == n) && (i == j)
same (val.List m is) (val.List n js) = bytes_eq is js
same a b = false

-- the order of two whole numbers, or of two texts by their bytes; of others there is none
abbrev pub compared : Val → Val → Option Ordering
compared (val.Plain (value.Int a)) (val.Plain (value.Int b)) = Some (int_cmp a b)
compared (val.Plain (value.Text a)) (val.Plain (value.Text b)) = Some (slice_cmp nat_cmp a b)
compared a b = None

-- numbers are added, texts joined; all else gives nil
abbrev pub added : Val → Val → Val
added (val.Plain (value.Int a)) (val.Plain (value.Int b)) = whole (a +ℤ b)
added (val.Plain (value.Text a)) (val.Plain (value.Text b)) = val.Plain (value.Text (a ++ b))
added a b = nil

-- the difference of two numbers, nil of all else
abbrev pub subtracted : Val → Val → Val
subtracted (val.Plain (value.Int a)) (val.Plain (value.Int b)) = whole (a -ℤ b)
subtracted a b = nil

-- the product of two numbers, nil of all else
abbrev pub multiplied : Val → Val → Val
multiplied (val.Plain (value.Int a)) (val.Plain (value.Int b)) = whole (a *ℤ b)
multiplied a b = nil

-- whether the left side of an operator is its answer, so that the right side isn't evaluated
abbrev pub is_settled : Op → Val → Bool
is_settled op.Or left = is_true left
is_settled op.And left = not (is_true left)
is_settled other left = false

-- what an operator gives once both sides are evaluated
abbrev pub operated : Op → Val → Val → Val
operated op.Or left right = right
operated op.And left right = right
operated op.Eq left right = truth (same left right)
operated op.Ne left right = truth (not (same left right))
operated op.Lt left right = truth (option_map_or is_lt (compared left right) false)
operated op.Le left right = truth (option_map_or is_le (compared left right) false)
operated op.Gt left right = truth (option_map_or is_gt (compared left right) false)
operated op.Ge left right = truth (option_map_or is_ge (compared left right) false)
operated op.Add left right = added left right
operated op.Sub left right = subtracted left right
operated op.Mul left right = multiplied left right

-- what a value prints: numbers in decimal, texts as they are, nothing for nil, records and lists
abbrev pub printed : Val → List ℕ
printed (val.Plain (value.Int n)) = signed_decimal n
printed (val.Plain (value.Text t)) = t
printed (val.Plain (value.Bool b)) = (if b then codes "true" else codes "false")
printed v = []

-- the same as a page holds it, escaped for HTML unless it is written raw
abbrev pub written : Bool → Val → List ℕ
written raw v = (if raw then printed v else escaped (printed v))
