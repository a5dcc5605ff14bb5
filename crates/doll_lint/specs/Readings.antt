-- What an expression is to a lint: the paths at which its value stands, and what finding it needs of a key (this project's own).
use Rattle.std.specs.Prelude.{ℕ, List, [], ◌++◌, map, reverse, find, slice_get, bytes_eq, Result, Ok}
use Rattle.std.specs.Option.{option_map_or}
use Rattle.doll_text.specs.Steps.{◌>>=◌, ◌>>◌}
use Rattle.doll_expr.specs.declared.expr.Expr.{Expr, fold-Expr}
use Rattle.doll_expr.specs.declared.expr.Expr.TheOpen.{Expr-F}
use Rattle.doll_expr.specs.declared.expr.Op.{Op}
use Rattle.doll_expr.specs.declared.expr.Op.TheVariants as op
use Rattle.doll_expr.specs.declared.expr.Query.{Query}
use Rattle.doll_schema.specs.Models.{ModelList}
use Rattle.doll_schema.specs.declared.model.Model.{Model}
use Rattle.doll_eval.specs.declared.member.Member.{Member}
use Rattle.doll_eval.specs.declared.member.Member.TheVariants as member
use Rattle.doll_eval.specs.Members.{member_of}
use Rattle.doll_types.specs.declared.types.TypeKind.{TypeKind}
use Rattle.doll_types.specs.declared.types.ValueType.{ValueType}
use Rattle.doll_types.specs.declared.types.ValueType.TheVariants as type
use Rattle.doll_types.specs.Types.{Typing, binary_type, negated_type, query_type, step_type, type_step}
use Rattle.doll_lint.specs.declared.path.Path.{Path}
use Rattle.doll_lint.specs.declared.path.PathStep.{PathStep}
use Rattle.doll_lint.specs.declared.path.PathStep.TheVariants as step
use Rattle.doll_lint.specs.declared.reading.Grade.{Grade}
use Rattle.doll_lint.specs.declared.reading.Grade.TheVariants as grade
use Rattle.doll_lint.specs.declared.reading.Reading.{Reading}
use Rattle.doll_lint.specs.declared.reading.Wanted.{Wanted}
use Rattle.doll_lint.specs.Paths.{path_to}

-- the paths that each variable stands for; of one name the last counts
abbrev pub Standing : Type 0
Standing = List (List ℕ × List Path)

abbrev pub stands_for : Standing → List ℕ → List Path
stands_for standing name = option_map_or (λ (one : List ℕ × List Path). one.1) (find (λ (one : List ℕ × List Path). bytes_eq one.0 name) (reverse standing)) []

-- ---- expressions

-- each of these paths, to be told so well
abbrev pub wanted : Grade → List Path → List Wanted
wanted g paths = map (λ path. record { path = path; grade = g }) paths

-- what looking at a value itself needs, in a test, a comparison, as a local or in a loop: of a record which one it is, of a list what it holds
abbrev pub looked_at : Result ValueType TypeKind → List Path → List Wanted
looked_at (Ok (type.Record model)) paths = wanted grade.Settled paths
looked_at (Ok (type.List model)) paths = wanted grade.Covered paths
looked_at other paths = []

abbrev pub looked : Reading → List Wanted
looked reading = looked_at reading.of reading.paths

-- a variable: what has the type of a single value, or is nil by its type, is read at once
abbrev pub variable_reading : List Path → Result ValueType TypeKind → Reading
variable_reading paths (Ok (type.Record model)) = record { of = Ok (type.Record model); paths = paths; wants = [] }
variable_reading paths (Ok (type.List model)) = record { of = Ok (type.List model); paths = paths; wants = [] }
variable_reading paths (Ok type.Nil) = record { of = Ok type.Nil; paths = paths; wants = wanted grade.Covered paths }
variable_reading paths other = record { of = other; paths = []; wants = wanted grade.Covered paths }

-- paths with a step more
abbrev pub paths_to : ModelList → PathStep → List Path → List Path
paths_to schema next paths = map (path_to schema next) paths

-- a value that stands at no path
abbrev pub apart_reading : Result ValueType TypeKind → List Wanted → Reading
apart_reading t wants = record { of = t; paths = []; wants = wants }

-- a value that is written in the expression
abbrev pub literal_reading : ValueType → Reading
literal_reading t = apart_reading (Ok t) []

-- a member of a record that stands at these paths: an association leads on, all else is read
abbrev pub member_reading : ModelList → ℕ → Member → Result ValueType TypeKind → List Path → List Wanted → Reading
member_reading schema model (member.Parent at) t paths wants = record { of = t; paths = paths_to schema (step.Parent model at) paths; wants = wants }
member_reading schema model (member.Children at) t paths wants = record { of = t; paths = paths_to schema (step.Children model at) paths; wants = wants }
member_reading schema model member.Id t paths wants = apart_reading t (wants ++ wanted grade.Settled paths)
member_reading schema model other t paths wants = apart_reading t (wants ++ wanted grade.Covered paths)

-- what a name after a dot is at a record of the model with a number
abbrev pub member_at : ModelList → ℕ → List ℕ → Member
member_at schema model name = option_map_or (λ (m : Model). member_of m name) (slice_get schema.models model) member.Unknown

-- a step from a value: what is nil by its type stays where it stands
abbrev pub step_reading : ModelList → Result ValueType TypeKind → List ℕ → Result ValueType TypeKind → Reading → Reading
step_reading schema (Ok (type.Record model)) name t from = member_reading schema model (member_at schema model name) t from.paths from.wants
step_reading schema (Ok type.Nil) name t from = record { of = t; paths = from.paths; wants = from.wants }
step_reading schema other name t from = apart_reading t from.wants

-- of `||` and `&&` the left side is tested, and the value may stand where either does; other operators look at both sides
abbrev pub binary_reading : Op → Result ValueType TypeKind → Reading → Reading → Reading
binary_reading op.Or t left right = record { of = t; paths = left.paths ++ right.paths; wants = left.wants ++ looked left ++ right.wants }
binary_reading op.And t left right = record { of = t; paths = left.paths ++ right.paths; wants = left.wants ++ looked left ++ right.wants }
binary_reading other t left right = record { of = t; paths = []; wants = left.wants ++ looked left ++ right.wants ++ looked right }

-- the type of a step, of the answer to a question, of a number with the other sign, by that of the value
abbrev pub stepped_type : ModelList → List ℕ → Result ValueType TypeKind → Result ValueType TypeKind
stepped_type schema name of = of >>= step_type schema name

abbrev pub asked_type : Query → Result ValueType TypeKind → Result ValueType TypeKind
asked_type query of = of >>= query_type query

abbrev pub number_type : Result ValueType TypeKind → Result ValueType TypeKind
number_type of = of >>= negated_type

-- the type of a truth, and that of an operator's value by those of its sides
abbrev pub truth_type : Result ValueType TypeKind → Result ValueType TypeKind
truth_type of = of >> Ok type.Boolean

abbrev pub sides_type : Op → Result ValueType TypeKind → Result ValueType TypeKind → Result ValueType TypeKind
sides_type o left right = left >>= (λ l. right >>= binary_type o l)

-- the layer of an expression with the types of its parts
abbrev pub types_in : Expr-F Reading → Expr-F (Result ValueType TypeKind)
types_in Expr-F.Nil = Expr-F.Nil
types_in Expr-F.True = Expr-F.True
types_in Expr-F.False = Expr-F.False
types_in (Expr-F.Int n) = Expr-F.Int n
types_in (Expr-F.Text text) = Expr-F.Text text
types_in (Expr-F.Var name) = Expr-F.Var name
types_in (Expr-F.Step of name) = Expr-F.Step of.of name
types_in (Expr-F.Ask of query) = Expr-F.Ask of.of query
types_in (Expr-F.Not of) = Expr-F.Not of.of
types_in (Expr-F.Neg of) = Expr-F.Neg of.of
types_in (Expr-F.Binary op left right) = Expr-F.Binary op left.of right.of

-- an expression by what its parts are, where `t` is its type
abbrev pub reading_with : ModelList → Standing → Expr-F Reading → Result ValueType TypeKind → Reading
reading_with schema standing (Expr-F.Var name) t = variable_reading (stands_for standing name) t
reading_with schema standing (Expr-F.Step from name) t = step_reading schema from.of name t from
reading_with schema standing (Expr-F.Ask of query) t = apart_reading t (of.wants ++ looked of)
reading_with schema standing (Expr-F.Not of) t = apart_reading t (of.wants ++ looked of)
reading_with schema standing (Expr-F.Neg of) t = apart_reading t of.wants
reading_with schema standing (Expr-F.Binary o left right) t = binary_reading o t left right
reading_with schema standing literal t = apart_reading t []

abbrev pub reading_step : ModelList → Typing → Standing → Expr-F Reading → Reading
reading_step schema typing standing layer = reading_with schema standing layer (type_step schema typing (types_in layer))

-- what an expression is to a lint
abbrev pub reading_of : ModelList → Typing → Standing → Expr → Reading
reading_of schema typing standing = fold-Expr Reading (reading_step schema typing standing)
