-- The tables of the grammar, which grammar and reader both cite: how tightly operators bind, and what a token is.
use Rattle.std.specs.Prelude.{Bool, true, false, Option, Some, None, if◌then◌else◌, codes}
use Rattle.doll_expr.specs.declared.expr.Expr.{Expr}
use Rattle.doll_expr.specs.declared.expr.Expr.TheVariants as e
use Rattle.doll_expr.specs.declared.expr.Op.{Op}
use Rattle.doll_expr.specs.declared.expr.Op.TheVariants as op
use Rattle.doll_expr.specs.declared.expr.Query.TheVariants as query
use Rattle.doll_expr.specs.declared.level.Level.{Level}
use Rattle.doll_expr.specs.declared.level.Level.TheVariants as level
use Rattle.doll_expr.specs.declared.level.Sign.{Sign}
use Rattle.doll_expr.specs.declared.level.Sign.TheVariants as sign
use Rattle.doll_expr.specs.declared.token.Mark.{Mark}
use Rattle.doll_expr.specs.declared.token.Mark.TheVariants as mark
use Rattle.doll_text.specs.declared.words.Word.{Word}
use Rattle.doll_text.specs.declared.words.Word.TheVariants as word
use Rattle.doll_expr.specs.declared.token.TokenKind.{TokenKind}
use Rattle.doll_expr.specs.declared.token.TokenKind.TheVariants as kind

-- ---- the levels of operators, and the operators of each

-- the level of the operands; past the last level with operators there is what stands between operators
abbrev pub tighter : Level → Option Level
tighter level.Or = Some level.And
tighter level.And = Some level.Equality
tighter level.Equality = Some level.Order
tighter level.Order = Some level.Sum
tighter level.Sum = Some level.Product
tighter level.Product = Some level.Unary
tighter level.Unary = None

-- whether operators of the level may follow each other; equalities and orders may not
abbrev pub repeats : Level → Bool
repeats level.Equality = false
repeats level.Order = false
repeats _ = true

-- the level of what may stand on the left of a level's operator: the level itself where its operators follow each other
abbrev pub left_of : Level → Level → Level
left_of l inner = if repeats l then l else inner

-- the operator of a level that a mark is
abbrev pub between : Level → Mark → Option Op
between level.Or mark.Or = Some op.Or
between level.And mark.And = Some op.And
between level.Equality mark.Equal = Some op.Eq
between level.Equality mark.NotEqual = Some op.Ne
between level.Order mark.Less = Some op.Lt
between level.Order mark.LessOrEqual = Some op.Le
between level.Order mark.Greater = Some op.Gt
between level.Order mark.GreaterOrEqual = Some op.Ge
between level.Sum mark.Plus = Some op.Add
between level.Sum mark.Minus = Some op.Sub
between level.Product mark.Times = Some op.Mul
between _ _ = None

-- ---- what a token is here

-- the operator of a level
abbrev pub operator_of : Level → TokenKind → Option Op
operator_of l (kind.Mark m) = between l m
operator_of l _ = None

-- what may stand before an operand
abbrev pub sign_of : TokenKind → Option Sign
sign_of (kind.Mark mark.Not) = Some sign.Not
sign_of (kind.Mark mark.Minus) = Some sign.Minus
sign_of _ = None

-- an operand with a sign before it
abbrev pub signed : Sign → Expr → Expr
signed sign.Not a = e.Not a
signed sign.Minus a = e.Neg a

-- a word that is an expression by itself
abbrev pub constant : Word → Option Expr
constant word.Nil = Some e.Nil
constant word.True = Some e.True
constant word.False = Some e.False
constant _ = None

-- a token that is an expression by itself
abbrev pub literal : TokenKind → Option Expr
literal (kind.Number n) = Some (e.Int n)
literal (kind.Text text) = Some (e.Text text)
literal (kind.Name name) = Some (e.Var name)
literal (kind.Word w) = constant w
literal _ = None

-- what a word after a dot makes of the expression before it
abbrev pub step_by : Expr → Word → Option Expr
step_by a word.Id = Some (e.Step a (codes "id"))
step_by a word.UpdatedAt = Some (e.Step a (codes "updated_at"))
step_by a word.Size = Some (e.Ask a query.Size)
step_by a _ = None

-- what a token after a dot makes of the expression before it
abbrev pub step_of : Expr → TokenKind → Option Expr
step_of a (kind.Name name) = Some (e.Step a name)
step_of a (kind.Ask q) = Some (e.Ask a q)
step_of a (kind.Word w) = step_by a w
step_of a _ = None
