-- The grammar of expressions, a rule a case. It is this project's own, after Ruby's operators.
use Rattle.std.specs.Prelude.{◌≡◌, ℕ, Bool, true, false, not, List, [], ◌∷◌, ◌++◌, Some}
use Rattle.doll_expr.specs.declared.expr.Expr.{Expr}
use Rattle.doll_expr.specs.declared.expr.Expr.TheVariants as e
use Rattle.doll_expr.specs.declared.expr.Op.{Op}
use Rattle.doll_expr.specs.declared.level.Level.{Level}
use Rattle.doll_expr.specs.declared.level.Level.TheVariants as level
use Rattle.doll_expr.specs.declared.level.Sign.{Sign}
use Rattle.doll_expr.specs.declared.token.Mark.{Mark}
use Rattle.doll_expr.specs.declared.token.Mark.TheVariants as mark
use Rattle.doll_text.specs.declared.words.Word.{Word}
use Rattle.doll_text.specs.declared.words.Word.TheVariants as word
use Rattle.doll_expr.specs.declared.token.Token.{Token}
use Rattle.doll_expr.specs.declared.token.TokenKind.{TokenKind}
use Rattle.doll_expr.specs.declared.token.TokenKind.TheVariants as kind
use Rattle.doll_expr.specs.Tokens.{is_word, token, tokens_of}
use Rattle.doll_expr.specs.Levels.{tighter, left_of, operator_of, sign_of, signed, literal, step_of}

-- a mark as a token
abbrev pub mark_at : Mark → ℕ → Token
mark_at m at = token (kind.Mark m) at

-- a word as a token
abbrev pub word_at : Word → ℕ → Token
word_at w at = token (kind.Word w) at

-- the rules: those of the levels of operators, an operand with its steps, and an operand by itself
pub data Rule : Type 0 where
  at_level : Level → Rule
  postfix : Rule
  atom : Rule

-- a whole expression
abbrev pub expr : Rule
expr = at_level level.Or

-- what stands between operators
abbrev pub unary : Rule
unary = at_level level.Unary

-- These tokens, wherever they stand, are a sentence of the rule, and this is its tree. The tables of the levels say how tightly operators bind.
pub data Sentence : Rule → List Token → Expr → Type 0 where
  -- or = and { "||" and }; and = equality { "&&" equality }; equality = order [ ("==" | "!=") order ]; order = sum [ ("<" | "<=" | ">" | ">=") sum ];
  -- sum = product { ("+" | "-") product }; product = unary { "*" unary }; all grouped to the left
  level_one : (l inner : Level) (ts : List Token) (a : Expr) → tighter l ≡ Some inner → Sentence (at_level inner) ts a → Sentence (at_level l) ts a
  level_operator : (l inner : Level) (k : TokenKind) (o : Op) (ts us : List Token) (a b : Expr) (at : ℕ) → tighter l ≡ Some inner → operator_of l k ≡ Some o
      → Sentence (at_level (left_of l inner)) ts a → Sentence (at_level inner) us b → Sentence (at_level l) (ts ++ token k at ∷ us) (e.Binary o a b)
  -- unary = "!" unary | "-" unary | postfix
  unary_one : (ts : List Token) (a : Expr) → Sentence postfix ts a → Sentence unary ts a
  unary_signed : (k : TokenKind) (s : Sign) (ts : List Token) (a : Expr) (at : ℕ) → sign_of k ≡ Some s → Sentence unary ts a → Sentence unary (token k at ∷ ts) (signed s a)
  -- postfix = atom { "." ( name | "id" | "updated_at" | "size" | "empty?" | "any?" | "nil?" ) }
  postfix_one : (ts : List Token) (a : Expr) → Sentence atom ts a → Sentence postfix ts a
  postfix_step : (k : TokenKind) (ts : List Token) (a b : Expr) (dot at : ℕ) → step_of a k ≡ Some b → Sentence postfix ts a → Sentence postfix (ts ++ mark_at mark.Dot dot ∷ token k at ∷ []) b
  -- atom = number | text | "nil" | "true" | "false" | name | "(" expr ")"
  atom_token : (k : TokenKind) (a : Expr) (at : ℕ) → literal k ≡ Some a → Sentence atom (token k at ∷ []) a
  atom_parentheses : (ts : List Token) (a : Expr) (opened closed : ℕ) → Sentence expr ts a → Sentence atom (mark_at mark.Open opened ∷ ts ++ mark_at mark.Close closed ∷ []) a

-- These tokens are an expression with this tree, and then the end.
abbrev pub AreExpr : List Token → Expr → Type 0
AreExpr tokens a = (ts : List Token) × (at : ℕ) × (tokens ≡ ts ++ token kind.End at ∷ []) × Sentence expr ts a

-- The text is an expression with this tree.
abbrev pub IsExpr : List ℕ → Expr → Type 0
IsExpr text a = AreExpr (tokens_of text) a

-- An expression with this tree stands at the front, before the rest.
abbrev pub BeginsExpr : List Token → Expr → List Token → Type 0
BeginsExpr tokens a rest = (ts : List Token) × (tokens ≡ ts ++ rest) × Sentence expr ts a

-- the marks between two operands
abbrev pub is_operator : Mark → Bool
is_operator mark.Or = true
is_operator mark.And = true
is_operator mark.Equal = true
is_operator mark.NotEqual = true
is_operator mark.Less = true
is_operator mark.LessOrEqual = true
is_operator mark.Greater = true
is_operator mark.GreaterOrEqual = true
is_operator mark.Plus = true
is_operator mark.Minus = true
is_operator mark.Times = true
is_operator _ = false

-- the word behind which the items of a list have their block
abbrev pub is_each : TokenKind → Bool
is_each = is_word word.Each

-- whether the first token is `each`
abbrev pub begins_each : List Token → Bool
begins_each [] = false
begins_each (t ∷ rest) = is_each t.kind

-- whether an expression ends before a token of this kind and those after it
abbrev pub ends_before : TokenKind → List Token → Bool
ends_before (kind.Mark mark.Dot) rest = begins_each rest
ends_before (kind.Mark m) rest = not (is_operator m)
ends_before k rest = true

-- No expression goes on with these tokens: neither with an operator nor with a step. A dot before `each` is no step.
abbrev pub ends_expr : List Token → Bool
ends_expr [] = true
ends_expr (t ∷ rest) = ends_before t.kind rest

-- No text has two trees.
abbrev pub OneTree : Type 0
OneTree = (text : List ℕ) (a b : Expr) → IsExpr text a → IsExpr text b → a ≡ b
