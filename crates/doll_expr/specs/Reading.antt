-- Reading an expression from the left, with the first fault that is met: the form of the reader, which walks the tokens as this does. What it
-- answers is said without it by the clauses `found`, `only` and `fault` of `parse_expr`: by the sentences of Grammar and the first fault of Faults.
use Rattle.std.specs.Prelude.{ℕ, zero, suc, Bool, true, false, not, ◌&&◌, ◌==◌, List, [], ◌∷◌, length, drop, Option, Some, None, Result, Ok, Err, if◌then◌else◌}
use Rattle.std.specs.Borrow.{Bor}
use Rattle.doll_expr.specs.declared.expr.Expr.{Expr}
use Rattle.doll_expr.specs.declared.expr.Expr.TheVariants as e
use Rattle.doll_expr.specs.declared.expr.ExprFault.{ExprFault}
use Rattle.doll_expr.specs.declared.expr.ExprFault.TheVariants.{Unexpected, Unclosed, TooDeep, Memory}
use Rattle.doll_expr.specs.declared.level.Level.{Level}
use Rattle.doll_expr.specs.declared.level.Level.TheVariants as level
use Rattle.doll_expr.specs.declared.token.Mark.TheVariants as mark
use Rattle.doll_expr.specs.declared.token.Token.{Token}
use Rattle.doll_expr.specs.declared.token.TokenKind.{TokenKind}
use Rattle.doll_expr.specs.declared.token.TokenKind.TheVariants as kind
use Rattle.doll_expr.specs.Tokens.{is_dot, is_mark, tokens_of}
use Rattle.doll_text.specs.Gives.{GivesBy}
use Rattle.doll_expr.specs.Grammar.{is_each}
use Rattle.doll_expr.specs.Levels.{tighter, repeats, operator_of, sign_of, signed, literal, step_of}

-- ---- what a token is here

-- an opening parenthesis
abbrev pub is_open : TokenKind → Bool
is_open = is_mark mark.Open

-- a closing parenthesis
abbrev pub is_close : TokenKind → Bool
is_close = is_mark mark.Close

-- the end of the text
abbrev pub is_end : TokenKind → Bool
is_end kind.End = true
is_end _ = false

-- ---- the first token; past the last one there is the end

-- what the first token is
abbrev pub first_kind : List Token → TokenKind
first_kind [] = kind.End
first_kind (t ∷ ts) = t.kind

-- where the first token stands
abbrev pub place : List Token → ℕ
place [] = 0
place (t ∷ ts) = t.at

-- a dot and a step after it; a dot before `each` ends an expression
abbrev pub has_step : List Token → Bool
has_step ts = is_dot (first_kind ts) && not (is_each (first_kind (drop 1 ts)))

-- ---- faults. The number, where there is one, is the place of the innermost parenthesis that is open.

-- the text ends too early at this place
abbrev pub ends_early : Option ℕ → ℕ → ExprFault
ends_early None at = Unexpected at
ends_early (Some opened) at = Unclosed opened

-- the fault of a token of this kind at this place
abbrev pub fault_of : Option ℕ → ℕ → TokenKind → ExprFault
fault_of opened at (kind.Fault fault) = fault
fault_of opened at kind.End = ends_early opened at
fault_of opened at _ = Unexpected at

-- the first token can't stand where it does: a lexical fault is itself, the end comes too early, others are unexpected
unfoldable pub fault_at : Option ℕ → List Token → ExprFault
fault_at opened ts = fault_of opened (place ts) (first_kind ts)

-- nothing goes on like this behind an expression, of which `.` and `each` are no part
unfoldable pub stops_at : Option ℕ → List Token → ExprFault
stops_at opened ts = if is_dot (first_kind ts) && is_each (first_kind (drop 1 ts)) then fault_at opened (drop 1 ts) else fault_at opened ts

-- ---- reading: the tree, and the tokens after it. The first number of each is the fuel that is left: a call takes one of it, so that the reading ends.

-- a tree with the tokens after it, or a fault
abbrev pub Read : Type 0
Read = Result (Expr × List Token) ExprFault

infixl 10 ◌>>=◌
-- what comes next, if there is no fault so far
abbrev pub ◌>>=◌ : {A B : Type 0} → Result A ExprFault → (A → Result B ExprFault) → Result B ExprFault
(Ok x) >>= f = f x
(Err fault) >>= f = Err fault

-- by what there is, else another thing
abbrev pub if_some : {A B : Type 0} → Option A → (A → B) → B → B
if_some (Some a) f other = f a
if_some None f other = other

-- a limit that is past the count of tokens that a text has
abbrev pub too_deep : List Token → ExprFault
too_deep ts = TooDeep (place ts)

-- the parenthesis that closes the one at this place
unfoldable pub close_at : ℕ → List Token → Result (List Token) ExprFault
close_at opened ts = if is_close (first_kind ts) then Ok (drop 1 ts) else Err (stops_at (Some opened) ts)

-- { "." step }
unfoldable pub steps_at : ℕ → Option ℕ → Expr → List Token → Read
steps_at zero opened a ts = Err (too_deep ts)
steps_at (suc fuel) opened a ts =
    if has_step ts then if_some (step_of a (first_kind (drop 1 ts))) (λ b. steps_at fuel opened b (drop 1 (drop 1 ts))) (Err (fault_at opened (drop 1 ts))) else Ok (a, ts)

unfoldable mutual
  -- operands of a level with its operators between them
  pub level_at : ℕ → Option ℕ → Level → List Token → Read
  level_at zero opened l ts = Err (too_deep ts)
  level_at (suc fuel) opened l ts = if_some (tighter l) (λ inner. level_at fuel opened inner ts >>= λ x. more_at fuel opened l inner x.0 x.1) (unary_at fuel opened ts)

  -- after an operand of the level: its operators and their other operands
  pub more_at : ℕ → Option ℕ → Level → Level → Expr → List Token → Read
  more_at zero opened l inner left ts = Err (too_deep ts)
  more_at (suc fuel) opened l inner left ts = if_some (operator_of l (first_kind ts))
      (λ o. level_at fuel opened inner (drop 1 ts) >>= λ x. if repeats l then more_at fuel opened l inner (e.Binary o left x.0) x.1 else Ok (e.Binary o left x.0, x.1))
      (Ok (left, ts))

  -- signs and what they stand before
  pub unary_at : ℕ → Option ℕ → List Token → Read
  unary_at zero opened ts = Err (too_deep ts)
  unary_at (suc fuel) opened ts = if_some (sign_of (first_kind ts))
      (λ s. unary_at fuel opened (drop 1 ts) >>= λ x. Ok (signed s x.0, x.1))
      (atom_at fuel opened ts >>= λ x. steps_at fuel opened x.0 x.1)

  -- a token by itself, or an expression in parentheses
  pub atom_at : ℕ → Option ℕ → List Token → Read
  atom_at zero opened ts = Err (too_deep ts)
  atom_at (suc fuel) opened ts = if_some (literal (first_kind ts))
      (λ a. Ok (a, drop 1 ts))
      (if is_open (first_kind ts) then (level_at fuel (Some (place ts)) level.Or (drop 1 ts) >>= λ x. close_at (place ts) x.1 >>= λ rest. Ok (x.0, rest)) else Err (fault_at opened ts))

-- Each token takes less than 16 of the fuel, so there is enough for the tokens of any text.
unfoldable pub enough_fuel : ℕ
enough_fuel = 4096

-- the expression at the front, and the tokens after it
unfoldable pub expr_at : List Token → Read
expr_at ts = level_at enough_fuel None level.Or ts

-- an expression and then the end
unfoldable pub whole_of : List Token → Result Expr ExprFault
whole_of ts = expr_at ts >>= λ x. if is_end (first_kind x.1) && length x.1 == 1 then Ok x.0 else Err (stops_at None x.1)

-- the tree of a text, or its first fault
unfoldable pub expr_of : List ℕ → Result Expr ExprFault
expr_of text = whole_of (tokens_of text)

-- What a call answered, seen as a tree and the tokens after it: what is expected, unless memory ran out.
abbrev pub Reads : Read → Result (Expr × Bor (List Token)) ExprFault → Type 0
Reads expected result = GivesBy (λ x. (x.0, x.1.now)) Memory expected result
