-- Which fault a text has, by the grammar alone. It is this project's own.
use Rattle.std.specs.Prelude.{◌≡◌, ℕ, List, [], ◌∷◌, ◌++◌, drop, MatchResult, Result, ⊤}
use Rattle.doll_expr.specs.declared.expr.Expr.{Expr}
use Rattle.doll_expr.specs.declared.expr.ExprFault.{ExprFault}
use Rattle.doll_expr.specs.declared.expr.ExprFault.TheVariants.{Unexpected, Unclosed, Memory}
use Rattle.doll_expr.specs.declared.token.Mark.TheVariants as mark
use Rattle.doll_expr.specs.declared.token.Token.{Token}
use Rattle.doll_expr.specs.declared.token.TokenKind.{TokenKind}
use Rattle.doll_expr.specs.declared.token.TokenKind.TheVariants as kind
use Rattle.doll_expr.specs.Grammar.{expr, Sentence}

-- the open parentheses behind one more token
abbrev pub opened_by : List ℕ → ℕ → TokenKind → List ℕ
opened_by places at (kind.Mark mark.Open) = at ∷ places
opened_by places at (kind.Mark mark.Close) = drop 1 places
opened_by places at _ = places

-- the places of the parentheses that are open after these tokens, the innermost first, where those at `places` were open before
abbrev pub opened_after : List ℕ → List Token → List ℕ
opened_after places [] = places
opened_after places (t ∷ ts) = opened_after (opened_by places t.at t.kind) ts

-- The text ends too early: a parenthesis is open, or there is nothing more.
abbrev pub ends_behind : List ℕ → ℕ → ExprFault
ends_behind [] at = Unexpected at
ends_behind (innermost ∷ others) at = Unclosed innermost

-- The fault of a token at which no sentence goes on, by the parentheses that are open: a lexical fault is itself.
abbrev pub fault_behind : List ℕ → ℕ → TokenKind → ExprFault
fault_behind places at (kind.Fault fault) = fault
fault_behind places at kind.End = ends_behind places at
fault_behind places at _ = Unexpected at

-- These tokens are the beginning of some sentence.
abbrev pub BeginsSentence : List Token → Type 0
BeginsSentence ts = (more : List Token) × (a : Expr) × Sentence expr (ts ++ more) a

-- The fault of the first token with which no sentence goes on. Where that is the end, what stands before it is no sentence.
pub record IsFirstFault (tokens : List Token) (fault : ExprFault) : Type 0 where
  pub before : List Token
  pub token : Token
  pub after : List Token
  pub parts : tokens ≡ before ++ token ∷ after
  pub begins : BeginsSentence before
  pub stops : (more : List Token) (a : Expr) → Sentence expr (before ++ token ∷ more) a → ⊥
  pub unfinished : token.kind ≡ kind.End → (a : Expr) → Sentence expr before a → ⊥
  pub is : fault ≡ fault_behind (opened_after [] before) token.at token.kind

-- A refusal for another cause than memory is the first fault of the tokens.
abbrev pub Faults : List Token → Result Expr ExprFault → Type 0
Faults tokens result = MatchResult result (λ a. ⊤) (λ fault. (fault ≡ Memory → ⊥) → IsFirstFault tokens fault)
