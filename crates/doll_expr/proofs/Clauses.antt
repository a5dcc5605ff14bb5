-- The clauses on the grammar, from those on the reading.
use Rattle.std.proofs.Common.{◌≡◌, ℕ, ◌≤◌, true, List, ◌++◌, length, Result, Ok, Err, ap, subst, ◌∙◌}
use Rattle.std.specs.Prelude.{IfOk}
use Rattle.std.specs.Borrow.{Bor}
use Rattle.doll_expr.specs.declared.expr.Expr.{Expr}
use Rattle.doll_expr.specs.declared.expr.ExprFault.{ExprFault}
use Rattle.doll_expr.specs.declared.expr.ExprFault.TheVariants.{Memory}
use Rattle.doll_expr.specs.declared.token.Token.{Token}
use Rattle.doll_text.specs.Gives.{Gives}
use Rattle.doll_expr.specs.Grammar.{expr, Sentence, AreExpr, IsExpr, BeginsExpr, ends_expr}
use Rattle.doll_expr.specs.Reading.{Read, Reads, expr_at, whole_of, expr_of}
use Rattle.doll_expr.proofs.Found.{expr_found, whole_found, text_found}
use Rattle.doll_expr.proofs.Only.{front_only, whole_only, text_only}

pub bytes_found : (text : List ℕ) (r : Result Expr ExprFault) → Gives Memory (expr_of text) r → IfOk r (λ e. IsExpr text e)
bytes_found text (Ok a) given = text_found text a given
bytes_found text (Err fault) given = tt

pub bytes_only : (text : List ℕ) (r : Result Expr ExprFault) (a : Expr) → Gives Memory (expr_of text) r → IsExpr text a → Gives Memory (Ok a) r
bytes_only text r a given is = subst (λ (o : Result Expr ExprFault). Gives Memory o r) (text_only text a is) given

pub tokens_found : (ts : List Token) (r : Result Expr ExprFault) → Gives Memory (whole_of ts) r → IfOk r (λ e. AreExpr ts e)
tokens_found ts (Ok a) given = whole_found ts a given
tokens_found ts (Err fault) given = tt

pub tokens_only : (ts : List Token) (r : Result Expr ExprFault) (a : Expr) → Gives Memory (whole_of ts) r → length ts ≤ 201 → AreExpr ts a → Gives Memory (Ok a) r
tokens_only ts r a given short is = subst (λ (o : Result Expr ExprFault). Gives Memory o r) (whole_only ts a short is) given

pub front_found : (ts : List Token) (r : Result (Expr × Bor (List Token)) ExprFault) → Reads (expr_at ts) r → IfOk r (λ x. BeginsExpr ts x.0 x.1.now)
front_found ts (Ok x) given = let found = expr_found ts (x.0, x.1.now) given in (found.used, found.parts, found.sentence)
front_found ts (Err fault) given = tt

pub front_only_given : (tokens ts rest : List Token) (a : Expr) (r : Result (Expr × Bor (List Token)) ExprFault) → Reads (expr_at tokens) r → tokens ≡ ts ++ rest → Sentence expr ts a → length ts ≤ 200 → ends_expr rest ≡ true → Reads (Ok (a, rest)) r
front_only_given tokens ts rest a r given parts s few ends = subst (λ (o : Read). Reads o r) (ap expr_at parts ∙ front_only ts rest a s few ends) given
