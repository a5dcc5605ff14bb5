-- One step of the reading, however much fuel is left, if it is enough.
use Rattle.std.proofs.Common.{◌≡◌, ℕ, zero, suc, ◌≤◌, true, false, not, ◌&&◌, List, [], ◌∷◌, ◌++◌, drop, Option, Some, None, Ok, Err, refl, ap, arith}
use Rattle.doll_expr.specs.declared.expr.Expr.{Expr}
use Rattle.doll_expr.specs.declared.expr.Expr.TheVariants as e
use Rattle.doll_expr.specs.declared.expr.ExprFault.{ExprFault}
use Rattle.doll_expr.specs.declared.expr.Op.{Op}
use Rattle.doll_expr.specs.declared.level.Level.{Level}
use Rattle.doll_expr.specs.declared.level.Level.TheVariants as level
use Rattle.doll_expr.specs.declared.level.Sign.{Sign}
use Rattle.doll_expr.specs.declared.token.Token.{Token}
use Rattle.doll_expr.specs.Grammar.{is_each}
use Rattle.doll_expr.specs.Tokens.{is_dot}
use Rattle.doll_expr.specs.Reading.{is_open, first_kind, place, has_step, fault_at, close_at, steps_at, level_at, more_at, unary_at, atom_at, Read}
use Rattle.doll_expr.specs.Levels.{tighter, repeats, operator_of, sign_of, signed, literal, step_of}

-- the first tokens are alike as far as the reading looks at them
pub record Alike (r s : List Token) : Type 0 where
  pub first : first_kind r ≡ first_kind s
  pub step : has_step r ≡ has_step s

pub alike_append : (u r s : List Token) → Alike r s → Alike (u ++ r) (u ++ s)
alike_append [] r s h = h
alike_append (t ∷ []) r s h = record { first = refl; step = ap (λ k. is_dot t.kind && not (is_each k)) h.first }
alike_append (t ∷ v ∷ u) r s h = record { first = refl; step = refl }

-- a reading gives this with so much fuel, and with more
abbrev pub From : ℕ → (ℕ → Read) → Read → Type 0
From n R y = (k : ℕ) → n ≤ k → R k ≡ y

pub steps_go : (n m : ℕ) (opened : Option ℕ) (a b : Expr) (ts : List Token) (y : Read) → suc n ≤ m → has_step ts ≡ true → step_of a (first_kind (drop 1 ts)) ≡ Some b
    → From n (λ k. steps_at k opened b (drop 1 (drop 1 ts))) y → steps_at m opened a ts ≡ y
unfolding steps_at
steps_go n zero opened a b ts y enough has is more = absurd (omega arith)
steps_go n (suc m) opened a b ts y enough has is more = rw (has, is) (more m (omega arith))

pub steps_end : (n m : ℕ) (opened : Option ℕ) (a : Expr) (ts : List Token) → suc n ≤ m → has_step ts ≡ false → steps_at m opened a ts ≡ Ok (a, ts)
unfolding steps_at
steps_end n zero opened a ts enough none = absurd (omega arith)
steps_end n (suc m) opened a ts enough none = rw none refl

pub steps_stop : (n m : ℕ) (opened : Option ℕ) (a : Expr) (ts : List Token) → suc n ≤ m → has_step ts ≡ true → step_of a (first_kind (drop 1 ts)) ≡ None → steps_at m opened a ts ≡ Err (fault_at opened (drop 1 ts))
unfolding steps_at
steps_stop n zero opened a ts enough has none = absurd (omega arith)
steps_stop n (suc m) opened a ts enough has none = rw (has, none) refl

pub level_go : (n m : ℕ) (opened : Option ℕ) (l inner : Level) (ts rest : List Token) (a : Expr) (y : Read) → suc n ≤ m → tighter l ≡ Some inner
    → From n (λ k. level_at k opened inner ts) (Ok (a, rest)) → From n (λ k. more_at k opened l inner a rest) y → level_at m opened l ts ≡ y
unfolding level_at
level_go n zero opened l inner ts rest a y enough is first others = absurd (omega arith)
level_go n (suc m) opened l inner ts rest a y enough is first others = rw (is, first m (omega arith)) (others m (omega arith))

pub level_stop : (n m : ℕ) (opened : Option ℕ) (l inner : Level) (ts : List Token) (f : ExprFault) → suc n ≤ m → tighter l ≡ Some inner → From n (λ k. level_at k opened inner ts) (Err f) → level_at m opened l ts ≡ Err f
unfolding level_at
level_stop n zero opened l inner ts f enough is first = absurd (omega arith)
level_stop n (suc m) opened l inner ts f enough is first = rw (is, first m (omega arith)) refl

pub level_last : (n m : ℕ) (opened : Option ℕ) (l : Level) (ts : List Token) (y : Read) → suc n ≤ m → tighter l ≡ None → From n (λ k. unary_at k opened ts) y → level_at m opened l ts ≡ y
unfolding level_at
level_last n zero opened l ts y enough none all = absurd (omega arith)
level_last n (suc m) opened l ts y enough none all = rw none (all m (omega arith))

pub more_go : (n m : ℕ) (opened : Option ℕ) (l inner : Level) (o : Op) (ts rest : List Token) (a b : Expr) (y : Read) → suc n ≤ m → operator_of l (first_kind ts) ≡ Some o → repeats l ≡ true
    → From n (λ k. level_at k opened inner (drop 1 ts)) (Ok (b, rest)) → From n (λ k. more_at k opened l inner (e.Binary o a b) rest) y → more_at m opened l inner a ts ≡ y
unfolding more_at
more_go n zero opened l inner o ts rest a b y enough is rep right others = absurd (omega arith)
more_go n (suc m) opened l inner o ts rest a b y enough is rep right others = rw (is, right m (omega arith), rep) (others m (omega arith))

pub more_last : (n m : ℕ) (opened : Option ℕ) (l inner : Level) (o : Op) (ts rest : List Token) (a b : Expr) → suc n ≤ m → operator_of l (first_kind ts) ≡ Some o → repeats l ≡ false
    → From n (λ k. level_at k opened inner (drop 1 ts)) (Ok (b, rest)) → more_at m opened l inner a ts ≡ Ok (e.Binary o a b, rest)
unfolding more_at
more_last n zero opened l inner o ts rest a b enough is rep right = absurd (omega arith)
more_last n (suc m) opened l inner o ts rest a b enough is rep right = rw (is, right m (omega arith), rep) refl

pub more_stop : (n m : ℕ) (opened : Option ℕ) (l inner : Level) (o : Op) (ts : List Token) (a : Expr) (f : ExprFault) → suc n ≤ m → operator_of l (first_kind ts) ≡ Some o
    → From n (λ k. level_at k opened inner (drop 1 ts)) (Err f) → more_at m opened l inner a ts ≡ Err f
unfolding more_at
more_stop n zero opened l inner o ts a f enough is right = absurd (omega arith)
more_stop n (suc m) opened l inner o ts a f enough is right = rw (is, right m (omega arith)) refl

pub more_none : (n m : ℕ) (opened : Option ℕ) (l inner : Level) (ts : List Token) (a : Expr) → suc n ≤ m → operator_of l (first_kind ts) ≡ None → more_at m opened l inner a ts ≡ Ok (a, ts)
unfolding more_at
more_none n zero opened l inner ts a enough none = absurd (omega arith)
more_none n (suc m) opened l inner ts a enough none = rw none refl

pub unary_sign : (n m : ℕ) (opened : Option ℕ) (s : Sign) (ts rest : List Token) (a : Expr) → suc n ≤ m → sign_of (first_kind ts) ≡ Some s
    → From n (λ k. unary_at k opened (drop 1 ts)) (Ok (a, rest)) → unary_at m opened ts ≡ Ok (signed s a, rest)
unfolding unary_at
unary_sign n zero opened s ts rest a enough is inner = absurd (omega arith)
unary_sign n (suc m) opened s ts rest a enough is inner = rw (is, inner m (omega arith)) refl

pub unary_sign_stop : (n m : ℕ) (opened : Option ℕ) (s : Sign) (ts : List Token) (f : ExprFault) → suc n ≤ m → sign_of (first_kind ts) ≡ Some s → From n (λ k. unary_at k opened (drop 1 ts)) (Err f) → unary_at m opened ts ≡ Err f
unfolding unary_at
unary_sign_stop n zero opened s ts f enough is inner = absurd (omega arith)
unary_sign_stop n (suc m) opened s ts f enough is inner = rw (is, inner m (omega arith)) refl

pub unary_go : (n m : ℕ) (opened : Option ℕ) (ts rest : List Token) (a : Expr) (y : Read) → suc n ≤ m → sign_of (first_kind ts) ≡ None
    → From n (λ k. atom_at k opened ts) (Ok (a, rest)) → From n (λ k. steps_at k opened a rest) y → unary_at m opened ts ≡ y
unfolding unary_at
unary_go n zero opened ts rest a y enough none first others = absurd (omega arith)
unary_go n (suc m) opened ts rest a y enough none first others = rw (none, first m (omega arith)) (others m (omega arith))

pub unary_stop : (n m : ℕ) (opened : Option ℕ) (ts : List Token) (f : ExprFault) → suc n ≤ m → sign_of (first_kind ts) ≡ None → From n (λ k. atom_at k opened ts) (Err f) → unary_at m opened ts ≡ Err f
unfolding unary_at
unary_stop n zero opened ts f enough none first = absurd (omega arith)
unary_stop n (suc m) opened ts f enough none first = rw (none, first m (omega arith)) refl

pub atom_literal : (n m : ℕ) (opened : Option ℕ) (ts : List Token) (a : Expr) → suc n ≤ m → literal (first_kind ts) ≡ Some a → atom_at m opened ts ≡ Ok (a, drop 1 ts)
unfolding atom_at
atom_literal n zero opened ts a enough is = absurd (omega arith)
atom_literal n (suc m) opened ts a enough is = rw is refl

pub atom_open : (n m : ℕ) (opened : Option ℕ) (ts rest after : List Token) (a : Expr) → suc n ≤ m → literal (first_kind ts) ≡ None → is_open (first_kind ts) ≡ true
    → From n (λ k. level_at k (Some (place ts)) level.Or (drop 1 ts)) (Ok (a, rest)) → close_at (place ts) rest ≡ Ok after → atom_at m opened ts ≡ Ok (a, after)
unfolding atom_at
atom_open n zero opened ts rest after a enough none is inner close = absurd (omega arith)
atom_open n (suc m) opened ts rest after a enough none is inner close = rw (none, is, inner m (omega arith), close) refl

pub atom_open_stop : (n m : ℕ) (opened : Option ℕ) (ts : List Token) (f : ExprFault) → suc n ≤ m → literal (first_kind ts) ≡ None → is_open (first_kind ts) ≡ true
    → From n (λ k. level_at k (Some (place ts)) level.Or (drop 1 ts)) (Err f) → atom_at m opened ts ≡ Err f
unfolding atom_at
atom_open_stop n zero opened ts f enough none is inner = absurd (omega arith)
atom_open_stop n (suc m) opened ts f enough none is inner = rw (none, is, inner m (omega arith)) refl

pub atom_close_stop : (n m : ℕ) (opened : Option ℕ) (ts rest : List Token) (a : Expr) (f : ExprFault) → suc n ≤ m → literal (first_kind ts) ≡ None → is_open (first_kind ts) ≡ true
    → From n (λ k. level_at k (Some (place ts)) level.Or (drop 1 ts)) (Ok (a, rest)) → close_at (place ts) rest ≡ Err f → atom_at m opened ts ≡ Err f
unfolding atom_at
atom_close_stop n zero opened ts rest a f enough none is inner close = absurd (omega arith)
atom_close_stop n (suc m) opened ts rest a f enough none is inner close = rw (none, is, inner m (omega arith), close) refl

pub atom_stop : (n m : ℕ) (opened : Option ℕ) (ts : List Token) → suc n ≤ m → literal (first_kind ts) ≡ None → is_open (first_kind ts) ≡ false → atom_at m opened ts ≡ Err (fault_at opened ts)
unfolding atom_at
atom_stop n zero opened ts enough none other = absurd (omega arith)
atom_stop n (suc m) opened ts enough none other = rw (none, other) refl
