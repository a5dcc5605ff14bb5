-- The levels of the grammar, and what a token is by its tables.
use Rattle.std.proofs.Common.{◌≡◌, ℕ, ◌+◌, ◌≤◌, Bool, true, false, cond, List, [], ◌∷◌, drop, Option, Some, None, Result, Ok, Err, refl, sym, ap, subst, inl, inr, ◌⊎◌, arith}
use Rattle.doll_expr.specs.declared.expr.Expr.{Expr}
use Rattle.doll_expr.specs.declared.expr.ExprFault.{ExprFault}
use Rattle.doll_expr.specs.declared.expr.Op.{Op}
use Rattle.doll_expr.specs.declared.level.Level.{Level}
use Rattle.doll_expr.specs.declared.level.Level.TheVariants as level
use Rattle.doll_expr.specs.declared.level.Sign.{Sign}
use Rattle.doll_expr.specs.declared.token.Mark.TheVariants as mark
use Rattle.doll_text.specs.declared.words.Word.TheVariants as word
use Rattle.doll_expr.specs.declared.token.Token.{Token}
use Rattle.doll_expr.specs.declared.token.TokenKind.{TokenKind}
use Rattle.doll_expr.specs.declared.token.TokenKind.TheVariants as kind
use Rattle.doll_expr.specs.Tokens.{is_dot, is_last, token}
use Rattle.doll_expr.specs.Levels.{tighter, repeats, left_of, between, operator_of, sign_of, literal, step_of}
use Rattle.doll_expr.specs.Grammar.{is_each, at_level, Sentence, level_one}
use Rattle.doll_expr.specs.Reading.{is_open, is_close, is_end, first_kind, place, ◌>>=◌, if_some}
use Rattle.doll_expr.specs.Faults.{opened_by}

-- ---- levels

pub unary_is : (l : Level) → tighter l ≡ None → l ≡ level.Unary
unary_is level.Unary h = refl
unary_is _ h = absurd cc

pub some_level : (l m : Level) → ◌≡◌ {A = Option Level} (Some l) (Some m) → l ≡ m
some_level l m h = cc

-- what stands on the left of an operator, by whether operators of the level follow each other
operand_left : (repeated : Bool) (l inner : Level) (ts : List Token) (a : Expr) → tighter l ≡ Some inner → Sentence (at_level inner) ts a → Sentence (at_level (cond repeated l inner)) ts a
operand_left true l inner ts a is s = level_one l inner ts a is s
operand_left false l inner ts a is s = s

pub begins : (l inner : Level) (ts : List Token) (a : Expr) → tighter l ≡ Some inner → Sentence (at_level inner) ts a → Sentence (at_level (left_of l inner)) ts a
begins l inner ts a is s = operand_left (repeats l) l inner ts a is s

left_whole : (repeated : Bool) (l inner : Level) (ts : List Token) (a : Expr) → tighter l ≡ Some inner → Sentence (at_level (cond repeated l inner)) ts a → Sentence (at_level l) ts a
left_whole true l inner ts a is s = s
left_whole false l inner ts a is s = level_one l inner ts a is s

pub ends : (l inner : Level) (ts : List Token) (a : Expr) → tighter l ≡ Some inner → Sentence (at_level (left_of l inner)) ts a → Sentence (at_level l) ts a
ends l inner ts a is s = left_whole (repeats l) l inner ts a is s

pub again : (l inner : Level) (ts : List Token) (a : Expr) → repeats l ≡ true → Sentence (at_level l) ts a → Sentence (at_level (left_of l inner)) ts a
again l inner ts a rep s = subst (λ (repeated : Bool). Sentence (at_level (cond repeated l inner)) ts a) (sym rep) s

-- how many turns a level takes before its first token
abbrev pub k_of : Level → ℕ
k_of level.Or = 9
k_of level.And = 8
k_of level.Equality = 7
k_of level.Order = 6
k_of level.Sum = 5
k_of level.Product = 4
k_of level.Unary = 3

pub k_below : (l inner : Level) → tighter l ≡ Some inner → k_of l ≡ k_of inner + 1
k_below level.Or inner h = ap (λ (x : Level). k_of x + 1) (some_level level.And inner h)
k_below level.And inner h = ap (λ (x : Level). k_of x + 1) (some_level level.Equality inner h)
k_below level.Equality inner h = ap (λ (x : Level). k_of x + 1) (some_level level.Order inner h)
k_below level.Order inner h = ap (λ (x : Level). k_of x + 1) (some_level level.Sum inner h)
k_below level.Sum inner h = ap (λ (x : Level). k_of x + 1) (some_level level.Product inner h)
k_below level.Product inner h = ap (λ (x : Level). k_of x + 1) (some_level level.Unary inner h)
k_below level.Unary inner h = absurd cc

pub k_small : (l : Level) → k_of l ≤ 9
k_small level.Or = omega arith
k_small _ = omega arith

-- ---- the first token

pub first_is : (ts : List Token) (k : TokenKind) → first_kind ts ≡ k → is_end k ≡ false → ts ≡ token k (place ts) ∷ drop 1 ts
first_is [] k h other = absurd (let f : true ≡ is_end k = ap is_end h in cc)
first_is (t ∷ ts) k h other = ap (λ (x : TokenKind). token x t.at ∷ ts) h

-- a token that opens and closes no parenthesis, is no end and is no fault
abbrev pub Inner : TokenKind → Type 0
Inner k = ((places : List ℕ) (at : ℕ) → opened_by places at k ≡ places) × (is_last k ≡ false) × (is_end k ≡ false)

no_operator : (l : Level) → (between l mark.Open ≡ None) × (between l mark.Close ≡ None) × (between l mark.Dot ≡ None)
no_operator level.Or = (refl, refl, refl)
no_operator _ = (refl, refl, refl)

pub operator_inner : (l : Level) (k : TokenKind) (o : Op) → operator_of l k ≡ Some o → Inner k
operator_inner l (kind.Mark mark.Open) o h = absurd (let i = (no_operator l).0 in cc)
operator_inner l (kind.Mark mark.Close) o h = absurd (let i = (no_operator l).1 in cc)
operator_inner l (kind.Mark m) o h = ((λ places at. refl), refl, refl)
operator_inner l _ o h = absurd cc

pub operator_no_dot : (l : Level) (k : TokenKind) (o : Op) → operator_of l k ≡ Some o → is_dot k ≡ false
operator_no_dot l (kind.Mark mark.Dot) o h = absurd (let i = (no_operator l).2 in cc)
operator_no_dot l _ o h = refl

pub sign_inner : (k : TokenKind) (s : Sign) → sign_of k ≡ Some s → Inner k
sign_inner (kind.Mark mark.Not) s h = ((λ places at. refl), refl, refl)
sign_inner (kind.Mark mark.Minus) s h = ((λ places at. refl), refl, refl)
sign_inner _ s h = absurd cc

pub literal_inner : (k : TokenKind) (a : Expr) → literal k ≡ Some a → Inner k
literal_inner (kind.Mark m) a h = absurd cc
literal_inner kind.End a h = absurd cc
literal_inner (kind.Fault f) a h = absurd cc
literal_inner _ a h = ((λ places at. refl), refl, refl)

pub literal_no_sign : (k : TokenKind) (a : Expr) → literal k ≡ Some a → sign_of k ≡ None
literal_no_sign (kind.Mark m) a h = absurd cc
literal_no_sign _ a h = refl

pub step_inner : (a b : Expr) (k : TokenKind) → step_of a k ≡ Some b → Inner k
step_inner a b (kind.Mark m) h = absurd cc
step_inner a b kind.End h = absurd cc
step_inner a b (kind.Fault f) h = absurd cc
step_inner a b _ h = ((λ places at. refl), refl, refl)

pub step_other : (a b : Expr) (k : TokenKind) → step_of a k ≡ Some b → is_each k ≡ false
step_other a b (kind.Word word.Each) h = absurd cc
step_other a b _ h = refl

pub dot_is : (k : TokenKind) → is_dot k ≡ true → k ≡ kind.Mark mark.Dot
dot_is (kind.Mark mark.Dot) h = refl
dot_is _ h = absurd cc

pub open_is : (k : TokenKind) → is_open k ≡ true → k ≡ kind.Mark mark.Open
open_is (kind.Mark mark.Open) h = refl
open_is _ h = absurd cc

pub close_is : (k : TokenKind) → is_close k ≡ true → k ≡ kind.Mark mark.Close
close_is (kind.Mark mark.Close) h = refl
close_is _ h = absurd cc

pub end_is : (k : TokenKind) → is_end k ≡ true → k ≡ kind.End
end_is kind.End h = refl
end_is _ h = absurd cc

-- ---- steps that did not fail

pub bind_ok : {A B : Type 0} (r : Result A ExprFault) (f : A → Result B ExprFault) (y : B) → (r >>= f) ≡ Ok y → (x : A) × (r ≡ Ok x) × (f x ≡ Ok y)
bind_ok (Ok x) f y h = (x, refl, h)
bind_ok (Err d) f y h = absurd cc

pub if_some_is : {A B : Type 0} (o : Option A) (f : A → B) (other y : B) → if_some o f other ≡ y → ((a : A) × (o ≡ Some a) × (f a ≡ y)) ⊎ ((o ≡ None) × (other ≡ y))
if_some_is (Some a) f other y h = inl (a, refl, h)
if_some_is None f other y h = inr (refl, h)

pub chosen : {A : Type 0} (b : Bool) (x y z : A) → cond b x y ≡ z → ((b ≡ true) × (x ≡ z)) ⊎ ((b ≡ false) × (y ≡ z))
chosen true x y z h = inl (refl, h)
chosen false x y z h = inr (refl, h)

abbrev done : {A : Type 0} → A → Result A ExprFault
done x = Ok x

pub ok_is : {A : Type 0} (x y : A) → done x ≡ done y → x ≡ y
ok_is x y h = cc
