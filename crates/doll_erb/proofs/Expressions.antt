-- What of expressions the laws of tags rest on: where a sentence ends, which tokens stand in it, and its first fault.
use Rattle.std.proofs.Common.{◌≡◌, ◌≤◌, ℕ, ◌+◌, ◌*◌, Bool, true, false, cond, List, [], ◌∷◌, ◌++◌, length, drop, Some, None, Ok, Err, refl, sym, ap, subst, ◌∙◌, inl, inr, ◌⊎◌, append_assoc, arith}
use Rattle.std.proofs.lemmas.List.{length-append}
use Rattle.doll_expr.specs.declared.expr.Expr.{Expr}
use Rattle.doll_expr.specs.declared.expr.Expr.TheVariants as e
use Rattle.doll_expr.specs.declared.expr.ExprFault.{ExprFault}
use Rattle.doll_expr.specs.declared.expr.Op.{Op}
use Rattle.doll_expr.specs.declared.level.Level.{Level}
use Rattle.doll_expr.specs.declared.level.Level.TheVariants as level
use Rattle.doll_expr.specs.declared.level.Sign.{Sign}
use Rattle.doll_expr.specs.declared.token.Mark.{Mark}
use Rattle.doll_expr.specs.declared.token.Mark.TheVariants as mark
use Rattle.doll_text.specs.declared.words.Word.{Word}
use Rattle.doll_text.specs.declared.words.Word.TheVariants as word
use Rattle.doll_expr.specs.declared.token.Token.{Token}
use Rattle.doll_expr.specs.declared.token.TokenKind.{TokenKind}
use Rattle.doll_expr.specs.declared.token.TokenKind.TheVariants as kind
use Rattle.doll_expr.specs.Tokens.{token, is_dot, is_mark}
use Rattle.doll_expr.specs.Levels.{left_of, operator_of, sign_of, literal, step_of}
use Rattle.doll_expr.specs.Grammar.{Rule, at_level, expr, unary, postfix, atom, Sentence, ends_before, ends_expr, mark_at, word_at, level_one, level_operator, unary_one, unary_signed, postfix_one, postfix_step, atom_token, atom_parentheses}
use Rattle.doll_expr.specs.Reading.{first_kind, has_step, stops_at, level_at, enough_fuel, expr_at, whole_of, is_end}
use Rattle.doll_expr.specs.Faults as faults
use Rattle.doll_expr.proofs.Rules.{bind_ok, chosen, ok_is}
use Rattle.doll_expr.proofs.Fuel.{Alike}
use Rattle.doll_expr.proofs.Found.{expr_found}
use Rattle.doll_expr.proofs.Stuck.{bind_err}
use Rattle.doll_expr.proofs.Only.{EndsOr, some_tokens, sentence_reads, front_only}
use Rattle.doll_expr.proofs.Ended.{Ended}
use Rattle.doll_expr.proofs.FirstFault.{first_fault}
use Rattle.doll_erb.specs.Shapes.{value_at}

-- ---- lists

-- what stands on the left of one of two equal joins begins the other
pub split : (us vs before rest : List Token) → us ++ vs ≡ before ++ rest → ((m : List Token) × (us ≡ before ++ m) × (rest ≡ m ++ vs)) ⊎ ((m : List Token) × (before ≡ us ++ m) × (vs ≡ m ++ rest))
split us vs [] rest h = inl (us, refl, sym h)
split [] vs (t ∷ before) rest h = inr (t ∷ before, refl, h)
split (u ∷ us) vs (t ∷ before) rest h =
    let first : u ≡ t = cc h in
    let more : us ++ vs ≡ before ++ rest = ap (drop 1) h in
    elim (split us vs before rest more) [
      | inl s ↦ inl (s.0, (ap (λ (ws : List Token). u ∷ ws) s.1 ∙ ap (λ (w : Token). w ∷ (before ++ s.0)) first), s.2)
      | inr s ↦ inr (s.0, (ap (λ (w : Token). w ∷ before) (sym first) ∙ ap (λ (ws : List Token). u ∷ ws) s.1), s.2)
    ]

abbrev pub end : ℕ → List Token
end last = token kind.End last ∷ []

-- ---- where a sentence ends

-- no value goes on with these tokens
abbrev pub EndsValue : List Token → Type 0
EndsValue rest = (ends_expr rest ≡ true) × (is_mark mark.Dot (first_kind rest) ≡ false)

ends_kind : (k : TokenKind) (at : ℕ) (rest : List Token) → ends_before k rest ≡ true → is_mark mark.Dot k ≡ false → EndsOr (token k at ∷ rest)
ends_kind (kind.Mark mark.Dot) at rest h other = absurd cc
ends_kind (kind.Mark mark.Or) at rest h other = absurd cc
ends_kind (kind.Mark mark.And) at rest h other = absurd cc
ends_kind (kind.Mark mark.Equal) at rest h other = absurd cc
ends_kind (kind.Mark mark.NotEqual) at rest h other = absurd cc
ends_kind (kind.Mark mark.Less) at rest h other = absurd cc
ends_kind (kind.Mark mark.LessOrEqual) at rest h other = absurd cc
ends_kind (kind.Mark mark.Greater) at rest h other = absurd cc
ends_kind (kind.Mark mark.GreaterOrEqual) at rest h other = absurd cc
ends_kind (kind.Mark mark.Plus) at rest h other = absurd cc
ends_kind (kind.Mark mark.Minus) at rest h other = absurd cc
ends_kind (kind.Mark mark.Times) at rest h other = absurd cc
ends_kind _ at rest h other = (refl, (refl, (refl, (refl, (refl, (refl, refl))))))

pub ends_or : (rest : List Token) → EndsValue rest → EndsOr rest
ends_or [] ends = (refl, (refl, (refl, (refl, (refl, (refl, refl))))))
ends_or (t ∷ rest) ends = ends_kind t.kind t.at rest ends.0 ends.1

before_same : (k : TokenKind) (rest more : List Token) → ends_before k rest ≡ true → is_mark mark.Dot k ≡ false → ends_before k more ≡ true
before_same (kind.Mark mark.Dot) rest more h other = absurd cc
before_same (kind.Mark m) rest more h other = h
before_same k rest more h other = refl

-- the first token decides
pub ends_same : (t : Token) (rest more : List Token) → EndsValue (t ∷ rest) → EndsValue (t ∷ more)
ends_same t rest more ends = (before_same t.kind rest more ends.0 ends.1, ends.1)

-- two sentences of which one goes on with tokens that end the other
pub apart : (us more : List Token) (t : Token) (a b : Expr) → Sentence expr us a → Sentence expr (us ++ t ∷ more) b → EndsOr (t ∷ (more ++ end 0)) → ⊥
apart us more t a b s other ends =
    let k : ℕ = (9 + 16 * length us) + (9 + 16 * length (us ++ t ∷ more)) in
    let one = sentence_reads k us (t ∷ (more ++ end 0)) a s (omega arith) ends in
    let two = sentence_reads k (us ++ t ∷ more) (end 0) b other (omega arith) (refl, (refl, (refl, (refl, (refl, (refl, refl)))))) in
    let same : (a, t ∷ (more ++ end 0)) ≡ (b, end 0) = ok_is (a, t ∷ (more ++ end 0)) (b, end 0) (sym one ∙ ap (level_at k None level.Or) (sym (append_assoc us (t ∷ more) (end 0))) ∙ two) in
    let size = ap (λ (y : Expr × List Token). length y.1) same in
    let len = length-append more (end 0) in
    omega (arith, size, len)

no_step : (ts : List Token) → is_dot (first_kind ts) ≡ false → has_step ts ≡ false
no_step ts h = rw h refl

pub alike_first : (r s : List Token) → first_kind s ≡ first_kind r → is_dot (first_kind r) ≡ false → Alike r s
alike_first r s h other = record { first = sym h; step = no_step r other ∙ sym (no_step s (ap is_dot h ∙ other)) }

-- A sentence that was read, and one before what ends it, are the same where they stand before the same tokens.
pub same_sentence : (ts : List Token) (x : Expr × List Token) (us vs rest : List Token) (y : Expr) (h : expr_at ts ≡ Ok x) → Alike x.1 rest → Sentence expr us y → EndsOr vs
    → us ++ vs ≡ (expr_found ts x h).used ++ rest → (y ≡ x.0) × (vs ≡ rest)
same_sentence ts x us vs rest y h alike s ends parts =
    let found = expr_found ts x h in
    let k : ℕ = enough_fuel + (9 + 16 * length us) in
    let one = found.local k rest (omega arith) alike in
    let two = sentence_reads k us vs y s (omega arith) ends in
    let same : (y, vs) ≡ (x.0, rest) = ok_is (y, vs) (x.0, rest) (sym two ∙ ap (level_at k None level.Or) parts ∙ one) in
    (ap (λ (z : Expr × List Token). z.0) same, ap (λ (z : Expr × List Token). z.1) same)

-- an expression is a value before tokens that go on with none, and with no dot
pub value_only : (ts rest : List Token) (a : Expr) → Sentence expr ts a → length ts ≤ 200 → EndsValue rest → value_at (ts ++ rest) ≡ Ok (a, rest)
unfolding value_at
value_only ts rest a s few ends = rw (front_only ts rest a s few ends.0, ends.1) refl

-- ---- the first fault of an expression

pub expr_fault : (ts : List Token) (f : ExprFault) → length ts ≤ 201 → Ended ts → expr_at ts ≡ Err f → faults.IsFirstFault ts f
unfolding whole_of
expr_fault ts f few ended h = first_fault ts f few ended (rw h refl)

dot_no_end : (k : TokenKind) → is_mark mark.Dot k ≡ true → is_end k ≡ false
dot_no_end (kind.Mark m) h = refl
dot_no_end _ h = absurd cc

whole_dot : (ts : List Token) (x : Expr × List Token) → expr_at ts ≡ Ok x → is_mark mark.Dot (first_kind x.1) ≡ true → whole_of ts ≡ Err (stops_at None x.1)
unfolding whole_of
whole_dot ts x h dot = rw (h, dot_no_end (first_kind x.1) dot) refl

pub value_fault : (ts : List Token) (f : ExprFault) → length ts ≤ 201 → Ended ts → value_at ts ≡ Err f → faults.IsFirstFault ts f
unfolding value_at
value_fault ts f few ended h =
    elim (bind_err (expr_at ts) (λ (y : Expr × List Token). cond (is_mark mark.Dot (first_kind y.1)) (Err (stops_at None y.1)) (Ok y)) f h) [
      | inl d ↦ expr_fault ts f few ended d
      | inr b ↦ elim (chosen (is_mark mark.Dot (first_kind b.0.1)) (Err (stops_at None b.0.1)) (Ok b.0) (Err f) b.2) [
        | inl s ↦ first_fault ts f few ended (whole_dot ts b.0 b.1 s.0 ∙ (let g : Err (stops_at None b.0.1) ≡ Err f = s.1 in let i : stops_at None b.0.1 ≡ f = cc in ap Err i))
        | inr s ↦ absurd (let g : Ok b.0 ≡ Err f = s.1 in cc)
      ]
    ]

-- a value that was read
pub record Value (ts : List Token) (x : Expr × List Token) : Type 0 where
  pub reads : expr_at ts ≡ Ok x
  pub other : is_mark mark.Dot (first_kind x.1) ≡ false

pub value_found : (ts : List Token) (x : Expr × List Token) → value_at ts ≡ Ok x → Value ts x
unfolding value_at
value_found ts x h =
    let b = bind_ok (expr_at ts) (λ (y : Expr × List Token). cond (is_mark mark.Dot (first_kind y.1)) (Err (stops_at None y.1)) (Ok y)) x h in
    elim (chosen (is_mark mark.Dot (first_kind b.0.1)) (Err (stops_at None b.0.1)) (Ok b.0) (Ok x) b.2) [
      | inl s ↦ absurd (let f : Err (stops_at None b.0.1) ≡ Ok x = s.1 in cc)
      | inr s ↦ subst (Value ts) (ok_is b.0 x s.1) (record { reads = b.1; other = s.0 })
    ]

-- ---- which tokens stand in expressions

-- marks and words of tags alone
abbrev pub own_mark : Mark → Bool
own_mark mark.Comma = false
own_mark mark.Colon = false
own_mark mark.OpenBracket = false
own_mark mark.CloseBracket = false
own_mark mark.Bar = false
own_mark _ = true

abbrev pub own_word : Word → Bool
own_word word.Nil = true
own_word word.True = true
own_word word.False = true
own_word word.Id = true
own_word word.UpdatedAt = true
own_word word.Size = true
own_word _ = false

abbrev pub is_own : TokenKind → Bool
is_own (kind.Mark m) = own_mark m
is_own (kind.Word w) = own_word w
is_own kind.End = false
is_own (kind.Fault fault) = false
is_own _ = true

abbrev pub AreOwn : List Token → Type 0
AreOwn [] = Unit {0}
AreOwn (t ∷ ts) = (is_own t.kind ≡ true) × AreOwn ts

own_append : (ts us : List Token) → AreOwn ts → AreOwn us → AreOwn (ts ++ us)
own_append [] us x y = y
own_append (t ∷ ts) us x y = (x.0, own_append ts us x.1 y)

operator_own : (l : Level) (k : TokenKind) (o : Op) → operator_of l k ≡ Some o → is_own k ≡ true
operator_own level.Or (kind.Mark mark.Or) o h = refl
operator_own level.And (kind.Mark mark.And) o h = refl
operator_own level.Equality (kind.Mark mark.Equal) o h = refl
operator_own level.Equality (kind.Mark mark.NotEqual) o h = refl
operator_own level.Order (kind.Mark mark.Less) o h = refl
operator_own level.Order (kind.Mark mark.LessOrEqual) o h = refl
operator_own level.Order (kind.Mark mark.Greater) o h = refl
operator_own level.Order (kind.Mark mark.GreaterOrEqual) o h = refl
operator_own level.Sum (kind.Mark mark.Plus) o h = refl
operator_own level.Sum (kind.Mark mark.Minus) o h = refl
operator_own level.Product (kind.Mark mark.Times) o h = refl
operator_own level.Unary (kind.Mark m) o h = absurd cc
operator_own _ _ o h = absurd cc

sign_own : (k : TokenKind) (s : Sign) → sign_of k ≡ Some s → is_own k ≡ true
sign_own (kind.Mark mark.Not) s h = refl
sign_own (kind.Mark mark.Minus) s h = refl
sign_own _ s h = absurd cc

literal_own : (k : TokenKind) (a : Expr) → literal k ≡ Some a → is_own k ≡ true
literal_own (kind.Number n) a h = refl
literal_own (kind.Text text) a h = refl
literal_own (kind.Name name) a h = refl
literal_own (kind.Word word.Nil) a h = refl
literal_own (kind.Word word.True) a h = refl
literal_own (kind.Word word.False) a h = refl
literal_own _ a h = absurd cc

step_own : (a b : Expr) (k : TokenKind) → step_of a k ≡ Some b → is_own k ≡ true
step_own a b (kind.Name name) h = refl
step_own a b (kind.Ask q) h = refl
step_own a b (kind.Word word.Id) h = refl
step_own a b (kind.Word word.UpdatedAt) h = refl
step_own a b (kind.Word word.Size) h = refl
step_own a b _ h = absurd cc

-- an expression has no other tokens
pub own : (r : Rule) (ts : List Token) (a : Expr) → Sentence r ts a → AreOwn ts
own _ _ _ (level_one l inner ts a is s) = own (at_level inner) ts a s
own _ _ _ (level_operator l inner k o ts us a b at is op s t) = own_append ts (token k at ∷ us) (own (at_level (left_of l inner)) ts a s) (operator_own l k o op, own (at_level inner) us b t)
own _ _ _ (unary_one ts a s) = own postfix ts a s
own _ _ _ (unary_signed k s ts a at is t) = (sign_own k s is, own unary ts a t)
own _ _ _ (postfix_one ts a s) = own atom ts a s
own _ _ _ (postfix_step k ts a b dot at is s) = own_append ts (mark_at mark.Dot dot ∷ token k at ∷ []) (own postfix ts a s) (refl, (step_own a b k is, tt))
own _ _ _ (atom_token k a at is) = (literal_own k a is, tt)
own _ _ _ (atom_parentheses ts a opened closed s) = (refl, own_append ts (mark_at mark.Close closed ∷ []) (own expr ts a s) (refl, tt))

own_first : (ts : List Token) → 1 ≤ length ts → AreOwn ts → (t : Token) × (us : List Token) × (ts ≡ t ∷ us) × (is_own t.kind ≡ true) × AreOwn us
own_first [] some are = absurd (omega arith)
own_first (t ∷ ts) some are = (t, ts, refl, are.0, are.1)

-- the first token of an expression, and its others
pub expr_first : (ts : List Token) (a : Expr) → Sentence expr ts a → (t : Token) × (us : List Token) × (ts ≡ t ∷ us) × (is_own t.kind ≡ true) × AreOwn us
expr_first ts a s = own_first ts (some_tokens expr ts a s) (own expr ts a s)

-- a token that is an expression by itself
by_itself : (k : TokenKind) (a : Expr) (at : ℕ) → literal k ≡ Some a → Sentence expr (token k at ∷ []) a
by_itself k a at is =
    let product = level_one level.Product level.Unary _ a refl (unary_one _ a (postfix_one _ a (atom_token k a at is))) in
    let order = level_one level.Order level.Sum _ a refl (level_one level.Sum level.Product _ a refl product) in
    level_one level.Or level.And _ a refl (level_one level.And level.Equality _ a refl (level_one level.Equality level.Order _ a refl order))

pub alone : (at : ℕ) (text : List ℕ) → Sentence expr (token (kind.Text text) at ∷ []) (e.Text text)
alone at text = by_itself (kind.Text text) (e.Text text) at refl

pub nil : Sentence expr (word_at word.Nil 0 ∷ []) e.Nil
nil = by_itself (kind.Word word.Nil) e.Nil 0 refl
