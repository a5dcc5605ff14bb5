-- What every sentence has: parentheses in pairs, no end and no fault, and room for one more step.
use Rattle.std.proofs.Common.{◌≡◌, ℕ, false, List, [], ◌∷◌, ◌++◌, drop, refl, sym, ap, subst, ◌∙◌, append_assoc, codes}
use Rattle.doll_expr.specs.declared.expr.Expr.{Expr}
use Rattle.doll_expr.specs.declared.expr.Expr.TheVariants as e
use Rattle.doll_expr.specs.declared.token.Mark.TheVariants as mark
use Rattle.doll_text.specs.declared.words.Word.TheVariants as word
use Rattle.doll_expr.specs.declared.token.Token.{Token}
use Rattle.doll_expr.specs.declared.token.TokenKind.TheVariants as kind
use Rattle.doll_expr.specs.Tokens.{token, is_last}
use Rattle.doll_expr.specs.Levels.{left_of}
use Rattle.doll_expr.specs.Grammar.{Rule, at_level, expr, unary, postfix, atom, Sentence, mark_at, word_at, level_one, level_operator, unary_one, unary_signed, postfix_one, postfix_step, atom_token, atom_parentheses}
use Rattle.doll_expr.specs.Faults.{opened_by, opened_after}
use Rattle.doll_expr.proofs.Rules.{operator_inner, sign_inner, step_inner, literal_inner}

pub after_append : (places : List ℕ) (ts us : List Token) → opened_after places (ts ++ us) ≡ opened_after (opened_after places ts) us
after_append places [] us = refl
after_append places (t ∷ ts) us = after_append (opened_by places t.at t.kind) ts us

-- ---- parentheses come in pairs

abbrev pub Even : List Token → Type 0
Even ts = (places : List ℕ) → opened_after places ts ≡ places

even_append : (ts us : List Token) → Even ts → Even us → Even (ts ++ us)
even_append ts us x y places = after_append places ts us ∙ ap (λ (p : List ℕ). opened_after p us) (x places) ∙ y places

pub even : (r : Rule) (ts : List Token) (a : Expr) → Sentence r ts a → Even ts
even _ _ _ (level_one l inner ts a is s) = even (at_level inner) ts a s
even _ _ _ (level_operator l inner k o ts us a b at is op s t) =
    even_append ts (token k at ∷ us) (even (at_level (left_of l inner)) ts a s) (λ places. ap (λ (p : List ℕ). opened_after p us) ((operator_inner l k o op).0 places at) ∙ even (at_level inner) us b t places)
even _ _ _ (unary_one ts a s) = even postfix ts a s
even _ _ _ (unary_signed k s ts a at is t) = λ places. ap (λ (p : List ℕ). opened_after p ts) ((sign_inner k s is).0 places at) ∙ even unary ts a t places
even _ _ _ (postfix_one ts a s) = even atom ts a s
even _ _ _ (postfix_step k ts a b dot at is s) = even_append ts (mark_at mark.Dot dot ∷ token k at ∷ []) (even postfix ts a s) (λ places. (step_inner a b k is).0 places at)
even _ _ _ (atom_token k a at is) = λ places. (literal_inner k a is).0 places at
even _ _ _ (atom_parentheses ts a opened closed s) = λ places. after_append (opened ∷ places) ts (mark_at mark.Close closed ∷ []) ∙ ap (drop 1) (even expr ts a s (opened ∷ places))

-- ---- no end and no fault stands in a sentence

abbrev pub Plain : List Token → Type 0
Plain [] = Unit {0}
Plain (t ∷ ts) = (is_last t.kind ≡ false) × Plain ts

plain_append : (ts us : List Token) → Plain ts → Plain us → Plain (ts ++ us)
plain_append [] us x y = y
plain_append (t ∷ ts) us x y = (x.0, plain_append ts us x.1 y)

pub plain : (r : Rule) (ts : List Token) (a : Expr) → Sentence r ts a → Plain ts
plain _ _ _ (level_one l inner ts a is s) = plain (at_level inner) ts a s
plain _ _ _ (level_operator l inner k o ts us a b at is op s t) = plain_append ts (token k at ∷ us) (plain (at_level (left_of l inner)) ts a s) ((operator_inner l k o op).1, plain (at_level inner) us b t)
plain _ _ _ (unary_one ts a s) = plain postfix ts a s
plain _ _ _ (unary_signed k s ts a at is t) = ((sign_inner k s is).1, plain unary ts a t)
plain _ _ _ (postfix_one ts a s) = plain atom ts a s
plain _ _ _ (postfix_step k ts a b dot at is s) = plain_append ts (mark_at mark.Dot dot ∷ token k at ∷ []) (plain postfix ts a s) (refl, ((step_inner a b k is).1, tt))
plain _ _ _ (atom_token k a at is) = ((literal_inner k a is).1, tt)
plain _ _ _ (atom_parentheses ts a opened closed s) = (refl, plain_append ts (mark_at mark.Close closed ∷ []) (plain expr ts a s) (refl, tt))

-- ---- a sentence goes on with a step

abbrev pub step : ℕ → List Token
step dot = mark_at mark.Dot dot ∷ word_at word.Id 0 ∷ []

abbrev pub GoesOn : Rule → List Token → Type 0
GoesOn r ts = (a : Expr) × Sentence r ts a

abbrev Steps : ℕ → Rule → List Token → Expr → Type 0
Steps d atom ts a = GoesOn postfix (ts ++ step d)
Steps d r ts a = GoesOn r (ts ++ step d)

behind : (d : ℕ) (r : Rule) (ts : List Token) (t : Token) (us : List Token) → GoesOn r (ts ++ t ∷ (us ++ step d)) → GoesOn r ((ts ++ t ∷ us) ++ step d)
behind d r ts t us g = subst (GoesOn r) (sym (append_assoc ts (t ∷ us) (step d))) g

pub step_behind : (d : ℕ) (ts : List Token) (a : Expr) → Sentence postfix ts a → GoesOn postfix (ts ++ step d)
step_behind d ts a s = (_, postfix_step (kind.Word word.Id) ts a (e.Step a (codes "id")) d 0 refl s)

pub goes_on : (d : ℕ) (r : Rule) (ts : List Token) (a : Expr) → Sentence r ts a → Steps d r ts a
goes_on d _ _ _ (level_one l inner ts a is s) = let g = goes_on d (at_level inner) ts a s in (g.0, level_one l inner (ts ++ step d) g.0 is g.1)
goes_on d _ _ _ (level_operator l inner k o ts us a b at is op s t) =
    let g = goes_on d (at_level inner) us b t in behind d (at_level l) ts (token k at) us (_, level_operator l inner k o ts (us ++ step d) a g.0 at is op s g.1)
goes_on d _ _ _ (unary_one ts a s) = let g = goes_on d postfix ts a s in (g.0, unary_one (ts ++ step d) g.0 g.1)
goes_on d _ _ _ (unary_signed k s ts a at is t) = let g = goes_on d unary ts a t in (_, unary_signed k s (ts ++ step d) g.0 at is g.1)
goes_on d _ _ _ (postfix_one ts a s) = goes_on d atom ts a s
goes_on d _ _ _ (postfix_step k ts a b dot at is s) = step_behind d _ b (postfix_step k ts a b dot at is s)
goes_on d _ _ _ (atom_token k a at is) = step_behind d _ a (postfix_one _ a (atom_token k a at is))
goes_on d _ _ _ (atom_parentheses ts a opened closed s) = step_behind d _ a (postfix_one _ a (atom_parentheses ts a opened closed s))
