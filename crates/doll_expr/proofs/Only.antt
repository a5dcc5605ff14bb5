-- Each sentence of the grammar is read, with its tree.
use Rattle.std.proofs.Common.{◌≡◌, ℕ, zero, suc, ◌+◌, ◌-◌, ◌*◌, ◌≤◌, Bool, true, false, cond, List, [], ◌∷◌, ◌++◌, length, drop, Option, Some, None, Ok, Err, refl, sym, ap, subst, ◌∙◌, append_assoc, inl, inr, arith}
use Rattle.std.proofs.lemmas.Bool.{cases_Bool}
use Rattle.std.proofs.lemmas.List.{length-append}
use Rattle.doll_expr.specs.declared.expr.Expr.{Expr}
use Rattle.doll_expr.specs.declared.expr.Expr.TheVariants as e
use Rattle.doll_expr.specs.declared.expr.Op.{Op}
use Rattle.doll_expr.specs.declared.level.Level.{Level}
use Rattle.doll_expr.specs.declared.level.Level.TheVariants as level
use Rattle.doll_expr.specs.declared.level.Sign.{Sign}
use Rattle.doll_expr.specs.declared.token.Mark.TheVariants as mark
use Rattle.doll_expr.specs.declared.token.Token.{Token}
use Rattle.doll_expr.specs.declared.token.TokenKind.{TokenKind}
use Rattle.doll_expr.specs.declared.token.TokenKind.TheVariants as kind
use Rattle.doll_expr.specs.Tokens.{Front, is_dot, token, spaces, front, followed, cut, tokens_from, tokens_of}
use Rattle.doll_expr.specs.Grammar.{is_each, Rule, at_level, expr, unary, postfix, atom, Sentence, AreExpr, IsExpr, OneTree, begins_each, ends_before, ends_expr, mark_at, level_one, level_operator, unary_one, unary_signed, postfix_one, postfix_step, atom_token, atom_parentheses}
use Rattle.doll_expr.specs.Reading.{first_kind, has_step, close_at, steps_at, level_at, more_at, unary_at, atom_at, enough_fuel, expr_at, whole_of, expr_of, ◌>>=◌, Read}
use Rattle.doll_expr.specs.Levels.{tighter, repeats, left_of, operator_of, sign_of, signed, literal, step_of}
use Rattle.doll_expr.proofs.Rules.{some_level, k_of, k_below, step_other, literal_no_sign, ok_is}

abbrev Pair : Type 0
Pair = Expr × List Token

-- ---- tokens with which a sentence of the level doesn't go on

abbrev pub NoStep : List Token → Type 0
NoStep rest = has_step rest ≡ false

abbrev pub Ends : Level → (List Token → Type 0) → List Token → Type 0
Ends l E rest = (operator_of l (first_kind rest) ≡ None) × E rest

abbrev pub EndsProd : List Token → Type 0
EndsProd = Ends level.Product NoStep

abbrev pub EndsSum : List Token → Type 0
EndsSum = Ends level.Sum EndsProd

abbrev pub EndsCmp : List Token → Type 0
EndsCmp = Ends level.Order EndsSum

abbrev pub EndsEq : List Token → Type 0
EndsEq = Ends level.Equality EndsCmp

abbrev pub EndsAnd : List Token → Type 0
EndsAnd = Ends level.And EndsEq

abbrev pub EndsOr : List Token → Type 0
EndsOr = Ends level.Or EndsAnd

-- a sentence of the level doesn't go on, and no operand of it
abbrev EndsAt : Level → List Token → Type 0
EndsAt level.Or = EndsOr
EndsAt level.And = EndsAnd
EndsAt level.Equality = EndsEq
EndsAt level.Order = EndsCmp
EndsAt level.Sum = EndsSum
EndsAt level.Product = EndsProd
EndsAt level.Unary = NoStep

abbrev EndsOperand : Level → List Token → Type 0
EndsOperand level.Or = EndsAnd
EndsOperand level.And = EndsEq
EndsOperand level.Equality = EndsCmp
EndsOperand level.Order = EndsSum
EndsOperand level.Sum = EndsProd
EndsOperand level.Product = NoStep
EndsOperand level.Unary = λ rest. Unit {0}

-- an operator of a level ends the operand before it
starts : (l : Level) (k : TokenKind) (o : Op) (at : ℕ) (us : List Token) → operator_of l k ≡ Some o → EndsOperand l (token k at ∷ us)
starts level.Or (kind.Mark mark.Or) o at us h = (refl, (refl, (refl, (refl, (refl, refl)))))
starts level.And (kind.Mark mark.And) o at us h = (refl, (refl, (refl, (refl, refl))))
starts level.Equality (kind.Mark mark.Equal) o at us h = (refl, (refl, (refl, refl)))
starts level.Equality (kind.Mark mark.NotEqual) o at us h = (refl, (refl, (refl, refl)))
starts level.Order (kind.Mark mark.Less) o at us h = (refl, (refl, refl))
starts level.Order (kind.Mark mark.LessOrEqual) o at us h = (refl, (refl, refl))
starts level.Order (kind.Mark mark.Greater) o at us h = (refl, (refl, refl))
starts level.Order (kind.Mark mark.GreaterOrEqual) o at us h = (refl, (refl, refl))
starts level.Sum (kind.Mark mark.Plus) o at us h = (refl, refl)
starts level.Sum (kind.Mark mark.Minus) o at us h = (refl, refl)
starts level.Product (kind.Mark mark.Times) o at us h = refl
starts level.Unary k o at us h = tt
starts _ _ o at us h = absurd cc

-- what of a level reading rests on
record Inside (l inner : Level) : Type 0 where
  ends : (rest : List Token) → EndsAt l rest → Ends l (EndsAt inner) rest
  starts : (k : TokenKind) (o : Op) (at : ℕ) (us : List Token) → operator_of l k ≡ Some o → EndsAt inner (token k at ∷ us)

inside : (l inner : Level) → tighter l ≡ Some inner → Inside l inner
inside level.Or inner h = subst (Inside level.Or) (some_level level.And inner h) (record { ends = λ rest e. e; starts = starts level.Or })
inside level.And inner h = subst (Inside level.And) (some_level level.Equality inner h) (record { ends = λ rest e. e; starts = starts level.And })
inside level.Equality inner h = subst (Inside level.Equality) (some_level level.Order inner h) (record { ends = λ rest e. e; starts = starts level.Equality })
inside level.Order inner h = subst (Inside level.Order) (some_level level.Sum inner h) (record { ends = λ rest e. e; starts = starts level.Order })
inside level.Sum inner h = subst (Inside level.Sum) (some_level level.Product inner h) (record { ends = λ rest e. e; starts = starts level.Sum })
inside level.Product inner h = subst (Inside level.Product) (some_level level.Unary inner h) (record { ends = λ rest e. e; starts = starts level.Product })
inside level.Unary inner h = absurd cc

-- ---- what is read, with fuel enough: `k`, and 16 for each token

abbrev pub ReadsBy : Level → ℕ → (List Token → Type 0) → List Token → Expr → Type 0
ReadsBy l k E ts a = (n : ℕ) (opened : Option ℕ) (rest : List Token) → k + 16 * length ts ≤ n → E rest → level_at n opened l (ts ++ rest) ≡ Ok (a, rest)

-- the tree stands on the left of whatever comes
abbrev GoesBy : Level → Level → ℕ → (List Token → Type 0) → List Token → Expr → Type 0
GoesBy l inner k E ts a = (n : ℕ) (opened : Option ℕ) (rest : List Token) → k + 16 * length ts ≤ n → E rest
    → (m : ℕ) × (n ≤ m + 16 * length ts) × (level_at n opened l (ts ++ rest) ≡ more_at m opened l inner a rest)

no_more : (m : ℕ) (opened : Option ℕ) (l inner : Level) (a : Expr) (rest : List Token) → 1 ≤ m → operator_of l (first_kind rest) ≡ None → more_at m opened l inner a rest ≡ Ok (a, rest)
unfolding more_at
no_more zero opened l inner a rest some none = absurd (omega arith)
no_more (suc m) opened l inner a rest some none = rw none refl

reads_of : (l inner : Level) (k : ℕ) (E : List Token → Type 0) (ts : List Token) (a : Expr) → 1 ≤ k → GoesBy l inner k E ts a → ReadsBy l k (Ends l E) ts a
reads_of l inner k E ts a some goes n opened rest enough ends =
    let g = goes n opened rest enough ends.1 in
    g.2 ∙ no_more g.0 opened l inner a rest (omega (arith, g.1)) ends.0

goes_one : (l inner : Level) (k : ℕ) (E : List Token → Type 0) (ts : List Token) (a : Expr) → tighter l ≡ Some inner → 1 ≤ length ts → ReadsBy inner k E ts a → GoesBy l inner (k + 1) E ts a
unfolding level_at
goes_one l inner k E ts a operands some reads zero opened rest enough ends = absurd (omega arith)
goes_one l inner k E ts a operands some reads (suc n) opened rest enough ends =
    (n, omega arith, rw (operands, reads n opened rest (omega arith) ends) refl)

one_operator : (n : ℕ) (opened : Option ℕ) (l inner : Level) (k : TokenKind) (o : Op) (at : ℕ) (a b : Expr) (ts rest : List Token) → operator_of l k ≡ Some o → repeats l ≡ true → level_at n opened inner ts ≡ Ok (b, rest)
    → more_at (suc n) opened l inner a (token k at ∷ ts) ≡ more_at n opened l inner (e.Binary o a b) rest
unfolding more_at
one_operator n opened l inner k o at a b ts rest is rep reads = rw (is, reads, rep) refl

last_operator : (n : ℕ) (opened : Option ℕ) (l inner : Level) (k : TokenKind) (o : Op) (at : ℕ) (a b : Expr) (ts rest : List Token) → operator_of l k ≡ Some o → repeats l ≡ false → level_at n opened inner ts ≡ Ok (b, rest)
    → more_at (suc n) opened l inner a (token k at ∷ ts) ≡ Ok (e.Binary o a b, rest)
unfolding more_at
last_operator n opened l inner k o at a b ts rest is rep reads = rw (is, reads, rep) refl

abbrev Starts : (List Token → Type 0) → TokenKind → ℕ → Type 0
Starts E kind at = (us : List Token) → E (token kind at ∷ us)

goes_more : (l inner : Level) (k : ℕ) (E : List Token → Type 0) (kind : TokenKind) (o : Op) (at : ℕ) (ts us : List Token) (a b : Expr) → repeats l ≡ true → operator_of l kind ≡ Some o → Starts E kind at
    → GoesBy l inner (k + 1) E ts a → ReadsBy inner k E us b → GoesBy l inner (k + 1) E (ts ++ token kind at ∷ us) (e.Binary o a b)
goes_more l inner k E kind o at ts us a b rep is starts left right n opened rest enough ends =
    let len : length (ts ++ token kind at ∷ us) ≡ length ts + (length us + 1) = omega (arith, length-append ts (token kind at ∷ us)) in
    let g = left n opened (token kind at ∷ (us ++ rest)) (omega (arith, len, enough)) (starts (us ++ rest)) in
    let room : n ≤ g.0 + 16 * length ts = g.1 in
    let turn : g.0 ≡ suc (g.0 - 1) = omega (arith, len, enough, room) in
    let r = right (g.0 - 1) opened rest (omega (arith, len, enough, room)) ends in
    let one = one_operator (g.0 - 1) opened l inner kind o at a b (us ++ rest) rest is rep r in
    (g.0 - 1, omega (arith, len, enough, room), ap (level_at n opened l) (append_assoc ts (token kind at ∷ us) rest) ∙ g.2 ∙ ap (λ (m : ℕ). more_at m opened l inner a (token kind at ∷ (us ++ rest))) turn ∙ one)

reads_once : (l inner : Level) (k : ℕ) (E : List Token → Type 0) (kind : TokenKind) (o : Op) (at : ℕ) (ts us : List Token) (a b : Expr) → tighter l ≡ Some inner → repeats l ≡ false → operator_of l kind ≡ Some o → Starts E kind at → 1 ≤ length ts
    → ReadsBy inner k E ts a → ReadsBy inner k E us b → ReadsBy l (k + 1) (Ends l E) (ts ++ token kind at ∷ us) (e.Binary o a b)
reads_once l inner k E kind o at ts us a b operands rep is starts some left right n opened rest enough ends =
    let len : length (ts ++ token kind at ∷ us) ≡ length ts + (length us + 1) = omega (arith, length-append ts (token kind at ∷ us)) in
    let g = goes_one l inner k E ts a operands some left n opened (token kind at ∷ (us ++ rest)) (omega (arith, len, enough)) (starts (us ++ rest)) in
    let room : n ≤ g.0 + 16 * length ts = g.1 in
    let turn : g.0 ≡ suc (g.0 - 1) = omega (arith, len, enough, room) in
    let r = right (g.0 - 1) opened rest (omega (arith, len, enough, room)) ends.1 in
    let last = last_operator (g.0 - 1) opened l inner kind o at a b (us ++ rest) rest is rep r in
    ap (level_at n opened l) (append_assoc ts (token kind at ∷ us) rest) ∙ g.2 ∙ ap (λ (m : ℕ). more_at m opened l inner a (token kind at ∷ (us ++ rest))) turn ∙ last

-- ---- signs, atoms and steps

abbrev ReadsUnary : List Token → Expr → Type 0
ReadsUnary ts a = (n : ℕ) (opened : Option ℕ) (rest : List Token) → 2 + 16 * length ts ≤ n → NoStep rest → unary_at n opened (ts ++ rest) ≡ Ok (a, rest)

abbrev NoSign : List Token → Type 0
NoSign ts = (rest : List Token) → sign_of (first_kind (ts ++ rest)) ≡ None

abbrev read_postfix : ℕ → Option ℕ → List Token → Read
read_postfix n opened ts = atom_at n opened ts >>= λ (y : Pair). steps_at n opened y.0 y.1

abbrev GoesPost : List Token → Expr → Type 0
GoesPost ts a = (n : ℕ) (opened : Option ℕ) (rest : List Token) → 16 * length ts ≤ n → (m : ℕ) × (n ≤ m + 16 * length ts) × (read_postfix n opened (ts ++ rest) ≡ steps_at m opened a rest)

abbrev ReadsAtom : List Token → Expr → Type 0
ReadsAtom ts a = (n : ℕ) (opened : Option ℕ) (rest : List Token) → 16 * length ts ≤ n → atom_at n opened (ts ++ rest) ≡ Ok (a, rest)

unary_level : (ts : List Token) (a : Expr) → ReadsUnary ts a → ReadsBy level.Unary 3 NoStep ts a
unfolding level_at
unary_level ts a reads zero opened rest enough ends = absurd (omega arith)
unary_level ts a reads (suc n) opened rest enough ends = reads n opened rest (omega arith) ends

unary_reads : (ts : List Token) (a : Expr) → ReadsBy level.Unary 3 NoStep ts a → ReadsUnary ts a
unfolding level_at
unary_reads ts a reads n opened rest enough ends = reads (suc n) opened rest (omega (arith, enough)) ends

no_steps : (m : ℕ) (opened : Option ℕ) (a : Expr) (rest : List Token) → 1 ≤ m → has_step rest ≡ false → steps_at m opened a rest ≡ Ok (a, rest)
unfolding steps_at
no_steps zero opened a rest some none = absurd (omega arith)
no_steps (suc m) opened a rest some none = rw none refl

no_sign : (n : ℕ) (opened : Option ℕ) (ts : List Token) → sign_of (first_kind ts) ≡ None → unary_at (suc n) opened ts ≡ read_postfix n opened ts
unfolding unary_at
no_sign n opened ts none = rw none refl

reads_postfix : (ts : List Token) (a : Expr) → NoSign ts → GoesPost ts a → ReadsUnary ts a
reads_postfix ts a none goes zero opened rest enough ends = absurd (omega arith)
reads_postfix ts a none goes (suc n) opened rest enough ends =
    let g = goes n opened rest (omega arith) in
    let room : n ≤ g.0 + 16 * length ts = g.1 in
    no_sign n opened (ts ++ rest) (none rest) ∙ g.2 ∙ no_steps g.0 opened a rest (omega (arith, enough, room)) ends

reads_signed : (k : TokenKind) (s : Sign) (ts : List Token) (a : Expr) (at : ℕ) → sign_of k ≡ Some s → ReadsUnary ts a → ReadsUnary (token k at ∷ ts) (signed s a)
unfolding unary_at
reads_signed k s ts a at is reads zero opened rest enough ends = absurd (omega arith)
reads_signed k s ts a at is reads (suc n) opened rest enough ends = rw (is, reads n opened rest (omega arith) ends) refl

goes_atom : (ts : List Token) (a : Expr) → ReadsAtom ts a → GoesPost ts a
goes_atom ts a reads n opened rest enough = (n, omega arith, rw (reads n opened rest enough) refl)

one_step : (m : ℕ) (opened : Option ℕ) (a b : Expr) (k : TokenKind) (dot at : ℕ) (rest : List Token) → is_each k ≡ false → step_of a k ≡ Some b
    → steps_at (suc m) opened a (mark_at mark.Dot dot ∷ token k at ∷ rest) ≡ steps_at m opened b rest
unfolding steps_at
one_step m opened a b k dot at rest other is = rw (other, is) refl

goes_step : (ts : List Token) (a b : Expr) (k : TokenKind) (dot at : ℕ) → is_each k ≡ false → step_of a k ≡ Some b → GoesPost ts a → GoesPost (ts ++ mark_at mark.Dot dot ∷ token k at ∷ []) b
goes_step ts a b k dot at other is goes n opened rest enough =
    let step : List Token = mark_at mark.Dot dot ∷ token k at ∷ [] in
    let len : length (ts ++ step) ≡ length ts + 2 = omega (arith, length-append ts step) in
    let g = goes n opened (mark_at mark.Dot dot ∷ token k at ∷ rest) (omega (arith, len, enough)) in
    let room : n ≤ g.0 + 16 * length ts = g.1 in
    let turn : g.0 ≡ suc (g.0 - 1) = omega (arith, len, enough, room) in
    (g.0 - 1, omega (arith, len, enough, room), ap (read_postfix n opened) (append_assoc ts step rest) ∙ g.2 ∙ ap (λ (m : ℕ). steps_at m opened a (mark_at mark.Dot dot ∷ token k at ∷ rest)) turn ∙ one_step (g.0 - 1) opened a b k dot at rest other is)

reads_literal : (k : TokenKind) (a : Expr) (at : ℕ) → literal k ≡ Some a → ReadsAtom (token k at ∷ []) a
unfolding atom_at
reads_literal k a at is zero opened rest enough = absurd (omega arith)
reads_literal k a at is (suc n) opened rest enough = rw is refl

reads_parentheses : (ts : List Token) (a : Expr) (opened closed : ℕ) → ReadsBy level.Or 9 EndsOr ts a → ReadsAtom (mark_at mark.Open opened ∷ ts ++ mark_at mark.Close closed ∷ []) a
unfolding atom_at close_at
reads_parentheses ts a opened closed reads zero outer rest enough = absurd (omega arith)
reads_parentheses ts a opened closed reads (suc n) outer rest enough =
    let close : List Token = mark_at mark.Close closed ∷ [] in
    let len : length (ts ++ close) ≡ length ts + 1 = omega (arith, length-append ts close) in
    let inner : level_at n (Some opened) level.Or (ts ++ (mark_at mark.Close closed ∷ rest)) ≡ Ok (a, mark_at mark.Close closed ∷ rest) =
    reads n (Some opened) (mark_at mark.Close closed ∷ rest) (omega (arith, len, enough)) (refl, (refl, (refl, (refl, (refl, (refl, refl)))))) in
    let e : level_at n (Some opened) level.Or ((ts ++ close) ++ rest) ≡ Ok (a, mark_at mark.Close closed ∷ rest) = ap (level_at n (Some opened) level.Or) (append_assoc ts close rest) ∙ inner in
    rw e refl

-- ---- by the rules

-- a level is read; where its operators follow each other, its tree stands on the left of whatever comes
abbrev Claim : Rule → List Token → Expr → Type 0
Claim (at_level l) ts a = (1 ≤ length ts) × ReadsBy l (k_of l) (EndsAt l) ts a × ((inner : Level) → tighter l ≡ Some inner → repeats l ≡ true → GoesBy l inner (k_of inner + 1) (EndsAt inner) ts a)
Claim postfix ts a = (1 ≤ length ts) × NoSign ts × GoesPost ts a
Claim atom ts a = (1 ≤ length ts) × NoSign ts × ReadsAtom ts a

longer : (ts : List Token) (t : Token) (us : List Token) → 1 ≤ length (ts ++ t ∷ us)
longer ts t us = omega (arith, length-append ts (t ∷ us))

still_no_sign : (ts us : List Token) → NoSign ts → NoSign (ts ++ us)
still_no_sign ts us none rest = ap (λ (vs : List Token). sign_of (first_kind vs)) (append_assoc ts us rest) ∙ none (us ++ rest)

reads_at : (l inner : Level) (ts : List Token) (a : Expr) → tighter l ≡ Some inner → ReadsBy l (k_of inner + 1) (Ends l (EndsAt inner)) ts a → ReadsBy l (k_of l) (EndsAt l) ts a
reads_at l inner ts a is reads n opened rest enough ends = reads n opened rest (omega (arith, k_below l inner is, enough)) ((inside l inner is).ends rest ends)

-- from what goes on the left of whatever comes
claim_goes : (l inner : Level) (ts : List Token) (a : Expr) → tighter l ≡ Some inner → 1 ≤ length ts → GoesBy l inner (k_of inner + 1) (EndsAt inner) ts a → Claim (at_level l) ts a
claim_goes l inner ts a is some goes =
    (some, reads_at l inner ts a is (reads_of l inner (k_of inner + 1) (EndsAt inner) ts a (omega arith) goes), λ m other rep. subst (λ (x : Level). GoesBy l x (k_of x + 1) (EndsAt x) ts a) (some_level inner m (sym is ∙ other)) goes)

claim_unary : (ts : List Token) (a : Expr) → 1 ≤ length ts → ReadsUnary ts a → Claim unary ts a
claim_unary ts a some reads = (some, unary_level ts a reads, λ inner is rep. absurd cc)

claim_operator : (l inner : Level) (k : TokenKind) (o : Op) (ts us : List Token) (a b : Expr) (at : ℕ) → tighter l ≡ Some inner → operator_of l k ≡ Some o
    → Claim (at_level (left_of l inner)) ts a → Claim (at_level inner) us b → Claim (at_level l) (ts ++ token k at ∷ us) (e.Binary o a b)
claim_operator l inner k o ts us a b at is op left right =
    let ahead : Starts (EndsAt inner) k at = λ vs. (inside l inner is).starts k o at vs op in
    elim (cases_Bool (repeats l)) [
      | inl rep ↦
          let x : Claim (at_level l) ts a = subst (λ (repeated : Bool). Claim (at_level (cond repeated l inner)) ts a) rep left in
          claim_goes l inner (ts ++ token k at ∷ us) (e.Binary o a b) is (longer ts (token k at) us) (goes_more l inner (k_of inner) (EndsAt inner) k o at ts us a b rep op ahead (x.2 inner is rep) right.1)
      | inr once ↦
          let x : Claim (at_level inner) ts a = subst (λ (repeated : Bool). Claim (at_level (cond repeated l inner)) ts a) once left in
          (longer ts (token k at) us, reads_at l inner (ts ++ token k at ∷ us) (e.Binary o a b) is (reads_once l inner (k_of inner) (EndsAt inner) k o at ts us a b is once op ahead x.0 x.1 right.1), λ m other rep. absurd (let f : true ≡ false = sym rep ∙ once in cc))
    ]

claims : (r : Rule) (ts : List Token) (a : Expr) → Sentence r ts a → Claim r ts a
claims _ _ _ (level_one l inner ts a is s) =
    let x = claims (at_level inner) ts a s in claim_goes l inner ts a is x.0 (goes_one l inner (k_of inner) (EndsAt inner) ts a is x.0 x.1)
claims _ _ _ (level_operator l inner k o ts us a b at is op s t) = claim_operator l inner k o ts us a b at is op (claims (at_level (left_of l inner)) ts a s) (claims (at_level inner) us b t)
claims _ _ _ (unary_one ts a s) = let x = claims postfix ts a s in claim_unary ts a x.0 (reads_postfix ts a x.1 x.2)
claims _ _ _ (unary_signed k s ts a at is t) = claim_unary (token k at ∷ ts) (signed s a) (omega arith) (reads_signed k s ts a at is (unary_reads ts a (claims unary ts a t).1))
claims _ _ _ (postfix_one ts a s) = let x = claims atom ts a s in (x.0, x.1, goes_atom ts a x.2)
claims _ _ _ (postfix_step k ts a b dot at is s) =
    let x = claims postfix ts a s in
    (longer ts (mark_at mark.Dot dot) (token k at ∷ []), still_no_sign ts (mark_at mark.Dot dot ∷ token k at ∷ []) x.1, goes_step ts a b k dot at (step_other a b k is) is x.2)
claims _ _ _ (atom_token k a at is) = (omega arith, (λ rest. literal_no_sign k a is), reads_literal k a at is)
claims _ _ _ (atom_parentheses ts a opened closed s) = (omega arith, (λ rest. refl), reads_parentheses ts a opened closed (claims expr ts a s).1)

claim_some : (r : Rule) (ts : List Token) (a : Expr) → Claim r ts a → 1 ≤ length ts
claim_some (at_level l) ts a c = c.0
claim_some postfix ts a c = c.0
claim_some atom ts a c = c.0

-- a sentence has tokens
pub some_tokens : (r : Rule) (ts : List Token) (a : Expr) → Sentence r ts a → 1 ≤ length ts
some_tokens r ts a s = claim_some r ts a (claims r ts a s)

pub enough : 9 + 16 * 201 ≤ enough_fuel
unfolding enough_fuel
enough = omega arith

-- a sentence at the front of tokens, with fuel enough for it
pub sentence_reads : (n : ℕ) (ts rest : List Token) (a : Expr) → Sentence expr ts a → 9 + 16 * length ts ≤ n → EndsOr rest → level_at n None level.Or (ts ++ rest) ≡ Ok (a, rest)
sentence_reads n ts rest a s enough ends = (claims expr ts a s).1 n None rest enough ends

-- a sentence at the front of tokens
pub expr_only : (ts rest : List Token) (a : Expr) → Sentence expr ts a → length ts ≤ 200 → EndsOr rest → expr_at (ts ++ rest) ≡ Ok (a, rest)
unfolding expr_at
expr_only ts rest a s few ends = sentence_reads enough_fuel ts rest a s (omega (arith, enough, few)) ends

few_followed : (most at : ℕ) (others : TokenKind × ℕ → List Token) (f : Front) → 1 ≤ most → ((found : TokenKind × ℕ) → length (others found) ≤ most) → length (followed at others f) ≤ most
few_followed most at others (Ok found) some few = few found
few_followed most at others (Err fault) some few = omega (arith, some)

few_cut : (most : ℕ) (dot : Bool) (at : ℕ) (bytes : List ℕ) (others : TokenKind × ℕ → List Token) → 1 ≤ most → ((found : TokenKind × ℕ) → length (others found) ≤ most) → length (cut dot at bytes others) ≤ most
few_cut most dot at [] others some few = omega (arith, some)
few_cut most dot at (b ∷ bytes) others some few = few_followed most at others (front dot at (b ∷ bytes)) some few

few_tokens : (room : ℕ) (dot : Bool) (at : ℕ) (bytes : List ℕ) → length (tokens_from room dot at bytes) ≤ room + 1
unfolding tokens_from
few_tokens zero dot at bytes = few_cut 1 dot (at + spaces bytes) (drop (spaces bytes) bytes) _ (omega arith) (λ found. omega arith)
few_tokens (suc room) dot at bytes =
    few_cut (suc room + 1) dot (at + spaces bytes) (drop (spaces bytes) bytes) _ (omega arith)
    (λ found. let h = few_tokens room (is_dot found.0) (at + spaces bytes + found.1) (drop found.1 (drop (spaces bytes) bytes)) in omega (arith, h))

pub few_tokens_of : (text : List ℕ) → length (tokens_of text) ≤ 201
unfolding tokens_of
few_tokens_of text = few_tokens 200 false 0 text

pub whole_only : (tokens : List Token) (a : Expr) → length tokens ≤ 201 → AreExpr tokens a → whole_of tokens ≡ Ok a
unfolding whole_of
whole_only tokens a short x =
    let ts = x.0 in
    let last : List Token = token kind.End x.1 ∷ [] in
    let few : length ts ≤ 200 = omega (arith, short, ap length x.2, length-append ts last) in
    let read : expr_at tokens ≡ Ok (a, last) = ap expr_at x.2 ∙ expr_only ts last a x.3 few (refl, (refl, (refl, (refl, (refl, (refl, refl)))))) in
    rw read refl

pub text_only : (text : List ℕ) (a : Expr) → IsExpr text a → expr_of text ≡ Ok a
unfolding expr_of
text_only text a x = whole_only (tokens_of text) a (few_tokens_of text) x

pub one_tree : OneTree
one_tree text a b x y = ok_is a b (sym (text_only text a x) ∙ text_only text b y)

-- ---- tokens that end an expression

ends_each : (t : Token) (rest : List Token) → begins_each rest ≡ true → has_step (t ∷ rest) ≡ false
ends_each t [] h = absurd cc
ends_each t (u ∷ rest) h = elim (cases_Bool (is_dot t.kind)) [
  | inl d ↦ rw (d, h) refl
  | inr d ↦ rw d refl
]

ends_with : (k : TokenKind) (at : ℕ) (rest : List Token) → ends_before k rest ≡ true → EndsOr (token k at ∷ rest)
ends_with (kind.Mark mark.Dot) at rest h = (refl, (refl, (refl, (refl, (refl, (refl, ends_each (mark_at mark.Dot at) rest h))))))
ends_with (kind.Mark mark.Or) at rest h = absurd cc
ends_with (kind.Mark mark.And) at rest h = absurd cc
ends_with (kind.Mark mark.Equal) at rest h = absurd cc
ends_with (kind.Mark mark.NotEqual) at rest h = absurd cc
ends_with (kind.Mark mark.Less) at rest h = absurd cc
ends_with (kind.Mark mark.LessOrEqual) at rest h = absurd cc
ends_with (kind.Mark mark.Greater) at rest h = absurd cc
ends_with (kind.Mark mark.GreaterOrEqual) at rest h = absurd cc
ends_with (kind.Mark mark.Plus) at rest h = absurd cc
ends_with (kind.Mark mark.Minus) at rest h = absurd cc
ends_with (kind.Mark mark.Times) at rest h = absurd cc
ends_with _ at rest h = (refl, (refl, (refl, (refl, (refl, (refl, refl))))))

ends_or : (rest : List Token) → ends_expr rest ≡ true → EndsOr rest
ends_or [] h = (refl, (refl, (refl, (refl, (refl, (refl, refl))))))
ends_or (t ∷ rest) h = ends_with t.kind t.at rest h

pub front_only : (ts rest : List Token) (a : Expr) → Sentence expr ts a → length ts ≤ 200 → ends_expr rest ≡ true → expr_at (ts ++ rest) ≡ Ok (a, rest)
front_only ts rest a s few ends = expr_only ts rest a s few (ends_or rest ends)
