-- Where the reading stops with a fault: behind the beginning of a sentence, at a token that decides it.
use Rattle.std.proofs.Common.{◌≡◌, ◌≤◌, ◌+◌, ◌*◌, ℕ, zero, suc, true, false, not, cond, List, [], ◌∷◌, ◌++◌, length, drop, Option, Some, None, Result, Ok, Err, refl, sym, ap, subst, ◌∙◌, inl, inr, ◌⊎◌, append_assoc, arith}
use Rattle.std.proofs.lemmas.Bool.{cases_Bool, and_parts}
use Rattle.std.proofs.lemmas.List.{length-append}
use Rattle.doll_expr.specs.declared.expr.Expr.{Expr}
use Rattle.doll_expr.specs.declared.expr.Expr.TheVariants as e
use Rattle.doll_expr.specs.declared.expr.ExprFault.{ExprFault}
use Rattle.doll_expr.specs.declared.expr.Op.{Op}
use Rattle.doll_expr.specs.declared.level.Level.{Level}
use Rattle.doll_expr.specs.declared.level.Sign.{Sign}
use Rattle.doll_expr.specs.declared.token.Mark.TheVariants as mark
use Rattle.doll_text.specs.declared.words.Word.TheVariants as word
use Rattle.doll_expr.specs.declared.token.Token.{Token}
use Rattle.doll_expr.specs.declared.token.TokenKind.{TokenKind}
use Rattle.doll_expr.specs.declared.token.TokenKind.TheVariants as kind
use Rattle.doll_expr.specs.Tokens.{is_dot, is_last, token}
use Rattle.doll_expr.specs.Grammar.{Rule, at_level, unary, postfix, atom, Sentence, is_each, mark_at, word_at, level_one, level_operator, unary_one, unary_signed, postfix_one, postfix_step}
use Rattle.doll_expr.specs.Reading.{first_kind, place, has_step, fault_of, fault_at, stops_at, steps_at, level_at, more_at, unary_at, atom_at, ◌>>=◌, Read}
use Rattle.doll_expr.specs.Levels.{left_of, tighter, repeats, operator_of, sign_of, signed, step_of}
use Rattle.doll_expr.specs.Faults.{opened_by, opened_after, fault_behind}
use Rattle.doll_expr.proofs.Rules.{unary_is, begins, again, k_of, k_below, k_small, first_is, operator_inner, operator_no_dot, sign_inner, step_inner, dot_is, if_some_is, chosen}
use Rattle.doll_expr.proofs.Fuel.{Alike, steps_go, steps_stop, level_go, level_stop, level_last, more_go, more_stop, unary_sign_stop, unary_go, unary_stop}
use Rattle.doll_expr.proofs.Found.{Pair, step_is, all_found}
use Rattle.doll_expr.proofs.Only.{some_tokens}
use Rattle.doll_expr.proofs.Shapes.{after_append, Even, even, plain, GoesOn, step_behind}
use Rattle.doll_expr.proofs.Ended.{Ended, ended_rest, ended_behind, some_left}

-- ---- what this rests on

pub bind_err : {A B : Type 0} (r : Result A ExprFault) (f : A → Result B ExprFault) (y : ExprFault) → (r >>= f) ≡ Err y → (r ≡ Err y) ⊎ ((x : A) × (r ≡ Ok x) × (f x ≡ Err y))
bind_err (Ok x) f y h = inr (x, refl, h)
bind_err (Err d) f y h = let i : d ≡ y = cc in inl (ap Err i)

abbrev pub innermost : List ℕ → Option ℕ
innermost [] = None
innermost (p ∷ places) = Some p

pub agrees : (places : List ℕ) (at : ℕ) (k : TokenKind) → fault_of (innermost places) at k ≡ fault_behind places at k
agrees [] at kind.End = refl
agrees (p ∷ places) at kind.End = refl
agrees places at _ = refl

pub agrees_at : (opened : Option ℕ) (places : List ℕ) (ts : List Token) (f : ExprFault) → innermost places ≡ opened → fault_at opened ts ≡ f → f ≡ fault_behind places (place ts) (first_kind ts)
unfolding fault_at
agrees_at opened places ts f is h = sym h ∙ ap (λ (o : Option ℕ). fault_of o (place ts) (first_kind ts)) (sym is) ∙ agrees places (place ts) (first_kind ts)

pub err_is : (f g : ExprFault) → ◌≡◌ {A = Read} (Err f) (Err g) → f ≡ g
err_is f g h = cc

alike_front : (t : Token) (us vs : List Token) → is_dot t.kind ≡ false → Alike (t ∷ us) (t ∷ vs)
alike_front t us vs other = record { first = refl; step = rw other refl }

first_same : (before : List Token) (t : Token) (after more : List Token) → first_kind (before ++ t ∷ more) ≡ first_kind (before ++ t ∷ after)
first_same [] t after more = refl
first_same (u ∷ before) t after more = refl

pub over_even : (used before : List Token) (places : List ℕ) (t : Token) → Even used → fault_behind (opened_after places before) t.at t.kind ≡ fault_behind (opened_after places (used ++ before)) t.at t.kind
over_even used before places t even = ap (λ (p : List ℕ). fault_behind p t.at t.kind) (sym (after_append places used before ∙ ap (λ (p : List ℕ). opened_after p before) (even places)))

over_one : (before : List Token) (places one : List ℕ) (t : Token) → one ≡ places → fault_behind (opened_after places before) t.at t.kind ≡ fault_behind (opened_after one before) t.at t.kind
over_one before places one t is = ap (λ (p : List ℕ). fault_behind (opened_after p before) t.at t.kind) (sym is)

pub again_at : (opened : Option ℕ) (t : Token) (after more : List Token) → ◌≡◌ {A = Read} (Err (fault_at opened (t ∷ more))) (Err (fault_at opened (t ∷ after)))
unfolding fault_at
again_at opened t after more = refl

has_one : (ts : List Token) → is_dot (first_kind ts) ≡ true → is_each (first_kind (drop 1 ts)) ≡ false → has_step ts ≡ true
has_one ts dot other = rw (dot, other) refl

-- ---- stopped with a fault

pub record Stuck (R : ℕ → List Token → Read) (n : ℕ) (r : Rule) (opened : Option ℕ) (ts : List Token) (f : ExprFault) : Type 0 where
  pub before : List Token
  pub stop : Token
  pub after : List Token
  pub parts : ts ≡ before ++ stop ∷ after
  pub local : (k : ℕ) (more : List Token) → n ≤ k → R k (before ++ stop ∷ more) ≡ Err f
  pub fault : (places : List ℕ) → innermost places ≡ opened → f ≡ fault_behind (opened_after places before) stop.at stop.kind
  pub begins : (more : List Token) × GoesOn r (before ++ more)

pub record StuckBehind (R : ℕ → List Token → Read) (n : ℕ) (b r : Rule) (left : Expr) (opened : Option ℕ) (ts : List Token) (f : ExprFault) : Type 0 where
  pub before : List Token
  pub stop : Token
  pub after : List Token
  pub parts : ts ≡ before ++ stop ∷ after
  pub alike : (more : List Token) → Alike ts (before ++ stop ∷ more)
  pub local : (k : ℕ) (more : List Token) → n ≤ k → R k (before ++ stop ∷ more) ≡ Err f
  pub fault : (places : List ℕ) → innermost places ≡ opened → f ≡ fault_behind (opened_after places before) stop.at stop.kind
  pub begins : (vs : List Token) → Sentence b vs left → (more : List Token) × GoesOn r (vs ++ (before ++ more))

-- ---- steps

steps_stuck : (n : ℕ) (opened : Option ℕ) (a : Expr) (ts : List Token) (f : ExprFault) → 16 * length ts ≤ n → Ended ts → steps_at n opened a ts ≡ Err f
    → StuckBehind (λ k us. steps_at k opened a us) n postfix postfix a opened ts f
unfolding steps_at
steps_stuck zero opened a [] f enough ended h = absurd ended
steps_stuck zero opened a (t ∷ ts) f enough ended h = absurd (omega arith)
steps_stuck (suc n) opened a ts f enough ended h =
    elim (chosen (has_step ts) _ (Ok (a, ts)) (Err f) h) [
      | inl s ↦ elim (if_some_is (step_of a (first_kind (drop 1 ts))) (λ (b : Expr). steps_at n opened b (drop 1 (drop 1 ts))) (Err (fault_at opened (drop 1 ts))) (Err f) s.1) [
        | inl t ↦
            let b = t.0 in
            let st = step_is a b ts s.0 t.1 in
            let rest = drop 1 (drop 1 ts) in
            let step : List Token = mark_at mark.Dot st.places.0 ∷ token st.kind st.places.1 ∷ [] in
            let whole : ts ≡ step ++ rest = st.front in
            let len : length ts ≡ length rest + 2 = omega (arith, ap length whole) in
            let rest_ended : Ended rest = ended_behind step rest (refl, ((step_inner a b st.kind st.is).1, tt)) (subst Ended whole ended) in
            let more = steps_stuck n opened b rest f (omega (arith, len, enough)) rest_ended t.2 in
            record {
              before = step ++ more.before;
              stop = more.stop;
              after = more.after;
              parts = whole ∙ ap (λ (us : List Token). step ++ us) more.parts;
              alike = λ us. subst (λ (vs : List Token). Alike vs (step ++ (more.before ++ more.stop ∷ us))) (sym whole) (record { first = refl; step = refl });
              local = λ k us le. steps_go n k opened a b (step ++ (more.before ++ more.stop ∷ us)) (Err f) le st.other st.is (λ m le. more.local m us le);
              fault = λ places is. more.fault places is ∙ over_one more.before places (opened_by places st.places.1 st.kind) more.stop ((step_inner a b st.kind st.is).0 places st.places.1);
              begins = λ vs v.
                  let g = more.begins (vs ++ step) (postfix_step st.kind vs a b st.places.0 st.places.1 st.is v) in
                  (g.0, subst (GoesOn postfix) (append_assoc vs step (more.before ++ g.0)) g.1);
            }
        | inr t ↦
            let front : ts ≡ mark_at mark.Dot (place ts) ∷ drop 1 ts = first_is ts (kind.Mark mark.Dot) (dot_is (first_kind ts) (and_parts (is_dot (first_kind ts)) (not (is_each (first_kind (drop 1 ts)))) s.0).0) refl in
            let rest = drop 1 ts in
            let rest_ended : Ended rest = ended_rest (mark_at mark.Dot (place ts) ∷ rest) (subst Ended front ended) refl in
            let t1 : Token = token (first_kind rest) (place rest) in
            let dot : List Token = mark_at mark.Dot (place ts) ∷ [] in
            let other : not (is_each (first_kind rest)) ≡ true = (and_parts (is_dot (first_kind ts)) (not (is_each (first_kind rest))) s.0).1 in
            record {
              before = dot;
              stop = t1;
              after = drop 1 rest;
              parts = front ∙ ap (λ (us : List Token). mark_at mark.Dot (place ts) ∷ us) (some_left rest rest_ended);
              alike = λ us. subst (λ (vs : List Token). Alike vs (dot ++ t1 ∷ us)) (sym front) (record { first = refl; step = refl });
              local = λ k us le. steps_stop n k opened a (dot ++ t1 ∷ us) le other t.0 ∙ again_at opened t1 (drop 1 rest) us ∙ ap (λ (vs : List Token). Err (fault_at opened vs)) (sym (some_left rest rest_ended)) ∙ t.1;
              fault = λ places is. agrees_at opened places rest f is (err_is (fault_at opened rest) f t.1);
              begins = λ vs v. (word_at word.Id 0 ∷ [], step_behind (place ts) vs a v);
            }
      ]
      | inr s ↦ absurd (let g : Ok (a, ts) ≡ Err f = s.1 in cc)
    ]

-- ---- where an expression stops and doesn't go on

pub record Stops (opened : Option ℕ) (ts : List Token) : Type 0 where
  pub before : List Token
  pub stop : Token
  pub after : List Token
  pub parts : ts ≡ before ++ stop ∷ after
  pub alike : (more : List Token) → Alike ts (before ++ stop ∷ more)
  pub same : (more : List Token) → stops_at opened (before ++ stop ∷ more) ≡ stops_at opened ts
  pub fault : (places : List ℕ) → innermost places ≡ opened → stops_at opened ts ≡ fault_behind places stop.at stop.kind
  pub shape : (before ≡ []) ⊎ ((dot : ℕ) × (before ≡ mark_at mark.Dot dot ∷ []) × (is_each stop.kind ≡ true))

pub each_other : (k : TokenKind) → is_each k ≡ true → is_last k ≡ false
each_other kind.End h = absurd cc
each_other (kind.Fault f) h = absurd cc
each_other _ h = refl

stops_each : (opened : Option ℕ) (ts : List Token) → Ended ts → is_dot (first_kind ts) ≡ true → is_each (first_kind (drop 1 ts)) ≡ true → Stops opened ts
unfolding stops_at fault_at
stops_each opened ts ended dot each =
    let front : ts ≡ mark_at mark.Dot (place ts) ∷ drop 1 ts = first_is ts (kind.Mark mark.Dot) (dot_is (first_kind ts) dot) refl in
    let rest = drop 1 ts in
    let rest_ended : Ended rest = ended_rest (mark_at mark.Dot (place ts) ∷ rest) (subst Ended front ended) refl in
    let t1 : Token = token (first_kind rest) (place rest) in
    let here : stops_at opened ts ≡ fault_of opened (place rest) (first_kind rest) = rw (dot, each) refl in
    record {
      before = mark_at mark.Dot (place ts) ∷ [];
      stop = t1;
      after = drop 1 rest;
      parts = front ∙ ap (λ (us : List Token). mark_at mark.Dot (place ts) ∷ us) (some_left rest rest_ended);
      alike = λ us. subst (λ (vs : List Token). Alike vs (mark_at mark.Dot (place ts) ∷ t1 ∷ us)) (sym front) (record { first = refl; step = refl });
      same = λ us. (rw each refl) ∙ sym here;
      fault = λ places is. here ∙ ap (λ (o : Option ℕ). fault_of o (place rest) (first_kind rest)) (sym is) ∙ agrees places (place rest) (first_kind rest);
      shape = inr (place ts, refl, each);
    }

stops_here : (opened : Option ℕ) (ts : List Token) → Ended ts → is_dot (first_kind ts) ≡ false → Stops opened ts
unfolding stops_at fault_at
stops_here opened ts ended other =
    let front = some_left ts ended in
    let t1 : Token = token (first_kind ts) (place ts) in
    let here : stops_at opened ts ≡ fault_of opened (place ts) (first_kind ts) = rw other refl in
    record {
      before = [];
      stop = t1;
      after = drop 1 ts;
      parts = front;
      alike = λ us. subst (λ (vs : List Token). Alike vs (t1 ∷ us)) (sym front) (alike_front t1 (drop 1 ts) us other);
      same = λ us. (rw other refl) ∙ sym here;
      fault = λ places is. here ∙ ap (λ (o : Option ℕ). fault_of o (place ts) (first_kind ts)) (sym is) ∙ agrees places (place ts) (first_kind ts);
      shape = inl refl;
    }

pub stops : (opened : Option ℕ) (ts : List Token) → Ended ts → has_step ts ≡ false → Stops opened ts
stops opened ts ended none =
    elim (cases_Bool (is_dot (first_kind ts))) [
      | inl dot ↦ elim (cases_Bool (is_each (first_kind (drop 1 ts)))) [
        | inl each ↦ stops_each opened ts ended dot each
        | inr other ↦ absurd (let f : true ≡ false = sym (has_one ts dot other) ∙ none in cc)
      ]
      | inr other ↦ stops_here opened ts ended other
    ]

-- ---- by the fuel

k_last : (l : Level) → tighter l ≡ None → k_of l ≡ 3
k_last l h = ap k_of (unary_is l h)

pub record AllStuck (n : ℕ) : Type 0 where
  pub level : (opened : Option ℕ) (l : Level) (ts : List Token) (f : ExprFault) → k_of l + 16 * length ts ≤ n → Ended ts → level_at n opened l ts ≡ Err f → Stuck (λ k us. level_at k opened l us) n (at_level l) opened ts f
  pub more : (opened : Option ℕ) (l inner : Level) (left : Expr) (ts : List Token) (f : ExprFault) → tighter l ≡ Some inner → 16 * length ts ≤ n → Ended ts → more_at n opened l inner left ts ≡ Err f
      → StuckBehind (λ k us. more_at k opened l inner left us) n (at_level (left_of l inner)) (at_level l) left opened ts f
  pub unary : (opened : Option ℕ) (ts : List Token) (f : ExprFault) → 2 + 16 * length ts ≤ n → Ended ts → unary_at n opened ts ≡ Err f → Stuck (λ k us. unary_at k opened us) n unary opened ts f
  pub atom : (opened : Option ℕ) (ts : List Token) (f : ExprFault) → 16 * length ts ≤ n → Ended ts → atom_at n opened ts ≡ Err f → Stuck (λ k us. atom_at k opened us) n atom opened ts f

-- the tokens that are left behind a sentence
pub record Left (r : Rule) (ts used rest : List Token) (a : Expr) : Type 0 where
  pub len : length ts ≡ length used + length rest
  pub some : 1 ≤ length used
  pub ended : Ended rest
  pub even : Even used

pub left_behind : (r : Rule) (ts used rest : List Token) (a : Expr) → Ended ts → ts ≡ used ++ rest → Sentence r used a → Left r ts used rest a
left_behind r ts used rest a ended parts s = record {
  len = ap length parts ∙ length-append used rest;
  some = some_tokens r used a s;
  ended = ended_behind used rest (plain r used a s) (subst Ended parts ended);
  even = even r used a s;
}

pub level_stuck : (n : ℕ) → AllStuck n → (opened : Option ℕ) (l : Level) (ts : List Token) (f : ExprFault) → k_of l + 16 * length ts ≤ suc n → Ended ts → level_at (suc n) opened l ts ≡ Err f
    → Stuck (λ k us. level_at k opened l us) (suc n) (at_level l) opened ts f
unfolding level_at
level_stuck n all opened l ts f enough ended h =
    elim (if_some_is (tighter l) (λ (inner : Level). level_at n opened inner ts >>= λ (y : Pair). more_at n opened l inner y.0 y.1) (unary_at n opened ts) (Err f) h) [
      | inl s ↦
          let k = k_below l s.0 s.1 in
          elim (bind_err (level_at n opened s.0 ts) (λ (y : Pair). more_at n opened l s.0 y.0 y.1) f s.2) [
            | inl d ↦
                let inner = all.level opened s.0 ts f (omega (arith, k, enough)) ended d in
                let g = inner.begins in
                record {
                  before = inner.before;
                  stop = inner.stop;
                  after = inner.after;
                  parts = inner.parts;
                  local = λ m us le. level_stop n m opened l s.0 (inner.before ++ inner.stop ∷ us) f le s.1 (λ j lj. inner.local j us lj);
                  fault = inner.fault;
                  begins = (g.0, (g.1.0, level_one l s.0 (inner.before ++ g.0) g.1.0 s.1 g.1.1));
                }
            | inr b ↦
                let first = (all_found n).level opened s.0 ts b.0 b.1 in
                let left = left_behind (at_level s.0) ts first.used b.0.1 b.0.0 ended first.parts first.sentence in
                let small = k_small l in
                let others = all.more opened l s.0 b.0.0 b.0.1 f s.1 (omega (arith, left.len, left.some, enough)) left.ended b.2 in
                let g = others.begins first.used (begins l s.0 first.used b.0.0 s.1 first.sentence) in
                record {
                  before = first.used ++ others.before;
                  stop = others.stop;
                  after = others.after;
                  parts = first.parts ∙ ap (λ (us : List Token). first.used ++ us) others.parts ∙ sym (append_assoc first.used others.before (others.stop ∷ others.after));
                  local = λ m us le. ap (level_at m opened l) (append_assoc first.used others.before (others.stop ∷ us)) ∙ level_go n m opened l s.0 (first.used ++ (others.before ++ others.stop ∷ us)) (others.before ++ others.stop ∷ us) b.0.0 (Err f) le s.1
                      (λ j lj. first.local j (others.before ++ others.stop ∷ us) lj (others.alike us)) (λ j lj. others.local j us lj);
                  fault = λ places is. others.fault places is ∙ over_even first.used others.before places others.stop left.even;
                  begins = (g.0, subst (GoesOn (at_level l)) (sym (append_assoc first.used others.before g.0)) g.1);
                }
          ]
      | inr s ↦
          let k = k_last l s.0 in
          let u = all.unary opened ts f (omega (arith, k, enough)) ended s.1 in
          record {
            before = u.before;
            stop = u.stop;
            after = u.after;
            parts = u.parts;
            local = λ m us le. level_last n m opened l (u.before ++ u.stop ∷ us) (Err f) le s.0 (λ j lj. u.local j us lj);
            fault = u.fault;
            begins = (u.begins.0, subst (λ (m : Level). GoesOn (at_level m) (u.before ++ u.begins.0)) (sym (unary_is l s.0)) u.begins.1);
          }
    ]

pub more_stuck : (n : ℕ) → AllStuck n → (opened : Option ℕ) (l inner : Level) (left : Expr) (ts : List Token) (f : ExprFault) → tighter l ≡ Some inner → 16 * length ts ≤ suc n → Ended ts → more_at (suc n) opened l inner left ts ≡ Err f
    → StuckBehind (λ k us. more_at k opened l inner left us) (suc n) (at_level (left_of l inner)) (at_level l) left opened ts f
unfolding more_at
more_stuck n all opened l inner left ts f operands enough ended h =
    elim (if_some_is (operator_of l (first_kind ts)) (λ (o : Op). level_at n opened inner (drop 1 ts) >>= λ (y : Pair). cond (repeats l) (more_at n opened l inner (e.Binary o left y.0) y.1) (Ok (e.Binary o left y.0, y.1))) (Ok (left, ts)) (Err f) h) [
      | inl s ↦
          let o = s.0 in
          let kind : TokenKind = first_kind ts in
          let mk : Token = token kind (place ts) in
          let rest = drop 1 ts in
          let inside = operator_inner l kind o s.1 in
          let front : ts ≡ mk ∷ rest = first_is ts kind refl inside.2 in
          let len : length ts ≡ length rest + 1 = omega (arith, ap length front) in
          let rest_ended : Ended rest = ended_rest (mk ∷ rest) (subst Ended front ended) inside.1 in
          let other = operator_no_dot l kind o s.1 in
          let alike : (us : List Token) → Alike ts (mk ∷ us) = λ us. subst (λ (vs : List Token). Alike vs (mk ∷ us)) (sym front) (alike_front mk rest us other) in
          elim (bind_err (level_at n opened inner rest) (λ (y : Pair). cond (repeats l) (more_at n opened l inner (e.Binary o left y.0) y.1) (Ok (e.Binary o left y.0, y.1))) f s.2) [
            | inl d ↦
                let right = all.level opened inner rest f (omega (arith, k_small inner, len, enough)) rest_ended d in
                let g = right.begins in
                record {
                  before = mk ∷ right.before;
                  stop = right.stop;
                  after = right.after;
                  parts = front ∙ ap (λ (us : List Token). mk ∷ us) right.parts;
                  alike = λ us. alike (right.before ++ right.stop ∷ us);
                  local = λ k us le. more_stop n k opened l inner o (mk ∷ (right.before ++ right.stop ∷ us)) left f le s.1 (λ j lj. right.local j us lj);
                  fault = λ places is. right.fault places is ∙ over_one right.before places (opened_by places (place ts) kind) right.stop (inside.0 places (place ts));
                  begins = λ vs v. (g.0, (e.Binary o left g.1.0, level_operator l inner kind o vs (right.before ++ g.0) left g.1.0 (place ts) operands s.1 v g.1.1));
                }
            | inr b ↦
                let right = (all_found n).level opened inner rest b.0 b.1 in
                let left_over = left_behind (at_level inner) rest right.used b.0.1 b.0.0 rest_ended right.parts right.sentence in
                let both : Expr = e.Binary o left b.0.0 in
                let taken : List Token = mk ∷ right.used in
                let parts : ts ≡ taken ++ b.0.1 = front ∙ ap (λ (us : List Token). mk ∷ us) right.parts in
                elim (chosen (repeats l) (more_at n opened l inner both b.0.1) (Ok (both, b.0.1)) (Err f) b.2) [
                  | inl t ↦
                      let others = all.more opened l inner both b.0.1 f operands (omega (arith, len, left_over.len, left_over.some, enough)) left_over.ended t.1 in
                      record {
                        before = taken ++ others.before;
                        stop = others.stop;
                        after = others.after;
                        parts = parts ∙ ap (λ (us : List Token). taken ++ us) others.parts ∙ sym (append_assoc taken others.before (others.stop ∷ others.after));
                        alike = λ us. alike ((right.used ++ others.before) ++ others.stop ∷ us);
                        local = λ k us le. ap (more_at k opened l inner left) (append_assoc taken others.before (others.stop ∷ us)) ∙ more_go n k opened l inner o (taken ++ (others.before ++ others.stop ∷ us)) (others.before ++ others.stop ∷ us) left b.0.0 (Err f) le s.1 t.0
                            (λ j lj. right.local j (others.before ++ others.stop ∷ us) lj (others.alike us)) (λ j lj. others.local j us lj);
                        fault = λ places is. others.fault places is ∙ over_even right.used others.before places others.stop left_over.even
                            ∙ over_one (right.used ++ others.before) places (opened_by places (place ts) kind) others.stop (inside.0 places (place ts));
                        begins = λ vs v.
                            let g = others.begins (vs ++ taken) (again l inner (vs ++ taken) both t.0 (level_operator l inner kind o vs right.used left b.0.0 (place ts) operands s.1 v right.sentence)) in
                            (g.0, subst (GoesOn (at_level l)) (append_assoc vs taken (others.before ++ g.0) ∙ ap (λ (us : List Token). vs ++ us) (sym (append_assoc taken others.before g.0))) g.1);
                      }
                  | inr t ↦ absurd (let g : Ok (both, b.0.1) ≡ Err f = t.1 in cc)
                ]
          ]
      | inr s ↦ absurd (let g : Ok (left, ts) ≡ Err f = s.1 in cc)
    ]

pub unary_stuck : (n : ℕ) → AllStuck n → (opened : Option ℕ) (ts : List Token) (f : ExprFault) → 2 + 16 * length ts ≤ suc n → Ended ts → unary_at (suc n) opened ts ≡ Err f → Stuck (λ k us. unary_at k opened us) (suc n) unary opened ts f
unfolding unary_at
unary_stuck n all opened ts f enough ended h =
    elim (if_some_is (sign_of (first_kind ts)) (λ (s : Sign). unary_at n opened (drop 1 ts) >>= λ (y : Pair). Ok (signed s y.0, y.1)) (atom_at n opened ts >>= λ (y : Pair). steps_at n opened y.0 y.1) (Err f) h) [
      | inl s ↦
          let kind : TokenKind = first_kind ts in
          let mk : Token = token kind (place ts) in
          let rest = drop 1 ts in
          let inside = sign_inner kind s.0 s.1 in
          let front : ts ≡ mk ∷ rest = first_is ts kind refl inside.2 in
          let len : length ts ≡ length rest + 1 = omega (arith, ap length front) in
          let rest_ended : Ended rest = ended_rest (mk ∷ rest) (subst Ended front ended) inside.1 in
          elim (bind_err (unary_at n opened rest) (λ (y : Pair). Ok (signed s.0 y.0, y.1)) f s.2) [
            | inl d ↦
                let inner = all.unary opened rest f (omega (arith, len, enough)) rest_ended d in
                let g = inner.begins in
                record {
                  before = mk ∷ inner.before;
                  stop = inner.stop;
                  after = inner.after;
                  parts = front ∙ ap (λ (us : List Token). mk ∷ us) inner.parts;
                  local = λ k us le. unary_sign_stop n k opened s.0 (mk ∷ (inner.before ++ inner.stop ∷ us)) f le s.1 (λ j lj. inner.local j us lj);
                  fault = λ places is. inner.fault places is ∙ over_one inner.before places (opened_by places (place ts) kind) inner.stop (inside.0 places (place ts));
                  begins = (g.0, (signed s.0 g.1.0, unary_signed kind s.0 (inner.before ++ g.0) g.1.0 (place ts) s.1 g.1.1));
                }
            | inr b ↦ absurd (let g : Ok (signed s.0 b.0.0, b.0.1) ≡ Err f = b.2 in cc)
          ]
      | inr s ↦
          elim (bind_err (atom_at n opened ts) (λ (y : Pair). steps_at n opened y.0 y.1) f s.1) [
            | inl d ↦
                let inner = all.atom opened ts f (omega (arith, enough)) ended d in
                let g = inner.begins in
                record {
                  before = inner.before;
                  stop = inner.stop;
                  after = inner.after;
                  parts = inner.parts;
                  local = λ k us le. unary_stop n k opened (inner.before ++ inner.stop ∷ us) f le (ap sign_of (first_same inner.before inner.stop inner.after us ∙ ap first_kind (sym inner.parts)) ∙ s.0) (λ j lj. inner.local j us lj);
                  fault = inner.fault;
                  begins = (g.0, (g.1.0, unary_one (inner.before ++ g.0) g.1.0 (postfix_one (inner.before ++ g.0) g.1.0 g.1.1)));
                }
            | inr b ↦
                let first = (all_found n).atom opened ts b.0 b.1 in
                let left = left_behind atom ts first.used b.0.1 b.0.0 ended first.parts first.sentence in
                let others = steps_stuck n opened b.0.0 b.0.1 f (omega (arith, left.len, left.some, enough)) left.ended b.2 in
                let g = others.begins first.used (postfix_one first.used b.0.0 first.sentence) in
                let whole : List Token = first.used ++ others.before in
                let parts : ts ≡ whole ++ others.stop ∷ others.after = first.parts ∙ ap (λ (us : List Token). first.used ++ us) others.parts ∙ sym (append_assoc first.used others.before (others.stop ∷ others.after)) in
                record {
                  before = whole;
                  stop = others.stop;
                  after = others.after;
                  parts = parts;
                  local = λ k us le.
                      let none : sign_of (first_kind (whole ++ others.stop ∷ us)) ≡ None = ap sign_of (first_same whole others.stop others.after us ∙ ap first_kind (sym parts)) ∙ s.0 in
                      let grouped = append_assoc first.used others.before (others.stop ∷ us) in
                      ap (unary_at k opened) grouped ∙ unary_go n k opened (first.used ++ (others.before ++ others.stop ∷ us)) (others.before ++ others.stop ∷ us) b.0.0 (Err f) le (ap (λ (vs : List Token). sign_of (first_kind vs)) (sym grouped) ∙ none)
                      (λ j lj. first.local j (others.before ++ others.stop ∷ us) lj (others.alike us)) (λ j lj. others.local j us lj);
                  fault = λ places is. others.fault places is ∙ over_even first.used others.before places others.stop left.even;
                  begins = (g.0, (g.1.0, subst (λ (us : List Token). Sentence unary us g.1.0) (sym (append_assoc first.used others.before g.0)) (unary_one (first.used ++ (others.before ++ g.0)) g.1.0 g.1.1)));
                }
          ]
    ]
