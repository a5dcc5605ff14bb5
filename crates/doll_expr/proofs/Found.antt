-- What is read is a sentence of the grammar.
use Rattle.std.proofs.Common.{◌≡◌, ◌≤◌, ℕ, zero, suc, true, false, not, cond, ◌&&◌, List, [], ◌∷◌, ◌++◌, length, drop, eqb, Option, Some, None, Ok, Err, refl, sym, ap, subst, ◌∙◌, inl, inr, append_assoc, arith}
use Rattle.std.proofs.lemmas.Bool.{and_parts, eqb-true}
use Rattle.std.proofs.lemmas.List.{append-nil}
use Rattle.doll_expr.specs.declared.expr.Expr.{Expr}
use Rattle.doll_expr.specs.declared.expr.Expr.TheVariants as e
use Rattle.doll_expr.specs.declared.expr.Op.{Op}
use Rattle.doll_expr.specs.declared.level.Level.{Level}
use Rattle.doll_expr.specs.declared.level.Level.TheVariants as level
use Rattle.doll_expr.specs.declared.level.Sign.{Sign}
use Rattle.doll_expr.specs.declared.token.Mark.TheVariants as mark
use Rattle.doll_expr.specs.declared.token.Token.{Token}
use Rattle.doll_expr.specs.declared.token.TokenKind.{TokenKind}
use Rattle.doll_expr.specs.declared.token.TokenKind.TheVariants as kind
use Rattle.doll_expr.specs.Tokens.{is_dot, token, tokens_of}
use Rattle.doll_expr.specs.Grammar.{is_each, Rule, at_level, expr, unary, postfix, atom, Sentence, AreExpr, IsExpr, mark_at, level_operator, unary_one, unary_signed, postfix_one, postfix_step, atom_token, atom_parentheses}
use Rattle.doll_expr.specs.Reading.{is_open, is_close, is_end, first_kind, place, has_step, fault_at, stops_at, close_at, steps_at, level_at, more_at, unary_at, atom_at, enough_fuel, expr_at, whole_of, expr_of, ◌>>=◌, Read}
use Rattle.doll_expr.specs.Levels.{left_of, tighter, repeats, operator_of, sign_of, signed, literal, step_of}
use Rattle.doll_expr.proofs.Fuel.{Alike, alike_append, steps_go, steps_end, level_go, level_last, more_go, more_last, more_none, unary_sign, unary_go, atom_literal, atom_open}
use Rattle.doll_expr.proofs.Rules.{unary_is, begins, ends, again, first_is, operator_inner, sign_inner, literal_inner, step_inner, dot_is, open_is, close_is, end_is, bind_ok, if_some_is, chosen, ok_is}

abbrev pub Pair : Type 0
Pair = Expr × List Token

-- Tokens that are used up and are a sentence, and the tree and the rest. The reading gives the same with more fuel and before
-- other tokens that are alike. P is what must hold for the rest not to begin with a step.
pub record Found (R : ℕ → List Token → Read) (n : ℕ) (P : Type 0) (r : Rule) (ts : List Token) (x : Pair) : Type 0 where
  pub used : List Token
  pub parts : ts ≡ used ++ x.1
  pub sentence : Sentence r used x.0
  pub ended : P → has_step x.1 ≡ false
  pub local : (k : ℕ) (rest : List Token) → n ≤ k → Alike x.1 rest → R k (used ++ rest) ≡ Ok (x.0, rest)

-- the same of tokens that make a sentence together with those of the tree on their left
pub record Goes (R : ℕ → List Token → Read) (n : ℕ) (P : Type 0) (before after : Rule) (left : Expr) (ts : List Token) (x : Pair) : Type 0 where
  pub used : List Token
  pub parts : ts ≡ used ++ x.1
  pub sentence : (vs : List Token) → Sentence before vs left → Sentence after (vs ++ used) x.0
  pub ended : P → has_step x.1 ≡ false
  pub local : (k : ℕ) (rest : List Token) → n ≤ k → Alike x.1 rest → R k (used ++ rest) ≡ Ok (x.0, rest)

pub alike_here : (ts used rest more : List Token) → ts ≡ used ++ rest → Alike rest more → Alike ts (used ++ more)
alike_here ts used rest more parts alike = rw parts (alike_append used rest more alike)

-- a step behind a dot, as the reading sees it in these tokens
pub record Step (a b : Expr) (ts : List Token) : Type 0 where
  pub kind : TokenKind
  pub places : ℕ × ℕ
  pub front : ts ≡ mark_at mark.Dot places.0 ∷ token kind places.1 ∷ drop 1 (drop 1 ts)
  pub other : not (is_each kind) ≡ true
  pub is : step_of a kind ≡ Some b

pub step_is : (a b : Expr) (ts : List Token) → has_step ts ≡ true → step_of a (first_kind (drop 1 ts)) ≡ Some b → Step a b ts
step_is a b ts has is =
    let k = first_kind (drop 1 ts) in
    let both = and_parts (is_dot (first_kind ts)) (not (is_each k)) has in
    let front : ts ≡ mark_at mark.Dot (place ts) ∷ drop 1 ts = first_is ts (kind.Mark mark.Dot) (dot_is (first_kind ts) both.0) refl in
    let second : drop 1 ts ≡ token k (place (drop 1 ts)) ∷ drop 1 (drop 1 ts) = first_is (drop 1 ts) k refl (step_inner a b k is).2 in
    record { kind = k; places = (place ts, place (drop 1 ts)); front = front ∙ ap (λ (us : List Token). mark_at mark.Dot (place ts) ∷ us) second; other = both.1; is = is }

pub steps_found : (n : ℕ) (opened : Option ℕ) (a : Expr) (ts : List Token) (x : Pair) → steps_at n opened a ts ≡ Ok x → Goes (λ k us. steps_at k opened a us) n (Unit {0}) postfix postfix a ts x
unfolding steps_at
steps_found zero opened a ts x h = absurd cc
steps_found (suc n) opened a ts x h =
    elim (chosen (has_step ts) _ (Ok (a, ts)) (Ok x) h) [
      | inl s ↦ elim (if_some_is (step_of a (first_kind (drop 1 ts))) (λ (b : Expr). steps_at n opened b (drop 1 (drop 1 ts))) (Err (fault_at opened (drop 1 ts))) (Ok x) s.1) [
        | inl t ↦
            let b = t.0 in
            let st = step_is a b ts s.0 t.1 in
            let more = steps_found n opened b (drop 1 (drop 1 ts)) x t.2 in
            let step : List Token = mark_at mark.Dot st.places.0 ∷ token st.kind st.places.1 ∷ [] in
            record {
              used = step ++ more.used;
              parts = st.front ∙ ap (λ (us : List Token). step ++ us) more.parts;
              sentence = λ vs v. subst (λ (us : List Token). Sentence postfix us x.0) (append_assoc vs step more.used) (more.sentence (vs ++ step) (postfix_step st.kind vs a b st.places.0 st.places.1 st.is v));
              ended = more.ended;
              local = λ k rest enough alike. steps_go n k opened a b (step ++ (more.used ++ rest)) (Ok (x.0, rest)) enough st.other st.is (λ m le. more.local m rest le alike);
            }
        | inr t ↦ absurd (let f : Err (fault_at opened (drop 1 ts)) ≡ Ok x = t.1 in cc)
      ]
      | inr s ↦ subst (Goes (λ k us. steps_at k opened a us) (suc n) (Unit {0}) postfix postfix a ts) (ok_is (a, ts) x s.1) (record {
        used = [];
        parts = refl;
        sentence = λ vs t. subst (λ (us : List Token). Sentence postfix us a) (sym (append-nil vs)) t;
        ended = λ _. s.0;
        local = λ k rest enough alike. steps_end n k opened a rest enough (sym alike.step ∙ s.0);
      })
    ]

-- what holds with this much fuel
pub record AllFound (n : ℕ) : Type 0 where
  pub level : (opened : Option ℕ) (l : Level) (ts : List Token) (x : Pair) → level_at n opened l ts ≡ Ok x → Found (λ k us. level_at k opened l us) n (Unit {0}) (at_level l) ts x
  pub more : (opened : Option ℕ) (l inner : Level) (left : Expr) (ts : List Token) (x : Pair) → tighter l ≡ Some inner → more_at n opened l inner left ts ≡ Ok x
      → Goes (λ k us. more_at k opened l inner left us) n (has_step ts ≡ false) (at_level (left_of l inner)) (at_level l) left ts x
  pub unary : (opened : Option ℕ) (ts : List Token) (x : Pair) → unary_at n opened ts ≡ Ok x → Found (λ k us. unary_at k opened us) n (Unit {0}) unary ts x
  pub atom : (opened : Option ℕ) (ts : List Token) (x : Pair) → atom_at n opened ts ≡ Ok x → Found (λ k us. atom_at k opened us) n ⊥ atom ts x

level_found : (n : ℕ) → AllFound n → (opened : Option ℕ) (l : Level) (ts : List Token) (x : Pair) → level_at (suc n) opened l ts ≡ Ok x → Found (λ k us. level_at k opened l us) (suc n) (Unit {0}) (at_level l) ts x
unfolding level_at
level_found n all opened l ts x h =
    elim (if_some_is (tighter l) (λ (inner : Level). level_at n opened inner ts >>= λ (y : Pair). more_at n opened l inner y.0 y.1) (unary_at n opened ts) (Ok x) h) [
      | inl s ↦
          let b = bind_ok (level_at n opened s.0 ts) (λ (y : Pair). more_at n opened l s.0 y.0 y.1) x s.2 in
          let first = all.level opened s.0 ts b.0 b.1 in
          let others = all.more opened l s.0 b.0.0 b.0.1 x s.1 b.2 in
          record {
            used = first.used ++ others.used;
            parts = first.parts ∙ ap (λ (us : List Token). first.used ++ us) others.parts ∙ sym (append_assoc first.used others.used x.1);
            sentence = others.sentence first.used (begins l s.0 first.used b.0.0 s.1 first.sentence);
            ended = λ _. others.ended (first.ended tt);
            local = λ k rest enough alike. ap (level_at k opened l) (append_assoc first.used others.used rest) ∙ level_go n k opened l s.0 (first.used ++ (others.used ++ rest)) (others.used ++ rest) b.0.0 (Ok (x.0, rest)) enough s.1
                (λ m le. first.local m (others.used ++ rest) le (alike_here b.0.1 others.used x.1 rest others.parts alike)) (λ m le. others.local m rest le alike);
          }
      | inr s ↦
          let u = all.unary opened ts x s.1 in
          record {
            used = u.used;
            parts = u.parts;
            sentence = subst (λ (m : Level). Sentence (at_level m) u.used x.0) (sym (unary_is l s.0)) u.sentence;
            ended = u.ended;
            local = λ k rest enough alike. level_last n k opened l (u.used ++ rest) (Ok (x.0, rest)) enough s.0 (λ m le. u.local m rest le alike);
          }
    ]

more_found : (n : ℕ) → AllFound n → (opened : Option ℕ) (l inner : Level) (left : Expr) (ts : List Token) (x : Pair) → tighter l ≡ Some inner → more_at (suc n) opened l inner left ts ≡ Ok x
    → Goes (λ k us. more_at k opened l inner left us) (suc n) (has_step ts ≡ false) (at_level (left_of l inner)) (at_level l) left ts x
unfolding more_at
more_found n all opened l inner left ts x operands h =
    elim (if_some_is (operator_of l (first_kind ts)) (λ (o : Op). level_at n opened inner (drop 1 ts) >>= λ (y : Pair). cond (repeats l) (more_at n opened l inner (e.Binary o left y.0) y.1) (Ok (e.Binary o left y.0, y.1))) (Ok (left, ts)) (Ok x) h) [
      | inl s ↦
          let o = s.0 in
          let b = bind_ok (level_at n opened inner (drop 1 ts)) (λ (y : Pair). cond (repeats l) (more_at n opened l inner (e.Binary o left y.0) y.1) (Ok (e.Binary o left y.0, y.1))) x s.2 in
          let k = first_kind ts in
          let front : ts ≡ token k (place ts) ∷ drop 1 ts = first_is ts k refl (operator_inner l k o s.1).2 in
          let right = all.level opened inner (drop 1 ts) b.0 b.1 in
          let both : Expr = e.Binary o left b.0.0 in
          let taken : List Token = token k (place ts) ∷ right.used in
          let parts : ts ≡ taken ++ b.0.1 = front ∙ ap (λ (us : List Token). token k (place ts) ∷ us) right.parts in
          elim (chosen (repeats l) (more_at n opened l inner both b.0.1) (Ok (both, b.0.1)) (Ok x) b.2) [
            | inl t ↦
                let others = all.more opened l inner both b.0.1 x operands t.1 in
                record {
                  used = taken ++ others.used;
                  parts = parts ∙ ap (λ (us : List Token). taken ++ us) others.parts ∙ sym (append_assoc taken others.used x.1);
                  sentence = λ vs v. subst (λ (us : List Token). Sentence (at_level l) us x.0) (append_assoc vs taken others.used)
                      (others.sentence (vs ++ taken) (again l inner (vs ++ taken) both t.0 (level_operator l inner k o vs right.used left b.0.0 (place ts) operands s.1 v right.sentence)));
                  ended = λ _. others.ended (right.ended tt);
                  local = λ turns rest enough alike. ap (more_at turns opened l inner left) (append_assoc taken others.used rest) ∙ more_go n turns opened l inner o (taken ++ (others.used ++ rest)) (others.used ++ rest) left b.0.0 (Ok (x.0, rest)) enough s.1 t.0
                      (λ j le. right.local j (others.used ++ rest) le (alike_here b.0.1 others.used x.1 rest others.parts alike)) (λ j le. others.local j rest le alike);
                }
            | inr t ↦ subst (Goes (λ k us. more_at k opened l inner left us) (suc n) (has_step ts ≡ false) (at_level (left_of l inner)) (at_level l) left ts) (ok_is (both, b.0.1) x t.1) (record {
              used = taken;
              parts = parts;
              sentence = λ vs v. level_operator l inner k o vs right.used left b.0.0 (place ts) operands s.1 v right.sentence;
              ended = λ _. right.ended tt;
              local = λ turns rest enough alike. more_last n turns opened l inner o (taken ++ rest) rest left b.0.0 enough s.1 t.0 (λ j le. right.local j rest le alike);
            })
          ]
      | inr s ↦ subst (Goes (λ k us. more_at k opened l inner left us) (suc n) (has_step ts ≡ false) (at_level (left_of l inner)) (at_level l) left ts) (ok_is (left, ts) x s.1) (record {
        used = [];
        parts = refl;
        sentence = λ vs v. subst (λ (us : List Token). Sentence (at_level l) us left) (sym (append-nil vs)) (ends l inner vs left operands v);
        ended = λ none. none;
        local = λ k rest enough alike. more_none n k opened l inner rest left enough (ap (operator_of l) (sym alike.first) ∙ s.0);
      })
    ]

unary_found : (n : ℕ) → AllFound n → (opened : Option ℕ) (ts : List Token) (x : Pair) → unary_at (suc n) opened ts ≡ Ok x → Found (λ k us. unary_at k opened us) (suc n) (Unit {0}) unary ts x
unfolding unary_at
unary_found n all opened ts x h =
    elim (if_some_is (sign_of (first_kind ts)) (λ (s : Sign). unary_at n opened (drop 1 ts) >>= λ (y : Pair). Ok (signed s y.0, y.1)) (atom_at n opened ts >>= λ (y : Pair). steps_at n opened y.0 y.1) (Ok x) h) [
      | inl s ↦
          let b = bind_ok (unary_at n opened (drop 1 ts)) (λ (y : Pair). Ok (signed s.0 y.0, y.1)) x s.2 in
          let k = first_kind ts in
          let front : ts ≡ token k (place ts) ∷ drop 1 ts = first_is ts k refl (sign_inner k s.0 s.1).2 in
          let inner = all.unary opened (drop 1 ts) b.0 b.1 in
          subst (Found (λ k us. unary_at k opened us) (suc n) (Unit {0}) unary ts) (ok_is (signed s.0 b.0.0, b.0.1) x b.2) (record {
            used = token k (place ts) ∷ inner.used;
            parts = front ∙ ap (λ (us : List Token). token k (place ts) ∷ us) inner.parts;
            sentence = unary_signed k s.0 inner.used b.0.0 (place ts) s.1 inner.sentence;
            ended = inner.ended;
            local = λ turns rest enough alike. unary_sign n turns opened s.0 (token k (place ts) ∷ (inner.used ++ rest)) rest b.0.0 enough s.1 (λ m le. inner.local m rest le alike);
          })
      | inr s ↦
          let b = bind_ok (atom_at n opened ts) (λ (y : Pair). steps_at n opened y.0 y.1) x s.1 in
          let first = all.atom opened ts b.0 b.1 in
          let others = steps_found n opened b.0.0 b.0.1 x b.2 in
          record {
            used = first.used ++ others.used;
            parts = first.parts ∙ ap (λ (us : List Token). first.used ++ us) others.parts ∙ sym (append_assoc first.used others.used x.1);
            sentence = unary_one (first.used ++ others.used) x.0 (others.sentence first.used (postfix_one first.used b.0.0 first.sentence));
            ended = others.ended;
            local = λ k rest enough alike.
                let here = alike_here b.0.1 others.used x.1 rest others.parts alike in
                let whole : Alike ts (first.used ++ (others.used ++ rest)) = alike_here ts first.used b.0.1 (others.used ++ rest) first.parts here in
                ap (unary_at k opened) (append_assoc first.used others.used rest) ∙ unary_go n k opened (first.used ++ (others.used ++ rest)) (others.used ++ rest) b.0.0 (Ok (x.0, rest)) enough (ap sign_of (sym whole.first) ∙ s.0)
                (λ m le. first.local m (others.used ++ rest) le here) (λ m le. others.local m rest le alike);
          }
    ]

-- the parenthesis that closes, as the reading sees it
pub close_found : (opened : ℕ) (ts rest : List Token) → close_at opened ts ≡ Ok rest → ts ≡ mark_at mark.Close (place ts) ∷ rest
unfolding close_at
close_found opened ts rest h =
    elim (chosen (is_close (first_kind ts)) (Ok (drop 1 ts)) (Err (stops_at (Some opened) ts)) (Ok rest) h) [
      | inl u ↦ first_is ts (kind.Mark mark.Close) (close_is (first_kind ts) u.0) refl ∙ ap (λ (us : List Token). mark_at mark.Close (place ts) ∷ us) (ok_is (drop 1 ts) rest u.1)
      | inr u ↦ absurd (let f : Err (stops_at (Some opened) ts) ≡ Ok rest = u.1 in cc)
    ]

close_again : (opened at : ℕ) (rest : List Token) → close_at opened (mark_at mark.Close at ∷ rest) ≡ Ok rest
unfolding close_at
close_again opened at rest = refl

atom_found : (n : ℕ) → AllFound n → (opened : Option ℕ) (ts : List Token) (x : Pair) → atom_at (suc n) opened ts ≡ Ok x → Found (λ k us. atom_at k opened us) (suc n) ⊥ atom ts x
unfolding atom_at
atom_found n all opened ts x h =
    elim (if_some_is (literal (first_kind ts)) (λ (a : Expr). Ok (a, drop 1 ts)) (cond (is_open (first_kind ts)) (level_at n (Some (place ts)) level.Or (drop 1 ts) >>= λ (y : Pair). close_at (place ts) y.1 >>= λ (rest : List Token). Ok (y.0, rest)) (Err (fault_at opened ts))) (Ok x) h) [
      | inl s ↦
          let k = first_kind ts in
          subst (Found (λ k us. atom_at k opened us) (suc n) ⊥ atom ts) (ok_is (s.0, drop 1 ts) x s.2) (record {
            used = token k (place ts) ∷ [];
            parts = first_is ts k refl (literal_inner k s.0 s.1).2;
            sentence = atom_token k s.0 (place ts) s.1;
            ended = λ never. absurd never;
            local = λ m rest enough alike. atom_literal n m opened (token k (place ts) ∷ rest) s.0 enough s.1;
          })
      | inr s ↦
          elim (chosen (is_open (first_kind ts)) (level_at n (Some (place ts)) level.Or (drop 1 ts) >>= λ (y : Pair). close_at (place ts) y.1 >>= λ (rest : List Token). Ok (y.0, rest)) (Err (fault_at opened ts)) (Ok x) s.1) [
            | inl t ↦
                let b = bind_ok (level_at n (Some (place ts)) level.Or (drop 1 ts)) (λ (y : Pair). close_at (place ts) y.1 >>= λ (rest : List Token). Ok (y.0, rest)) x t.1 in
                let c = bind_ok (close_at (place ts) b.0.1) (λ (rest : List Token). Ok (b.0.0, rest)) x b.2 in
                let front : ts ≡ mark_at mark.Open (place ts) ∷ drop 1 ts = first_is ts (kind.Mark mark.Open) (open_is (first_kind ts) t.0) refl in
                let inner = all.level (Some (place ts)) level.Or (drop 1 ts) b.0 b.1 in
                let last = close_found (place ts) b.0.1 c.0 c.1 in
                let closing : List Token = mark_at mark.Close (place b.0.1) ∷ [] in
                subst (Found (λ k us. atom_at k opened us) (suc n) ⊥ atom ts) (ok_is (b.0.0, c.0) x c.2) (record {
                  used = mark_at mark.Open (place ts) ∷ (inner.used ++ closing);
                  parts = front ∙ ap (λ (us : List Token). mark_at mark.Open (place ts) ∷ us) (inner.parts ∙ ap (λ (us : List Token). inner.used ++ us) last ∙ sym (append_assoc inner.used closing c.0));
                  sentence = atom_parentheses inner.used b.0.0 (place ts) (place b.0.1) inner.sentence;
                  ended = λ never. absurd never;
                  local = λ m rest enough alike.
                      let same : Alike b.0.1 (closing ++ rest) = rw last (record { first = refl; step = refl }) in
                      ap (λ (us : List Token). atom_at m opened (mark_at mark.Open (place ts) ∷ us)) (append_assoc inner.used closing rest)
                      ∙ atom_open n m opened (mark_at mark.Open (place ts) ∷ (inner.used ++ (closing ++ rest))) (closing ++ rest) rest b.0.0 enough refl refl (λ j le. inner.local j (closing ++ rest) le same) (close_again (place ts) (place b.0.1) rest);
                })
            | inr t ↦ absurd (let f : Err (fault_at opened ts) ≡ Ok x = t.1 in cc)
          ]
    ]

none_found : AllFound zero
unfolding level_at more_at unary_at atom_at
none_found = record { level = λ opened l ts x h. absurd cc; more = λ opened l inner left ts x o h. absurd cc; unary = λ opened ts x h. absurd cc; atom = λ opened ts x h. absurd cc }

pub all_found : (n : ℕ) → AllFound n
all_found zero = none_found
all_found (suc n) =
    let all = all_found n in
    record { level = level_found n all; more = more_found n all; unary = unary_found n all; atom = atom_found n all }

-- an expression at the front of tokens
pub expr_found : (ts : List Token) (x : Pair) → expr_at ts ≡ Ok x → Found (λ k us. level_at k None level.Or us) enough_fuel (Unit {0}) expr ts x
unfolding expr_at
expr_found ts x h = (all_found enough_fuel).level None level.Or ts x h

alone : (ts : List Token) → is_end (first_kind ts) ≡ true → length ts ≡ 1 → ts ≡ token kind.End (place ts) ∷ []
alone [] last one = absurd (omega arith)
alone (t ∷ []) last one = ap (λ k. token k t.at ∷ []) (end_is t.kind last)
alone (t ∷ u ∷ ts) last one = absurd (omega arith)

pub whole_found : (ts : List Token) (a : Expr) → whole_of ts ≡ Ok a → AreExpr ts a
unfolding whole_of
whole_found ts a h =
    let b = bind_ok (expr_at ts) (λ (x : Pair). cond (is_end (first_kind x.1) && eqb (length x.1) 1) (Ok x.0) (Err (stops_at None x.1))) a h in
    let found = expr_found ts b.0 b.1 in
    elim (chosen (is_end (first_kind b.0.1) && eqb (length b.0.1) 1) (Ok b.0.0) (Err (stops_at None b.0.1)) (Ok a) b.2) [
      | inl s ↦
          let both = and_parts (is_end (first_kind b.0.1)) (eqb (length b.0.1) 1) s.0 in
          (found.used, place b.0.1, found.parts ∙ ap (λ (us : List Token). found.used ++ us) (alone b.0.1 both.0 (eqb-true _ _ both.1)), subst (Sentence expr found.used) (ok_is b.0.0 a s.1) found.sentence)
      | inr s ↦ absurd (let f : Err (stops_at None b.0.1) ≡ Ok a = s.1 in cc)
    ]

pub text_found : (text : List ℕ) (a : Expr) → expr_of text ≡ Ok a → IsExpr text a
unfolding expr_of
text_found text a h = whole_found (tokens_of text) a h
