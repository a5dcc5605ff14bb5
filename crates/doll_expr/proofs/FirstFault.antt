-- The fault of a text is that of its first token with which no sentence goes on.
use Rattle.std.proofs.Common.{◌≡◌, ◌≤◌, ◌+◌, ◌*◌, ℕ, zero, suc, true, false, cond, ◌&&◌, eqb, List, [], ◌∷◌, ◌++◌, length, drop, Option, Some, None, Result, Ok, Err, refl, sym, ap, subst, ◌∙◌, inl, inr, ◌⊎◌, append_assoc, arith}
use Rattle.std.proofs.lemmas.Bool.{and_from}
use Rattle.std.proofs.lemmas.List.{append-nil, length-append}
use Rattle.doll_expr.specs.declared.expr.Expr.{Expr}
use Rattle.doll_expr.specs.declared.expr.Expr.TheVariants as e
use Rattle.doll_expr.specs.declared.expr.ExprFault.{ExprFault}
use Rattle.doll_expr.specs.declared.expr.ExprFault.TheVariants.{Memory}
use Rattle.doll_expr.specs.declared.level.Level.TheVariants as level
use Rattle.doll_expr.specs.declared.token.Mark.TheVariants as mark
use Rattle.doll_text.specs.declared.words.Word.TheVariants as word
use Rattle.doll_expr.specs.declared.token.Token.{Token}
use Rattle.doll_expr.specs.declared.token.TokenKind.{TokenKind}
use Rattle.doll_expr.specs.declared.token.TokenKind.TheVariants as kind
use Rattle.doll_text.specs.Gives.{Gives}
use Rattle.doll_expr.specs.Tokens.{is_last, token, tokens_of}
use Rattle.doll_expr.specs.Grammar.{expr, atom, Sentence, is_each, mark_at, word_at, atom_token, atom_parentheses}
use Rattle.doll_expr.specs.Reading.{is_open, is_close, is_end, first_kind, place, fault_at, stops_at, close_at, level_at, atom_at, enough_fuel, expr_at, whole_of, expr_of, ◌>>=◌}
use Rattle.doll_expr.specs.Levels.{literal}
use Rattle.doll_expr.specs.Faults.{opened_after, fault_behind, IsFirstFault, Faults}
use Rattle.doll_expr.proofs.Rules.{first_is, open_is, if_some_is, chosen, ok_is}
use Rattle.doll_expr.proofs.Fuel.{atom_open_stop, atom_close_stop, atom_stop}
use Rattle.doll_expr.proofs.Found.{Pair, all_found, expr_found}
use Rattle.doll_expr.proofs.Only.{sentence_reads, enough, few_tokens_of}
use Rattle.doll_expr.proofs.Shapes.{GoesOn, goes_on}
use Rattle.doll_expr.proofs.Ended.{Ended, ended_rest, some_left, last_left, text_ended}
use Rattle.doll_expr.proofs.Stuck.{bind_err, agrees_at, err_is, over_even, again_at, each_other, Stuck, stops, AllStuck, left_behind, level_stuck, more_stuck, unary_stuck}

close_err : (opened : ℕ) (ts : List Token) (f : ExprFault) → close_at opened ts ≡ Err f → (is_close (first_kind ts) ≡ false) × (stops_at (Some opened) ts ≡ f)
unfolding close_at
close_err opened ts f h =
    elim (chosen (is_close (first_kind ts)) (Ok (drop 1 ts)) (Err (stops_at (Some opened) ts)) (Err f) h) [
      | inl u ↦ absurd (let g : Ok (drop 1 ts) ≡ Err f = u.1 in cc)
      | inr u ↦ (u.0, (let g : Err (stops_at (Some opened) ts) ≡ Err f = u.1 in cc))
    ]

close_stop : (opened : ℕ) (ts : List Token) (f : ExprFault) → is_close (first_kind ts) ≡ false → stops_at (Some opened) ts ≡ f → close_at opened ts ≡ Err f
unfolding close_at
close_stop opened ts f other is = rw (other, is) refl

-- ---- in parentheses

abbrev Shape : List Token → Token → Type 0
Shape before stop = (before ≡ []) ⊎ ((dot : ℕ) × (before ≡ mark_at mark.Dot dot ∷ []) × (is_each stop.kind ≡ true))

even_shape : (before : List Token) (stop : Token) (places : List ℕ) → Shape before stop → opened_after places before ≡ places
even_shape before stop places (inl none) = ap (opened_after places) none
even_shape before stop places (inr one) = ap (opened_after places) one.1

-- a sentence, what stopped behind it, and a sentence that goes on
sentence_begins : (used before : List Token) (a : Expr) (stop : Token) → Shape before stop → Sentence expr used a → (more : List Token) × GoesOn expr ((used ++ before) ++ more)
sentence_begins used before a stop (inl none) s =
    ([], (a, subst (λ (us : List Token). Sentence expr us a) (sym (append-nil (used ++ before) ∙ ap (λ (us : List Token). used ++ us) none ∙ append-nil used)) s))
sentence_begins used before a stop (inr one) s =
    let g = goes_on one.0 expr used a s in
    let id : List Token = word_at word.Id 0 ∷ [] in
    (id, subst (GoesOn expr) (sym (ap (λ (us : List Token). (used ++ us) ++ id) one.1 ∙ append_assoc used (mark_at mark.Dot one.0 ∷ []) id)) g)

in_parentheses : (place : ℕ) (before more : List Token) → GoesOn expr (before ++ more) → GoesOn atom ((mark_at mark.Open place ∷ before) ++ (more ++ mark_at mark.Close 0 ∷ []))
in_parentheses place before more g =
    (g.0, subst (λ (us : List Token). Sentence atom (mark_at mark.Open place ∷ us) g.0) (append_assoc before more (mark_at mark.Close 0 ∷ [])) (atom_parentheses (before ++ more) g.0 place 0 g.1))

atom_stuck : (n : ℕ) → AllStuck n → (opened : Option ℕ) (ts : List Token) (f : ExprFault) → 16 * length ts ≤ suc n → Ended ts → atom_at (suc n) opened ts ≡ Err f → Stuck (λ k us. atom_at k opened us) (suc n) atom opened ts f
unfolding atom_at
atom_stuck n all opened ts f enough ended h =
    elim (if_some_is (literal (first_kind ts)) (λ (a : Expr). Ok (a, drop 1 ts)) (cond (is_open (first_kind ts)) (level_at n (Some (place ts)) level.Or (drop 1 ts) >>= λ (y : Pair). close_at (place ts) y.1 >>= λ (rest : List Token). Ok (y.0, rest)) (Err (fault_at opened ts))) (Err f) h) [
      | inl s ↦ absurd (let g : Ok (s.0, drop 1 ts) ≡ Err f = s.2 in cc)
      | inr s ↦
          elim (chosen (is_open (first_kind ts)) (level_at n (Some (place ts)) level.Or (drop 1 ts) >>= λ (y : Pair). close_at (place ts) y.1 >>= λ (rest : List Token). Ok (y.0, rest)) (Err (fault_at opened ts)) (Err f) s.1) [
            | inl t ↦
                let p = place ts in
                let mk : Token = mark_at mark.Open p in
                let rest = drop 1 ts in
                let front : ts ≡ mk ∷ rest = first_is ts (kind.Mark mark.Open) (open_is (first_kind ts) t.0) refl in
                let len : length ts ≡ length rest + 1 = omega (arith, ap length front) in
                let rest_ended : Ended rest = ended_rest (mk ∷ rest) (subst Ended front ended) refl in
                elim (bind_err (level_at n (Some p) level.Or rest) (λ (y : Pair). close_at p y.1 >>= λ (others : List Token). Ok (y.0, others)) f t.1) [
                  | inl d ↦
                      let inner = all.level (Some p) level.Or rest f (omega (arith, len, enough)) rest_ended d in
                      record {
                        before = mk ∷ inner.before;
                        stop = inner.stop;
                        after = inner.after;
                        parts = front ∙ ap (λ (us : List Token). mk ∷ us) inner.parts;
                        local = λ k us le. atom_open_stop n k opened (mk ∷ (inner.before ++ inner.stop ∷ us)) f le refl refl (λ j lj. inner.local j us lj);
                        fault = λ places is. inner.fault (p ∷ places) refl;
                        begins = (inner.begins.0 ++ mark_at mark.Close 0 ∷ [], in_parentheses p inner.before inner.begins.0 inner.begins.1);
                      }
                  | inr b ↦
                      let inner = (all_found n).level (Some p) level.Or rest b.0 b.1 in
                      let left = left_behind expr rest inner.used b.0.1 b.0.0 rest_ended inner.parts inner.sentence in
                      elim (bind_err (close_at p b.0.1) (λ (others : List Token). Ok (b.0.0, others)) f b.2) [
                        | inl d ↦
                            let closed = close_err p b.0.1 f d in
                            let c = stops (Some p) b.0.1 left.ended (inner.ended tt) in
                            let g = sentence_begins inner.used c.before b.0.0 c.stop c.shape inner.sentence in
                            record {
                              before = mk ∷ (inner.used ++ c.before);
                              stop = c.stop;
                              after = c.after;
                              parts = front ∙ ap (λ (us : List Token). mk ∷ us) (inner.parts ∙ ap (λ (us : List Token). inner.used ++ us) c.parts ∙ sym (append_assoc inner.used c.before (c.stop ∷ c.after)));
                              local = λ k us le.
                                  ap (λ (vs : List Token). atom_at k opened (mk ∷ vs)) (append_assoc inner.used c.before (c.stop ∷ us))
                                  ∙ atom_close_stop n k opened (mk ∷ (inner.used ++ (c.before ++ c.stop ∷ us))) (c.before ++ c.stop ∷ us) b.0.0 f le refl refl (λ j lj. inner.local j (c.before ++ c.stop ∷ us) lj (c.alike us))
                                  (close_stop p (c.before ++ c.stop ∷ us) f (ap is_close (sym (c.alike us).first) ∙ closed.0) (c.same us ∙ closed.1));
                              fault = λ places is. sym closed.1 ∙ c.fault (p ∷ places) refl ∙ ap (λ (q : List ℕ). fault_behind q c.stop.at c.stop.kind) (sym (even_shape c.before c.stop (p ∷ places) c.shape))
                                  ∙ over_even inner.used c.before (p ∷ places) c.stop left.even;
                              begins = (g.0 ++ mark_at mark.Close 0 ∷ [], in_parentheses p (inner.used ++ c.before) g.0 g.1);
                            }
                        | inr d ↦ absurd (let g : Ok (b.0.0, d.0) ≡ Err f = d.2 in cc)
                      ]
                ]
            | inr t ↦
                let t1 : Token = token (first_kind ts) (place ts) in
                let front = some_left ts ended in
                record {
                  before = [];
                  stop = t1;
                  after = drop 1 ts;
                  parts = front;
                  local = λ k us le. atom_stop n k opened (t1 ∷ us) le s.0 t.0 ∙ again_at opened t1 (drop 1 ts) us ∙ ap (λ (vs : List Token). Err (fault_at opened vs)) (sym front) ∙ t.1;
                  fault = λ places is. agrees_at opened places ts f is (err_is (fault_at opened ts) f t.1);
                  begins = (word_at word.Nil 0 ∷ [], (e.Nil, atom_token (kind.Word word.Nil) e.Nil 0 refl));
                }
          ]
    ]

too_few : (ts : List Token) (n : ℕ) → Ended ts → n + 16 * length ts ≤ 0 → ⊥
too_few [] n ended h = ended
too_few (t ∷ ts) n ended h = omega arith

none_stuck : AllStuck zero
none_stuck = record {
  level = λ opened l ts f few ended h. absurd (too_few ts _ ended few);
  more = λ opened l inner left ts f operands few ended h. absurd (too_few ts 0 ended (omega (arith, few)));
  unary = λ opened ts f few ended h. absurd (too_few ts 2 ended few);
  atom = λ opened ts f few ended h. absurd (too_few ts 0 ended (omega (arith, few)));
}

all_stuck : (n : ℕ) → AllStuck n
all_stuck zero = none_stuck
all_stuck (suc n) =
    let all = all_stuck n in
    record { level = level_stuck n all; more = more_stuck n all; unary = unary_stuck n all; atom = atom_stuck n all }

-- ---- a whole text

abbrev Last : List Token
Last = token kind.End 0 ∷ []

-- with so much fuel a sentence before the end is read
reads_whole : (n : ℕ) (ts : List Token) (a : Expr) → Sentence expr ts a → level_at (n + (9 + 16 * length ts)) None level.Or (ts ++ Last) ≡ Ok (a, Last)
reads_whole n ts a s = sentence_reads (n + (9 + 16 * length ts)) ts Last a s (omega arith) (refl, (refl, (refl, (refl, (refl, (refl, refl))))))

reads_to_end : (n : ℕ) (ts : List Token) (t : Token) (a : Expr) → t.kind ≡ kind.End → Sentence expr ts a → level_at (n + (9 + 16 * length ts)) None level.Or (ts ++ t ∷ []) ≡ Ok (a, t ∷ [])
reads_to_end n ts t a is s =
    let same : t ∷ [] ≡ token kind.End t.at ∷ [] = ap (λ (k : TokenKind). token k t.at ∷ []) is in
    subst (λ (us : List Token). level_at (n + (9 + 16 * length ts)) None level.Or (ts ++ us) ≡ Ok (a, us)) (sym same)
    (sentence_reads (n + (9 + 16 * length ts)) ts (token kind.End t.at ∷ []) a s (omega arith) (refl, (refl, (refl, (refl, (refl, (refl, refl)))))))

stuck_inside : (ts : List Token) (f : ExprFault) → length ts ≤ 201 → Ended ts → expr_at ts ≡ Err f → IsFirstFault ts f
unfolding expr_at
stuck_inside ts f few ended h =
    let st = (all_stuck enough_fuel).level None level.Or ts f (omega (arith, enough, few)) ended h in
    record {
      before = st.before;
      token = st.stop;
      after = st.after;
      parts = st.parts;
      begins = (st.begins.0, st.begins.1.0, st.begins.1.1);
      stops = λ more a s.
          let big = enough_fuel + (9 + 16 * length (st.before ++ st.stop ∷ more)) in
          let reads : level_at big None level.Or (st.before ++ st.stop ∷ (more ++ Last)) ≡ Ok (a, Last) = ap (level_at big None level.Or) (sym (append_assoc st.before (st.stop ∷ more) Last)) ∙ reads_whole enough_fuel (st.before ++ st.stop ∷ more) a s in
          let stuck = st.local big (more ++ Last) (omega arith) in
          let g : Ok (a, Last) ≡ Err f = sym reads ∙ stuck in
          cc;
      unfinished = λ is a s.
          let big = enough_fuel + (9 + 16 * length st.before) in
          let g : Ok (a, st.stop ∷ []) ≡ Err f = sym (reads_to_end enough_fuel st.before st.stop a is s) ∙ st.local big [] (omega arith) in
          cc;
      is = st.fault [] refl;
    }

-- the end alone isn't where an expression stops
not_ended : (rest before : List Token) (stop : Token) (after : List Token) → Ended rest → (is_end (first_kind rest) && eqb (length rest) 1) ≡ false → stop.kind ≡ kind.End → rest ≡ before ++ stop ∷ after → Shape before stop → ⊥
not_ended rest before stop after ended other is parts (inl none) =
    let whole : rest ≡ stop ∷ after = parts ∙ ap (λ (us : List Token). us ++ stop ∷ after) none in
    let last : after ≡ [] = last_left stop after (subst Ended whole ended) (ap is_last is) in
    let alone : rest ≡ stop ∷ [] = whole ∙ ap (λ (us : List Token). stop ∷ us) last in
    let end : is_end (first_kind rest) ≡ true = ap (λ (us : List Token). is_end (first_kind us)) alone ∙ ap is_end is in
    let one : eqb (length rest) 1 ≡ true = ap (λ (us : List Token). eqb (length us) 1) alone in
    let f : true ≡ false = sym (and_from (is_end (first_kind rest)) (eqb (length rest) 1) end one) ∙ other in
    cc
not_ended rest before stop after ended other is parts (inr one) =
    let f : true ≡ false = sym (ap is_last is) ∙ each_other stop.kind one.2 in
    cc

-- what was read ends where no sentence does
stuck_behind : (ts : List Token) (f : ExprFault) (x : Pair) → Ended ts → expr_at ts ≡ Ok x → (is_end (first_kind x.1) && eqb (length x.1) 1) ≡ false → stops_at None x.1 ≡ f → IsFirstFault ts f
stuck_behind ts f x ended h other fault =
    let found = expr_found ts x h in
    let left = left_behind expr ts found.used x.1 x.0 ended found.parts found.sentence in
    let c = stops None x.1 left.ended (found.ended tt) in
    let before = found.used ++ c.before in
    let g = sentence_begins found.used c.before x.0 c.stop c.shape found.sentence in
    record {
      before = before;
      token = c.stop;
      after = c.after;
      parts = found.parts ∙ ap (λ (us : List Token). found.used ++ us) c.parts ∙ sym (append_assoc found.used c.before (c.stop ∷ c.after));
      begins = (g.0, g.1.0, g.1.1);
      stops = λ more a s.
          let big = enough_fuel + (9 + 16 * length (before ++ c.stop ∷ more)) in
          let behind : List Token = c.before ++ c.stop ∷ (more ++ Last) in
          let reads : level_at big None level.Or (found.used ++ behind) ≡ Ok (a, Last) =
          ap (level_at big None level.Or) (sym (append_assoc before (c.stop ∷ more) Last ∙ append_assoc found.used c.before (c.stop ∷ (more ++ Last)))) ∙ reads_whole enough_fuel (before ++ c.stop ∷ more) a s in
          let again = found.local big behind (omega arith) (c.alike (more ++ Last)) in
          let same : (x.0, behind) ≡ (a, Last) = ok_is (x.0, behind) (a, Last) (sym again ∙ reads) in
          let rest : behind ≡ Last = ap (λ (y : Pair). y.1) same in
          let size = ap length rest in
          let one = length-append c.before (c.stop ∷ (more ++ Last)) in
          let two = length-append more Last in
          omega (arith, size, one, two);
      unfinished = λ is a s. not_ended x.1 c.before c.stop c.after left.ended other is c.parts c.shape;
      is = sym fault ∙ c.fault [] refl ∙ ap (λ (q : List ℕ). fault_behind q c.stop.at c.stop.kind) (sym (even_shape c.before c.stop [] c.shape)) ∙ over_even found.used c.before [] c.stop left.even;
    }

pub first_fault : (ts : List Token) (f : ExprFault) → length ts ≤ 201 → Ended ts → whole_of ts ≡ Err f → IsFirstFault ts f
unfolding whole_of
first_fault ts f few ended h =
    elim (bind_err (expr_at ts) (λ (x : Pair). cond (is_end (first_kind x.1) && eqb (length x.1) 1) (Ok x.0) (Err (stops_at None x.1))) f h) [
      | inl d ↦ stuck_inside ts f few ended d
      | inr b ↦
          elim (chosen (is_end (first_kind b.0.1) && eqb (length b.0.1) 1) (Ok b.0.0) (Err (stops_at None b.0.1)) (Err f) b.2) [
            | inl s ↦ absurd (let g : Ok b.0.0 ≡ Err f = s.1 in cc)
            | inr s ↦ stuck_behind ts f b.0 ended b.1 s.0 (let g : Err (stops_at None b.0.1) ≡ Err f = s.1 in cc)
          ]
    ]

pub tokens_fault : (ts : List Token) (r : Result Expr ExprFault) → Gives Memory (whole_of ts) r → length ts ≤ 201 → Ended ts → Faults ts r
tokens_fault ts (Ok a) given few ended = tt
tokens_fault ts (Err f) given few ended = λ other. first_fault ts f few ended (given other)

pub bytes_fault : (text : List ℕ) (r : Result Expr ExprFault) → Gives Memory (expr_of text) r → Faults (tokens_of text) r
unfolding expr_of
bytes_fault text r given = tokens_fault (tokens_of text) r given (few_tokens_of text) (text_ended text)
