-- The laws of parts of keys: what is read stands there, and the first fault.
use denote.Enum.Bare.{same_true, true_same}
use Rattle.std.proofs.Common.{◌≡◌, ◌≤◌, ℕ, ◌+◌, Bool, true, false, cond, ◌==◌, List, [], ◌∷◌, ◌++◌, length, drop, None, Result, Ok, Err, refl, sym, ap, subst, ◌∙◌, inl, inr, ◌⊎◌, append_assoc, bytes_eq, arith}
use Rattle.std.proofs.lemmas.Bool.{cases_Bool}
use Rattle.std.proofs.lemmas.List.{length-append, append-nil, append_cancel_right}
use Rattle.std.proofs.lemmas.Bool.Decides.{Decides-eqb}
use Rattle.std.proofs.lemmas.Slice.Eq.{bytes_eq-Decides}
use Rattle.doll_expr.specs.contracts.token.Mark as marks
use Rattle.doll_text.specs.contracts.words.Word as words
use Rattle.doll_expr.specs.declared.expr.Expr.{Expr}
use Rattle.doll_expr.specs.declared.expr.Expr.TheVariants as e
use Rattle.doll_expr.specs.declared.expr.ExprFault.{ExprFault}
use Rattle.doll_expr.specs.declared.token.Mark.{Mark}
use Rattle.doll_expr.specs.declared.token.Mark.TheVariants as mark
use Rattle.doll_text.specs.declared.words.Word.{Word}
use Rattle.doll_text.specs.declared.words.Word.TheVariants as word
use Rattle.doll_expr.specs.declared.token.Token.{Token}
use Rattle.doll_expr.specs.declared.token.TokenKind.{TokenKind}
use Rattle.doll_expr.specs.declared.token.TokenKind.TheVariants as kind
use Rattle.doll_expr.specs.Tokens.{token, is_last, is_mark, is_word}
use Rattle.doll_expr.specs.Grammar.{expr, Sentence, mark_at, word_at}
use Rattle.doll_expr.specs.Reading.{◌>>=◌, first_kind, place, fault_at, expr_at, has_step, is_end}
use Rattle.doll_expr.specs.Faults.{opened_by, opened_after, fault_behind}
use Rattle.doll_expr.proofs.Rules.{first_is, bind_ok, chosen, ok_is}
use Rattle.doll_expr.proofs.Found.{expr_found}
use Rattle.doll_expr.proofs.Fuel.{Alike}
use Rattle.doll_expr.proofs.Shapes.{after_append, Plain, plain, Even, even, goes_on}
use Rattle.doll_expr.proofs.Only.{EndsOr, front_only}
use Rattle.doll_expr.proofs.Ended.{Ended, ended_rest, ended_behind, some_left}
use Rattle.doll_expr.proofs.Stuck.{bind_err, agrees_at}
use Rattle.doll_erb.specs.declared.node.Local.{Local}
use Rattle.doll_erb.specs.declared.node.KeyPart.{KeyPart}
use Rattle.doll_erb.specs.declared.node.KeyPart.TheVariants as part
use Rattle.doll_erb.specs.Partials.{is_partial}
use Rattle.doll_erb.specs.Shapes.{Fixed, the_mark, the_word, fixed_kind, is_fixed, Item, Said, Stands, has_local, IsTextAlone, IsPart, part_path, part_symbol, part_text, expected, after_mark, after_word, named, called, value_at, listed_at, path_at, symbol_at, text_at, part_by, item_at}
use Rattle.doll_erb.proofs.Expressions.{split, end, EndsValue, ends_or, ends_same, apart, alike_first, same_sentence, value_only, expr_fault, value_fault, value_found, is_own, expr_first, alone, nil}
use Rattle.doll_erb.proofs.Items.{Taken, Stuck, named_found, name_stuck, value_taken, value_stuck, ListFront}

-- ---- parts of keys

abbrev pub PartFront : Type 0
PartFront = KeyPart × List Token

-- some part or other
pub any_part : (ts : List Token) (a : Expr) → Sentence expr ts a → (x : KeyPart) × IsPart ts x
any_part ts a s = elim (decide ts) [
  | inl d ↦ (part.Literal d.0, subst (λ (us : List Token). IsPart us (part.Literal d.0)) (sym d.2) (part_text d.0 d.1))
  | inr d ↦ (part.Path a, part_path ts a s d)
]
  where
    by_kind : (k : TokenKind) (at : ℕ) → IsTextAlone (token k at ∷ []) ⊎ (IsTextAlone (token k at ∷ []) → ⊥)
    by_kind (kind.Text text) at = inl (text, at, refl)
    by_kind _ at = inr (λ d. let first = ap first_kind d.2 in cc first)

    decide : (us : List Token) → IsTextAlone us ⊎ (IsTextAlone us → ⊥)
    decide [] = inr (λ d. let len = ap length d.2 in omega (arith, len))
    decide (t ∷ []) = by_kind t.kind t.at
    decide (t ∷ u ∷ us) = inr (λ d. let len = ap length d.2 in omega (arith, len))

pub own_colon : (ts rest us : List Token) (a : Expr) (at : ℕ) → Sentence expr ts a → ts ++ rest ≡ mark_at mark.Colon at ∷ us → ⊥
own_colon ts rest us a at s same =
    let first = expr_first ts a s in
    let all : first.0 ∷ (first.1 ++ rest) ≡ mark_at mark.Colon at ∷ us = ap (λ (ws : List Token). ws ++ rest) (sym first.2) ∙ same in
    let head = ap first_kind all in
    let bad : true ≡ false = sym first.3 ∙ ap is_own head in
    cc bad

-- an expression that was read as a part, and is no text alone
pub path_part : (ts : List Token) (x : ListFront) (h : value_at ts ≡ Ok x) → (IsTextAlone (value_taken ts x h).used → ⊥) → Taken Item.key_part ts (part.Path x.0, x.1)
path_part ts x h other =
    let v = value_taken ts x h in
    record {
      used = v.used;
      parts = v.parts;
      plain = v.plain;
      even = v.even;
      is = part_path v.used x.0 v.is other;
      one = λ us vs rest y s ends same first. one us y s vs rest ends same first;
    }
  where
    one : (us : List Token) (y : KeyPart) → IsPart us y → (vs rest : List Token) → EndsValue vs → us ++ vs ≡ (value_taken ts x h).used ++ rest → first_kind rest ≡ first_kind x.1 → (y ≡ part.Path x.0) × (vs ≡ rest)
    one _ _ (part_path us a s alone) = λ vs rest ends same first. let b = (value_taken ts x h).one us vs rest a s ends same first in (ap part.Path b.0, b.1)
    one _ _ (part_symbol name colon at) = λ vs rest ends same first. absurd (own_colon (value_taken ts x h).used rest (token (kind.Name name) at ∷ vs) x.0 colon (value_taken ts x h).is (sym same))
    one _ _ (part_text text at) = λ vs rest ends same first.
        let b = (value_taken ts x h).one (token (kind.Text text) at ∷ []) vs rest (e.Text text) (alone at text) ends same first in
        let used : (value_taken ts x h).used ≡ token (kind.Text text) at ∷ [] = append_cancel_right (value_taken ts x h).used (token (kind.Text text) at ∷ []) rest (sym same ∙ ap (λ (ws : List Token). token (kind.Text text) at ∷ ws) b.1) in
        absurd (other (text, at, used))

-- a text that is all of the expression
pub text_part : (ts : List Token) (x : ListFront) (h : value_at ts ≡ Ok x) (text : List ℕ) (at : ℕ) → (value_taken ts x h).used ≡ token (kind.Text text) at ∷ [] → Taken Item.key_part ts (part.Literal text, x.1)
text_part ts x h text at alone_is =
    let v = value_taken ts x h in
    record {
      used = v.used;
      parts = v.parts;
      plain = v.plain;
      even = v.even;
      is = subst (λ (us : List Token). IsPart us (part.Literal text)) (sym alone_is) (part_text text at);
      one = λ us vs rest y s ends same first. one us y s vs rest ends same first;
    }
  where
    one : (us : List Token) (y : KeyPart) → IsPart us y → (vs rest : List Token) → EndsValue vs → us ++ vs ≡ (value_taken ts x h).used ++ rest → first_kind rest ≡ first_kind x.1 → (y ≡ part.Literal text) × (vs ≡ rest)
    one _ _ (part_path us a s other) = λ vs rest ends same first.
        let b = (value_taken ts x h).one us vs rest a s ends same first in
        let used : us ≡ (value_taken ts x h).used = append_cancel_right us (value_taken ts x h).used rest (ap (λ (ws : List Token). us ++ ws) (sym b.1) ∙ same) in
        absurd (other (text, at, used ∙ alone_is))
    one _ _ (part_symbol name colon place) = λ vs rest ends same first. absurd (own_colon (value_taken ts x h).used rest (token (kind.Name name) place ∷ vs) x.0 colon (value_taken ts x h).is (sym same))
    one _ _ (part_text other place) = λ vs rest ends same first.
        let b = (value_taken ts x h).one (token (kind.Text other) place ∷ []) vs rest (e.Text other) (alone place other) ends same first in
        let head : kind.Text other ≡ kind.Text text = ap first_kind (same ∙ ap (λ (ws : List Token). ws ++ rest) alone_is) in
        let text_is : other ≡ text = cc head in
        (ap part.Literal text_is, b.1)

pub alone_len : (used rest ts : List Token) → ts ≡ used ++ rest → IsTextAlone used → (length rest + 1 == length ts) ≡ true
alone_len used rest ts parts is =
    let len : length ts ≡ length rest + 1 = omega (arith, ap length (parts ∙ ap (λ (us : List Token). us ++ rest) is.2)) in
    (Decides-eqb (length rest + 1) (length ts)).1 (sym len)

pub len_alone : (used rest ts : List Token) (k : TokenKind) → ts ≡ used ++ rest → first_kind ts ≡ k → (length rest + 1 == length ts) ≡ true → used ≡ token k (place ts) ∷ []
len_alone [] rest ts k parts first h = absurd (let len = ap length parts in let one = (Decides-eqb (length rest + 1) (length ts)).0 h in omega (arith, len, one))
len_alone (t ∷ []) rest ts k parts first h =
    let same : t.kind ≡ k = ap first_kind (sym parts) ∙ first in
    let at : t.at ≡ place ts = ap place (sym parts) in
    ap (λ (j : TokenKind). token j t.at ∷ []) same ∙ ap (λ (n : ℕ). token k n ∷ []) at
len_alone (t ∷ u ∷ used) rest ts k parts first h =
    absurd (let len = ap length parts in let sum = length-append used rest in let one = (Decides-eqb (length rest + 1) (length ts)).0 h in omega (arith, len, one, sum))

pub text_taken : (text : List ℕ) (ts : List Token) (x : PartFront) → first_kind ts ≡ kind.Text text → text_at text ts ≡ Ok x → Taken Item.key_part ts x
text_taken text ts x is h =
    let b = bind_ok (value_at ts) (λ (y : ListFront). Ok (cond (length y.1 + 1 == length ts) (part.Literal text) (part.Path y.0), y.1)) x h in
    let v = value_taken ts b.0 b.1 in
    let whole = ok_is (cond (length b.0.1 + 1 == length ts) (part.Literal text) (part.Path b.0.0), b.0.1) x b.2 in
    elim (cases_Bool (length b.0.1 + 1 == length ts)) [
      | inl d ↦ subst (Taken Item.key_part ts) (ap (λ (c : Bool). (cond c (part.Literal text) (part.Path b.0.0), b.0.1)) (sym d) ∙ whole)
          (text_part ts b.0 b.1 text (place ts) (len_alone v.used b.0.1 ts (kind.Text text) v.parts is d))
      | inr d ↦ subst (Taken Item.key_part ts) (ap (λ (c : Bool). (cond c (part.Literal text) (part.Path b.0.0), b.0.1)) (sym d) ∙ whole)
          (path_part ts b.0 b.1 (λ alone_is. let yes : true ≡ false = sym (alone_len v.used b.0.1 ts v.parts alone_is) ∙ d in cc yes))
    ]

pub first_text : (ts rest used : List Token) → ts ≡ used ++ rest → (is : IsTextAlone used) → first_kind ts ≡ kind.Text is.0
first_text ts rest used parts is = ap first_kind (parts ∙ ap (λ (us : List Token). us ++ rest) is.2)

pub path_taken : (ts : List Token) (x : PartFront) → ((text : List ℕ) → first_kind ts ≡ kind.Text text → ⊥) → path_at ts ≡ Ok x → Taken Item.key_part ts x
path_taken ts x other h =
    let b = bind_ok (value_at ts) (λ (y : ListFront). Ok (part.Path y.0, y.1)) x h in
    let v = value_taken ts b.0 b.1 in
    subst (Taken Item.key_part ts) (ok_is (part.Path b.0.0, b.0.1) x b.2) (path_part ts b.0 b.1 (λ is. other is.0 (first_text ts b.0.1 v.used v.parts is)))

pub symbol_taken : (ts : List Token) (x : PartFront) → first_kind ts ≡ kind.Mark mark.Colon → symbol_at (drop 1 ts) ≡ Ok x → Taken Item.key_part ts x
symbol_taken ts x is h =
    let b = bind_ok (named [] (first_kind (drop 1 ts)) (drop 1 ts)) (λ (y : List ℕ × List Token). Ok (part.Literal y.0, y.1)) x h in
    let n = named_found [] (first_kind (drop 1 ts)) (drop 1 ts) b.0 b.1 in
    let used : List Token = mark_at mark.Colon (place ts) ∷ token (kind.Name b.0.0) (place (drop 1 ts)) ∷ [] in
    subst (Taken Item.key_part ts) (ok_is (part.Literal b.0.0, b.0.1) x b.2) (record {
      used = used;
      parts = first_is ts (kind.Mark mark.Colon) is refl ∙ ap (λ (us : List Token). mark_at mark.Colon (place ts) ∷ us)
          (first_is (drop 1 ts) (kind.Name b.0.0) n.0 refl ∙ ap (λ (us : List Token). token (kind.Name b.0.0) (place (drop 1 ts)) ∷ us) n.2);
      plain = (refl, (refl, tt));
      even = λ places. refl;
      is = part_symbol b.0.0 (place ts) (place (drop 1 ts));
      one = λ us vs rest y s ends same first. one b.0.0 us y s vs rest same;
    })
  where
    one : (name : List ℕ) (us : List Token) (y : KeyPart) → IsPart us y → (vs rest : List Token) → us ++ vs ≡ mark_at mark.Colon (place ts) ∷ token (kind.Name name) (place (drop 1 ts)) ∷ rest → (y ≡ part.Literal name) × (vs ≡ rest)
    one name _ _ (part_path us a s other) = λ vs rest same. absurd (own_colon us vs (token (kind.Name name) (place (drop 1 ts)) ∷ rest) a (place ts) s same)
    one name _ _ (part_symbol other colon at) = λ vs rest same.
        let second : kind.Name other ≡ kind.Name name = ap (λ (ws : List Token). first_kind (drop 1 ws)) same in
        let name_is : other ≡ name = cc second in
        (ap part.Literal name_is, ap (λ (ws : List Token). drop 1 (drop 1 ws)) same)
    one name _ _ (part_text text at) = λ vs rest same. absurd (let head = ap first_kind same in cc head)

pub part_taken_by : (k : TokenKind) (ts : List Token) (x : PartFront) → first_kind ts ≡ k → part_by k ts ≡ Ok x → Taken Item.key_part ts x
part_taken_by (kind.Text text) ts x is h = text_taken text ts x is h
part_taken_by (kind.Mark mark.Colon) ts x is h = symbol_taken ts x is h
part_taken_by _ ts x is h = path_taken ts x (λ text other. let both = sym is ∙ other in cc both) h

pub part_taken : (ts : List Token) (x : PartFront) → item_at Item.key_part ts ≡ Ok x → Taken Item.key_part ts x
unfolding item_at
part_taken ts x h = part_taken_by (first_kind ts) ts x refl h

-- ---- faults in parts of keys

pub first_same : (before : List Token) (t : Token) (after more : List Token) → first_kind (before ++ t ∷ more) ≡ first_kind (before ++ t ∷ after)
first_same [] t after more = refl
first_same (u ∷ before) t after more = refl

pub path_stuck : (ts : List Token) (f : ExprFault) → length ts ≤ 201 → Ended ts → (first_kind ts ≡ kind.Mark mark.Colon → ⊥) → value_at ts ≡ Err f → Stuck Item.key_part ts f
path_stuck ts f few ended other h =
    let v = value_stuck ts f few ended h in
    let some = any_part (v.before ++ v.begins.0) v.begins.1 v.begins.2 in
    record {
      before = v.before;
      stop = v.stop;
      after = v.after;
      parts = v.parts;
      begins = (v.begins.0, some.0, some.1);
      stops = λ us vs more y s ends same. stops us y s vs more ends same;
      is = v.is;
    }
  where
    stops : (us : List Token) (y : KeyPart) → IsPart us y → (vs more : List Token) → EndsValue vs → us ++ vs ≡ (value_stuck ts f few ended h).before ++ (value_stuck ts f few ended h).stop ∷ more → ⊥
    stops _ _ (part_path us a s alone_not) = λ vs more ends same. (value_stuck ts f few ended h).stops us vs more a s ends same
    stops _ _ (part_symbol name colon at) = λ vs more ends same.
        let v = value_stuck ts f few ended h in
        other (ap first_kind v.parts ∙ first_same v.before v.stop more v.after ∙ ap first_kind (sym same))
    stops _ _ (part_text text at) = λ vs more ends same. (value_stuck ts f few ended h).stops (token (kind.Text text) at ∷ []) vs more (e.Text text) (alone at text) ends same

pub symbol_stuck : (ts : List Token) (f : ExprFault) → Ended ts → first_kind ts ≡ kind.Mark mark.Colon → item_at (Item.new_name []) (drop 1 ts) ≡ Err f → Stuck Item.key_part ts f
symbol_stuck ts f ended is h =
    let colon : Token = mark_at mark.Colon (place ts) in
    let front : ts ≡ colon ∷ drop 1 ts = first_is ts (kind.Mark mark.Colon) is refl in
    let left : Ended (drop 1 ts) = ended_rest (colon ∷ drop 1 ts) (subst Ended front ended) refl in
    let n = name_stuck [] (drop 1 ts) f left h in
    record {
      before = colon ∷ n.before;
      stop = n.stop;
      after = n.after;
      parts = front ∙ ap (λ (us : List Token). colon ∷ us) n.parts;
      begins = (n.begins.0, part.Literal n.begins.1, subst (λ (us : List Token). IsPart (colon ∷ us) (part.Literal n.begins.1)) (sym n.begins.2.1) (part_symbol n.begins.1 (place ts) n.begins.2.0));
      stops = λ us vs more y s ends same. stops left us y s vs more same;
      is = n.is;
    }
  where
    stops : (left : Ended (drop 1 ts)) (us : List Token) (y : KeyPart) → IsPart us y → (vs more : List Token)
        → us ++ vs ≡ mark_at mark.Colon (place ts) ∷ ((name_stuck [] (drop 1 ts) f left h).before ++ (name_stuck [] (drop 1 ts) f left h).stop ∷ more) → ⊥
    stops left _ _ (part_path us a s other) = λ vs more same. own_colon us vs _ a (place ts) s same
    stops left _ _ (part_symbol name colon at) = λ vs more same. (name_stuck [] (drop 1 ts) f left h).stops (token (kind.Name name) at ∷ []) vs more name (at, refl, refl) tt (ap (drop 1) same)
    stops left _ _ (part_text text at) = λ vs more same. let head = ap first_kind same in cc head

pub symbol_err : (ts : List Token) (f : ExprFault) → symbol_at ts ≡ Err f → item_at (Item.new_name []) ts ≡ Err f
unfolding item_at
symbol_err ts f h = elim (bind_err (named [] (first_kind ts) ts) (λ (y : List ℕ × List Token). Ok (part.Literal y.0, y.1)) f h) [
  | inl d ↦ d
  | inr d ↦ absurd (let bad : Ok (part.Literal d.0.0, d.0.1) ≡ Err f = d.2 in cc)
]

pub path_err : (ts : List Token) (f : ExprFault) → path_at ts ≡ Err f → value_at ts ≡ Err f
path_err ts f h = elim (bind_err (value_at ts) (λ (y : ListFront). Ok (part.Path y.0, y.1)) f h) [
  | inl d ↦ d
  | inr d ↦ absurd (let bad : Ok (part.Path d.0.0, d.0.1) ≡ Err f = d.2 in cc)
]

pub text_err : (text : List ℕ) (ts : List Token) (f : ExprFault) → text_at text ts ≡ Err f → value_at ts ≡ Err f
text_err text ts f h = elim (bind_err (value_at ts) (λ (y : ListFront). Ok (cond (length y.1 + 1 == length ts) (part.Literal text) (part.Path y.0), y.1)) f h) [
  | inl d ↦ d
  | inr d ↦ absurd (let bad : Ok (cond (length d.0.1 + 1 == length ts) (part.Literal text) (part.Path d.0.0), d.0.1) ≡ Err f = d.2 in cc)
]

pub part_stuck_by : (k : TokenKind) (ts : List Token) (f : ExprFault) → length ts ≤ 201 → Ended ts → first_kind ts ≡ k → part_by k ts ≡ Err f → Stuck Item.key_part ts f
part_stuck_by (kind.Text text) ts f few ended is h = path_stuck ts f few ended (λ other. let both = sym is ∙ other in cc both) (text_err text ts f h)
part_stuck_by (kind.Mark mark.Colon) ts f few ended is h = symbol_stuck ts f ended is (symbol_err (drop 1 ts) f h)
part_stuck_by _ ts f few ended is h = path_stuck ts f few ended (λ other. let both = sym is ∙ other in cc both) (path_err ts f h)

pub part_stuck : (ts : List Token) (f : ExprFault) → length ts ≤ 201 → Ended ts → item_at Item.key_part ts ≡ Err f → Stuck Item.key_part ts f
unfolding item_at
part_stuck ts f few ended h = part_stuck_by (first_kind ts) ts f few ended refl h
