-- The laws of items: what is read stands there, what stands there is read, and the first fault.
use denote.Enum.Bare.{same_true, true_same}
use Rattle.std.proofs.Common.{◌≡◌, ◌≤◌, ℕ, ◌+◌, Bool, true, false, cond, ◌==◌, List, [], ◌∷◌, ◌++◌, length, drop, None, Result, Ok, Err, refl, sym, ap, subst, ◌∙◌, inl, inr, ◌⊎◌, append_assoc, bytes_eq, arith}
use Rattle.std.proofs.lemmas.Bool.{cases_Bool}
use Rattle.std.proofs.lemmas.List.{length-append, append-nil, append_cancel_right}
use Rattle.std.proofs.lemmas.Bool.Decides.{Decides-eqb}
use Rattle.std.proofs.lemmas.Slice.Eq.{bytes_eq-Decides}
use Rattle.doll_expr.specs.contracts.token.Mark as marks
use Rattle.doll_text.specs.contracts.words.Word as words
use Rattle.doll_expr.specs.declared.expr.Expr.{Expr}
use Rattle.doll_expr.specs.declared.expr.Expr.TheVariants as e
use Rattle.doll_expr.specs.declared.expr.ExprFault.{ExprFault}
use Rattle.doll_expr.specs.declared.token.Mark.{Mark}
use Rattle.doll_expr.specs.declared.token.Mark.TheVariants as mark
use Rattle.doll_text.specs.declared.words.Word.{Word}
use Rattle.doll_text.specs.declared.words.Word.TheVariants as word
use Rattle.doll_expr.specs.declared.token.Token.{Token}
use Rattle.doll_expr.specs.declared.token.TokenKind.{TokenKind}
use Rattle.doll_expr.specs.declared.token.TokenKind.TheVariants as kind
use Rattle.doll_expr.specs.Tokens.{token, is_last, is_mark, is_word}
use Rattle.doll_expr.specs.Grammar.{expr, Sentence, mark_at, word_at}
use Rattle.doll_expr.specs.Reading.{◌>>=◌, first_kind, place, fault_at, expr_at, has_step, is_end}
use Rattle.doll_expr.specs.Faults.{opened_by, opened_after, fault_behind}
use Rattle.doll_expr.proofs.Rules.{first_is, bind_ok, chosen, ok_is}
use Rattle.doll_expr.proofs.Found.{expr_found}
use Rattle.doll_expr.proofs.Fuel.{Alike}
use Rattle.doll_expr.proofs.Shapes.{after_append, Plain, plain, Even, even, goes_on}
use Rattle.doll_expr.proofs.Only.{EndsOr, front_only}
use Rattle.doll_expr.proofs.Ended.{Ended, ended_rest, ended_behind, some_left}
use Rattle.doll_expr.proofs.Stuck.{bind_err, agrees_at}
use Rattle.doll_erb.specs.declared.node.Local.{Local}
use Rattle.doll_erb.specs.declared.node.KeyPart.{KeyPart}
use Rattle.doll_erb.specs.declared.node.KeyPart.TheVariants as part
use Rattle.doll_erb.specs.Partials.{is_partial}
use Rattle.doll_erb.specs.Shapes.{Fixed, the_mark, the_word, fixed_kind, is_fixed, Item, Said, Stands, has_local, IsTextAlone, IsPart, part_path, part_symbol, part_text, expected, after_mark, after_word, named, called, value_at, listed_at, path_at, symbol_at, text_at, part_by, item_at}
use Rattle.doll_erb.proofs.Expressions.{split, end, EndsValue, ends_or, ends_same, apart, alike_first, same_sentence, value_only, expr_fault, value_fault, value_found, is_own, expr_first, alone, nil}

-- ---- what the laws say

-- what may follow an item
abbrev pub Follows : Item → List Token → Type 0
Follows Item.value rest = EndsValue rest
Follows Item.key_part rest = EndsValue rest
Follows _ rest = Unit {0}

-- an item that is read: the tokens it takes, and that nothing else stands there
pub record Taken (i : Item) (ts : List Token) (x : Said i × List Token) : Type 0 where
  pub used : List Token
  pub parts : ts ≡ used ++ x.1
  pub plain : Plain used
  pub even : Even used
  pub is : Stands i used x.0
  pub one : (us vs rest : List Token) (y : Said i) → Stands i us y → Follows i vs → us ++ vs ≡ used ++ rest → first_kind rest ≡ first_kind x.1 → (y ≡ x.0) × (vs ≡ rest)

-- an item that is not: the first token with which it doesn't go on
pub record Stuck (i : Item) (ts : List Token) (f : ExprFault) : Type 0 where
  pub before : List Token
  pub stop : Token
  pub after : List Token
  pub parts : ts ≡ before ++ stop ∷ after
  pub begins : (more : List Token) × (x : Said i) × Stands i (before ++ more) x
  pub stops : (us vs more : List Token) (x : Said i) → Stands i us x → Follows i vs → us ++ vs ≡ before ++ stop ∷ more → ⊥
  pub is : f ≡ fault_behind (opened_after [] before) stop.at stop.kind

-- ---- items of one token

pub single_taken : (i : Item) (ts : List Token) (x : Said i × List Token) (t : Token) → ts ≡ t ∷ x.1 → is_last t.kind ≡ false → ((places : List ℕ) → opened_by places t.at t.kind ≡ places) → Stands i (t ∷ []) x.0
    → ((us : List Token) (y : Said i) → Stands i us y → (u : Token) × (us ≡ u ∷ []) × (u ≡ t → y ≡ x.0)) → Taken i ts x
single_taken i ts x t parts other even is others = record {
  used = t ∷ [];
  parts = parts;
  plain = (other, tt);
  even = even;
  is = is;
  one = λ us vs rest y stands follows same first.
      let u = others us y stands in
      let all : u.0 ∷ vs ≡ t ∷ rest = ap (λ (ws : List Token). ws ++ vs) (sym u.1) ∙ same in
      let head : u.0 ≡ t = cc all in
      (u.2 head, ap (drop 1) all);
}

pub single_stuck : (i : Item) (ts : List Token) (f : ExprFault) → Ended ts → fault_at None ts ≡ f → ((us : List Token) (y : Said i) → Stands i us y → (u : Token) × (us ≡ u ∷ []) × (u.kind ≡ first_kind ts → ⊥))
    → (us : List Token) (y : Said i) → Stands i us y → Stuck i ts f
single_stuck i ts f ended fault others ws w stands = record {
  before = [];
  stop = token (first_kind ts) (place ts);
  after = drop 1 ts;
  parts = some_left ts ended;
  begins = (ws, w, stands);
  stops = λ us vs more y is follows same.
      let u = others us y is in
      let all : u.0 ∷ vs ≡ token (first_kind ts) (place ts) ∷ more = ap (λ (ws : List Token). ws ++ vs) (sym u.1) ∙ same in
      u.2 (ap first_kind all);
  is = agrees_at None [] ts f refl fault;
}

-- ---- fixed tokens

pub fixed_is : (f : Fixed) (k : TokenKind) → is_fixed f k ≡ true → k ≡ fixed_kind f
fixed_is (the_mark m) (kind.Mark other) h = ap (λ (x : Mark). kind.Mark x) (same_true marks.the_type tt other m h)
fixed_is (the_word w) (kind.Word other) h = ap (λ (x : Word). kind.Word x) (same_true words.the_type tt other w h)
fixed_is (the_mark m) _ h = absurd cc
fixed_is (the_word w) _ h = absurd cc

pub fixed_self : (f : Fixed) → is_fixed f (fixed_kind f) ≡ true
fixed_self (the_mark m) = true_same marks.the_type m m refl
fixed_self (the_word w) = true_same words.the_type w w refl

pub fixed_plain : (f : Fixed) → is_last (fixed_kind f) ≡ false
fixed_plain (the_mark m) = refl
fixed_plain (the_word w) = refl

pub fixed_no_end : (f : Fixed) → is_end (fixed_kind f) ≡ false
fixed_no_end (the_mark m) = refl
fixed_no_end (the_word w) = refl

pub fixed_first : (f : Fixed) (ts : List Token) → is_fixed f (first_kind ts) ≡ true → ts ≡ token (fixed_kind f) (place ts) ∷ drop 1 ts
fixed_first f ts h = first_is ts (fixed_kind f) (fixed_is f (first_kind ts) h) (fixed_no_end f)

-- a fixed token that is no parenthesis
abbrev pub IsEven : Fixed → Type 0
IsEven f = (places : List ℕ) (at : ℕ) → opened_by places at (fixed_kind f) ≡ places

abbrev pub fixed_read : Bool → List Token → Result (Unit {0} × List Token) ExprFault
fixed_read stands ts = expected stands ts >>= λ (rest : List Token). Ok (tt, rest)

abbrev pub name_err : ExprFault → Result (List ℕ × List Token) ExprFault
name_err g = Err g

pub fixed_found : (f : Fixed) (stands : Bool) (ts : List Token) (x : Said (Item.fixed f) × List Token) → fixed_read stands ts ≡ Ok x → (stands ≡ true) × (drop 1 ts ≡ x.1)
fixed_found f true ts x h = (refl, ap (λ (y : Said (Item.fixed f) × List Token). y.1) (ok_is (tt, drop 1 ts) x h))
fixed_found f false ts x h = absurd cc

pub fixed_err : (f : Fixed) (stands : Bool) (ts : List Token) (g : ExprFault) → fixed_read stands ts ≡ Err g → (stands ≡ false) × (fault_at None ts ≡ g)
fixed_err f true ts g h = absurd cc
fixed_err f false ts g h = (refl, cc h)

pub fixed_taken : (f : Fixed) → IsEven f → (ts : List Token) (x : Said (Item.fixed f) × List Token) → item_at (Item.fixed f) ts ≡ Ok x → Taken (Item.fixed f) ts x
unfolding item_at
fixed_taken f even ts x h =
    let b = fixed_found f (is_fixed f (first_kind ts)) ts x h in
    single_taken (Item.fixed f) ts x (token (fixed_kind f) (place ts)) (fixed_first f ts b.0 ∙ ap (λ (us : List Token). token (fixed_kind f) (place ts) ∷ us) b.1) (fixed_plain f) (λ places. even places (place ts))
    (place ts, refl) (λ us y s. (token (fixed_kind f) s.0, s.1, λ same. refl))

pub fixed_stuck : (f : Fixed) (ts : List Token) (g : ExprFault) → Ended ts → item_at (Item.fixed f) ts ≡ Err g → Stuck (Item.fixed f) ts g
unfolding item_at
fixed_stuck f ts g ended h =
    let b = fixed_err f (is_fixed f (first_kind ts)) ts g h in
    single_stuck (Item.fixed f) ts g ended b.1
    (λ us y s. (token (fixed_kind f) s.0, s.1, λ same. let yes : true ≡ false = sym (fixed_self f) ∙ ap (is_fixed f) same ∙ b.0 in cc yes))
    (token (fixed_kind f) 0 ∷ []) tt (0, refl)

-- ---- names

pub named_found : (locals : List Local) (k : TokenKind) (ts : List Token) (x : List ℕ × List Token) → named locals k ts ≡ Ok x → (k ≡ kind.Name x.0) × (has_local locals x.0 ≡ false) × (drop 1 ts ≡ x.1)
named_found locals (kind.Name name) ts x h = elim (chosen (has_local locals name) (Err (fault_at None ts)) (Ok (name, drop 1 ts)) (Ok x) h) [
  | inl s ↦ absurd (let f : Err (fault_at None ts) ≡ Ok x = s.1 in cc)
  | inr s ↦
      let same : (name, drop 1 ts) ≡ x = ok_is (name, drop 1 ts) x s.1 in
      (ap (λ (y : List ℕ × List Token). kind.Name y.0) same, subst (λ (y : List ℕ × List Token). has_local locals y.0 ≡ false) same s.0, ap (λ (y : List ℕ × List Token). y.1) same)
]
named_found locals _ ts x h = absurd cc

pub named_err : (locals : List Local) (k : TokenKind) (ts : List Token) (g : ExprFault) → named locals k ts ≡ Err g → (fault_at None ts ≡ g) × ((name : List ℕ) → kind.Name name ≡ k → has_local locals name ≡ false → ⊥)
named_err locals (kind.Name name) ts g h = elim (chosen (has_local locals name) (Err (fault_at None ts)) (Ok (name, drop 1 ts)) (Err g) h) [
  | inl s ↦ ((let f : name_err (fault_at None ts) ≡ name_err g = s.1 in cc), λ other same free. let i : other ≡ name = cc same in let yes : true ≡ false = sym s.0 ∙ ap (has_local locals) (sym i) ∙ free in cc yes)
  | inr s ↦ absurd (let f : Ok (name, drop 1 ts) ≡ Err g = s.1 in cc)
]
named_err locals _ ts g h = ((let f : name_err (fault_at None ts) ≡ name_err g = h in cc), λ other same free. cc same)

-- a name longer than all of these
pub longer : List Local → List ℕ
longer [] = []
longer (l ∷ locals) = 0 ∷ (l.name ++ longer locals)

pub too_long : (locals : List Local) (name : List ℕ) → length (longer locals) ≤ length name → has_local locals name ≡ false
unfolding longer
too_long [] name long = refl
too_long (l ∷ locals) name long =
    let len = length-append l.name (longer locals) in
    let size : length (0 ∷ (l.name ++ longer locals)) ≤ length name = long in
    rw (other size len, too_long locals name (omega (arith, size, len))) refl
  where
    other : length (0 ∷ (l.name ++ longer locals)) ≤ length name → length (l.name ++ longer locals) ≡ length l.name + length (longer locals) → bytes_eq l.name name ≡ false
    other size len = elim (cases_Bool (bytes_eq l.name name)) [
      | inl s ↦ absurd (let same = ap length ((bytes_eq-Decides l.name name).0 s) in omega (arith, size, len, same))
      | inr s ↦ s
    ]

pub name_taken : (locals : List Local) (ts : List Token) (x : List ℕ × List Token) → item_at (Item.new_name locals) ts ≡ Ok x → Taken (Item.new_name locals) ts x
unfolding item_at
name_taken locals ts x h =
    let b = named_found locals (first_kind ts) ts x h in
    single_taken (Item.new_name locals) ts x (token (kind.Name x.0) (place ts)) (first_is ts (kind.Name x.0) b.0 refl ∙ ap (λ (us : List Token). token (kind.Name x.0) (place ts) ∷ us) b.2) refl (λ places. refl)
    (place ts, refl, b.1) (λ us y s. (token (kind.Name y) s.0, s.1, λ same. let k : kind.Name y ≡ kind.Name x.0 = ap (λ (t : Token). t.kind) same in cc k))

pub name_stuck : (locals : List Local) (ts : List Token) (g : ExprFault) → Ended ts → item_at (Item.new_name locals) ts ≡ Err g → Stuck (Item.new_name locals) ts g
unfolding item_at
name_stuck locals ts g ended h =
    let b = named_err locals (first_kind ts) ts g h in
    single_stuck (Item.new_name locals) ts g ended b.0 (λ us y s. (token (kind.Name y) s.0, s.1, λ same. b.1 y same s.2))
    (token (kind.Name (longer locals)) 0 ∷ []) (longer locals) (0, refl, too_long locals (longer locals) (omega arith))

-- ---- names of partials

pub called_found : (k : TokenKind) (ts : List Token) (x : List ℕ × List Token) → called k ts ≡ Ok x → (k ≡ kind.Text x.0) × (is_partial x.0 ≡ true) × (drop 1 ts ≡ x.1)
called_found (kind.Text name) ts x h = elim (chosen (is_partial name) (Ok (name, drop 1 ts)) (Err (fault_at None ts)) (Ok x) h) [
  | inl s ↦
      let same : (name, drop 1 ts) ≡ x = ok_is (name, drop 1 ts) x s.1 in
      (ap (λ (y : List ℕ × List Token). kind.Text y.0) same, subst (λ (y : List ℕ × List Token). is_partial y.0 ≡ true) same s.0, ap (λ (y : List ℕ × List Token). y.1) same)
  | inr s ↦ absurd (let f : Err (fault_at None ts) ≡ Ok x = s.1 in cc)
]
called_found _ ts x h = absurd cc

pub called_err : (k : TokenKind) (ts : List Token) (g : ExprFault) → called k ts ≡ Err g → (fault_at None ts ≡ g) × ((name : List ℕ) → kind.Text name ≡ k → is_partial name ≡ true → ⊥)
called_err (kind.Text name) ts g h = elim (chosen (is_partial name) (Ok (name, drop 1 ts)) (Err (fault_at None ts)) (Err g) h) [
  | inl s ↦ absurd (let f : Ok (name, drop 1 ts) ≡ Err g = s.1 in cc)
  | inr s ↦ ((let f : name_err (fault_at None ts) ≡ name_err g = s.1 in cc), λ other same yes. let i : other ≡ name = cc same in let f : true ≡ false = sym yes ∙ ap is_partial i ∙ s.0 in cc f)
]
called_err _ ts g h = ((let f : name_err (fault_at None ts) ≡ name_err g = h in cc), λ other same yes. cc same)

abbrev pub Called : Type 0
Called = (List ℕ × ℕ) × List Token

pub a_partial : is_partial (97 ∷ []) ≡ true
unfolding is_partial
a_partial = refl

pub partial_taken : (ts : List Token) (x : Called) → item_at Item.partial ts ≡ Ok x → Taken Item.partial ts x
unfolding item_at
partial_taken ts x h =
    let b = bind_ok (called (first_kind ts) ts) (λ (y : List ℕ × List Token). Ok ((y.0, place ts), y.1)) x h in
    let c = called_found (first_kind ts) ts b.0 b.1 in
    subst (Taken Item.partial ts) (ok_is ((b.0.0, place ts), b.0.1) x b.2)
    (single_taken Item.partial ts ((b.0.0, place ts), b.0.1) (token (kind.Text b.0.0) (place ts)) (first_is ts (kind.Text b.0.0) c.0 refl ∙ ap (λ (us : List Token). token (kind.Text b.0.0) (place ts) ∷ us) c.2) refl (λ places. refl)
    (refl, c.1) (λ us y s. (
      token (kind.Text y.0) y.1,
      s.0,
      λ same.
          let k : kind.Text y.0 ≡ kind.Text b.0.0 = ap (λ (t : Token). t.kind) same in
          let text : y.0 ≡ b.0.0 = cc k in
          let at : y.1 ≡ place ts = ap (λ (t : Token). t.at) same in
          ap (λ (z : List ℕ). (z, y.1)) text ∙ ap (λ (n : ℕ). (b.0.0, n)) at,
    )))

pub partial_stuck : (ts : List Token) (g : ExprFault) → Ended ts → item_at Item.partial ts ≡ Err g → Stuck Item.partial ts g
unfolding item_at
partial_stuck ts g ended h =
    elim (bind_err (called (first_kind ts) ts) (λ (y : List ℕ × List Token). Ok ((y.0, place ts), y.1)) g h) [
      | inl d ↦
          let b = called_err (first_kind ts) ts g d in
          single_stuck Item.partial ts g ended b.0 (λ us y s. (token (kind.Text y.0) y.1, s.0, λ same. b.1 y.0 same s.1))
          (token (kind.Text (97 ∷ [])) 0 ∷ []) (97 ∷ [], 0) (refl, a_partial)
      | inr d ↦ absurd (let f : Ok ((d.0.0, place ts), d.0.1) ≡ Err g = d.2 in cc)
    ]

-- ---- expressions

pub value_taken : (ts : List Token) (x : Expr × List Token) → value_at ts ≡ Ok x → Taken Item.value ts x
value_taken ts x h =
    let v = value_found ts x h in
    let found = expr_found ts x v.reads in
    record {
      used = found.used;
      parts = found.parts;
      plain = plain expr found.used x.0 found.sentence;
      even = even expr found.used x.0 found.sentence;
      is = found.sentence;
      one = λ us vs rest y s ends same first. same_sentence ts x us vs rest y v.reads (alike_first x.1 rest first v.other) s (ends_or vs ends) same;
    }

-- an expression before what ends it, at the beginning of tokens with which no expression goes on
pub inside : (ts us vs more : List Token) (f : ExprFault) (stop : Token) (y : Expr) → length ts ≤ 201 → Sentence expr us y → EndsValue vs → value_at ts ≡ Err f → ts ≡ us ++ stop ∷ more → (rest : List Token) → vs ≡ stop ∷ rest → ⊥
inside ts us vs more f stop y few s ends h parts rest first =
    let stopped : EndsValue (stop ∷ more) = ends_same stop rest more (subst EndsValue first ends) in
    let len = ap length parts in
    let sum = length-append us (stop ∷ more) in
    let reads = value_only us (stop ∷ more) y s (omega (arith, few, len, sum)) stopped in
    let bad : Ok (y, stop ∷ more) ≡ Err f = sym reads ∙ ap value_at (sym parts) ∙ h in
    cc bad

pub value_stuck : (ts : List Token) (f : ExprFault) → length ts ≤ 201 → Ended ts → value_at ts ≡ Err f → Stuck Item.value ts f
value_stuck ts f few ended h =
    let fault = value_fault ts f few ended h in
    record {
      before = fault.before;
      stop = fault.token;
      after = fault.after;
      parts = fault.parts;
      begins = (fault.begins.0, fault.begins.1, fault.begins.2);
      stops = λ us vs more y s ends same. elim (split us vs fault.before (fault.token ∷ more) same) [
        | inl d ↦ within us vs d.0 more y s ends d.1 d.2
        | inr d ↦ behind us vs d.0 more y s ends d.1 d.2
      ];
      is = fault.is;
    }
  where
    within : (us vs m more : List Token) (y : Expr) → Sentence expr us y → EndsValue vs → us ≡ (value_fault ts f few ended h).before ++ m → (value_fault ts f few ended h).token ∷ more ≡ m ++ vs → ⊥
    within us vs [] more y s ends left right =
        let fault = value_fault ts f few ended h in
        let all : us ≡ fault.before = left ∙ append-nil fault.before in
        inside ts us vs fault.after f fault.token y few s ends h (fault.parts ∙ ap (λ (ws : List Token). ws ++ fault.token ∷ fault.after) (sym all)) more (sym right)
    within us vs (t ∷ m) more y s ends left right =
        let fault = value_fault ts f few ended h in
        let head : t ≡ fault.token = cc right in
        fault.stops m y (subst (λ (ws : List Token). Sentence expr ws y) (left ∙ ap (λ (u : Token). fault.before ++ u ∷ m) head) s)

    behind : (us vs m more : List Token) (y : Expr) → Sentence expr us y → EndsValue vs → (value_fault ts f few ended h).before ≡ us ++ m → vs ≡ m ++ (value_fault ts f few ended h).token ∷ more → ⊥
    behind us vs [] more y s ends left right =
        let fault = value_fault ts f few ended h in
        let all : fault.before ≡ us = left ∙ append-nil us in
        inside ts us vs fault.after f fault.token y few s ends h (fault.parts ∙ ap (λ (ws : List Token). ws ++ fault.token ∷ fault.after) all) more right
    behind us vs (t ∷ m) more y s ends left right =
        let fault = value_fault ts f few ended h in
        let others : List Token = m ++ fault.begins.0 in
        let whole : fault.before ++ fault.begins.0 ≡ us ++ t ∷ others = ap (λ (ws : List Token). ws ++ fault.begins.0) left ∙ append_assoc us (t ∷ m) fault.begins.0 in
        let ends_here : EndsValue (t ∷ (others ++ end 0)) = ends_same t (m ++ fault.token ∷ more) (others ++ end 0) (subst EndsValue right ends) in
        apart us others t y fault.begins.1 s (subst (λ (ws : List Token). Sentence expr ws fault.begins.1) whole fault.begins.2) (ends_or (t ∷ (others ++ end 0)) ends_here)

-- ---- expressions before ". each"

pub expected_found : (stands : Bool) (ts rest : List Token) → expected stands ts ≡ Ok rest → (stands ≡ true) × (drop 1 ts ≡ rest)
expected_found true ts rest h = (refl, ok_is (drop 1 ts) rest h)
expected_found false ts rest h = absurd cc

pub expected_err : (stands : Bool) (ts : List Token) (f : ExprFault) → expected stands ts ≡ Err f → (stands ≡ false) × (fault_at None ts ≡ f)
expected_err true ts f h = absurd cc
expected_err false ts f h = (refl, cc h)

abbrev pub ListFront : Type 0
ListFront = Expr × List Token

-- an expression that was read, and what stands behind it
pub record Listed (ts : List Token) (x : ListFront) : Type 0 where
  pub list : ListFront
  pub reads : expr_at ts ≡ Ok list
  pub same : list.0 ≡ x.0
  pub dot : ℕ
  pub each : ℕ
  pub tail : list.1 ≡ mark_at mark.Dot dot ∷ word_at word.Each each ∷ x.1

pub listed_found : (ts : List Token) (x : ListFront) → listed_at ts ≡ Ok x → Listed ts x
unfolding listed_at
listed_found ts x h =
    let b = bind_ok (expr_at ts) (λ (y : ListFront). after_mark mark.Dot y.1 >>= λ (a : List Token). after_word word.Each a >>= λ (rest : List Token). Ok (y.0, rest)) x h in
    let c = bind_ok (after_mark mark.Dot b.0.1) (λ (a : List Token). after_word word.Each a >>= λ (rest : List Token). Ok (b.0.0, rest)) x b.2 in
    let d = bind_ok (after_word word.Each c.0) (λ (rest : List Token). Ok (b.0.0, rest)) x c.2 in
    let dot = expected_found (is_mark mark.Dot (first_kind b.0.1)) b.0.1 c.0 c.1 in
    let each = expected_found (is_word word.Each (first_kind c.0)) c.0 d.0 d.1 in
    let last : d.0 ≡ x.1 = ap (λ (y : ListFront). y.1) (ok_is (b.0.0, d.0) x d.2) in
    record {
      list = b.0;
      reads = b.1;
      same = ap (λ (y : ListFront). y.0) (ok_is (b.0.0, d.0) x d.2);
      dot = place b.0.1;
      each = place c.0;
      tail = fixed_first (the_mark mark.Dot) b.0.1 dot.0 ∙ ap (λ (us : List Token). mark_at mark.Dot (place b.0.1) ∷ us) (dot.1 ∙ fixed_first (the_word word.Each) c.0 each.0 ∙ ap (λ (us : List Token). word_at word.Each (place c.0) ∷ us) (each.1 ∙ last));
    }

pub plain_append : (ts us : List Token) → Plain ts → Plain us → Plain (ts ++ us)
plain_append [] us x y = y
plain_append (t ∷ ts) us x y = (x.0, plain_append ts us x.1 y)

pub alike_each : (r : List Token) (dot each : ℕ) (rest more : List Token) → r ≡ mark_at mark.Dot dot ∷ word_at word.Each each ∷ rest → Alike r (mark_at mark.Dot dot ∷ word_at word.Each each ∷ more)
alike_each r dot each rest more h = subst (λ (us : List Token). Alike us (mark_at mark.Dot dot ∷ word_at word.Each each ∷ more)) (sym h) (record { first = refl; step = refl })

pub listed_taken : (ts : List Token) (x : ListFront) → listed_at ts ≡ Ok x → Taken Item.listed ts x
listed_taken ts x h =
    let l = listed_found ts x h in
    let found = expr_found ts l.list l.reads in
    let tail : List Token = mark_at mark.Dot l.dot ∷ word_at word.Each l.each ∷ [] in
    record {
      used = found.used ++ tail;
      parts = found.parts ∙ ap (λ (us : List Token). found.used ++ us) l.tail ∙ sym (append_assoc found.used tail x.1);
      plain = plain_append found.used tail (plain expr found.used l.list.0 found.sentence) (refl, (refl, tt));
      even = λ places. after_append places found.used tail ∙ even expr found.used l.list.0 found.sentence places;
      is = (found.used, l.dot, l.each, refl, subst (Sentence expr found.used) l.same found.sentence);
      one = λ us vs rest y s follows same first.
          let whole : s.0 ++ (mark_at mark.Dot s.1 ∷ word_at word.Each s.2 ∷ vs) ≡ found.used ++ (mark_at mark.Dot l.dot ∷ word_at word.Each l.each ∷ rest) =
          sym (ap (λ (ws : List Token). ws ++ vs) s.3 ∙ append_assoc s.0 (mark_at mark.Dot s.1 ∷ word_at word.Each s.2 ∷ []) vs) ∙ same ∙ append_assoc found.used tail rest in
          let both = same_sentence ts l.list s.0 (mark_at mark.Dot s.1 ∷ word_at word.Each s.2 ∷ vs) (mark_at mark.Dot l.dot ∷ word_at word.Each l.each ∷ rest) y l.reads
          (alike_each l.list.1 l.dot l.each x.1 rest l.tail) s.4 (refl, (refl, (refl, (refl, (refl, (refl, refl)))))) whole in
          (both.0 ∙ l.same, ap (λ (ws : List Token). drop 1 (drop 1 ws)) both.1);
    }

abbrev pub Tail : ℕ → ℕ → List Token → List Token
Tail dot each rest = mark_at mark.Dot dot ∷ word_at word.Each each ∷ rest

pub ends_tail : (dot each : ℕ) (rest : List Token) → EndsOr (Tail dot each rest)
ends_tail dot each rest = (refl, (refl, (refl, (refl, (refl, (refl, refl))))))

-- the first fault is inside the expression
pub list_inside : (ts : List Token) (f : ExprFault) → length ts ≤ 201 → Ended ts → expr_at ts ≡ Err f → Stuck Item.listed ts f
list_inside ts f few ended h =
    let fault = expr_fault ts f few ended h in
    record {
      before = fault.before;
      stop = fault.token;
      after = fault.after;
      parts = fault.parts;
      begins = (fault.begins.0 ++ Tail 0 0 [], fault.begins.1, (fault.before ++ fault.begins.0, 0, 0, sym (append_assoc fault.before fault.begins.0 (Tail 0 0 [])), fault.begins.2));
      stops = λ us vs more y s follows same.
          let whole : s.0 ++ Tail s.1 s.2 vs ≡ fault.before ++ fault.token ∷ more = sym (ap (λ (ws : List Token). ws ++ vs) s.3 ∙ append_assoc s.0 (Tail s.1 s.2 []) vs) ∙ same in
          elim (split s.0 (Tail s.1 s.2 vs) fault.before (fault.token ∷ more) whole) [
            | inl d ↦ within s.0 vs d.0 more s.1 s.2 y s.4 d.1 d.2
            | inr d ↦ behind s.0 vs d.0 more s.1 s.2 y s.4 d.1 d.2
          ];
      is = fault.is;
    }
  where
    -- an expression goes on with a dot
    at_dot : (us : List Token) (dot : ℕ) (y : Expr) → Sentence expr us y → (expr_fault ts f few ended h).before ≡ us → (expr_fault ts f few ended h).token ≡ mark_at mark.Dot dot → ⊥
    at_dot us dot y s left right =
        let fault = expr_fault ts f few ended h in
        let g = goes_on dot expr us y s in
        fault.stops (word_at word.Id 0 ∷ []) g.0 (subst (λ (ws : List Token). Sentence expr ws g.0) (ap (λ (ws : List Token). ws ++ mark_at mark.Dot dot ∷ word_at word.Id 0 ∷ []) (sym left) ∙ ap (λ (t : Token). fault.before ++ t ∷ word_at word.Id 0 ∷ []) (sym right)) g.1)

    within : (us vs m more : List Token) (dot each : ℕ) (y : Expr) → Sentence expr us y → us ≡ (expr_fault ts f few ended h).before ++ m → (expr_fault ts f few ended h).token ∷ more ≡ m ++ Tail dot each vs → ⊥
    within us vs [] more dot each y s left right =
        let fault = expr_fault ts f few ended h in
        let head : fault.token ≡ mark_at mark.Dot dot = cc right in
        at_dot us dot y s (sym (left ∙ append-nil fault.before)) head
    within us vs (t ∷ m) more dot each y s left right =
        let fault = expr_fault ts f few ended h in
        let head : t ≡ fault.token = cc right in
        fault.stops m y (subst (λ (ws : List Token). Sentence expr ws y) (left ∙ ap (λ (u : Token). fault.before ++ u ∷ m) head) s)

    behind : (us vs m more : List Token) (dot each : ℕ) (y : Expr) → Sentence expr us y → (expr_fault ts f few ended h).before ≡ us ++ m → Tail dot each vs ≡ m ++ (expr_fault ts f few ended h).token ∷ more → ⊥
    behind us vs [] more dot each y s left right =
        let fault = expr_fault ts f few ended h in
        let head : fault.token ≡ mark_at mark.Dot dot = cc right in
        at_dot us dot y s (left ∙ append-nil us) head
    behind us vs (t ∷ []) more dot each y s left right =
        let fault = expr_fault ts f few ended h in
        let first : t ≡ mark_at mark.Dot dot = cc right in
        let second : fault.token ≡ word_at word.Each each = cc right in
        let all : ts ≡ us ++ Tail dot each fault.after =
        fault.parts ∙ ap (λ (ws : List Token). ws ++ fault.token ∷ fault.after) left ∙ append_assoc us (t ∷ []) (fault.token ∷ fault.after)
        ∙ ap (λ (w : Token). us ++ w ∷ fault.token ∷ fault.after) first ∙ ap (λ (w : Token). us ++ mark_at mark.Dot dot ∷ w ∷ fault.after) second in
        let len = ap length all in
        let sum = length-append us (Tail dot each fault.after) in
        let reads = front_only us (Tail dot each fault.after) y s (omega (arith, few, len, sum)) refl in
        let bad : Ok (y, Tail dot each fault.after) ≡ Err f = sym reads ∙ ap expr_at (sym all) ∙ h in
        cc bad
    behind us vs (t ∷ u ∷ m) more dot each y s left right =
        let fault = expr_fault ts f few ended h in
        let first : t ≡ mark_at mark.Dot dot = cc right in
        let second : u ≡ word_at word.Each each = cc right in
        let others : List Token = word_at word.Each each ∷ (m ++ fault.begins.0) in
        let whole : fault.before ++ fault.begins.0 ≡ us ++ mark_at mark.Dot dot ∷ others =
        ap (λ (ws : List Token). ws ++ fault.begins.0) left ∙ append_assoc us (t ∷ u ∷ m) fault.begins.0
        ∙ ap (λ (w : Token). us ++ w ∷ u ∷ (m ++ fault.begins.0)) first ∙ ap (λ (w : Token). us ++ mark_at mark.Dot dot ∷ w ∷ (m ++ fault.begins.0)) second in
        apart us others (mark_at mark.Dot dot) y fault.begins.1 s (subst (λ (ws : List Token). Sentence expr ws fault.begins.1) whole fault.begins.2) (ends_tail dot each ((m ++ fault.begins.0) ++ end 0))

-- the first fault is what stands behind the expression, and is no dot
pub list_behind : (ts : List Token) (x : ListFront) (f : ExprFault) → Ended ts → expr_at ts ≡ Ok x → is_mark mark.Dot (first_kind x.1) ≡ false → fault_at None x.1 ≡ f → Stuck Item.listed ts f
list_behind ts x f ended h other fault =
    let found = expr_found ts x h in
    let left : Ended x.1 = ended_behind found.used x.1 (plain expr found.used x.0 found.sentence) (subst Ended found.parts ended) in
    let stop : Token = token (first_kind x.1) (place x.1) in
    record {
      before = found.used;
      stop = stop;
      after = drop 1 x.1;
      parts = found.parts ∙ ap (λ (us : List Token). found.used ++ us) (some_left x.1 left);
      begins = (Tail 0 0 [], x.0, (found.used, 0, 0, refl, found.sentence));
      stops = λ us vs more y s follows same.
          let whole : s.0 ++ Tail s.1 s.2 vs ≡ found.used ++ stop ∷ more = sym (ap (λ (ws : List Token). ws ++ vs) s.3 ∙ append_assoc s.0 (Tail s.1 s.2 []) vs) ∙ same in
          let both = same_sentence ts x s.0 (Tail s.1 s.2 vs) (stop ∷ more) y h (alike_first x.1 (stop ∷ more) refl other) s.4 (ends_tail s.1 s.2 vs) whole in
          let dot : true ≡ false = ap (λ (ws : List Token). is_mark mark.Dot (first_kind ws)) both.1 ∙ other in
          cc dot;
      is = agrees_at None [] x.1 f refl fault ∙ ap (λ (places : List ℕ). fault_behind places stop.at stop.kind) (sym (even expr found.used x.0 found.sentence []));
    }

pub each_follows : (ts : List Token) → is_mark mark.Dot (first_kind ts) ≡ true → has_step ts ≡ false → is_word word.Each (first_kind (drop 1 ts)) ≡ false → ⊥
each_follows ts dot none other = let step : has_step ts ≡ true = rw (dot, other) refl in let bad : true ≡ false = sym step ∙ none in cc bad

pub listed_stuck : (ts : List Token) (f : ExprFault) → length ts ≤ 201 → Ended ts → listed_at ts ≡ Err f → Stuck Item.listed ts f
unfolding listed_at
listed_stuck ts f few ended h =
    elim (bind_err (expr_at ts) (λ (y : ListFront). after_mark mark.Dot y.1 >>= λ (a : List Token). after_word word.Each a >>= λ (rest : List Token). Ok (y.0, rest)) f h) [
      | inl d ↦ list_inside ts f few ended d
      | inr b ↦
          elim (bind_err (after_mark mark.Dot b.0.1) (λ (a : List Token). after_word word.Each a >>= λ (rest : List Token). Ok (b.0.0, rest)) f b.2) [
            | inl d ↦ let g = expected_err (is_mark mark.Dot (first_kind b.0.1)) b.0.1 f d in list_behind ts b.0 f ended b.1 g.0 g.1
            | inr c ↦
                let dot = expected_found (is_mark mark.Dot (first_kind b.0.1)) b.0.1 c.0 c.1 in
                elim (bind_err (after_word word.Each c.0) (λ (rest : List Token). Ok (b.0.0, rest)) f c.2) [
                  | inl d ↦
                      let g = expected_err (is_word word.Each (first_kind c.0)) c.0 f d in
                      absurd (each_follows b.0.1 dot.0 ((expr_found ts b.0 b.1).ended tt) (ap (λ (us : List Token). is_word word.Each (first_kind us)) dot.1 ∙ g.0))
                  | inr d ↦ absurd (let bad : Ok (b.0.0, d.0) ≡ Err f = d.2 in cc)
                ]
          ]
    ]
