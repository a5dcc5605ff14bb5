-- The laws of shapes: what is read is a sentence or has the first fault, and a sentence is read.
use Rattle.std.proofs.Common.{◌≡◌, ◌≤◌, ℕ, Bool, true, false, cond, List, [], ◌∷◌, ◌++◌, length, drop, None, Result, Ok, Err, refl, sym, ap, subst, ◌∙◌, inl, inr, ◌⊎◌, append_assoc, arith}
use Rattle.std.proofs.lemmas.List.{length-append}
use Rattle.doll_expr.specs.declared.expr.ExprFault.{ExprFault}
use Rattle.doll_expr.specs.declared.token.Token.{Token}
use Rattle.doll_expr.specs.declared.token.TokenKind.{TokenKind}
use Rattle.doll_expr.specs.Tokens.{token, is_last}
use Rattle.doll_expr.specs.Reading.{◌>>=◌, first_kind, place, fault_at, is_end}
use Rattle.doll_expr.specs.Faults.{opened_after, fault_behind}
use Rattle.doll_expr.proofs.Rules.{end_is}
use Rattle.doll_expr.proofs.Shapes.{after_append}
use Rattle.doll_expr.proofs.Ended.{Ended, ended_rest, ended_behind, some_left}
use Rattle.doll_expr.proofs.Stuck.{agrees_at}
use Rattle.doll_erb.specs.Shapes.{Fixed, fixed_kind, is_fixed, Item, Said, Front, Stands, item_at, Shape, Says, reads, HasTokens}
use Rattle.doll_erb.proofs.Expressions.{end, EndsValue}
use Rattle.doll_erb.proofs.Items.{Follows, IsEven, fixed_self, fixed_first, fixed_plain}
use Rattle.doll_erb.proofs.KeyParts.{first_same}
use Rattle.doll_erb.proofs.AllItems.{Fits, item_taken, item_stuck, item_only, some_item, Opens, item_begins}

-- ---- which shapes are told apart by their next token

-- this holds of all that begins as the shape's sentences do
abbrev pub Starts : {A : Type 0} → (List Token → Type 0) → Shape A → Type 0
Starts P (Shape.ends a) = (last : ℕ) → P (end last)
Starts P (Shape.then (Item.fixed f) next) = (at : ℕ) (ts : List Token) → P (token (fixed_kind f) at ∷ ts)
Starts P (Shape.then i next) = (t : Token) (ts : List Token) → Opens i t → P (t ∷ ts)
Starts P (Shape.either f one other) = ((at : ℕ) (ts : List Token) → P (token (fixed_kind f) at ∷ ts)) × Starts P other

-- what follows an item ends it
abbrev pub Behind : {A : Type 0} → Item → Shape A → Type 0
Behind Item.value shape = Starts EndsValue shape
Behind Item.key_part shape = Starts EndsValue shape
Behind _ shape = Unit {0}

-- no fixed token is a parenthesis, what follows an item ends it, and the other of two doesn't begin with the token
abbrev pub Sound : {A : Type 0} → Shape A → Type 0
Sound (Shape.ends a) = Unit {0}
Sound (Shape.then i next) = Fits i × ((x : Said i) → Behind i (next x) × Sound (next x))
Sound (Shape.either f one other) = IsEven f × Sound one × Sound other × Starts (λ ts. is_fixed f (first_kind ts) ≡ false) other

token_of : (t : Token) (k : TokenKind) → t.kind ≡ k → t ≡ token k t.at
token_of t k h = ap (λ (j : TokenKind). token j t.at) h

front_of : (P : List Token → Type 0) (us vs ts : List Token) (t : Token) (last : ℕ) → us ≡ t ∷ ts → P (t ∷ (ts ++ (vs ++ end last))) → P ((us ++ vs) ++ end last)
front_of P us vs ts t last first p = subst P (sym (append_assoc us vs (end last) ∙ ap (λ (ws : List Token). ws ++ (vs ++ end last)) first)) p

item_starts : {A : Type 0} (P : List Token → Type 0) (i : Item) (next : Said i → Shape A) (us vs : List Token) (x : Said i) (last : ℕ) → Starts P (Shape.then i next) → Stands i us x → P ((us ++ vs) ++ end last)
item_starts P (Item.fixed f) next us vs x last starts s = front_of P us vs [] (token (fixed_kind f) s.0) last s.1 (starts s.0 (vs ++ end last))
item_starts P (Item.new_name locals) next us vs x last starts s = let b = item_begins (Item.new_name locals) us x s in front_of P us vs b.1 b.0 last b.2 (starts b.0 (b.1 ++ (vs ++ end last)) b.3)
item_starts P Item.partial next us vs x last starts s = let b = item_begins Item.partial us x s in front_of P us vs b.1 b.0 last b.2 (starts b.0 (b.1 ++ (vs ++ end last)) b.3)
item_starts P Item.value next us vs x last starts s = let b = item_begins Item.value us x s in front_of P us vs b.1 b.0 last b.2 (starts b.0 (b.1 ++ (vs ++ end last)) b.3)
item_starts P Item.listed next us vs x last starts s = let b = item_begins Item.listed us x s in front_of P us vs b.1 b.0 last b.2 (starts b.0 (b.1 ++ (vs ++ end last)) b.3)
item_starts P Item.key_part next us vs x last starts s = let b = item_begins Item.key_part us x s in front_of P us vs b.1 b.0 last b.2 (starts b.0 (b.1 ++ (vs ++ end last)) b.3)

sentence_starts : {A : Type 0} (P : List Token → Type 0) (shape : Shape A) (ts : List Token) (r : Result A ExprFault) (last : ℕ) → Starts P shape → Says shape ts r → P (ts ++ end last)
sentence_starts P (Shape.ends a) ts r last starts says = subst (λ (us : List Token). P (us ++ end last)) (sym says.0) (starts last)
sentence_starts P (Shape.then i next) ts r last starts says = subst (λ (us : List Token). P (us ++ end last)) (sym says.3) (item_starts P i next says.0 says.1 says.2 last starts says.4)
sentence_starts P (Shape.either f one other) ts r last starts (inl says) = subst (λ (us : List Token). P (us ++ end last)) (sym says.2) (starts.0 says.0 (says.1 ++ end last))
sentence_starts P (Shape.either f one other) ts r last starts (inr says) = sentence_starts P other ts r last starts.1 says

follows : {A : Type 0} (i : Item) (shape : Shape A) (ts : List Token) (r : Result A ExprFault) (last : ℕ) → Behind i shape → Says shape ts r → Follows i (ts ++ end last)
follows (Item.fixed f) shape ts r last behind says = tt
follows (Item.new_name locals) shape ts r last behind says = tt
follows Item.partial shape ts r last behind says = tt
follows Item.value shape ts r last behind says = sentence_starts EndsValue shape ts r last behind says
follows Item.listed shape ts r last behind says = tt
follows Item.key_part shape ts r last behind says = sentence_starts EndsValue shape ts r last behind says

-- each shape has a sentence
some_sentence : {A : Type 0} (shape : Shape A) → (ts : List Token) × (r : Result A ExprFault) × Says shape ts r
some_sentence (Shape.ends a) = ([], a, (refl, refl))
some_sentence (Shape.then i next) =
    let item = some_item i in
    let more = some_sentence (next item.1) in
    (item.0 ++ more.0, more.1, (item.0, more.0, item.1, refl, item.2, more.2))
some_sentence (Shape.either f one other) = let some = some_sentence other in (some.0, some.1, inr some.2)

-- ---- a sentence is read

ends_read : {A : Type 0} (a : Result A ExprFault) (last : ℕ) → reads (Shape.ends a) (end last) ≡ a
unfolding reads
ends_read a last = refl

then_reads : {A : Type 0} (i : Item) (next : Said i → Shape A) (ts rest : List Token) (x : Said i) → item_at i ts ≡ Ok (x, rest) → reads (Shape.then i next) ts ≡ reads (next x) rest
unfolding reads
then_reads i next ts rest x h = rw h refl

one_reads : {A : Type 0} (f : Fixed) (one other : Shape A) (at : ℕ) (ts : List Token) → reads (Shape.either f one other) (token (fixed_kind f) at ∷ ts) ≡ reads one ts
unfolding reads
one_reads f one other at ts = rw (fixed_self f) refl

other_reads : {A : Type 0} (f : Fixed) (one other : Shape A) (ts : List Token) → is_fixed f (first_kind ts) ≡ false → reads (Shape.either f one other) ts ≡ reads other ts
unfolding reads
other_reads f one other ts h = rw h refl

pub sentence_read : {A : Type 0} (shape : Shape A) → Sound shape → (ts : List Token) (r : Result A ExprFault) (last : ℕ) → Says shape ts r → length ts ≤ 200 → reads shape (ts ++ end last) ≡ r
sentence_read (Shape.ends a) sound ts r last says few = ap (λ (us : List Token). reads (Shape.ends a) (us ++ end last)) says.0 ∙ ends_read a last ∙ says.1
sentence_read (Shape.then i next) sound ts r last says few =
    let us : List Token = says.0 in
    let vs : List Token = says.1 in
    let b = sound.1 says.2 in
    let len = ap length says.3 in
    let sum = length-append says.0 says.1 in
    ap (λ (ws : List Token). reads (Shape.then i next) (ws ++ end last)) says.3 ∙ ap (reads (Shape.then i next)) (append_assoc says.0 says.1 (end last))
    ∙ then_reads i next (says.0 ++ (says.1 ++ end last)) (says.1 ++ end last) says.2 (item_only i says.0 (says.1 ++ end last) says.2 says.4 (omega (arith, few, len, sum)) (follows i (next says.2) says.1 r last b.0 says.5))
    ∙ sentence_read (next says.2) b.1 says.1 r last says.5 (omega (arith, few, len, sum))
sentence_read (Shape.either f one other) sound ts r last (inl says) few =
    let len = ap length says.2 in
    ap (λ (ws : List Token). reads (Shape.either f one other) (ws ++ end last)) says.2 ∙ one_reads f one other says.0 (says.1 ++ end last) ∙ sentence_read one sound.1 says.1 r last says.3 (omega (arith, few, len))
sentence_read (Shape.either f one other) sound ts r last (inr says) few =
    other_reads f one other (ts ++ end last) (sentence_starts (λ us. is_fixed f (first_kind us) ≡ false) other ts r last sound.3 says) ∙ sentence_read other sound.2 ts r last says few

-- ---- what is read is a sentence, or has the first fault

-- these tokens are a sentence that comes to this, and then the end
abbrev pub Whole : {A : Type 0} → Shape A → List Token → Result A ExprFault → Type 0
Whole shape ts r = (us : List Token) × HasTokens ts us × Says shape us r

-- the token with which no sentence of the shape goes on
pub record Halts {A : Type 0} (shape : Shape A) (ts : List Token) (r : Result A ExprFault) : Type 0 where
  pub fault : ExprFault
  pub told : r ≡ Err fault
  pub before : List Token
  pub stop : Token
  pub after : List Token
  pub parts : ts ≡ before ++ stop ∷ after
  pub begins : (more : List Token) × (a : Result A ExprFault) × Says shape (before ++ more) a
  pub stops : (us more : List Token) (a : Result A ExprFault) (last : ℕ) → Says shape us a → us ++ end last ≡ before ++ stop ∷ more → ⊥
  pub is : fault ≡ fault_behind (opened_after [] before) stop.at stop.kind

abbrev Read : {A : Type 0} → Shape A → List Token → Result A ExprFault → Type 0
Read shape ts r = Whole shape ts r ⊎ Halts shape ts r

end_alone : (t : Token) (ts : List Token) → Ended (t ∷ ts) → is_end t.kind ≡ true → t ∷ ts ≡ end t.at
end_alone t [] ended h = ap (λ (k : TokenKind). token k t.at ∷ []) (end_is t.kind h)
end_alone t (u ∷ ts) ended h = absurd (let f : true ≡ false = sym (ap is_last (end_is t.kind h)) ∙ ended.0 in cc f)

end_left : (ts : List Token) → Ended ts → is_end (first_kind ts) ≡ true → ts ≡ end (place ts)
end_left [] ended h = absurd ended
end_left (t ∷ ts) ended h = end_alone t ts ended h

ends_law : {A : Type 0} (a : Result A ExprFault) (ts : List Token) → Ended ts → (b : Bool) → is_end (first_kind ts) ≡ b → Read (Shape.ends a) ts (cond b a (Err (fault_at None ts)))
ends_law a ts ended true is = inl ([], (place ts, end_left ts ended is), (refl, refl))
ends_law a ts ended false is = inr (record {
  fault = fault_at None ts;
  told = refl;
  before = [];
  stop = token (first_kind ts) (place ts);
  after = drop 1 ts;
  parts = some_left ts ended;
  begins = ([], a, (refl, refl));
  stops = λ us more r last says same.
      let all : end last ≡ token (first_kind ts) (place ts) ∷ more = ap (λ (ws : List Token). ws ++ end last) (sym says.0) ∙ same in
      let bad : true ≡ false = ap (λ (ws : List Token). is_end (first_kind ws)) all ∙ is in
      cc bad;
  is = agrees_at None [] ts (fault_at None ts) refl refl;
})

-- the first fault is within the item
item_halts : {A : Type 0} (i : Item) (next : Said i → Shape A) (ts : List Token) (f : ExprFault) → Sound (Shape.then i next) → length ts ≤ 201 → Ended ts → item_at i ts ≡ Err f → Halts (Shape.then i next) ts (Err f)
item_halts i next ts f sound few ended h =
    let s = item_stuck i ts f few ended h in
    let more = some_sentence (next s.begins.1) in
    record {
      fault = f;
      told = refl;
      before = s.before;
      stop = s.stop;
      after = s.after;
      parts = s.parts;
      begins = (s.begins.0 ++ more.0, more.1, (s.before ++ s.begins.0, more.0, s.begins.1, sym (append_assoc s.before s.begins.0 more.0), s.begins.2, more.2));
      stops = λ us others r last says same.
          s.stops says.0 (says.1 ++ end last) others says.2 says.4 (follows i (next says.2) says.1 r last (sound.1 says.2).0 says.5)
          (sym (ap (λ (ws : List Token). ws ++ end last) says.3 ∙ append_assoc says.0 says.1 (end last)) ∙ same);
      is = s.is;
    }

-- an item, and what stands behind it
behind_item : {A : Type 0} (i : Item) (next : Said i → Shape A) (ts : List Token) (x : Said i × List Token) (r : Result A ExprFault) → Sound (Shape.then i next) → item_at i ts ≡ Ok x
    → Read (next x.0) x.1 r → Read (Shape.then i next) ts r
behind_item i next ts x r sound h (inl whole) =
    let t = item_taken i sound.0 ts x h in
    inl (t.used ++ whole.0, (whole.1.0, t.parts ∙ ap (λ (us : List Token). t.used ++ us) whole.1.1 ∙ sym (append_assoc t.used whole.0 (end whole.1.0))), (t.used, whole.0, x.0, refl, t.is, whole.2))
behind_item i next ts x r sound h (inr s) =
    let t = item_taken i sound.0 ts x h in
    inr (record {
      fault = s.fault;
      told = s.told;
      before = t.used ++ s.before;
      stop = s.stop;
      after = s.after;
      parts = t.parts ∙ ap (λ (us : List Token). t.used ++ us) s.parts ∙ sym (append_assoc t.used s.before (s.stop ∷ s.after));
      begins = (s.begins.0, s.begins.1, (t.used, s.before ++ s.begins.0, x.0, append_assoc t.used s.before s.begins.0, t.is, s.begins.2));
      stops = λ us more a last says same.
          let whole : says.0 ++ (says.1 ++ end last) ≡ t.used ++ (s.before ++ s.stop ∷ more) =
          sym (ap (λ (ws : List Token). ws ++ end last) says.3 ∙ append_assoc says.0 says.1 (end last)) ∙ same ∙ append_assoc t.used s.before (s.stop ∷ more) in
          let first : first_kind (s.before ++ s.stop ∷ more) ≡ first_kind x.1 = first_same s.before s.stop s.after more ∙ ap first_kind (sym s.parts) in
          let b = t.one says.0 (says.1 ++ end last) (s.before ++ s.stop ∷ more) says.2 says.4 (follows i (next says.2) says.1 a last (sound.1 says.2).0 says.5) whole first in
          s.stops says.1 more a last (subst (λ (y : Said i). Says (next y) says.1 a) b.0 says.5) b.1;
      is = s.is ∙ ap (λ (places : List ℕ). fault_behind places s.stop.at s.stop.kind) (sym (after_append [] t.used s.before ∙ ap (λ (places : List ℕ). opened_after places s.before) (t.even [])));
    })

-- the token that decides, and what stands behind it
behind_token : {A : Type 0} (f : Fixed) (one other : Shape A) (ts : List Token) (r : Result A ExprFault) → Sound (Shape.either f one other) → is_fixed f (first_kind ts) ≡ true
    → Read one (drop 1 ts) r → Read (Shape.either f one other) ts r
behind_token {A = A} f one other ts r sound h (inl whole) =
    inl (token (fixed_kind f) (place ts) ∷ whole.0, (whole.1.0, fixed_first f ts h ∙ ap (λ (us : List Token). token (fixed_kind f) (place ts) ∷ us) whole.1.1), inl (place ts, whole.0, refl, whole.2))
behind_token {A = A} f one other ts r sound h (inr s) =
    let t : Token = token (fixed_kind f) (place ts) in
    inr (record {
      fault = s.fault;
      told = s.told;
      before = t ∷ s.before;
      stop = s.stop;
      after = s.after;
      parts = fixed_first f ts h ∙ ap (λ (us : List Token). t ∷ us) s.parts;
      begins = (s.begins.0, s.begins.1, inl (place ts, s.before ++ s.begins.0, refl, s.begins.2));
      stops = λ us more a last says same. stops (s.before ++ s.stop ∷ more) us a last says same (λ vs. s.stops vs more a last);
      is = s.is ∙ ap (λ (places : List ℕ). fault_behind (opened_after places s.before) s.stop.at s.stop.kind) (sym (sound.0 [] (place ts)));
    })
  where
    stops : (rest us : List Token) (a : Result A ExprFault) (last : ℕ) → Says (Shape.either f one other) us a → us ++ end last ≡ token (fixed_kind f) (place ts) ∷ rest
        → ((vs : List Token) → Says one vs a → vs ++ end last ≡ rest → ⊥) → ⊥
    stops rest us a last (inl says) same never = never says.1 says.3 (ap (drop 1) (ap (λ (ws : List Token). ws ++ end last) (sym says.2) ∙ same))
    stops rest us a last (inr says) same never =
        let starts = sentence_starts (λ ws. is_fixed f (first_kind ws) ≡ false) other us a last sound.3 says in
        let bad : true ≡ false = sym (fixed_self f) ∙ ap (λ (ws : List Token). is_fixed f (first_kind ws)) (sym same) ∙ starts in
        cc bad

-- another token
behind_other : {A : Type 0} (f : Fixed) (one other : Shape A) (ts : List Token) (r : Result A ExprFault) → Sound (Shape.either f one other) → is_fixed f (first_kind ts) ≡ false
    → Read other ts r → Read (Shape.either f one other) ts r
behind_other {A = A} f one other ts r sound h (inl whole) = inl (whole.0, whole.1, inr whole.2)
behind_other {A = A} f one other ts r sound h (inr s) = inr (record {
  fault = s.fault;
  told = s.told;
  before = s.before;
  stop = s.stop;
  after = s.after;
  parts = s.parts;
  begins = (s.begins.0, s.begins.1, inr s.begins.2);
  stops = λ us more a last says same. stops us more a last says same;
  is = s.is;
})
  where
    stops : (us more : List Token) (a : Result A ExprFault) (last : ℕ) → Says (Shape.either f one other) us a → us ++ end last ≡ s.before ++ s.stop ∷ more → ⊥
    stops us more a last (inl says) same =
        let head : fixed_kind f ≡ first_kind ts =
        ap (λ (ws : List Token). first_kind (ws ++ end last)) (sym says.2) ∙ ap first_kind same ∙ first_same s.before s.stop s.after more ∙ ap first_kind (sym s.parts) in
        let bad : true ≡ false = sym (fixed_self f) ∙ ap (is_fixed f) head ∙ h in
        cc bad
    stops us more a last (inr says) same = s.stops us more a last says same

by_item : {A : Type 0} (i : Item) (next : Said i → Shape A) → Sound (Shape.then i next) → (ts : List Token) → length ts ≤ 201 → Ended ts
    → ((x : Said i) (us : List Token) → length us ≤ 201 → Ended us → Read (next x) us (reads (next x) us)) → (r : Front (Said i)) → item_at i ts ≡ r
    → Read (Shape.then i next) ts (r >>= λ (x : Said i × List Token). reads (next x.0) x.1)
by_item i next sound ts few ended more (Ok x) is =
    let t = item_taken i sound.0 ts x is in
    let len = ap length t.parts in
    let sum = length-append t.used x.1 in
    behind_item i next ts x (reads (next x.0) x.1) sound is (more x.0 x.1 (omega (arith, few, len, sum)) (ended_behind t.used x.1 t.plain (subst Ended t.parts ended)))
by_item i next sound ts few ended more (Err f) is = inr (item_halts i next ts f sound few ended is)

by_token : {A : Type 0} (f : Fixed) (one other : Shape A) → Sound (Shape.either f one other) → (ts : List Token) → length ts ≤ 201 → Ended ts
    → ((us : List Token) → length us ≤ 201 → Ended us → Read one us (reads one us)) → Read other ts (reads other ts) → (b : Bool) → is_fixed f (first_kind ts) ≡ b
    → Read (Shape.either f one other) ts (cond b (reads one (drop 1 ts)) (reads other ts))
by_token f one other sound ts few ended more without true is =
    let front = fixed_first f ts is in
    let len = ap length front in
    behind_token f one other ts (reads one (drop 1 ts)) sound is (more (drop 1 ts) (omega (arith, few, len)) (ended_rest (token (fixed_kind f) (place ts) ∷ drop 1 ts) (subst Ended front ended) (fixed_plain f)))
by_token f one other sound ts few ended more without false is = behind_other f one other ts (reads other ts) sound is without

pub read_law : {A : Type 0} (shape : Shape A) → Sound shape → (ts : List Token) → length ts ≤ 201 → Ended ts → Read shape ts (reads shape ts)
unfolding reads
read_law (Shape.ends a) sound ts few ended = ends_law a ts ended (is_end (first_kind ts)) refl
read_law (Shape.then i next) sound ts few ended = by_item i next sound ts few ended (λ x us short left. read_law (next x) (sound.1 x).1 us short left) (item_at i ts) refl
read_law (Shape.either f one other) sound ts few ended =
    by_token f one other sound ts few ended (λ us short left. read_law one sound.1 us short left) (read_law other sound.2 ts few ended) (is_fixed f (first_kind ts)) refl
