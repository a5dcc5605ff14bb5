-- The laws of all items.
use denote.Enum.Bare.{same_true, true_same}
use Rattle.std.proofs.Common.{◌≡◌, ◌≤◌, ℕ, ◌+◌, Bool, true, false, cond, ◌==◌, List, [], ◌∷◌, ◌++◌, length, drop, None, Result, Ok, Err, refl, sym, ap, subst, ◌∙◌, inl, inr, ◌⊎◌, append_assoc, bytes_eq, arith}
use Rattle.std.proofs.lemmas.Bool.{cases_Bool}
use Rattle.std.proofs.lemmas.List.{length-append, append-nil, append_cancel_right}
use Rattle.std.proofs.lemmas.Bool.Decides.{Decides-eqb}
use Rattle.std.proofs.lemmas.Slice.Eq.{bytes_eq-Decides}
use Rattle.doll_expr.specs.contracts.token.Mark as marks
use Rattle.doll_text.specs.contracts.words.Word as words
use Rattle.doll_expr.specs.declared.expr.Expr.{Expr}
use Rattle.doll_expr.specs.declared.expr.Expr.TheVariants as e
use Rattle.doll_expr.specs.declared.expr.ExprFault.{ExprFault}
use Rattle.doll_expr.specs.declared.token.Mark.{Mark}
use Rattle.doll_expr.specs.declared.token.Mark.TheVariants as mark
use Rattle.doll_text.specs.declared.words.Word.{Word}
use Rattle.doll_text.specs.declared.words.Word.TheVariants as word
use Rattle.doll_expr.specs.declared.token.Token.{Token}
use Rattle.doll_expr.specs.declared.token.TokenKind.{TokenKind}
use Rattle.doll_expr.specs.declared.token.TokenKind.TheVariants as kind
use Rattle.doll_expr.specs.Tokens.{token, is_last, is_mark, is_word}
use Rattle.doll_expr.specs.Grammar.{expr, Sentence, mark_at, word_at}
use Rattle.doll_expr.specs.Reading.{◌>>=◌, first_kind, place, fault_at, expr_at, has_step, is_end}
use Rattle.doll_expr.specs.Faults.{opened_by, opened_after, fault_behind}
use Rattle.doll_expr.proofs.Rules.{first_is, bind_ok, chosen, ok_is}
use Rattle.doll_expr.proofs.Found.{expr_found}
use Rattle.doll_expr.proofs.Fuel.{Alike}
use Rattle.doll_expr.proofs.Shapes.{after_append, Plain, plain, Even, even, goes_on}
use Rattle.doll_expr.proofs.Only.{EndsOr, front_only}
use Rattle.doll_expr.proofs.Ended.{Ended, ended_rest, ended_behind, some_left}
use Rattle.doll_expr.proofs.Stuck.{bind_err, agrees_at}
use Rattle.doll_erb.specs.declared.node.Local.{Local}
use Rattle.doll_erb.specs.declared.node.KeyPart.{KeyPart}
use Rattle.doll_erb.specs.declared.node.KeyPart.TheVariants as part
use Rattle.doll_erb.specs.Partials.{is_partial}
use Rattle.doll_erb.specs.Shapes.{Fixed, the_mark, the_word, fixed_kind, is_fixed, Item, Said, Stands, has_local, IsTextAlone, IsPart, part_path, part_symbol, part_text, expected, after_mark, after_word, named, called, value_at, listed_at, path_at, symbol_at, text_at, part_by, item_at}
use Rattle.doll_erb.proofs.Expressions.{split, end, EndsValue, ends_or, ends_same, apart, alike_first, same_sentence, value_only, expr_fault, value_fault, value_found, is_own, expr_first, alone, nil}
use Rattle.doll_erb.proofs.Items.{Follows, Taken, Stuck, fixed_is, fixed_self, IsEven, fixed_taken, fixed_stuck, longer, too_long, name_taken, name_stuck, a_partial, partial_taken, partial_stuck, value_taken, value_stuck, listed_taken, Tail, listed_stuck}
use Rattle.doll_erb.proofs.KeyParts.{len_alone, part_taken, part_stuck}

-- ---- all items

-- an item whose fixed tokens are no parentheses
abbrev pub Fits : Item → Type 0
Fits (Item.fixed f) = IsEven f
Fits _ = Unit {0}

pub item_taken : (i : Item) → Fits i → (ts : List Token) (x : Said i × List Token) → item_at i ts ≡ Ok x → Taken i ts x
unfolding item_at
item_taken (Item.fixed f) fits ts x h = fixed_taken f fits ts x h
item_taken (Item.new_name locals) fits ts x h = name_taken locals ts x h
item_taken Item.partial fits ts x h = partial_taken ts x h
item_taken Item.value fits ts x h = value_taken ts x h
item_taken Item.listed fits ts x h = listed_taken ts x h
item_taken Item.key_part fits ts x h = part_taken ts x h

pub item_stuck : (i : Item) (ts : List Token) (f : ExprFault) → length ts ≤ 201 → Ended ts → item_at i ts ≡ Err f → Stuck i ts f
unfolding item_at
item_stuck (Item.fixed g) ts f few ended h = fixed_stuck g ts f ended h
item_stuck (Item.new_name locals) ts f few ended h = name_stuck locals ts f ended h
item_stuck Item.partial ts f few ended h = partial_stuck ts f ended h
item_stuck Item.value ts f few ended h = value_stuck ts f few ended h
item_stuck Item.listed ts f few ended h = listed_stuck ts f few ended h
item_stuck Item.key_part ts f few ended h = part_stuck ts f few ended h

-- something that is the item
pub some_item : (i : Item) → (us : List Token) × (x : Said i) × Stands i us x
some_item (Item.fixed f) = (token (fixed_kind f) 0 ∷ [], tt, (0, refl))
some_item (Item.new_name locals) = (token (kind.Name (longer locals)) 0 ∷ [], longer locals, (0, refl, too_long locals (longer locals) (omega arith)))
some_item Item.partial = (token (kind.Text (97 ∷ [])) 0 ∷ [], (97 ∷ [], 0), (refl, a_partial))
some_item Item.value = (word_at word.Nil 0 ∷ [], e.Nil, nil)
some_item Item.listed = (word_at word.Nil 0 ∷ Tail 0 0 [], e.Nil, (word_at word.Nil 0 ∷ [], 0, 0, refl, nil))
some_item Item.key_part = (token (kind.Text []) 0 ∷ [], part.Literal [], part_text [] 0)

-- ---- what stands at the front is read

fixed_only : (f : Fixed) (at : ℕ) (rest : List Token) → item_at (Item.fixed f) (token (fixed_kind f) at ∷ rest) ≡ Ok (tt, rest)
unfolding item_at
fixed_only f at rest = rw (fixed_self f) refl

name_only : (locals : List Local) (name : List ℕ) (at : ℕ) (rest : List Token) → has_local locals name ≡ false → item_at (Item.new_name locals) (token (kind.Name name) at ∷ rest) ≡ Ok (name, rest)
unfolding item_at
name_only locals name at rest fresh = rw fresh refl

partial_only : (name : List ℕ) (at : ℕ) (rest : List Token) → is_partial name ≡ true → item_at Item.partial (token (kind.Text name) at ∷ rest) ≡ Ok ((name, at), rest)
unfolding item_at
partial_only name at rest is = rw is refl

listed_only : (us rest : List Token) (dot each : ℕ) (a : Expr) → expr_at (us ++ Tail dot each rest) ≡ Ok (a, Tail dot each rest) → listed_at (us ++ Tail dot each rest) ≡ Ok (a, rest)
unfolding listed_at
listed_only us rest dot each a reads = rw reads refl

text_whole : (text : List ℕ) (at : ℕ) (rest : List Token) → value_at (token (kind.Text text) at ∷ rest) ≡ Ok (e.Text text, rest) → (length rest + 1 == length (token (kind.Text text) at ∷ rest)) ≡ true
    → text_at text (token (kind.Text text) at ∷ rest) ≡ Ok (part.Literal text, rest)
text_whole text at rest reads one = rw (reads, one) refl

text_more : (text : List ℕ) (ts rest : List Token) (a : Expr) → value_at ts ≡ Ok (a, rest) → (length rest + 1 == length ts) ≡ false → text_at text ts ≡ Ok (part.Path a, rest)
text_more text ts rest a reads more = rw (reads, more) refl

path_whole : (ts rest : List Token) (a : Expr) → value_at ts ≡ Ok (a, rest) → path_at ts ≡ Ok (part.Path a, rest)
path_whole ts rest a reads = rw reads refl

path_only : (k : TokenKind) (us rest : List Token) (a : Expr) → Sentence expr us a → (IsTextAlone us → ⊥) → first_kind (us ++ rest) ≡ k → value_at (us ++ rest) ≡ Ok (a, rest) → part_by k (us ++ rest) ≡ Ok (part.Path a, rest)
path_only (kind.Text text) us rest a s other is reads = text_more text (us ++ rest) rest a reads more
  where
    more : (length rest + 1 == length (us ++ rest)) ≡ false
    more = elim (cases_Bool (length rest + 1 == length (us ++ rest))) [
      | inl d ↦ absurd (other (text, place (us ++ rest), len_alone us rest (us ++ rest) (kind.Text text) refl is d))
      | inr d ↦ d
    ]
path_only (kind.Mark mark.Colon) us rest a s other is reads =
    let first = expr_first us a s in
    let head : first.0.kind ≡ kind.Mark mark.Colon = ap (λ (ws : List Token). first_kind (ws ++ rest)) (sym first.2) ∙ is in
    let bad : true ≡ false = sym first.3 ∙ ap is_own head in
    absurd (cc bad)
path_only _ us rest a s other is reads = path_whole (us ++ rest) rest a reads

part_only : (us : List Token) (x : KeyPart) → IsPart us x → (rest : List Token) → length us ≤ 200 → EndsValue rest → part_by (first_kind (us ++ rest)) (us ++ rest) ≡ Ok (x, rest)
part_only _ _ (part_path us a s other) = λ rest few ends. path_only (first_kind (us ++ rest)) us rest a s other refl (value_only us rest a s few ends)
part_only _ _ (part_symbol name colon at) = λ rest few ends. refl
part_only _ _ (part_text text at) = λ rest few ends.
    let one : length rest + 1 ≡ length (token (kind.Text text) at ∷ rest) = omega arith in
    text_whole text at rest (value_only (token (kind.Text text) at ∷ []) rest (e.Text text) (alone at text) few ends) ((Decides-eqb (length rest + 1) (length (token (kind.Text text) at ∷ rest))).1 one)

key_only : (us rest : List Token) (x : KeyPart) → part_by (first_kind (us ++ rest)) (us ++ rest) ≡ Ok (x, rest) → item_at Item.key_part (us ++ rest) ≡ Ok (x, rest)
unfolding item_at
key_only us rest x reads = reads

value_item : (us rest : List Token) (x : Expr) → value_at (us ++ rest) ≡ Ok (x, rest) → item_at Item.value (us ++ rest) ≡ Ok (x, rest)
unfolding item_at
value_item us rest x reads = reads

listed_item : (ts rest : List Token) (x : Expr) → listed_at ts ≡ Ok (x, rest) → item_at Item.listed ts ≡ Ok (x, rest)
unfolding item_at
listed_item ts rest x reads = reads

pub item_only : (i : Item) (us rest : List Token) (x : Said i) → Stands i us x → length us ≤ 200 → Follows i rest → item_at i (us ++ rest) ≡ Ok (x, rest)
item_only (Item.fixed f) us rest x s few ends = ap (λ (ws : List Token). item_at (Item.fixed f) (ws ++ rest)) s.1 ∙ fixed_only f s.0 rest
item_only (Item.new_name locals) us rest x s few ends = ap (λ (ws : List Token). item_at (Item.new_name locals) (ws ++ rest)) s.1 ∙ name_only locals x s.0 rest s.2
item_only Item.partial us rest x s few ends = ap (λ (ws : List Token). item_at Item.partial (ws ++ rest)) s.0 ∙ partial_only x.0 x.1 rest s.1
item_only Item.value us rest x s few ends = value_item us rest x (value_only us rest x s few ends)
item_only Item.listed us rest x s few ends =
    let len = ap length s.3 in
    let sum = length-append s.0 (Tail s.1 s.2 []) in
    let all : us ++ rest ≡ s.0 ++ Tail s.1 s.2 rest = ap (λ (ws : List Token). ws ++ rest) s.3 ∙ append_assoc s.0 (Tail s.1 s.2 []) rest in
    ap (item_at Item.listed) all ∙ listed_item (s.0 ++ Tail s.1 s.2 rest) rest x (listed_only s.0 rest s.1 s.2 x (front_only s.0 (Tail s.1 s.2 rest) x s.4 (omega (arith, few, len, sum)) refl))
item_only Item.key_part us rest x s few ends = key_only us rest x (part_only us x s rest few ends)

-- ---- the first token of an item

abbrev pub Opens : Item → Token → Type 0
Opens (Item.fixed f) t = t.kind ≡ fixed_kind f
Opens (Item.new_name locals) t = Unit {0}
Opens Item.partial t = (name : List ℕ) × (t.kind ≡ kind.Text name)
Opens Item.value t = is_own t.kind ≡ true
Opens Item.listed t = is_own t.kind ≡ true
Opens Item.key_part t = is_mark mark.OpenBracket t.kind ≡ false

pub own_fixed : (f : Fixed) (k : TokenKind) → is_own k ≡ true → is_own (fixed_kind f) ≡ false → is_fixed f k ≡ false
own_fixed f k own other = elim (cases_Bool (is_fixed f k)) [
  | inl d ↦ absurd (let bad : true ≡ false = sym own ∙ ap is_own (fixed_is f k d) ∙ other in cc bad)
  | inr d ↦ d
]

abbrev Begins : Item → List Token → Type 0
Begins i us = (t : Token) × (ts : List Token) × (us ≡ t ∷ ts) × Opens i t

part_begins : (us : List Token) (x : KeyPart) → IsPart us x → Begins Item.key_part us
part_begins _ _ (part_path us a s other) = let first = expr_first us a s in (first.0, first.1, first.2, own_fixed (the_mark mark.OpenBracket) first.0.kind first.3 refl)
part_begins _ _ (part_symbol name colon at) = (mark_at mark.Colon colon, token (kind.Name name) at ∷ [], refl, refl)
part_begins _ _ (part_text text at) = (token (kind.Text text) at, [], refl, refl)

pub item_begins : (i : Item) (us : List Token) (x : Said i) → Stands i us x → Begins i us
item_begins (Item.fixed f) us x s = (token (fixed_kind f) s.0, [], s.1, refl)
item_begins (Item.new_name locals) us x s = (token (kind.Name x) s.0, [], s.1, tt)
item_begins Item.partial us x s = (token (kind.Text x.0) x.1, [], s.0, (x.0, refl))
item_begins Item.value us x s = let first = expr_first us x s in (first.0, first.1, first.2, first.3)
item_begins Item.listed us x s =
    let first = expr_first s.0 x s.4 in
    (first.0, first.1 ++ Tail s.1 s.2 [], s.3 ∙ ap (λ (ws : List Token). ws ++ Tail s.1 s.2 []) first.2, first.3)
item_begins Item.key_part us x s = part_begins us x s
