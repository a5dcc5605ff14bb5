-- Shapes: what the tokens of a tag may be, as data; with their reading from the left, their sentences and the law of the first fault (this project's own).
use Rattle.std.specs.Prelude.{ℕ, ◌≡◌, ◌+◌, ◌==◌, ⊤, Bool, true, false, length, List, [], ◌∷◌, ◌++◌, drop, bytes_eq, None, Result, Ok, Err, ◌⊎◌, if◌then◌else◌}
use Rattle.std.specs.List.{list_any}
use Rattle.doll_expr.specs.declared.expr.Expr.{Expr}
use Rattle.doll_expr.specs.declared.expr.ExprFault.{ExprFault}
use Rattle.doll_expr.specs.declared.token.Mark.{Mark}
use Rattle.doll_expr.specs.declared.token.Mark.TheVariants as mark
use Rattle.doll_text.specs.declared.words.Word.{Word}
use Rattle.doll_text.specs.declared.words.Word.TheVariants as word
use Rattle.doll_expr.specs.declared.token.Token.{Token}
use Rattle.doll_expr.specs.declared.token.TokenKind.{TokenKind}
use Rattle.doll_expr.specs.declared.token.TokenKind.TheVariants as kind
use Rattle.doll_expr.specs.Tokens.{is_mark, is_word, token}
use Rattle.doll_expr.specs.Grammar.{expr, Sentence, mark_at, word_at}
use Rattle.doll_expr.specs.Reading.{◌>>=◌, first_kind, place, fault_at, stops_at, expr_at, is_end}
use Rattle.doll_expr.specs.Faults.{opened_after, fault_behind}
use Rattle.doll_erb.specs.declared.node.Local.{Local}
use Rattle.doll_erb.specs.declared.node.KeyPart.{KeyPart}
use Rattle.doll_erb.specs.declared.node.KeyPart.TheVariants as part
use Rattle.doll_erb.specs.Partials.{is_partial}

-- ---- what stands at one place of a tag

-- A token that is always the same.
pub data Fixed : Type 0 where
  the_mark : Mark → Fixed
  the_word : Word → Fixed

abbrev pub fixed_kind : Fixed → TokenKind
fixed_kind (Fixed.the_mark m) = kind.Mark m
fixed_kind (Fixed.the_word w) = kind.Word w

abbrev pub is_fixed : Fixed → TokenKind → Bool
is_fixed (Fixed.the_mark m) k = is_mark m k
is_fixed (Fixed.the_word w) k = is_word w k

-- What stands at a place of a tag: a fixed token, a name that none of these locals has, the text of a partial's name, an
-- expression, an expression before ". each", or a part of a key.
pub data Item : Type 0 where
  fixed : Fixed → Item
  new_name : List Local → Item
  partial : Item
  value : Item
  listed : Item
  key_part : Item

-- what an item says; a partial's name comes with the place of its text
abbrev pub Said : Item → Type 0
Said (Item.fixed f) = ⊤
Said (Item.new_name locals) = List ℕ
Said Item.partial = List ℕ × ℕ
Said Item.value = Expr
Said Item.listed = Expr
Said Item.key_part = KeyPart

-- what is read, and the tokens after it
abbrev pub Front : Type 0 → Type 0
Front A = Result (A × List Token) ExprFault

-- a local by its name and its value
abbrev pub local : List ℕ → Expr → Local
local name a = record { name = name; value = a }

-- whether one of these locals has this name
abbrev pub has_local : List Local → List ℕ → Bool
has_local locals name = list_any (λ (l : Local). bytes_eq l.name name) locals

-- ---- the sentences of an item

-- a text and nothing else
abbrev pub IsTextAlone : List Token → Type 0
IsTextAlone ts = (text : List ℕ) × (at : ℕ) × (ts ≡ token (kind.Text text) at ∷ [])

-- These tokens are this part of a key: part = expr | ":" name | text. A text alone is a literal, and no expression.
pub data IsPart : List Token → KeyPart → Type 0 where
  part_path : (ts : List Token) (a : Expr) → Sentence expr ts a → (IsTextAlone ts → ⊥) → IsPart ts (part.Path a)
  part_symbol : (name : List ℕ) (colon at : ℕ) → IsPart (mark_at mark.Colon colon ∷ token (kind.Name name) at ∷ []) (part.Literal name)
  part_text : (text : List ℕ) (at : ℕ) → IsPart (token (kind.Text text) at ∷ []) (part.Literal text)

-- these tokens are the item, and say this
abbrev pub Stands : (i : Item) → List Token → Said i → Type 0
Stands (Item.fixed f) ts a = (at : ℕ) × (ts ≡ token (fixed_kind f) at ∷ [])
Stands (Item.new_name locals) ts a = (at : ℕ) × (ts ≡ token (kind.Name a) at ∷ []) × (has_local locals a ≡ false)
Stands Item.partial ts a = (ts ≡ token (kind.Text a.0) a.1 ∷ []) × (is_partial a.0 ≡ true)
Stands Item.value ts a = Sentence expr ts a
Stands Item.listed ts a = (us : List Token) × (dot : ℕ) × (each : ℕ) × (ts ≡ us ++ mark_at mark.Dot dot ∷ word_at word.Each each ∷ []) × Sentence expr us a
Stands Item.key_part ts a = IsPart ts a

-- ---- the reading of an item

-- the tokens after the first, where that is what is expected; else its fault
abbrev pub expected : Bool → List Token → Result (List Token) ExprFault
expected stands ts = if stands then Ok (drop 1 ts) else Err (fault_at None ts)

-- the tokens after this mark, which is expected at the front
abbrev pub after_mark : Mark → List Token → Result (List Token) ExprFault
after_mark m ts = expected (is_mark m (first_kind ts)) ts

-- the tokens after this word, which is expected at the front
abbrev pub after_word : Word → List Token → Result (List Token) ExprFault
after_word w ts = expected (is_word w (first_kind ts)) ts

-- the name that a token is, if none of these locals has it
abbrev pub named : List Local → TokenKind → List Token → Front (List ℕ)
named locals (kind.Name name) ts = if has_local locals name then Err (fault_at None ts) else Ok (name, drop 1 ts)
named locals other ts = Err (fault_at None ts)

-- the text that names a partial
abbrev pub called : TokenKind → List Token → Front (List ℕ)
called (kind.Text name) ts = if is_partial name then Ok (name, drop 1 ts) else Err (fault_at None ts)
called other ts = Err (fault_at None ts)

-- an expression; a dot with `each` behind it has no place here
unfoldable pub value_at : List Token → Front Expr
value_at ts = expr_at ts >>= λ x. if is_mark mark.Dot (first_kind x.1) then Err (stops_at None x.1) else Ok x

-- an expression before ". each"
unfoldable pub listed_at : List Token → Front Expr
listed_at ts = expr_at ts >>= λ x. after_mark mark.Dot x.1 >>= λ a. after_word word.Each a >>= λ rest. Ok (x.0, rest)

-- an expression as a part of a key
abbrev pub path_at : List Token → Front KeyPart
path_at ts = value_at ts >>= λ x. Ok (part.Path x.0, x.1)

-- a name behind a colon
abbrev pub symbol_at : List Token → Front KeyPart
symbol_at ts = named [] (first_kind ts) ts >>= λ x. Ok (part.Literal x.0, x.1)

-- a text that is all of the expression, or the expression
abbrev pub text_at : List ℕ → List Token → Front KeyPart
text_at text ts = value_at ts >>= λ x. Ok (if length x.1 + 1 == length ts then part.Literal text else part.Path x.0, x.1)

-- by the first token
abbrev pub part_by : TokenKind → List Token → Front KeyPart
part_by (kind.Text text) ts = text_at text ts
part_by (kind.Mark mark.Colon) ts = symbol_at (drop 1 ts)
part_by other ts = path_at ts

-- the item at the front
unfoldable pub item_at : (i : Item) → List Token → Front (Said i)
item_at (Item.fixed f) ts = expected (is_fixed f (first_kind ts)) ts >>= λ rest. Ok (tt, rest)
item_at (Item.new_name locals) ts = named locals (first_kind ts) ts
item_at Item.partial ts = called (first_kind ts) ts >>= λ x. Ok ((x.0, place ts), x.1)
item_at Item.value ts = value_at ts
item_at Item.listed ts = listed_at ts
item_at Item.key_part ts = part_by (first_kind ts) ts

-- ---- shapes

-- A shape: the content ends and comes to this, an item and what follows it by what it says, or one of two by whether a token
-- comes next.
pub data Shape (A : Type 0) : Type 0 where
  ends : Result A ExprFault → Shape A
  then : (i : Item) → (Said i → Shape A) → Shape A
  either : Fixed → Shape A → Shape A → Shape A

-- a mark, and what follows it
abbrev pub behind_mark : {A : Type 0} → Mark → Shape A → Shape A
behind_mark m shape = Shape.then (Item.fixed (Fixed.the_mark m)) (λ _. shape)

-- a word, and what follows it
abbrev pub behind_word : {A : Type 0} → Word → Shape A → Shape A
behind_word w shape = Shape.then (Item.fixed (Fixed.the_word w)) (λ _. shape)

-- these tokens are a sentence of the shape, which comes to this
abbrev pub Says : {A : Type 0} → Shape A → List Token → Result A ExprFault → Type 0
Says (Shape.ends a) ts b = (ts ≡ []) × (a ≡ b)
Says (Shape.then i next) ts b = (us : List Token) × (vs : List Token) × (x : Said i) × (ts ≡ us ++ vs) × Stands i us x × Says (next x) vs b
Says (Shape.either f one other) ts b =
    ((at : ℕ) × (us : List Token) × (ts ≡ token (fixed_kind f) at ∷ us) × Says one us b) ⊎ Says other ts b

-- what tokens come to by a shape, read from the left
unfoldable pub reads : {A : Type 0} → Shape A → List Token → Result A ExprFault
reads (Shape.ends a) ts = if is_end (first_kind ts) then a else Err (fault_at None ts)
reads (Shape.then i next) ts = item_at i ts >>= λ x. reads (next x.0) x.1
reads (Shape.either f one other) ts = if is_fixed f (first_kind ts) then reads one (drop 1 ts) else reads other ts

-- ---- the first fault

-- these are a content's tokens, before its end
abbrev pub HasTokens : List Token → List Token → Type 0
HasTokens tokens ts = (last : ℕ) × (tokens ≡ ts ++ token kind.End last ∷ [])

-- The fault of the first token with which no sentence of the shape goes on. Where that is the end, what stands before it is no sentence.
pub record IsFirstFault {A : Type 0} (shape : Shape A) (tokens : List Token) (fault : ExprFault) : Type 0 where
  pub before : List Token
  pub token : Token
  pub after : List Token
  pub parts : tokens ≡ before ++ token ∷ after
  pub begins : (more : List Token) × (a : Result A ExprFault) × Says shape (before ++ more) a
  pub stops : (more : List Token) (a : Result A ExprFault) → Says shape (before ++ token ∷ more) a → ⊥
  pub unfinished : token.kind ≡ kind.End → (a : Result A ExprFault) → Says shape before a → ⊥
  pub is : fault ≡ fault_behind (opened_after [] before) token.at token.kind

-- these tokens are a sentence of the shape that comes to this fault
abbrev pub ComesToFault : {A : Type 0} → Shape A → List Token → ExprFault → Type 0
ComesToFault shape tokens fault = (ts : List Token) × HasTokens tokens ts × Says shape ts (Err fault)
