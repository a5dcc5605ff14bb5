-- The tokens of a text. All of it is this project's own.
use Rattle.std.specs.Prelude.{◌≡◌, ◌≤◌, ◌<◌, ℕ, zero, suc, ◌+◌, ◌-◌, ◌*◌, ◌^◌, pos, Bool, true, false, ◌&&◌, ◌||◌, ◌==◌, nat_lt, List, [], ◌∷◌, ◌++◌, length, take, drop, slice_index, Option, Some, None, Result, Ok, Err, if◌then◌else◌, codes}
use Rattle.std.specs.Char.{is_ascii_digit}
use Rattle.std.specs.List.{fold, prefix_len, take_while}
use Rattle.std.specs.Option.{option_map, option_or}
use Rattle.doll_expr.specs.declared.expr.ExprFault.{ExprFault}
use Rattle.doll_expr.specs.declared.expr.ExprFault.TheVariants.{Unexpected, Unclosed, NumberTooLarge, TooDeep}
use Rattle.doll_expr.specs.declared.expr.Query.{Query}
use Rattle.doll_expr.specs.declared.expr.Query.TheVariants as query
use Rattle.doll_expr.specs.declared.signs.TheConstants.{AT_SIGN, QUESTION_MARK, SINGLE_QUOTE, DOUBLE_QUOTE, BACKSLASH, HASH, OPEN_BRACE, NEW_LINE, TAB, LETTER_N, LETTER_T}
use Rattle.doll_expr.specs.declared.token.Mark.{Mark}
use Rattle.doll_expr.specs.declared.token.Mark.TheVariants as mark
use Rattle.doll_text.specs.declared.words.Word.{Word}
use Rattle.doll_expr.specs.declared.token.TokenKind.{TokenKind}
use Rattle.doll_expr.specs.declared.token.TokenKind.TheVariants as kind
use Rattle.doll_expr.specs.declared.token.Token.{Token}
use denote.Enum.Bare.{sameb}
use Rattle.doll_expr.specs.contracts.token.Mark.{the_type as marks_type}
use Rattle.doll_text.specs.contracts.words.Word.{the_type as words_type}
use Rattle.doll_text.specs.Bytes.{is_lower, is_space, is_word_byte}
use Rattle.doll_text.specs.Names.{lookup, word_of, is_name}

-- A token with the count of its bytes, or the fault of the text there.
abbrev pub Front : Type 0
Front = Result (TokenKind × ℕ) ExprFault

-- ---- numbers: all decimal digits that follow each other

-- the number that decimal digits say
abbrev pub decimal : List ℕ → ℕ
decimal digits = fold (λ n digit. 10 * n + (digit - 48)) 0 digits

-- a number, if 64 bits with a sign have room for it
abbrev pub number_from : ℕ → List ℕ → Front
number_from at digits = if nat_lt (decimal digits) (2 ^ 63) then Ok (kind.Number (pos (decimal digits)), length digits) else Err (NumberTooLarge at)

-- the number at the front
unfoldable pub number_at : ℕ → List ℕ → Front
number_at at bytes = number_from at (take_while is_ascii_digit bytes)

-- ---- words: a lower-case letter and all word bytes that follow it

-- what may be asked of a value by a word with `?` after it
abbrev pub questions : List (List ℕ × Query)
questions = (codes "empty", query.Empty) ∷ (codes "any", query.Any) ∷ (codes "nil", query.IsNil) ∷ []

-- the question that these bytes begin with, which only stands directly after a dot
abbrev pub question : Bool → List ℕ → List ℕ → Option Query
question after_dot word bytes = if after_dot && slice_index bytes (length word) == QUESTION_MARK then lookup questions word else None

-- a word is one of the grammars' words, or a name, or no token
abbrev pub plain_word : ℕ → List ℕ → Option Word → Front
plain_word at word (Some known) = Ok (kind.Word known, length word)
plain_word at word None = if is_name word then Ok (kind.Name word, length word) else Err (Unexpected at)

-- a question takes its word and the `?`; without one the word is by itself
abbrev pub word_from : ℕ → List ℕ → Option Query → Front
word_from at word (Some asked) = Ok (kind.Ask asked, length word + 1)
word_from at word None = plain_word at word (word_of word)

-- the word or question at the front, where a dot may be the token before
unfoldable pub word_at : Bool → ℕ → List ℕ → Front
word_at after_dot at bytes = word_from at (take_while is_word_byte bytes) (question after_dot (take_while is_word_byte bytes) bytes)

-- after an `@` that begins at `at`: a name directly, which the `@` doesn't change
abbrev pub name_from : ℕ → List ℕ → Front
name_from at word = if is_name word then Ok (kind.Name word, length word + 1) else Err (Unexpected at)

-- the name at the front, behind its `@`
unfoldable pub name_at : ℕ → List ℕ → Front
name_at at bytes = name_from at (take_while is_word_byte bytes)

-- ---- texts

-- The place of the closing mark among bytes that begin at `at`. A backslash takes the byte after it along.
unfoldable pub closing : ℕ → Bool → ℕ → List ℕ → Option ℕ
closing quote is_taken at [] = None
closing quote true at (b ∷ bytes) = closing quote false (at + 1) bytes
closing quote false at (b ∷ bytes) = if b == quote then Some at else closing quote (b == BACKSLASH) (at + 1) bytes

-- bytes before those that are read, if these have no fault
abbrev pub with_front : List ℕ → Result (List ℕ) ExprFault → Result (List ℕ) ExprFault
with_front front (Ok bytes) = Ok (front ++ bytes)
with_front front (Err fault) = Err fault

-- In `'` a backslash before a backslash or a `'` is an escape, and before any other byte itself.
unfoldable pub single_quoted : Bool → List ℕ → List ℕ
single_quoted is_escape [] = []
single_quoted true (b ∷ bytes) = if b == BACKSLASH || b == SINGLE_QUOTE then b ∷ single_quoted false bytes else BACKSLASH ∷ b ∷ single_quoted false bytes
single_quoted false (b ∷ bytes) = if b == BACKSLASH then single_quoted true bytes else b ∷ single_quoted false bytes

-- the byte for which a backslash and this byte stand in `"`
abbrev pub escaped : ℕ → Option ℕ
escaped c =
    if c == BACKSLASH then Some BACKSLASH
    else (if c == DOUBLE_QUOTE then Some DOUBLE_QUOTE else (if c == LETTER_N then Some NEW_LINE else (if c == LETTER_T then Some TAB else None)))

-- an escape, or the fault at its backslash, and what is read after it
abbrev pub escape_then : ℕ → Option ℕ → Result (List ℕ) ExprFault → Result (List ℕ) ExprFault
escape_then at (Some byte) more = with_front (byte ∷ []) more
escape_then at None more = Err (Unexpected at)

-- In `"` a backslash begins one of four escapes, and `#{` is refused. The bytes begin at `at`.
unfoldable pub double_quoted : Bool → ℕ → List ℕ → Result (List ℕ) ExprFault
double_quoted is_escape at [] = Ok []
double_quoted true at (b ∷ bytes) = escape_then (at - 1) (escaped b) (double_quoted false (at + 1) bytes)
double_quoted false at (b ∷ bytes) =
    if b == BACKSLASH then double_quoted true (at + 1) bytes
    else (if b == HASH && slice_index bytes 0 == OPEN_BRACE then Err (Unexpected at) else with_front (b ∷ []) (double_quoted false (at + 1) bytes))

-- the text between two marks, of which the first is at `at`
unfoldable pub quoted : ℕ → ℕ → List ℕ → Result (List ℕ) ExprFault
quoted quote at bytes = if quote == SINGLE_QUOTE then Ok (single_quoted false bytes) else double_quoted false (at + 1) bytes

-- a text of so many bytes between its marks, or its fault
abbrev pub text_of : ℕ → Result (List ℕ) ExprFault → Front
text_of len (Ok bytes) = Ok (kind.Text bytes, len + 2)
text_of len (Err fault) = Err fault

-- a text, by the place of its closing mark
abbrev pub text_from : ℕ → ℕ → List ℕ → Option ℕ → Front
text_from quote at bytes None = Err (Unclosed at)
text_from quote at bytes (Some len) = text_of len (quoted quote at (take len bytes))

-- a text with its opening mark at `at`, and the bytes after that mark
unfoldable pub text_at : ℕ → ℕ → List ℕ → Front
text_at quote at bytes = text_from quote at bytes (closing quote false 0 bytes)

-- ---- marks

-- the marks of the grammars of expressions and tags
unfoldable pub marks : List (List ℕ × Mark)
marks =
    (codes "==", mark.Equal) ∷ (codes "!=", mark.NotEqual) ∷ (codes "<=", mark.LessOrEqual) ∷ (codes ">=", mark.GreaterOrEqual)
    ∷ (codes "&&", mark.And) ∷ (codes "||", mark.Or) ∷ (codes "(", mark.Open) ∷ (codes ")", mark.Close)
    ∷ (codes ".", mark.Dot) ∷ (codes "!", mark.Not) ∷ (codes "-", mark.Minus) ∷ (codes "+", mark.Plus)
    ∷ (codes "*", mark.Times) ∷ (codes "<", mark.Less) ∷ (codes ">", mark.Greater) ∷ (codes ",", mark.Comma)
    ∷ (codes ":", mark.Colon) ∷ (codes "[", mark.OpenBracket) ∷ (codes "]", mark.CloseBracket) ∷ (codes "|", mark.Bar) ∷ []

-- the mark that these bytes are, and their count
unfoldable pub mark_in : List ℕ → Option (Mark × ℕ)
mark_in text = option_map (λ m. (m, length text)) (lookup marks text)

-- the mark at the front, the longer one where two fit
unfoldable pub mark_of : List ℕ → Option (Mark × ℕ)
mark_of bytes = option_or (mark_in (take 2 bytes)) (mark_in (take 1 bytes))

-- a mark, or the fault of a byte that begins none
abbrev pub mark_from : ℕ → Option (Mark × ℕ) → Front
mark_from at (Some found) = Ok (kind.Mark found.0, found.1)
mark_from at None = Err (Unexpected at)

-- ---- the token at the front of a text, and all of them

-- by the first byte, which is 0 where there is none
unfoldable pub front : Bool → ℕ → List ℕ → Front
front after_dot at bytes =
    if is_ascii_digit (slice_index bytes 0) then number_at at bytes
    else (if is_lower (slice_index bytes 0) then word_at after_dot at bytes
    else (if slice_index bytes 0 == AT_SIGN then name_at at (drop 1 bytes)
    else (if slice_index bytes 0 == DOUBLE_QUOTE || slice_index bytes 0 == SINGLE_QUOTE then text_at (slice_index bytes 0) at (drop 1 bytes)
    else mark_from at (mark_of bytes))))

-- whether a token is this mark; `sameb` is the kit's word for `==` on an enum whose variants hold nothing
abbrev pub is_mark : Mark → TokenKind → Bool
is_mark m (kind.Mark other) = sameb marks_type other m
is_mark m _ = false

-- whether a token is this word
abbrev pub is_word : Word → TokenKind → Bool
is_word w (kind.Word other) = sameb words_type other w
is_word w _ = false

-- the mark behind which a step or a question stands
abbrev pub is_dot : TokenKind → Bool
is_dot = is_mark mark.Dot

-- a token of this kind, with its first byte at this place
abbrev pub token : TokenKind → ℕ → Token
token kind at = record { kind = kind; at = at }

-- what ends a list of tokens
abbrev pub is_last : TokenKind → Bool
is_last kind.End = true
is_last (kind.Fault fault) = true
is_last _ = false

-- tokens of which the last one, and no other, is the end or a fault, as it is with those of a text
abbrev pub Ended : List Token → Type 0
Ended [] = ⊥
Ended (t ∷ []) = is_last t.kind ≡ true
Ended (t ∷ u ∷ ts) = (is_last t.kind ≡ false) × Ended (u ∷ ts)

-- the count of white space at the front
abbrev pub spaces : List ℕ → ℕ
spaces bytes = prefix_len is_space bytes

-- what a token brings, or the fault of the text there, after which nothing is read
abbrev pub followed : ℕ → (TokenKind × ℕ → List Token) → Front → List Token
followed at others (Ok found) = others found
followed at others (Err fault) = token (kind.Fault fault) at ∷ []

-- the end, or what the token at the front brings
abbrev pub cut : Bool → ℕ → List ℕ → (TokenKind × ℕ → List Token) → List Token
cut after_dot at [] others = token kind.End at ∷ []
cut after_dot at (b ∷ bytes) others = followed at others (front after_dot at (b ∷ bytes))

-- The tokens of bytes that begin at `at`, each behind white space, which doesn't count: at most so many, and then the end or the first fault. A
-- token more is one too many.
unfoldable pub tokens_from : ℕ → Bool → ℕ → List ℕ → List Token
tokens_from zero after_dot at bytes =
    cut after_dot (at + spaces bytes) (drop (spaces bytes) bytes) (λ found. token (kind.Fault (TooDeep (at + spaces bytes))) (at + spaces bytes) ∷ [])
tokens_from (suc room) after_dot at bytes =
    cut after_dot (at + spaces bytes) (drop (spaces bytes) bytes)
    (λ found. token found.0 (at + spaces bytes) ∷ tokens_from room (is_dot found.0) (at + spaces bytes + found.1) (drop found.1 (drop (spaces bytes) bytes)))

-- The tokens of a text, at most 200 of them, and then its end or its first fault.
unfoldable pub tokens_of : List ℕ → List Token
tokens_of bytes = tokens_from 200 false 0 bytes

-- white space alone stands between two places of a text
abbrev pub IsBlank : List ℕ → ℕ → ℕ → Type 0
IsBlank text from to = (from ≤ to) × ((i : ℕ) → from ≤ i → i < to → is_space (slice_index text i) ≡ true)

-- Tokens as they stand in a text from a place on: in order and apart, with white space alone between them, and the end at the text's length.
pub data Stand : List ℕ → Bool → ℕ → List Token → Type 0 where
  stand_end : (text : List ℕ) (after_dot : Bool) (from : ℕ) → IsBlank text from (length text) → Stand text after_dot from (token kind.End (length text) ∷ [])
  stand_fault : (text : List ℕ) (after_dot : Bool) (from at : ℕ) (fault : ExprFault) → IsBlank text from at → Stand text after_dot from (token (kind.Fault fault) at ∷ [])
  stand_token : (text : List ℕ) (after_dot : Bool) (from at len : ℕ) (k : TokenKind) (ts : List Token) → IsBlank text from at → front after_dot at (drop at text) ≡ Ok (k, len) → 1 ≤ len → at + len ≤ length text
      → Stand text (is_dot k) (at + len) ts → Stand text after_dot from (token k at ∷ ts)
