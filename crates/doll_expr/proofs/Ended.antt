-- The tokens of a text end in its end or in a fault, which stand nowhere else.
use Rattle.std.proofs.Common.{◌≡◌, ℕ, zero, suc, ◌+◌, ◌^◌, ◌==◌, ◌||◌, pos, nat_lt, length, take, get_or, Bool, true, false, cond, List, [], ◌∷◌, ◌++◌, drop, Option, Some, None, Result, Ok, Err, refl, sym, ◌∙◌}
use Rattle.std.specs.Char.{is_ascii_digit}
use Rattle.std.specs.List.{take_while}
use Rattle.doll_expr.specs.declared.expr.ExprFault.{ExprFault}
use Rattle.doll_expr.specs.declared.expr.ExprFault.TheVariants.{NumberTooLarge, Unexpected}
use Rattle.doll_expr.specs.declared.expr.Query.{Query}
use Rattle.doll_expr.specs.declared.token.Mark.{Mark}
use Rattle.doll_expr.specs.declared.signs.TheConstants.{AT_SIGN, SINGLE_QUOTE, DOUBLE_QUOTE}
use Rattle.doll_text.specs.declared.words.Word.{Word}
use Rattle.doll_expr.specs.declared.token.Token.{Token}
use Rattle.doll_expr.specs.declared.token.TokenKind.{TokenKind}
use Rattle.doll_expr.specs.declared.token.TokenKind.TheVariants as kind
use Rattle.doll_text.specs.Bytes.{is_lower, is_word_byte}
use Rattle.doll_text.specs.Names.{word_of, is_name}
use Rattle.doll_expr.specs.Tokens.{Front, decimal, question, name_from, closing, quoted, mark_of, number_from, number_at, plain_word, word_from, word_at, name_at, text_of, text_from, text_at, mark_from, front, is_dot, is_last, token, spaces, followed, cut, tokens_from, tokens_of}
pub use Rattle.doll_expr.specs.Tokens.{Ended}
use Rattle.doll_expr.specs.Reading.{first_kind, place}
use Rattle.doll_expr.proofs.Shapes.{Plain}

pub ended_rest : (ts : List Token) → Ended ts → is_last (first_kind ts) ≡ false → Ended (drop 1 ts)
ended_rest [] e h = absurd e
ended_rest (t ∷ []) e h = absurd (let f : true ≡ false = sym e ∙ h in cc)
ended_rest (t ∷ u ∷ ts) e h = e.1

pub ended_behind : (us rest : List Token) → Plain us → Ended (us ++ rest) → Ended rest
ended_behind [] rest p e = e
ended_behind (t ∷ us) rest p e = ended_behind us rest p.1 (ended_rest (t ∷ (us ++ rest)) e p.0)

pub some_left : (ts : List Token) → Ended ts → ts ≡ token (first_kind ts) (place ts) ∷ drop 1 ts
some_left [] e = absurd e
some_left (t ∷ ts) e = refl

pub last_left : (t : Token) (ts : List Token) → Ended (t ∷ ts) → is_last t.kind ≡ true → ts ≡ []
last_left t [] e h = refl
last_left t (u ∷ ts) e h = absurd (let f : true ≡ false = sym h ∙ e.0 in cc)

ended_cons : (t : Token) (ts : List Token) → is_last t.kind ≡ false → Ended ts → Ended (t ∷ ts)
ended_cons t [] h e = absurd e
ended_cons t (u ∷ ts) h e = (h, e)

-- ---- a token that is cut is no end and no fault

abbrev IsPlain : Front → Type 0
IsPlain (Ok found) = is_last found.0 ≡ false
IsPlain (Err fault) = Unit {0}

plain_cond : (b : Bool) (x y : Front) → IsPlain x → IsPlain y → IsPlain (cond b x y)
plain_cond true x y p q = p
plain_cond false x y p q = q

digits_plain : (at : ℕ) (digits : List ℕ) → IsPlain (number_from at digits)
digits_plain at digits = plain_cond (nat_lt (decimal digits) (2 ^ 63)) (Ok (kind.Number (pos (decimal digits)), length digits)) (Err (NumberTooLarge at)) refl tt

number_plain : (at : ℕ) (bytes : List ℕ) → IsPlain (number_at at bytes)
unfolding number_at
number_plain at bytes = digits_plain at (take_while is_ascii_digit bytes)

known_plain : (at : ℕ) (word : List ℕ) (o : Option Word) → IsPlain (plain_word at word o)
known_plain at word (Some known) = refl
known_plain at word None = plain_cond (is_name word) (Ok (kind.Name word, length word)) (Err (Unexpected at)) refl tt

asked_plain : (at : ℕ) (word : List ℕ) (o : Option Query) → IsPlain (word_from at word o)
asked_plain at word (Some asked) = refl
asked_plain at word None = known_plain at word (word_of word)

word_plain : (dot : Bool) (at : ℕ) (bytes : List ℕ) → IsPlain (word_at dot at bytes)
unfolding word_at
word_plain dot at bytes = asked_plain at (take_while is_word_byte bytes) (question dot (take_while is_word_byte bytes) bytes)

behind_sign_plain : (at : ℕ) (word : List ℕ) → IsPlain (name_from at word)
behind_sign_plain at word = plain_cond (is_name word) (Ok (kind.Name word, length word + 1)) (Err (Unexpected at)) refl tt

name_plain : (at : ℕ) (bytes : List ℕ) → IsPlain (name_at at bytes)
unfolding name_at
name_plain at bytes = behind_sign_plain at (take_while is_word_byte bytes)

body_plain : (len : ℕ) (r : Result (List ℕ) ExprFault) → IsPlain (text_of len r)
body_plain len (Ok bytes) = refl
body_plain len (Err fault) = tt

closed_plain : (quote at : ℕ) (bytes : List ℕ) (o : Option ℕ) → IsPlain (text_from quote at bytes o)
closed_plain quote at bytes None = tt
closed_plain quote at bytes (Some len) = body_plain len (quoted quote at (take len bytes))

text_plain : (quote at : ℕ) (bytes : List ℕ) → IsPlain (text_at quote at bytes)
unfolding text_at
text_plain quote at bytes = closed_plain quote at bytes (closing quote false 0 bytes)

mark_plain : (at : ℕ) (o : Option (Mark × ℕ)) → IsPlain (mark_from at o)
mark_plain at (Some found) = refl
mark_plain at None = tt

others_plain : (at b : ℕ) (bytes : List ℕ) → IsPlain (cond (b == DOUBLE_QUOTE || b == SINGLE_QUOTE) (text_at b at (drop 1 bytes)) (mark_from at (mark_of bytes)))
others_plain at b bytes = plain_cond (b == DOUBLE_QUOTE || b == SINGLE_QUOTE) (text_at b at (drop 1 bytes)) (mark_from at (mark_of bytes)) (text_plain b at (drop 1 bytes)) (mark_plain at (mark_of bytes))

named_plain : (at b : ℕ) (bytes : List ℕ) (other : Front) → IsPlain other → IsPlain (cond (b == AT_SIGN) (name_at at (drop 1 bytes)) other)
named_plain at b bytes other h = plain_cond (b == AT_SIGN) (name_at at (drop 1 bytes)) other (name_plain at (drop 1 bytes)) h

word_or_plain : (dot : Bool) (at b : ℕ) (bytes : List ℕ) (other : Front) → IsPlain other → IsPlain (cond (is_lower b) (word_at dot at bytes) other)
word_or_plain dot at b bytes other h = plain_cond (is_lower b) (word_at dot at bytes) other (word_plain dot at bytes) h

number_or_plain : (at b : ℕ) (bytes : List ℕ) (other : Front) → IsPlain other → IsPlain (cond (is_ascii_digit b) (number_at at bytes) other)
number_or_plain at b bytes other h = plain_cond (is_ascii_digit b) (number_at at bytes) other (number_plain at bytes) h

front_plain : (dot : Bool) (at : ℕ) (bytes : List ℕ) → IsPlain (front dot at bytes)
unfolding front
front_plain dot at bytes =
    let b = get_or bytes 0 0 in
    let other : Front = cond (b == DOUBLE_QUOTE || b == SINGLE_QUOTE) (text_at b at (drop 1 bytes)) (mark_from at (mark_of bytes)) in
    let named : Front = cond (b == AT_SIGN) (name_at at (drop 1 bytes)) other in
    let word : Front = cond (is_lower b) (word_at dot at bytes) named in
    number_or_plain at b bytes word (word_or_plain dot at b bytes named (named_plain at b bytes other (others_plain at b bytes)))

followed_ended : (at : ℕ) (others : TokenKind × ℕ → List Token) (f : Front) → IsPlain f → ((found : TokenKind × ℕ) → is_last found.0 ≡ false → Ended (others found)) → Ended (followed at others f)
followed_ended at others (Ok found) p e = e found p
followed_ended at others (Err fault) p e = refl

cut_ended : (dot : Bool) (at : ℕ) (bytes : List ℕ) (others : TokenKind × ℕ → List Token) → ((found : TokenKind × ℕ) → is_last found.0 ≡ false → Ended (others found)) → Ended (cut dot at bytes others)
cut_ended dot at [] others e = refl
cut_ended dot at (b ∷ bytes) others e = followed_ended at others (front dot at (b ∷ bytes)) (front_plain dot at (b ∷ bytes)) e

tokens_ended : (room : ℕ) (dot : Bool) (at : ℕ) (bytes : List ℕ) → Ended (tokens_from room dot at bytes)
unfolding tokens_from
tokens_ended zero dot at bytes = cut_ended dot (at + spaces bytes) (drop (spaces bytes) bytes) _ (λ found p. refl)
tokens_ended (suc room) dot at bytes =
    cut_ended dot (at + spaces bytes) (drop (spaces bytes) bytes) _
    (λ found p. ended_cons (token found.0 (at + spaces bytes)) _ p (tokens_ended room (is_dot found.0) (at + spaces bytes + found.1) (drop found.1 (drop (spaces bytes) bytes))))

pub text_ended : (text : List ℕ) → Ended (tokens_of text)
unfolding tokens_of
text_ended text = tokens_ended 200 false 0 text
