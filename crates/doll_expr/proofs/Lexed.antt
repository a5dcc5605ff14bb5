-- One token after the other, as a loop cuts them.
use Rattle.std.proofs.Common.{◌≡◌, ℕ, zero, suc, ◌+◌, ◌-◌, ◌<◌, Bool, false, List, [], ◌∷◌, ◌++◌, length, drop, Ok, Err, refl, sym, ap, ◌∙◌, append_assoc, arith}
use Rattle.std.proofs.lemmas.List.{nil_from_length}
use Rattle.doll_expr.specs.declared.expr.ExprFault.{ExprFault}
use Rattle.doll_expr.specs.declared.expr.ExprFault.TheVariants.{TooDeep}
use Rattle.doll_expr.specs.declared.token.Token.{Token}
use Rattle.doll_expr.specs.declared.token.TokenKind.{TokenKind}
use Rattle.doll_expr.specs.declared.token.TokenKind.TheVariants.{End, Fault}
use Rattle.doll_expr.specs.Tokens.{is_dot, spaces, front, followed, cut, token, tokens_from, tokens_of}

-- what the token at the front brings, where so many have room
abbrev brought : ℕ → ℕ → List ℕ → TokenKind × ℕ → List Token
brought zero at ahead found = token (Fault (TooDeep at)) at ∷ []
brought (suc room) at ahead found = token found.0 at ∷ tokens_from room (is_dot found.0) (at + found.1) (drop found.1 ahead)

first_cut : (room : ℕ) (dot : Bool) (at : ℕ) (bytes : List ℕ) → tokens_from room dot at bytes ≡ cut dot (at + spaces bytes) (drop (spaces bytes) bytes) (brought room (at + spaces bytes) (drop (spaces bytes) bytes))
unfolding tokens_from
first_cut zero dot at bytes = refl
first_cut (suc room) dot at bytes = refl

-- What comes next, after `n` bytes of white space.
pub record Next (n : ℕ) (bytes ahead : List ℕ) : Type 0 where
  pub spaces_are : n ≡ spaces bytes
  pub ahead_is : ahead ≡ drop n bytes

to_cut : (room : ℕ) (dot : Bool) (at n : ℕ) (bytes ahead : List ℕ) → Next n bytes ahead → tokens_from room dot at bytes ≡ cut dot (at + n) ahead (brought room (at + n) ahead)
to_cut room dot at n bytes ahead next = rw (next.ahead_is, next.spaces_are) (first_cut room dot at bytes)

cut_some : (dot : Bool) (at : ℕ) (bytes : List ℕ) (others : TokenKind × ℕ → List Token) → 0 < length bytes → cut dot at bytes others ≡ followed at others (front dot at bytes)
cut_some dot at [] others some = absurd (omega arith)
cut_some dot at (b ∷ bytes) others some = refl

-- ---- a turn of the loop: `made` are the tokens so far, and `left` more have room

pub at_end : (dot : Bool) (at n left : ℕ) (bytes ahead : List ℕ) (made whole : List Token) → Next n bytes ahead → length ahead ≡ 0
    → made ++ tokens_from left dot at bytes ≡ whole → made ++ token End (at + n) ∷ [] ≡ whole
at_end dot at n left bytes ahead made whole next empty so_far =
    let e : tokens_from left dot at bytes ≡ token End (at + n) ∷ [] = to_cut left dot at n bytes ahead next ∙ rw (nil_from_length ahead empty) refl in
    sym (ap (λ (ts : List Token). made ++ ts) e) ∙ so_far

pub at_fault : (dot : Bool) (at n left : ℕ) (bytes ahead : List ℕ) (made whole : List Token) (fault : ExprFault) → Next n bytes ahead → 0 < length ahead → front dot (at + n) ahead ≡ Err fault
    → made ++ tokens_from left dot at bytes ≡ whole → made ++ token (Fault fault) (at + n) ∷ [] ≡ whole
at_fault dot at n left bytes ahead made whole fault next some found so_far =
    let e : tokens_from left dot at bytes ≡ token (Fault fault) (at + n) ∷ [] = to_cut left dot at n bytes ahead next ∙ cut_some dot (at + n) ahead (brought left (at + n) ahead) some ∙ rw found refl in
    sym (ap (λ (ts : List Token). made ++ ts) e) ∙ so_far

to_brought : (room : ℕ) (dot : Bool) (at n : ℕ) (bytes ahead : List ℕ) (found : TokenKind × ℕ) → Next n bytes ahead → 0 < length ahead → front dot (at + n) ahead ≡ Ok found → tokens_from room dot at bytes ≡ brought room (at + n) ahead found
to_brought room dot at n bytes ahead found next some is = to_cut room dot at n bytes ahead next ∙ cut_some dot (at + n) ahead (brought room (at + n) ahead) some ∙ rw is refl

pub no_room_left : (dot : Bool) (at n left : ℕ) (bytes ahead : List ℕ) (made whole : List Token) (found : TokenKind × ℕ) → Next n bytes ahead → 0 < length ahead → front dot (at + n) ahead ≡ Ok found → left ≡ 0
    → made ++ tokens_from left dot at bytes ≡ whole → made ++ token (Fault (TooDeep (at + n))) (at + n) ∷ [] ≡ whole
no_room_left dot at n left bytes ahead made whole found next some is none so_far =
    let e = to_brought left dot at n bytes ahead found next some is in
    sym (ap (λ (ts : List Token). made ++ ts) (e ∙ ap (λ (room : ℕ). brought room (at + n) ahead found) none)) ∙ so_far

pub one_more : (dot : Bool) (at n left : ℕ) (bytes ahead : List ℕ) (made whole : List Token) (found : TokenKind × ℕ) → Next n bytes ahead → 0 < length ahead → front dot (at + n) ahead ≡ Ok found → 0 < left
    → made ++ tokens_from left dot at bytes ≡ whole
    → (made ++ token found.0 (at + n) ∷ []) ++ tokens_from (left - 1) (is_dot found.0) (at + n + found.1) (drop found.1 ahead) ≡ whole
one_more dot at n left bytes ahead made whole found next some is room so_far =
    let e = to_brought left dot at n bytes ahead found next some is in
    let turn : left ≡ suc (left - 1) = omega arith in
    append_assoc made (token found.0 (at + n) ∷ []) (tokens_from (left - 1) (is_dot found.0) (at + n + found.1) (drop found.1 ahead))
    ∙ sym (ap (λ (ts : List Token). made ++ ts) (e ∙ ap (λ (m : ℕ). brought m (at + n) ahead found) turn)) ∙ so_far

pub starts : (bytes : List ℕ) (made : List Token) → made ≡ [] → made ++ tokens_from 200 false 0 bytes ≡ tokens_of bytes
unfolding tokens_of
starts bytes made e = rw e refl
