-- Tokens stand where the loop cuts them.
use Rattle.std.proofs.Common.{◌≡◌, ℕ, ◌+◌, ◌-◌, ◌<◌, ◌≤◌, Bool, false, List, [], ◌∷◌, ◌++◌, length, get_or, drop, Ok, refl, sym, ap, subst, ◌∙◌, append_assoc, arith}
use Rattle.std.proofs.lemmas.List.{drop-drop, get_or-drop}
use Rattle.std.proofs.lemmas.List.Sums.{prefix_len_passes}
use Rattle.doll_expr.specs.declared.expr.ExprFault.{ExprFault}
use Rattle.doll_expr.specs.declared.token.Token.{Token}
use Rattle.doll_expr.specs.declared.token.TokenKind.{TokenKind}
use Rattle.doll_expr.specs.declared.token.TokenKind.TheVariants.{End, Fault}
use Rattle.doll_text.specs.Bytes.{is_space}
use Rattle.doll_expr.specs.Tokens.{is_dot, spaces, front, token, IsBlank, Stand, stand_end, stand_fault, stand_token}
use Rattle.doll_expr.proofs.Lexed.{Next}

-- what stands from here on makes a text's tokens together with those that were made
pub record Leads (text bytes : List ℕ) (dot : Bool) (at : ℕ) (made : List Token) : Type 0 where
  pub rest_is : bytes ≡ drop at text
  pub leads : (ts : List Token) → Stand text dot at ts → Stand text false 0 (made ++ ts)

pub leads_first : (text : List ℕ) (made : List Token) → made ≡ [] → Leads text text false 0 made
leads_first text made none = record { rest_is = refl; leads = λ ts s. subst (λ (vs : List Token). Stand text false 0 (vs ++ ts)) (sym none) s }

blank : (text bytes ahead : List ℕ) (at n : ℕ) → bytes ≡ drop at text → Next n bytes ahead → IsBlank text at (at + n)
blank text bytes ahead at n rest next = (
  omega arith,
  λ i from to.
      let place : at + (i - at) ≡ i = omega (arith, from) in
      let inside : i - at < spaces bytes = omega (arith, from, to, next.spaces_are) in
      ap (λ (k : ℕ). is_space (get_or text k 0)) (sym place) ∙ ap is_space (sym (get_or-drop at text (i - at) 0)) ∙ ap (λ (bs : List ℕ). is_space (get_or bs (i - at) 0)) (sym rest) ∙ prefix_len_passes is_space bytes (i - at) 0 inside,
)

pub end_stands : (text bytes ahead : List ℕ) (dot : Bool) (at n : ℕ) (made : List Token) → Leads text bytes dot at made → Next n bytes ahead → at + n ≡ length text → Stand text false 0 (made ++ token End (at + n) ∷ [])
end_stands text bytes ahead dot at n made l next last =
    l.leads (token End (at + n) ∷ []) (subst (λ (k : ℕ). Stand text dot at (token End k ∷ [])) (sym last) (stand_end text dot at (subst (IsBlank text at) last (blank text bytes ahead at n l.rest_is next))))

pub fault_stands : (text bytes ahead : List ℕ) (dot : Bool) (at n : ℕ) (made : List Token) (fault : ExprFault) → Leads text bytes dot at made → Next n bytes ahead → Stand text false 0 (made ++ token (Fault fault) (at + n) ∷ [])
fault_stands text bytes ahead dot at n made fault l next = l.leads (token (Fault fault) (at + n) ∷ []) (stand_fault text dot at (at + n) fault (blank text bytes ahead at n l.rest_is next))

pub leads_on : (text bytes ahead after : List ℕ) (dot : Bool) (at n len : ℕ) (made : List Token) (k : TokenKind) → Leads text bytes dot at made → Next n bytes ahead → front dot (at + n) ahead ≡ Ok (k, len) → 1 ≤ len → at + n + len ≤ length text
    → after ≡ drop len ahead → Leads text after (is_dot k) (at + n + len) (made ++ token k (at + n) ∷ [])
leads_on text bytes ahead after dot at n len made k l next is some within behind =
    let here : ahead ≡ drop (at + n) text = next.ahead_is ∙ ap (drop n) l.rest_is ∙ drop-drop n at text in
    record {
      rest_is = behind ∙ ap (drop len) here ∙ drop-drop len (at + n) text;
      leads = λ ts s. subst (Stand text false 0) (sym (append_assoc made (token k (at + n) ∷ []) ts))
          (l.leads (token k (at + n) ∷ ts) (stand_token text dot at (at + n) len k ts (blank text bytes ahead at n l.rest_is next) (ap (front dot (at + n)) (sym here) ∙ is) some within s));
    }
