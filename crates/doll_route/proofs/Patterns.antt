-- What a path's pattern is, and that it tells the path.
use Rattle.std.proofs.Common.{◌≡◌, ◌⊎◌, inl, inr, ℕ, ◌+◌, ◌-◌, ◌<◌, List, [], ◌∷◌, ◌++◌, length, take, drop, Some, None, Ok, Bool, true, false, cond, refl, sym, ap, ◌∙◌, arith, ◌==◌, ◌&&◌, ◌||◌, append_assoc, length-append}
use Rattle.std.specs.Prelude.{⊤, codes, nat_le, nat_eq, bytes_eq}
use Rattle.std.specs.List.{list_all, ends_with, onto_first}
use Rattle.std.specs.Char.{is_ascii_digit}
use Rattle.std.specs.Str.{IsAscii, IsUtf8}
use Rattle.std.proofs.lemmas.Bool.{or_cases}
use Rattle.std.proofs.lemmas.Bool.Decides.{nat_tests}
use Rattle.std.proofs.lemmas.List.{take-append-drop, append_cancel_right}
use Rattle.std.proofs.lemmas.List.Splits.{slice_split-cons_yes, slice_split-cons_no}
use Rattle.std.proofs.lemmas.Slice.Eq.{bytes_eq-Decides}
use Rattle.std.proofs.lemmas.Str.{IsUtf8-from_ascii}
use Rattle.std.proofs.lemmas.Str.Ascii.{IsAscii-nil, IsAscii-cons}
use Rattle.std.proofs.Math.Seq.{take-append-add}
use Rattle.matchit.specs.Rows.{param_token}
use Rattle.matchit.specs.Route.{Scan, parse_route}
use Rattle.doll_text.specs.Bytes.{is_lower, is_word_byte}
use Rattle.doll_text.specs.Names.{is_word}
use Rattle.doll_text.specs.Segments.{is_slash, segments, are_words}
use Rattle.doll_route.specs.Paths.{before_id, literal_part, is_literal_path, is_path}
use Rattle.doll_route.specs.Rows.{IsPattern, pattern_of, router_text}
use Rattle.doll_route.proofs.Parsing.{IsBraceless, reads-bytes, reads-param}

-- bytes below all braces
abbrev pub IsLiteral : List ℕ → Type 0
IsLiteral [] = ⊤
IsLiteral (b ∷ bytes) = (b < 123) × IsLiteral bytes

and_both : (a b : Bool) → (a && b) ≡ true → (a ≡ true) × (b ≡ true)
and_both true b e = (refl, e)
and_both false b e = absurd (cc e)

-- segments are words, of which the first may have begun already
abbrev are_words_from : Bool → List (List ℕ) → Bool
are_words_from true segs = list_all is_word segs
are_words_from false [] = true
are_words_from false (part ∷ parts) = list_all is_word_byte part && list_all is_word parts

abbrev may_stand : Bool → ℕ → Bool
may_stand true = is_lower
may_stand false = is_word_byte

-- a byte at the front of the first of them
first_byte : (starts : Bool) (b : ℕ) (segs : List (List ℕ)) → are_words_from starts (onto_first b segs) ≡ true → (may_stand starts b ≡ true) × (are_words_from false segs ≡ true)
first_byte true b [] ok = ((and_both (is_lower b) true (and_both (is_lower b && true) true ok).0).0, refl)
first_byte true b (part ∷ parts) ok =
    let whole = and_both (is_lower b && list_all is_word_byte part) (list_all is_word parts) ok in
    let word = and_both (is_lower b) (list_all is_word_byte part) whole.0 in
    (word.0, rw (word.1, whole.1) refl)
first_byte false b [] ok = ((and_both (is_word_byte b) true (and_both (is_word_byte b && true) true ok).0).0, refl)
first_byte false b (part ∷ parts) ok =
    let whole = and_both (is_word_byte b && list_all is_word_byte part) (list_all is_word parts) ok in
    let word = and_both (is_word_byte b) (list_all is_word_byte part) whole.0 in
    (word.0, rw (word.1, whole.1) refl)

-- none of which is a digit at the start
byte_of : (starts : Bool) (b : ℕ) → may_stand starts b ≡ true → (b < 123) × (starts ≡ true → is_ascii_digit b ≡ false)
byte_of true b ok = (grind (arith, nat_tests), λ e. grind (arith, nat_tests))
byte_of false b ok = (grind (arith, nat_tests), λ e. absurd (cc e))

from_words : (starts : Bool) (bytes : List ℕ) → are_words_from starts (segments bytes) ≡ true → IsPattern starts bytes × IsLiteral bytes
from_words starts [] ok = (tt, tt)
from_words starts (b ∷ bytes) ok = by (is_slash b) refl starts refl (from_words true bytes) (from_words false bytes)
  where
    by : (v : Bool) → is_slash b ≡ v → (s : Bool) → starts ≡ s
        → (are_words_from true (segments bytes) ≡ true → IsPattern true bytes × IsLiteral bytes)
        → (are_words_from false (segments bytes) ≡ true → IsPattern false bytes × IsLiteral bytes)
        → IsPattern starts (b ∷ bytes) × IsLiteral (b ∷ bytes)
    by true e true is more within =
        let ok2 : are_words_from true ([] ∷ segments bytes) ≡ true = rw (slice_split-cons_yes is_slash b bytes e, is) at ok in
        absurd (cc ok2)
    by true e false is more within =
        let ok2 : are_words_from false ([] ∷ segments bytes) ≡ true = rw (slice_split-cons_yes is_slash b bytes e, is) at ok in
        let rest = more ok2 in
        let slash : b ≡ 47 = grind (arith, nat_tests) in
        let digit : starts ≡ true → is_ascii_digit b ≡ false = λ t. absurd (cc (is, t)) in
        let tail : IsPattern (b == 47) bytes = rw e rest.0 in
        (inr (omega arith, digit, tail), (omega arith, rest.1))
    by false e s is more within =
        let ok2 : are_words_from starts (onto_first b (segments bytes)) ≡ true = rw (slice_split-cons_no is_slash b bytes e) at ok in
        let front = first_byte starts b (segments bytes) ok2 in
        let rest = within front.1 in
        let byte = byte_of starts b front.0 in
        let tail : IsPattern (b == 47) bytes = rw e rest.0 in
        (inr (omega arith, byte.1, tail), (byte.0, rest.1))

literal : (path : List ℕ) → is_literal_path path ≡ true → IsPattern false path × IsLiteral path
literal [] ok = absurd (cc ok)
literal (b ∷ path) ok =
    let parts = and_both (b == 47) (are_words path) ok in
    let rest = from_words true path parts.1 in
    let slash : b ≡ 47 = grind (arith, nat_tests) in
    let tail : IsPattern (b == 47) path = rw parts.0 rest.0 in
    (inr (omega arith, (λ t. absurd (cc t)), tail), (omega arith, rest.1))

-- a path is literal segments, or such with an id
abbrev pub Shape : List ℕ → Type 0
Shape path =
    ((before_id path ≡ None) × IsPattern false path × IsLiteral path)
    ⊎ ((before : List ℕ) × (before_id path ≡ Some (before ++ 47 ∷ [])) × (path ≡ before ++ codes "/:id") × IsPattern false before × IsLiteral before)

root : IsPattern false (codes "/") × IsLiteral (codes "/")
root = (inr (omega arith, (λ t. absurd (cc t)), tt), (omega arith, tt))

pub shape_of : (path : List ℕ) → is_path path ≡ true → Shape path
unfolding is_path
shape_of path ok = by (ends_with nat_eq path (codes "/:id")) refl (or_cases (bytes_eq path (codes "/")) (is_literal_path (literal_part path)) (and_both (nat_le (length path) 200) (bytes_eq path (codes "/") || is_literal_path (literal_part path)) ok).1)
  where
    whole : (v : Bool) → ends_with nat_eq path (codes "/:id") ≡ v → is_literal_path (literal_part path) ≡ true → is_literal_path (cond v (take (length path - 4) path) path) ≡ true
    whole v e lit = rw e at lit

    by : (v : Bool) → ends_with nat_eq path (codes "/:id") ≡ v → (bytes_eq path (codes "/") ≡ true) ⊎ (is_literal_path (literal_part path) ≡ true) → Shape path
    by false e (inl slash) =
        let is : path ≡ codes "/" = (bytes_eq-Decides path (codes "/")).0 slash in
        inl (rw e refl, rw is root.0, rw is root.1)
    by false e (inr lit) =
        let parts = literal path (whole false e lit) in
        inl (rw e refl, parts.0, parts.1)
    by true e (inl slash) =
        let is : path ≡ codes "/" = (bytes_eq-Decides path (codes "/")).0 slash in
        let no : false ≡ true = rw is at e in
        absurd (cc no)
    by true e (inr lit) =
        let before = take (length path - 4) path in
        let parts = literal before (whole true e lit) in
        let id : codes "/:id" ≡ drop (length path - 4) path = (bytes_eq-Decides (codes "/:id") (drop (length path - 4) path)).0 e in
        let is : path ≡ before ++ codes "/:id" = sym (take-append-drop (length path - 4) path) ∙ ap (λ (x : List ℕ). before ++ x) (sym id) in
        let size : length path ≡ length before + 4 = ap length is ∙ length-append before (codes "/:id") in
        let at : length path - 3 ≡ length before + 1 = omega arith in
        let front : take (length path - 3) path ≡ before ++ 47 ∷ [] = rw at (ap (λ (x : List ℕ). take (length before + 1) x) is ∙ take-append-add before (codes "/:id") 1) in
        inr (before, rw (e, front) refl, is, parts.0, parts.1)

-- a pattern goes on with a slash and a parameter
with_param : (starts : Bool) (before : List ℕ) → IsPattern starts before → IsLiteral before → IsPattern starts (before ++ 47 ∷ param_token ∷ [])
with_param starts [] is low = inr (omega arith, (λ t. refl), inl (refl, refl, refl))
with_param starts (b ∷ before) (inl p) low = absurd (omega (arith, p.1, low.0))
with_param starts (b ∷ before) (inr p) low = inr (p.0, p.1, with_param (b == 47) before p.2 low.1)

pub pattern : (path : List ℕ) → Shape path → IsPattern false (pattern_of path)
pattern path (inl p) = rw p.0 p.1
pattern path (inr p) = rw (p.1, append_assoc p.0 (47 ∷ []) (param_token ∷ [])) (with_param false p.0 p.3 p.4)

literal-append : (a b : List ℕ) → IsLiteral a → IsLiteral b → IsLiteral (a ++ b)
literal-append [] b low lower = lower
literal-append (x ∷ a) b low lower = (low.0, literal-append a b low.1 lower)

braceless : (bytes : List ℕ) → IsLiteral bytes → IsBraceless bytes
braceless [] low = tt
braceless (b ∷ bytes) low = ((λ e. omega (arith, low.0)), (λ e. omega (arith, low.0)), braceless bytes low.1)

ascii : (bytes : List ℕ) → IsLiteral bytes → IsAscii bytes
ascii [] low = IsAscii-nil
ascii (b ∷ bytes) low = IsAscii-cons b bytes (omega (arith, low.0)) (ascii bytes low.1)

ascii-before : (bytes more : List ℕ) → IsLiteral bytes → IsAscii more → IsAscii (bytes ++ more)
ascii-before [] more low ok = ok
ascii-before (b ∷ bytes) more low ok = IsAscii-cons b (bytes ++ more) (omega (arith, low.0)) (ascii-before bytes more low.1 ok)

id_ascii : IsAscii (codes "{id}")
id_ascii = IsAscii-cons 123 (codes "id}") (omega arith) (IsAscii-cons 105 (codes "d}") (omega arith) (IsAscii-cons 100 (codes "}") (omega arith) (IsAscii-cons 125 [] (omega arith) IsAscii-nil)))

front_literal : (before : List ℕ) → IsLiteral before → IsLiteral (before ++ 47 ∷ [])
front_literal before low = literal-append before (47 ∷ []) low (omega arith, tt)

-- the router's text is UTF-8
pub text : (path : List ℕ) → Shape path → IsUtf8 (router_text path)
text path (inl p) = rw p.0 (IsUtf8-from_ascii path (ascii path p.2))
text path (inr p) = rw p.1 (IsUtf8-from_ascii ((p.0 ++ 47 ∷ []) ++ codes "{id}") (ascii-before (p.0 ++ 47 ∷ []) (codes "{id}") (front_literal p.0 p.4) id_ascii))

-- and the router reads the pattern from it
pub read : (path : List ℕ) → Shape path → (s : Scan) × (parse_route (router_text path) ≡ Ok s) × (s.pattern ≡ pattern_of path)
read path (inl p) = rw p.0 (reads-bytes path (braceless path p.2) p.1)
read path (inr p) =
    let is : IsPattern false ((p.0 ++ 47 ∷ []) ++ param_token ∷ []) = rw p.1 at (pattern path (inr p)) in
    rw p.1 (reads-param (p.0 ++ 47 ∷ []) (braceless (p.0 ++ 47 ∷ []) (front_literal p.0 p.4)) is)

no_param : (front : List ℕ) → IsLiteral (front ++ param_token ∷ []) → ⊥
no_param [] low = omega (arith, low.0)
no_param (b ∷ front) low = no_param front low.1

-- equal patterns are of equal paths
pub same_path : (a b : List ℕ) → Shape a → Shape b → pattern_of a ≡ pattern_of b → a ≡ b
same_path a b (inl p) (inl q) same = rw (p.0, q.0) at same
same_path a b (inl p) (inr q) same =
    let is : a ≡ (q.0 ++ 47 ∷ []) ++ param_token ∷ [] = rw (p.0, q.1) at same in
    let low : IsLiteral ((q.0 ++ 47 ∷ []) ++ param_token ∷ []) = rw is at p.2 in
    absurd (no_param (q.0 ++ 47 ∷ []) low)
same_path a b (inr p) (inl q) same =
    let is : (p.0 ++ 47 ∷ []) ++ param_token ∷ [] ≡ b = rw (p.1, q.0) at same in
    let low : IsLiteral ((p.0 ++ 47 ∷ []) ++ param_token ∷ []) = rw (sym is) at q.2 in
    absurd (no_param (p.0 ++ 47 ∷ []) low)
same_path a b (inr p) (inr q) same =
    let is : (p.0 ++ 47 ∷ []) ++ param_token ∷ [] ≡ (q.0 ++ 47 ∷ []) ++ param_token ∷ [] = rw (p.1, q.1) at same in
    let fronts : p.0 ≡ q.0 = append_cancel_right p.0 q.0 (47 ∷ []) (append_cancel_right (p.0 ++ 47 ∷ []) (q.0 ++ 47 ∷ []) (param_token ∷ []) is) in
    p.2 ∙ ap (λ (x : List ℕ). x ++ codes "/:id") fronts ∙ sym q.2
