-- What a key is made of can be told from its text.
use Rattle.std.proofs.Common.{◌≡◌, ◌<◌, ◌≤◌, ◌^◌, ℕ, suc, Bool, true, false, ◌&&◌, ◌||◌, cond, List, [], ◌∷◌, ◌++◌, length, get_or, drop, append_assoc, All, Option, Some, None, Result, Ok, refl, sym, ap, ◌∙◌, arith}
use Rattle.std.specs.Prelude.{codes, ℤ, pos, negsuc, ◌==◌}
use Rattle.std.specs.Int.Signed.{mag}
use Rattle.std.specs.Fmt.{decimal, signed_decimal}
use Rattle.std.specs.List.{AllByRecursion, list_all, onto_first}
use Rattle.std.specs.Result.{result_unwrap_or}
use Rattle.std.specs.Str.Parse.{AllDigits}
use Rattle.std.proofs.lemmas.Bool.Decides.{nat_tests}
use Rattle.std.proofs.lemmas.Fmt.{decimal_injective, decimal_is_IsNumeral, signed_decimal_injective}
use Rattle.std.proofs.lemmas.List.Elements.{All-cons, All-from_get_or, All-head, All-nil, All-tail}
use Rattle.std.proofs.lemmas.List.Splits.{length-slice_split}
use Rattle.std.proofs.lemmas.Str.Parse.{digit_from_value}
use Rattle.hex.specs.Hex.{IsBytes, decode_of, lower_digits}
use Rattle.hex.specs.declared.error.FromHexError.{FromHexError}
use Rattle.hex.proofs.HexLemmas.{decode_of-encode_lower, length-encode_with}
use Rattle.percent_encoding.specs.AsciiSet.{should_percent_encode}
use Rattle.percent_encoding.specs.Percent.{percent_decode}
use Rattle.percent_encoding.proofs.PercentLemmas.{All-percent_encode, IsByte, round_trip}
use Rattle.doll_text.specs.Bytes.{is_lower, is_word_byte}
use Rattle.doll_text.specs.Names.{is_name, is_word}
use Rattle.doll_text.specs.Segments.{are_view_segments, is_slash, is_view_name, is_virtual_path, segments}
use Rattle.doll_digest.specs.Framing.{hex_digits}
use Rattle.doll_schema.specs.declared.value.Value.{Value}
use Rattle.doll_schema.specs.declared.value.Value.TheVariants as value
use Rattle.doll_key.specs.declared.components.Component.{Component}
use Rattle.doll_key.specs.declared.components.Component.TheVariants as component
use Rattle.doll_key.specs.declared.escapes.TheConstants.{ESCAPED}
use Rattle.doll_key.specs.Components.{component_text, components_text, escaped, id_text, value_text}
use Rattle.doll_key.specs.Keys.{key_prefix}
use Rattle.doll_key.specs.Reading.{EndsAt, IsNot}
use Rattle.doll_key.specs.Uniqueness.{IsComponent, IsId, IsValue, OneKey}

abbrev pub tail : List ℕ → List ℕ
tail [] = []
tail (x ∷ xs) = xs

abbrev pub first : List ℕ → ℕ
first l = get_or l 0 0

both : (a b : Bool) → (a && b) ≡ true → (a ≡ true) × (b ≡ true)
both true b e = (refl, e)
both false b e = absurd (cc e)

-- ---- up to a byte

no_end : (stop y : ℕ) (r rest : List ℕ) → EndsAt stop r → IsNot stop y → r ≡ y ∷ rest → ⊥
no_end stop y [] rest ends other e = absurd (cc e)
no_end stop y (b ∷ bs) rest ends other e = other (sym (ap first e) ∙ ends)

-- what stands before a byte that isn't in it, and behind it
pub up_to : (stop : ℕ) (xs ys r s : List ℕ) → All (IsNot stop) xs → All (IsNot stop) ys → EndsAt stop r → EndsAt stop s → xs ++ r ≡ ys ++ s → (xs ≡ ys) × (r ≡ s)
up_to stop [] [] r s of_x of_y end_r end_s e = (refl, e)
up_to stop [] (y ∷ ys) r s of_x of_y end_r end_s e = absurd (no_end stop y r (ys ++ s) end_r (All-head (IsNot stop) y ys of_y) e)
up_to stop (x ∷ xs) [] r s of_x of_y end_r end_s e = absurd (no_end stop x s (xs ++ r) end_s (All-head (IsNot stop) x xs of_x) (sym e))
up_to stop (x ∷ xs) (y ∷ ys) r s of_x of_y end_r end_s e =
    let rest = up_to stop xs ys r s (All-tail (IsNot stop) x xs of_x) (All-tail (IsNot stop) y ys of_y) end_r end_s (ap tail e) in
    let here : x ≡ y = ap first e in
    ((λ i. here i ∷ rest.0 i), rest.1)

pub up_to_length : (xs ys r s : List ℕ) → length xs ≡ length ys → xs ++ r ≡ ys ++ s → (xs ≡ ys) × (r ≡ s)
up_to_length [] [] r s same e = (refl, e)
up_to_length [] (y ∷ ys) r s same e = absurd (omega (arith, same))
up_to_length (x ∷ xs) [] r s same e = absurd (omega (arith, same))
up_to_length (x ∷ xs) (y ∷ ys) r s same e =
    let rest = up_to_length xs ys r s (omega (arith, same)) (ap tail e) in
    let here : x ≡ y = ap first e in
    ((λ i. here i ∷ rest.0 i), rest.1)

-- ---- words and virtual paths

module _ (stop : ℕ) (no_word : is_word_byte stop ≡ false) (no_lower : is_lower stop ≡ false) where
  bytes_without : (bs : List ℕ) → list_all is_word_byte bs ≡ true → All (IsNot stop) bs
  bytes_without [] e = All-nil (IsNot stop)
  bytes_without (b ∷ bs) e =
      let parts = both (is_word_byte b) (list_all is_word_byte bs) e in
      All-cons (IsNot stop) b bs (λ is. absurd (cc (sym no_word ∙ sym (ap is_word_byte is) ∙ parts.0))) (bytes_without bs parts.1)

  word_without : (w : List ℕ) → is_word w ≡ true → All (IsNot stop) w
  word_without [] e = All-nil (IsNot stop)
  word_without (b ∷ bs) e =
      let parts = both (is_lower b) (list_all is_word_byte bs) e in
      All-cons (IsNot stop) b bs (λ is. absurd (cc (sym no_lower ∙ sym (ap is_lower is) ∙ parts.0))) (bytes_without bs parts.1)

word_plain : (w : List ℕ) → is_word w ≡ true → All (IsNot 58) w
word_plain = word_without 58 refl refl

view_plain : (name : List ℕ) → is_view_name name ≡ true → All (IsNot 58) name
view_plain [] e = All-nil (IsNot 58)
view_plain (b ∷ bs) e = by (is_word (b ∷ bs)) refl e
  where
    by : (w : Bool) → is_word (b ∷ bs) ≡ w → (w || (b == 95 && is_word bs)) ≡ true → All (IsNot 58) (b ∷ bs)
    by true is h = word_plain (b ∷ bs) is
    by false is h =
        let parts = both (b == 95) (is_word bs) h in
        All-cons (IsNot 58) b bs (λ e. grind (arith, nat_tests)) (word_plain bs parts.1)

segments_plain : (segs : List (List ℕ)) → are_view_segments segs ≡ true → AllByRecursion (All (IsNot 58)) segs
segments_plain [] e = tt
segments_plain (name ∷ []) e = (view_plain name e, tt)
segments_plain (word ∷ next ∷ more) e =
    let parts = both (is_word word) (are_view_segments (next ∷ more)) e in (word_plain word parts.0, segments_plain (next ∷ more) parts.1)

onto_plain : (x : ℕ) (segs : List (List ℕ)) → 0 < length segs → AllByRecursion (All (IsNot 58)) (onto_first x segs) → IsNot 58 x × AllByRecursion (All (IsNot 58)) segs
onto_plain x [] some all = absurd (omega arith)
onto_plain x (seg ∷ segs) some all = (All-head (IsNot 58) x seg all.0, (All-tail (IsNot 58) x seg all.0, all.1))

joined_plain : (xs : List ℕ) → AllByRecursion (All (IsNot 58)) (segments xs) → All (IsNot 58) xs
joined_plain [] all = All-nil (IsNot 58)
joined_plain (x ∷ xs) all = by (is_slash x) refl all (joined_plain xs)
  where
    by : (b : Bool) → is_slash x ≡ b → AllByRecursion (All (IsNot 58)) (cond b ([] ∷ segments xs) (onto_first x (segments xs)))
        → (AllByRecursion (All (IsNot 58)) (segments xs) → All (IsNot 58) xs) → All (IsNot 58) (x ∷ xs)
    by true is h rest = All-cons (IsNot 58) x xs (λ e. grind (arith, nat_tests)) (rest h.1)
    by false is h rest =
        let parts = onto_plain x (segments xs) (omega (arith, length-slice_split is_slash xs)) h in
        All-cons (IsNot 58) x xs parts.0 (rest parts.1)

pub path_plain : (path : List ℕ) → is_virtual_path path ≡ true → All (IsNot 58) path
unfolding is_virtual_path
path_plain path e = joined_plain path (segments_plain (segments path) (both _ _ (both _ _ e).0).0)

-- ---- digits

digits_plain : (ds : List ℕ) → AllDigits 10 ds → All (IsNot 47) ds
digits_plain [] all = All-nil (IsNot 47)
digits_plain (d ∷ ds) all = All-cons (IsNot 47) d ds (λ e. omega (arith, digit_from_value d all.0, e)) (digits_plain ds all.1)

digits_first : (ds : List ℕ) → 0 < length ds → AllDigits 10 ds → (48 ≤ first ds) × (first ds ≤ 57)
digits_first [] some all = absurd (omega arith)
digits_first (d ∷ ds) some all = (omega (arith, digit_from_value d all.0), omega (arith, digit_from_value d all.0))

decimal_plain : (n : ℕ) → n < 2 ^ 64 → All (IsNot 47) (decimal n)
decimal_plain n fits = digits_plain (decimal n) (decimal_is_IsNumeral n fits).0.1

pub decimal_first : (n : ℕ) → n < 2 ^ 64 → (48 ≤ first (decimal n)) × (first (decimal n) ≤ 57)
decimal_first n fits = digits_first (decimal n) (decimal_is_IsNumeral n fits).0.0 (decimal_is_IsNumeral n fits).0.1

pub int_first : (z : ℤ) → mag z < 2 ^ 63 → (45 ≤ first (signed_decimal z)) × (first (signed_decimal z) ≤ 57)
int_first (pos n) fits = (omega (arith, decimal_first n (omega arith)), omega (arith, decimal_first n (omega arith)))
int_first (negsuc n) fits = (omega arith, omega arith)

int_plain : (z : ℤ) → mag z < 2 ^ 63 → All (IsNot 47) (signed_decimal z)
int_plain (pos n) fits = decimal_plain n (omega arith)
int_plain (negsuc n) fits = All-cons (IsNot 47) 45 (decimal (suc n)) (λ e. omega (arith, e)) (decimal_plain (suc n) (omega arith))

-- ---- escaped texts

slash_escaped : should_percent_encode ESCAPED 47 ≡ true
unfolding should_percent_encode
slash_escaped = refl

pub escaped_plain : (text : List ℕ) → All (IsNot 47) (escaped text)
unfolding escaped
escaped_plain text =
    All-percent_encode (IsNot 47) ESCAPED text (λ b kept e. absurd (cc (sym slash_escaped ∙ sym (ap (should_percent_encode ESCAPED) e) ∙ kept))) (λ b digit e. grind arith)

pub escaped_same : (a b : List ℕ) → IsBytes a → IsBytes b → escaped a ≡ escaped b → a ≡ b
unfolding escaped
escaped_same a b of_a of_b e =
    sym (round_trip ESCAPED a refl (All-from_get_or IsByte a 0 (λ i within. of_a i))) ∙ ap percent_decode e ∙ round_trip ESCAPED b refl (All-from_get_or IsByte b 0 (λ i within. of_b i))

-- ---- components

nil_plain : All (IsNot 47) (codes "nil")
nil_plain = search (All-cons, All-nil, arith)

pub id_plain : (id : Option ℕ) → IsId id → All (IsNot 47) (id_text id)
id_plain (Some id) fits = decimal_plain id (omega arith)
id_plain None fits = nil_plain

pub id_same : (a b : Option ℕ) → IsId a → IsId b → id_text a ≡ id_text b → a ≡ b
id_same (Some a) (Some b) of_a of_b e = ap Some (decimal_injective a b (omega arith) (omega arith) e)
id_same (Some a) None of_a of_b e = absurd (omega (arith, ap first e, decimal_first a (omega arith)))
id_same None (Some b) of_a of_b e = absurd (omega (arith, ap first e, decimal_first b (omega arith)))
id_same None None of_a of_b e = refl

pub value_plain : (v : Value) → IsValue v → All (IsNot 47) (value_text v)
value_plain value.Nil of_v = nil_plain
value_plain (value.Bool true) of_v = search (All-cons, All-nil, arith)
value_plain (value.Bool false) of_v = search (All-cons, All-nil, arith)
value_plain (value.Int number) of_v = int_plain number of_v
value_plain (value.Text text) of_v = All-cons (IsNot 47) 39 (escaped text) (λ e. omega (arith, e)) (escaped_plain text)

pub value_same : (a b : Value) → IsValue a → IsValue b → value_text a ≡ value_text b → a ≡ b
value_same value.Nil value.Nil of_a of_b e = refl
value_same value.Nil (value.Bool true) of_a of_b e = absurd (omega (arith, ap first e))
value_same value.Nil (value.Bool false) of_a of_b e = absurd (omega (arith, ap first e))
value_same value.Nil (value.Int n) of_a of_b e = absurd (omega (arith, ap first e, int_first n of_b))
value_same value.Nil (value.Text n) of_a of_b e = absurd (omega (arith, ap first e))
value_same (value.Bool true) value.Nil of_a of_b e = absurd (omega (arith, ap first e))
value_same (value.Bool true) (value.Bool true) of_a of_b e = refl
value_same (value.Bool true) (value.Bool false) of_a of_b e = absurd (omega (arith, ap first e))
value_same (value.Bool true) (value.Int n) of_a of_b e = absurd (omega (arith, ap first e, int_first n of_b))
value_same (value.Bool true) (value.Text n) of_a of_b e = absurd (omega (arith, ap first e))
value_same (value.Bool false) value.Nil of_a of_b e = absurd (omega (arith, ap first e))
value_same (value.Bool false) (value.Bool true) of_a of_b e = absurd (omega (arith, ap first e))
value_same (value.Bool false) (value.Bool false) of_a of_b e = refl
value_same (value.Bool false) (value.Int n) of_a of_b e = absurd (omega (arith, ap first e, int_first n of_b))
value_same (value.Bool false) (value.Text n) of_a of_b e = absurd (omega (arith, ap first e))
value_same (value.Int m) value.Nil of_a of_b e = absurd (omega (arith, ap first e, int_first m of_a))
value_same (value.Int m) (value.Bool true) of_a of_b e = absurd (omega (arith, ap first e, int_first m of_a))
value_same (value.Int m) (value.Bool false) of_a of_b e = absurd (omega (arith, ap first e, int_first m of_a))
value_same (value.Int m) (value.Int n) of_a of_b e = ap value.Int (signed_decimal_injective m n of_a of_b e)
value_same (value.Int m) (value.Text n) of_a of_b e = absurd (omega (arith, ap first e, int_first m of_a))
value_same (value.Text m) value.Nil of_a of_b e = absurd (omega (arith, ap first e))
value_same (value.Text m) (value.Bool true) of_a of_b e = absurd (omega (arith, ap first e))
value_same (value.Text m) (value.Bool false) of_a of_b e = absurd (omega (arith, ap first e))
value_same (value.Text m) (value.Int n) of_a of_b e = absurd (omega (arith, ap first e, int_first n of_b))
value_same (value.Text m) (value.Text n) of_a of_b e = ap value.Text (escaped_same m n of_a of_b (ap tail e))

pub name_word : (name : List ℕ) → is_name name ≡ true → is_word name ≡ true
unfolding is_name
name_word name e = (both _ _ (both _ _ e).0).1

pub plural_plain : (name : List ℕ) → is_name name ≡ true → All (IsNot 47) name
plural_plain name e = word_without 47 refl refl name (name_word name e)

-- a plural begins with a lower-case letter
pub plural_first : (name rest : List ℕ) → is_word name ≡ true → (97 ≤ first (name ++ rest)) × (first (name ++ rest) ≤ 122)
plural_first [] rest e = absurd (cc e)
plural_first (b ∷ bs) rest e =
    let lower = (both (is_lower b) (list_all is_word_byte bs) e).0 in (grind (arith, nat_tests), grind (arith, nat_tests))

first_component : (a b : Component) (r s : List ℕ) → IsComponent a → IsComponent b → EndsAt 47 r → EndsAt 47 s → component_text a ++ r ≡ component_text b ++ s → (a ≡ b) × (r ≡ s)
first_component (component.Record p i) (component.Record q j) r s of_a of_b end_r end_s e =
    let plurals = up_to 47 p q (47 ∷ (id_text i ++ r)) (47 ∷ (id_text j ++ s)) (plural_plain p of_a.0) (plural_plain q of_b.0) refl refl
    (sym (append_assoc p (47 ∷ id_text i) r) ∙ e ∙ append_assoc q (47 ∷ id_text j) s) in
    let ids = up_to 47 (id_text i) (id_text j) r s (id_plain i of_a.1) (id_plain j of_b.1) end_r end_s (ap tail plurals.1) in
    let same = id_same i j of_a.1 of_b.1 ids.0 in
    ((λ k. component.Record (plurals.0 k) (same k)), ids.1)
first_component (component.Literal t) (component.Literal u) r s of_a of_b end_r end_s e =
    let texts = up_to 47 (escaped t) (escaped u) r s (escaped_plain t) (escaped_plain u) end_r end_s (ap tail e) in
    (ap component.Literal (escaped_same t u of_a of_b texts.0), texts.1)
first_component (component.Scalar v) (component.Scalar w) r s of_a of_b end_r end_s e =
    let texts = up_to 47 (value_text v) (value_text w) r s (value_plain v of_a) (value_plain w of_b) end_r end_s (ap tail e) in
    (ap component.Scalar (value_same v w of_a of_b texts.0), texts.1)
first_component (component.Record p i) (component.Literal u) r s of_a of_b end_r end_s e =
    absurd (omega (arith, plural_first p (47 ∷ (id_text i ++ r)) (name_word p of_a.0), ap first (sym (append_assoc p (47 ∷ id_text i) r) ∙ e)))
first_component (component.Record p i) (component.Scalar w) r s of_a of_b end_r end_s e =
    absurd (omega (arith, plural_first p (47 ∷ (id_text i ++ r)) (name_word p of_a.0), ap first (sym (append_assoc p (47 ∷ id_text i) r) ∙ e)))
first_component (component.Literal t) (component.Record q j) r s of_a of_b end_r end_s e =
    absurd (omega (arith, plural_first q (47 ∷ (id_text j ++ s)) (name_word q of_b.0), ap first (e ∙ append_assoc q (47 ∷ id_text j) s)))
first_component (component.Scalar v) (component.Record q j) r s of_a of_b end_r end_s e =
    absurd (omega (arith, plural_first q (47 ∷ (id_text j ++ s)) (name_word q of_b.0), ap first (e ∙ append_assoc q (47 ∷ id_text j) s)))
first_component (component.Literal t) (component.Scalar w) r s of_a of_b end_r end_s e = absurd (omega (arith, ap first e))
first_component (component.Scalar v) (component.Literal u) r s of_a of_b end_r end_s e = absurd (omega (arith, ap first e))

pub components_end : (cs : List Component) → EndsAt 47 (components_text cs)
components_end [] = tt
components_end (c ∷ cs) = refl

all_components : (xs ys : List Component) → AllByRecursion IsComponent xs → AllByRecursion IsComponent ys → components_text xs ≡ components_text ys → xs ≡ ys
all_components [] [] of_x of_y e = refl
all_components [] (y ∷ ys) of_x of_y e = absurd (cc e)
all_components (x ∷ xs) [] of_x of_y e = absurd (cc e)
all_components (x ∷ xs) (y ∷ ys) of_x of_y e =
    let here = first_component x y (components_text xs) (components_text ys) of_x.0 of_y.0 (components_end xs) (components_end ys) (ap tail e) in
    let rest = all_components xs ys of_x.1 of_y.1 here.1 in
    λ i. here.0 i ∷ rest i

-- ---- keys

pub same_bytes : (a b : List ℕ) → IsBytes a → IsBytes b → hex_digits a ≡ hex_digits b → a ≡ b
same_bytes a b a_bytes b_bytes e =
    let read : (let given : Result (List ℕ) FromHexError = Ok a in given ≡ Ok b) = sym (decode_of-encode_lower a a_bytes) ∙ ap decode_of e ∙ decode_of-encode_lower b b_bytes in
    ap (λ r. result_unwrap_or r a) read

pub text_before : (path digest rest : List ℕ) → key_prefix path digest ++ rest ≡ codes "views/" ++ (path ++ 58 ∷ (hex_digits digest ++ rest))
text_before path digest rest =
    append_assoc (codes "views/" ++ path) (58 ∷ hex_digits digest) rest ∙ append_assoc (codes "views/") path (58 ∷ (hex_digits digest ++ rest))

pub one_key : OneKey
one_key a b of_a of_b e =
    let rest_a = components_text a.components in
    let rest_b = components_text b.components in
    let behind = ap (drop 6) (sym (text_before a.path a.digest rest_a) ∙ e ∙ text_before b.path b.digest rest_b) in
    let paths = up_to 58 a.path b.path (58 ∷ (hex_digits a.digest ++ rest_a)) (58 ∷ (hex_digits b.digest ++ rest_b)) (path_plain a.path of_a.path) (path_plain b.path of_b.path) refl refl behind in
    let digests = up_to_length (hex_digits a.digest) (hex_digits b.digest) rest_a rest_b
    (omega (arith, length-encode_with lower_digits a.digest, length-encode_with lower_digits b.digest, of_a.digest.0, of_b.digest.0)) (ap tail paths.1) in
    let same = same_bytes a.digest b.digest of_a.digest.1 of_b.digest.1 digests.0 in
    let components = all_components a.components b.components of_a.components of_b.components digests.1 in
    λ i. record { path = paths.0 i; digest = same i; components = components i }
