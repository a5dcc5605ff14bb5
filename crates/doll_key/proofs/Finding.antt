-- What is read from a key's text is all that may have it.
use Rattle.std.proofs.Common.{◌≡◌, ◌≢◌, ◌+◌, ◌-◌, ◌<◌, ◌≤◌, ◌^◌, ℕ, zero, suc, Bool, true, false, cond, List, [], ◌∷◌, ◌++◌, length, get_or, take, drop, append_assoc, append-nil, length-append, length-take, All, Option, Some, None, Result, Ok, Err, refl, sym, ap, subst, ◌∙◌, arith}
use Rattle.std.specs.Prelude.{codes, ℤ, ◌==◌, not}
use Rattle.std.specs.Fmt.{decimal, signed_decimal}
use Rattle.std.specs.Int.Signed.{mag}
use Rattle.std.specs.Int.{w64}
use Rattle.std.specs.List.{prefix_len}
use Rattle.std.specs.Result.{result_ok}
use Rattle.std.specs.Str.{IsUtf8}
use Rattle.std.specs.Str.Parse.{ParsesSigned, ParsesUnsigned}
use Rattle.std.proofs.lemmas.List.{take_all}
use Rattle.std.proofs.lemmas.Fmt.{IsAscii-decimal, IsAscii-signed, parse-decimal, parse-signed_decimal}
use Rattle.std.proofs.lemmas.Str.{IsUtf8-from_ascii}
use Rattle.std.proofs.lemmas.Bool.Decides.{nat_tests}
use Rattle.std.proofs.lemmas.List.Elements.{All-cons, All-head, All-nil, All-tail, All-from_get_or}
use Rattle.std.proofs.Math.Numerals.{one-add}
use Rattle.std.proofs.Math.ListN.{take-append-drop}
use Rattle.hex.specs.Hex.{IsBytes, decode_sized, lower_digits}
use Rattle.hex.specs.declared.error.FromHexError.{FromHexError}
use Rattle.hex.proofs.HexLemmas.{decode_sized-encode_lower, length-encode_with}
use Rattle.percent_encoding.specs.Percent.{percent_decode}
use Rattle.percent_encoding.proofs.PercentLemmas.{IsByte, round_trip}
use Rattle.doll_text.specs.Names.{is_name}
use Rattle.doll_text.specs.Segments.{is_virtual_path}
use Rattle.doll_digest.specs.Framing.{IsDigest, hex_digits}
use Rattle.doll_schema.specs.declared.value.Value.{Value}
use Rattle.doll_schema.specs.declared.value.Value.TheVariants as value
use Rattle.doll_key.specs.declared.components.Component.{Component}
use Rattle.doll_key.specs.declared.components.Component.TheVariants as component
use Rattle.doll_key.specs.declared.escapes.TheConstants.{ESCAPED}
use Rattle.doll_key.specs.Components.{component_text, components_text, escaped, id_text, value_text}
use Rattle.doll_key.specs.declared.parts.KeyParts.{KeyParts}
use Rattle.doll_key.specs.Keys.{key_text}
use Rattle.doll_key.specs.Reading.{AreComponents, EndsAt, Finds, FindsText, IsCut, IsFirst, IsHead, IsMade, IsNot, ReadsAs, digest_text, first_text, head_text, path_text}
use Rattle.doll_key.specs.Uniqueness.{IsComponent, IsId, IsKey, IsValue}
use Rattle.doll_key.proofs.Uniqueness.{components_end, escaped_plain, first, id_plain, id_same, int_first, name_word, path_plain, plural_first, plural_plain, tail, text_before, up_to, up_to_length, value_plain, value_same}

-- ---- cuts

abbrev is_other : ℕ → ℕ → Bool
is_other stop b = not (b == stop)

front_plain : (stop : ℕ) (text : List ℕ) → All (IsNot stop) (take (prefix_len (is_other stop) text) text)
front_plain stop [] = All-nil (IsNot stop)
front_plain stop (b ∷ bs) = by (b == stop) refl (front_plain stop bs)
  where
    by : (t : Bool) → (b == stop) ≡ t → All (IsNot stop) (take (prefix_len (is_other stop) bs) bs) → All (IsNot stop) (take (cond (not t) (1 + prefix_len (is_other stop) bs) 0) (b ∷ bs))
    by true e rest = All-nil (IsNot stop)
    by false e rest = rw one-add (All-cons (IsNot stop) b (take (prefix_len (is_other stop) bs) bs) (λ same. grind (arith, nat_tests)) rest)

rest_ends : (stop : ℕ) (text : List ℕ) → EndsAt stop (drop (prefix_len (is_other stop) text) text)
rest_ends stop [] = tt
rest_ends stop (b ∷ bs) = by (b == stop) refl (rest_ends stop bs)
  where
    by : (t : Bool) → (b == stop) ≡ t → EndsAt stop (drop (prefix_len (is_other stop) bs) bs) → EndsAt stop (drop (cond (not t) (1 + prefix_len (is_other stop) bs) 0) (b ∷ bs))
    by true e rest = grind (arith, nat_tests)
    by false e rest = rw one-add rest

pub cut_is : (stop n : ℕ) (text : List ℕ) → n ≡ prefix_len (is_other stop) text → IsCut stop text (take n text) (drop n text)
cut_is stop n text e = rw e (record { whole = take-append-drop (prefix_len (is_other stop) text) text; plain = front_plain stop text; ends = rest_ends stop text })

-- ---- texts

pub are_bytes : (xs : List ℕ) → All (λ b. b < 256) xs → IsBytes xs
are_bytes [] small i = omega arith
are_bytes (x ∷ xs) small zero = All-head (λ b. b < 256) x xs small
are_bytes (x ∷ xs) small (suc i) = are_bytes xs (All-tail (λ b. b < 256) x xs small) i

pub decodes : (text found : List ℕ) → found ≡ percent_decode text → IsBytes found → FindsText text found
unfolding escaped
decodes text found e bytes = (
  bytes,
  λ x of_x is. sym (round_trip ESCAPED x refl (All-from_get_or IsByte x 0 (λ i within. of_x i))) ∙ ap percent_decode is ∙ sym e,
)

-- ---- the first byte

pub starts : (b : ℕ) (xs : List ℕ) → 1 ≤ length xs → get_or xs 0 0 ≡ b → xs ≡ b ∷ take (length xs - 1) (drop 1 xs)
starts b [] some e = absurd (omega arith)
starts b (x ∷ xs) some e =
    let rest : take (length (x ∷ xs) - 1) xs ≡ xs = take_all (length (x ∷ xs) - 1) xs (omega arith) in
    λ i. e i ∷ sym rest i

pub starts_so : (b : ℕ) (xs : List ℕ) → 1 ≤ length xs → EndsAt b xs → xs ≡ b ∷ take (length xs - 1) (drop 1 xs)
starts_so b [] some ends = absurd (omega arith)
starts_so b (x ∷ xs) some ends = starts b (x ∷ xs) some ends

pub nothing : (xs : List ℕ) → length xs < 1 → xs ≡ []
nothing [] short = refl
nothing (x ∷ xs) short = absurd (omega arith)

-- ---- numbers

module _ {E : Type 0} (text digits : List ℕ) (same : digits ≡ text) where
  pub parsed_id : (r : Result ℕ E) (o : Option ℕ) → ParsesUnsigned 32 10 digits r → o ≡ result_ok r → Finds (λ n. n < 2 ^ 32) decimal text o
  parsed_id (Ok n) o parsed is = rw is (
    omega (arith, parsed.0.1, parsed.1),
    λ x of_x e. let again : (let given : Result ℕ E = Ok n in given ≡ Ok x) = parse-decimal 32 x digits (Ok n) of_x (omega arith) (same ∙ sym e) parsed in cc,
  )
  parsed_id (Err fault) o parsed is = rw is (
      λ x of_x e. let again : (let given : Result ℕ E = Err fault in given ≡ Ok x) = parse-decimal 32 x digits (Err fault) of_x (omega arith) (same ∙ sym e) parsed in absurd (cc again)
      )

  pub parsed_integer : (r : Result ℤ E) (o : Option ℤ) → ParsesSigned w64 10 digits r → o ≡ result_ok r → Finds (λ z. mag z < 2 ^ 63) signed_decimal text o
  parsed_integer (Ok n) o parsed is = rw is (
    rw parsed.1 parsed.0.1.sfits,
    λ x of_x e. let again : (let given : Result ℤ E = Ok n in given ≡ Ok x) = parse-signed_decimal w64 x digits (Ok n) (record { sfits = of_x }) of_x (same ∙ sym e) parsed in cc,
  )
  parsed_integer (Err fault) o parsed is = rw is (
      λ x of_x e. let again : (let given : Result ℤ E = Err fault in given ≡ Ok x) = parse-signed_decimal w64 x digits (Err fault) (record { sfits = of_x }) of_x (same ∙ sym e) parsed in absurd (cc again)
      )

pub no_id_text : (text : List ℕ) → ¬ (IsUtf8 text) → Finds (λ n. n < 2 ^ 32) decimal text None
no_id_text text not x of_x e = not (subst IsUtf8 e (IsUtf8-from_ascii (decimal x) (IsAscii-decimal x (omega arith))))

pub no_integer_text : (text : List ℕ) → ¬ (IsUtf8 text) → Finds (λ z. mag z < 2 ^ 63) signed_decimal text None
no_integer_text text not x of_x e = not (subst IsUtf8 e (IsUtf8-from_ascii (signed_decimal x) (IsAscii-signed x of_x)))

-- ---- ids and values

module _ (text : List ℕ) where
  pub known_id : (id : Option ℕ) → IsId id → id_text id ≡ text → Finds IsId id_text text (Some id)
  known_id id of_id e = (of_id, λ x of_x is. id_same x id of_x of_id (is ∙ sym e))

  pub known_value : (v : Value) → IsValue v → value_text v ≡ text → Finds IsValue value_text text (Some v)
  known_value v of_v e = (of_v, λ x of_x is. value_same x v of_x of_v (is ∙ sym e))

  pub text_value : (found behind : List ℕ) → text ≡ 39 ∷ behind → FindsText behind found → Finds IsValue value_text text (Some (value.Text found))
  text_value found behind starts finds = (finds.0, λ x of_x is. by x of_x (is ∙ starts))
    where
      by : (x : Value) → IsValue x → value_text x ≡ 39 ∷ behind → x ≡ value.Text found
      by value.Nil of_x e = absurd (omega (arith, ap first e))
      by (value.Bool true) of_x e = absurd (omega (arith, ap first e))
      by (value.Bool false) of_x e = absurd (omega (arith, ap first e))
      by (value.Int z) of_x e = absurd (omega (arith, ap first e, int_first z of_x))
      by (value.Text t) of_x e = ap value.Text (finds.1 t of_x (ap tail e))

  pub no_value : text ≡ [] → Finds IsValue value_text text None
  no_value none x of_x is = by x of_x (is ∙ none)
    where
      by : (x : Value) → IsValue x → value_text x ≡ [] → ⊥
      by value.Nil of_x e = absurd (cc e)
      by (value.Bool true) of_x e = absurd (cc e)
      by (value.Bool false) of_x e = absurd (cc e)
      by (value.Int z) of_x e = absurd (omega (arith, ap first e, int_first z of_x))
      by (value.Text t) of_x e = absurd (cc e)

  module _ (other : text ≢ codes "nil") where
    id_number : (id : Option ℕ) → IsId id → id_text id ≡ text → (n : ℕ) × (id ≡ Some n) × (n < 2 ^ 32) × (decimal n ≡ text)
    id_number (Some n) of_id e = (n, refl, of_id, e)
    id_number None of_id e = absurd (other (sym e))

    pub number_id : (n : ℕ) → Finds (λ n. n < 2 ^ 32) decimal text (Some n) → Finds IsId id_text text (Some (Some n))
    number_id n finds = (finds.0, λ x of_x e. let k = id_number x of_x e in k.1 ∙ ap Some (finds.1 k.0 k.2 k.3))

    pub no_number_id : Finds (λ n. n < 2 ^ 32) decimal text None → Finds IsId id_text text None
    no_number_id none x of_x e = let k = id_number x of_x e in none k.0 k.2 k.3

    module _ (not_true : text ≢ codes "true") (not_false : text ≢ codes "false") (quote : get_or text 0 0 ≢ 39) where
      value_number : (v : Value) → IsValue v → value_text v ≡ text → (z : ℤ) × (v ≡ value.Int z) × (mag z < 2 ^ 63) × (signed_decimal z ≡ text)
      value_number value.Nil of_v e = absurd (other (sym e))
      value_number (value.Bool true) of_v e = absurd (not_true (sym e))
      value_number (value.Bool false) of_v e = absurd (not_false (sym e))
      value_number (value.Int z) of_v e = (z, refl, of_v, e)
      value_number (value.Text t) of_v e = absurd (quote (sym (ap first e)))

      pub number_value : (z : ℤ) → Finds (λ z. mag z < 2 ^ 63) signed_decimal text (Some z) → Finds IsValue value_text text (Some (value.Int z))
      number_value z finds = (finds.0, λ x of_x e. let k = value_number x of_x e in k.1 ∙ ap value.Int (finds.1 k.0 k.2 k.3))

      pub no_number_value : Finds (λ z. mag z < 2 ^ 63) signed_decimal text None → Finds IsValue value_text text None
      no_number_value none x of_x e = let k = value_number x of_x e in none k.0 k.2 k.3

-- ---- components

module _ (text front rest : List ℕ) (cut : IsCut 47 text front rest) where
  -- a text without a slash, and an end or a slash behind it, are these two parts
  same_cut : (x r : List ℕ) → All (IsNot 47) x → EndsAt 47 r → x ++ r ≡ text → (x ≡ front) × (r ≡ rest)
  same_cut x r plain ends e = up_to 47 x front r rest plain cut.plain ends cut.ends (e ∙ sym cut.whole)

  literal_only : (found : List ℕ) → FindsText front found → (c : Component) (r : List ℕ) → IsComponent c → EndsAt 47 r → component_text c ++ r ≡ 58 ∷ text → (c ≡ component.Literal found) × (r ≡ rest)
  literal_only found finds (component.Record p i) r of_c ends e =
      absurd (omega (arith, plural_first p (47 ∷ (id_text i ++ r)) (name_word p of_c.0), ap first (sym (append_assoc p (47 ∷ id_text i) r) ∙ e)))
  literal_only found finds (component.Literal t) r of_c ends e =
      let parts = same_cut (escaped t) r (escaped_plain t) ends (ap tail e) in
      (ap component.Literal (finds.1 t of_c parts.0), parts.1)
  literal_only found finds (component.Scalar v) r of_c ends e = absurd (omega (arith, ap first e))

  scalar_parts : (c : Component) (r : List ℕ) → IsComponent c → EndsAt 47 r → component_text c ++ r ≡ 61 ∷ text → (v : Value) × (c ≡ component.Scalar v) × IsValue v × (value_text v ≡ front) × (r ≡ rest)
  scalar_parts (component.Record p i) r of_c ends e =
      absurd (omega (arith, plural_first p (47 ∷ (id_text i ++ r)) (name_word p of_c.0), ap first (sym (append_assoc p (47 ∷ id_text i) r) ∙ e)))
  scalar_parts (component.Literal t) r of_c ends e = absurd (omega (arith, ap first e))
  scalar_parts (component.Scalar v) r of_c ends e =
      let parts = same_cut (value_text v) r (value_plain v of_c) ends (ap tail e) in (v, refl, of_c, parts.0, parts.1)

  pub literal_first : (found : List ℕ) → FindsText front found → Finds IsFirst first_text (58 ∷ text) (Some (component.Literal found, rest))
  literal_first found finds = (
    (finds.0, cut.ends),
    λ x of_x e. let parts = literal_only found finds x.0 x.1 of_x.0 of_x.1 e in λ i. (parts.0 i, parts.1 i),
  )

  pub scalar_first : (v : Value) → Finds IsValue value_text front (Some v) → Finds IsFirst first_text (61 ∷ text) (Some (component.Scalar v, rest))
  scalar_first v finds = (
    (finds.0, cut.ends),
    λ x of_x e.
        let parts = scalar_parts x.0 x.1 of_x.0 of_x.1 e in
        let same : x.0 ≡ component.Scalar v = parts.1 ∙ ap component.Scalar (finds.1 parts.0 parts.2 parts.3) in
        λ i. (same i, parts.4 i),
  )

  pub scalar_none : Finds IsValue value_text front None → Finds IsFirst first_text (61 ∷ text) None
  scalar_none finds x of_x e = let parts = scalar_parts x.0 x.1 of_x.0 of_x.1 e in finds parts.0 parts.2 parts.3

  -- a record's name stands before the first slash
  record_parts : get_or text 0 0 ≢ 58 → get_or text 0 0 ≢ 61 → (c : Component) (r : List ℕ) → IsComponent c → component_text c ++ r ≡ text
      → (plural : List ℕ) × (id : Option ℕ) × (c ≡ component.Record plural id) × (is_name plural ≡ true) × IsId id × (plural ≡ front) × (47 ∷ (id_text id ++ r) ≡ rest)
  record_parts colon equals (component.Record p i) r of_c e =
      let parts = same_cut p (47 ∷ (id_text i ++ r)) (plural_plain p of_c.0) refl (sym (append_assoc p (47 ∷ id_text i) r) ∙ e) in
      (p, i, refl, of_c.0, of_c.1, parts.0, parts.1)
  record_parts colon equals (component.Literal t) r of_c e = absurd (colon (sym (ap first e)))
  record_parts colon equals (component.Scalar v) r of_c e = absurd (equals (sym (ap first e)))

  module _ (colon : get_or text 0 0 ≢ 58) (equals : get_or text 0 0 ≢ 61) where
    pub no_name : is_name front ≡ false → Finds IsFirst first_text text None
    no_name none x of_x e =
        let parts = record_parts colon equals x.0 x.1 of_x.0 e in absurd (cc (sym none ∙ sym (ap is_name parts.5) ∙ parts.3))

    pub no_id_behind : rest ≡ [] → Finds IsFirst first_text text None
    no_id_behind none x of_x e =
        let parts = record_parts colon equals x.0 x.1 of_x.0 e in absurd (cc (parts.6 ∙ none))

    module _ (after digits behind : List ℕ) (is : rest ≡ 47 ∷ after) (id_cut : IsCut 47 after digits behind) where
      id_parts : (id : Option ℕ) (r : List ℕ) → IsId id → EndsAt 47 r → 47 ∷ (id_text id ++ r) ≡ rest → (id_text id ≡ digits) × (r ≡ behind)
      id_parts id r of_id ends e =
          up_to 47 (id_text id) digits r behind (id_plain id of_id) id_cut.plain ends id_cut.ends (ap tail (e ∙ is) ∙ sym id_cut.whole)

      pub no_id : Finds IsId id_text digits None → Finds IsFirst first_text text None
      no_id none x of_x e =
          let parts = record_parts colon equals x.0 x.1 of_x.0 e in
          none parts.1 parts.4 (id_parts parts.1 x.1 parts.4 of_x.1 parts.6).0

      pub record_first : (id : Option ℕ) → is_name front ≡ true → Finds IsId id_text digits (Some id) → Finds IsFirst first_text text (Some (component.Record front id, behind))
      record_first id named finds = (
        ((named, finds.0), id_cut.ends),
        λ x of_x e.
            let parts = record_parts colon equals x.0 x.1 of_x.0 e in
            let ids = id_parts parts.1 x.1 parts.4 of_x.1 parts.6 in
            let same_id = finds.1 parts.1 parts.4 ids.0 in
            let same : x.0 ≡ component.Record front id = parts.2 ∙ (λ i. component.Record (parts.5 i) (same_id i)) in
            λ i. (same i, ids.1 i),
      )

-- ---- lists of components

pub none_made : (text : List ℕ) → IsMade text [] text
none_made text = record { are = tt; only = λ all of_all e. (all, of_all, refl, e) }

pub all_made : (text : List ℕ) (made : List Component) → IsMade text made [] → Finds AreComponents components_text text (Some made)
all_made text made is = (is.are, λ x of_x e. let on = is.only x of_x e in on.2 ∙ none_left on.0 on.3)
  where
    none_left : (more : List Component) → components_text more ≡ [] → made ++ more ≡ made
    none_left [] e = append-nil made
    none_left (c ∷ more) e = absurd (cc e)

pub no_slash : (text : List ℕ) (made : List Component) (b : ℕ) (rest : List ℕ) → IsMade text made (b ∷ rest) → b ≢ 47 → Finds AreComponents components_text text None
no_slash text made b rest is other x of_x e = let on = is.only x of_x e in by on.0 on.3
  where
    by : (more : List Component) → components_text more ≡ b ∷ rest → ⊥
    by [] e = absurd (cc e)
    by (c ∷ more) e = other (sym (ap first e))

pub no_component : (text : List ℕ) (made : List Component) (rest : List ℕ) → IsMade text made (47 ∷ rest) → Finds IsFirst first_text rest None → Finds AreComponents components_text text None
no_component text made rest is none x of_x e = let on = is.only x of_x e in by on.0 on.1 on.3
  where
    by : (more : List Component) → AreComponents more → components_text more ≡ 47 ∷ rest → ⊥
    by [] of_more e = absurd (cc e)
    by (c ∷ more) of_more e = none (c, components_text more) (of_more.0, components_end more) (ap tail e)

pub one_more : (text : List ℕ) (made : List Component) (rest : List ℕ) (c : Component) (after : List ℕ) → IsMade text made (47 ∷ rest) → Finds IsFirst first_text rest (Some (c, after)) → IsMade text (made ++ c ∷ []) after
one_more text made rest c after is finds = record {
  are = all_and made is.are;
  only = λ all of_all e. let on = is.only all of_all e in by all on.0 on.1 on.2 on.3;
}
  where
    all_and : (cs : List Component) → AreComponents cs → AreComponents (cs ++ c ∷ [])
    all_and [] of_cs = (finds.0.0, tt)
    all_and (d ∷ ds) of_cs = (of_cs.0, all_and ds of_cs.1)

    by : (all more : List Component) → AreComponents more → all ≡ made ++ more → components_text more ≡ 47 ∷ rest
        → (next : List Component) × AreComponents next × (all ≡ (made ++ c ∷ []) ++ next) × (components_text next ≡ after)
    by all [] of_more is_all e = absurd (cc e)
    by all (d ∷ more) of_more is_all e =
        let same = finds.1 (d, components_text more) (of_more.0, components_end more) (ap tail e) in
        (more, of_more.1, is_all ∙ ap (λ (one : Component). made ++ one ∷ more) (ap (λ (p : Component × List ℕ). p.0) same) ∙ sym (append_assoc made (c ∷ []) more), ap (λ (p : Component × List ℕ). p.1) same)

-- ---- digests and paths

digest_length : (digest : List ℕ) → IsDigest digest → length (hex_digits digest) ≡ 32
digest_length digest is = omega (arith, length-encode_with lower_digits digest, is.0)

pub no_room : (text : List ℕ) → length text < 32 → Finds (λ (x : List ℕ × List ℕ). IsDigest x.0) digest_text text None
no_room text short x of_x e = omega (arith, digest_length x.0 of_x, length-append (hex_digits x.0) x.1, ap length e)

module _ (text digits rest : List ℕ) (front : digits ≡ take 32 text) (back : rest ≡ drop 32 text) (long : 32 ≤ length text) where
  digest_parts : (digest behind : List ℕ) → IsDigest digest → hex_digits digest ++ behind ≡ text → (hex_digits digest ≡ digits) × (behind ≡ rest)
  digest_parts digest behind is e =
      let parts = up_to_length (hex_digits digest) (take 32 text) behind (drop 32 text)
      (omega (arith, digest_length digest is, length-take 32 text)) (e ∙ sym (take-append-drop 32 text)) in
      (parts.0 ∙ sym front, parts.1 ∙ sym back)

  read_again : (digest : List ℕ) → IsDigest digest → hex_digits digest ≡ digits → decode_sized digits 16 ≡ Ok digest
  read_again digest is e = rw (sym e) (decode_sized-encode_lower digest 16 is.0 is.1)

  pub no_digest : (fault : FromHexError) → decode_sized digits 16 ≡ Err fault → Finds (λ (x : List ℕ × List ℕ). IsDigest x.0) digest_text text None
  no_digest fault refused x of_x e = let parts = digest_parts x.0 x.1 of_x e in absurd (cc (sym refused ∙ read_again x.0 of_x parts.0))

  pub digest_first : (digest : List ℕ) → decode_sized digits 16 ≡ Ok digest → IsDigest digest → Finds (λ (x : List ℕ × List ℕ). IsDigest x.0) digest_text text (Some (digest, rest))
  digest_first digest read is = (
    is,
    λ x of_x e.
        let parts = digest_parts x.0 x.1 of_x e in
        let same : x.0 ≡ digest = ok_is x.0 digest (sym (read_again x.0 of_x parts.0) ∙ read) in
        λ i. (same i, parts.1 i),
  )
    where
      ok_is : (a b : List ℕ) → (let given : Result (List ℕ) FromHexError = Ok a in given ≡ Ok b) → a ≡ b
      ok_is a b e = cc

module _ (text path rest : List ℕ) (cut : IsCut 58 text path rest) where
  head_parts : (x : List ℕ × List ℕ × List ℕ) → IsHead x → path_text x ≡ text → (x.0 ≡ path) × (58 ∷ digest_text (x.1, x.2) ≡ rest)
  head_parts x of_x e = up_to 58 x.0 path (58 ∷ digest_text (x.1, x.2)) rest (path_plain x.0 of_x.0) cut.plain refl cut.ends (e ∙ sym cut.whole)

  pub no_colon : rest ≡ [] → Finds IsHead path_text text None
  no_colon none x of_x e = absurd (cc ((head_parts x of_x e).1 ∙ none))

  pub no_path : is_virtual_path path ≡ false → Finds IsHead path_text text None
  no_path none x of_x e = absurd (cc (sym none ∙ sym (ap is_virtual_path (head_parts x of_x e).0) ∙ of_x.0))

  module _ (behind : List ℕ) (is : rest ≡ 58 ∷ behind) where
    pub no_digest_behind : Finds (λ (x : List ℕ × List ℕ). IsDigest x.0) digest_text behind None → Finds IsHead path_text text None
    no_digest_behind none x of_x e = none (x.1, x.2) of_x.1 (ap tail ((head_parts x of_x e).1 ∙ is))

    pub path_first : is_virtual_path path ≡ true → (found : List ℕ × List ℕ) → Finds (λ (x : List ℕ × List ℕ). IsDigest x.0) digest_text behind (Some found) → Finds IsHead path_text text (Some (path, found.0, found.1))
    path_first virtual found finds = (
      (virtual, finds.0),
      λ x of_x e.
          let parts = head_parts x of_x e in
          let same = finds.1 (x.1, x.2) of_x.1 (ap tail (parts.1 ∙ is)) in
          λ i. (parts.0 i, (same i).0, (same i).1),
    )

-- ---- keys

module _ (text : List ℕ) where
  key_head : (x : KeyParts) → key_text x ≡ text → head_text (x.path, x.digest, components_text x.components) ≡ text
  key_head x e = sym (text_before x.path x.digest (components_text x.components)) ∙ e

  pub no_head : Finds IsHead head_text text None → Finds IsKey key_text text None
  no_head none x of_x e = none (x.path, x.digest, components_text x.components) (of_x.path, of_x.digest) (key_head x e)

  module _ (path digest rest : List ℕ) (finds : Finds IsHead head_text text (Some (path, digest, rest))) where
    pub no_components : Finds AreComponents components_text rest None → Finds IsKey key_text text None
    no_components none x of_x e =
        let same = finds.1 (x.path, x.digest, components_text x.components) (of_x.path, of_x.digest) (key_head x e) in
        none x.components of_x.components (λ i. (same i).2)

    pub key_found : (components : List Component) → Finds AreComponents components_text rest (Some components) → Finds IsKey key_text text (Some (record { path = path; digest = digest; components = components }))
    key_found components found = (
      record { path = finds.0.0; digest = finds.0.1; components = found.0 },
      λ x of_x e.
          let same = finds.1 (x.path, x.digest, components_text x.components) (of_x.path, of_x.digest) (key_head x e) in
          let all = found.1 x.components of_x.components (λ i. (same i).2) in
          λ i. record { path = (same i).0; digest = (same i).1; components = all i },
    )

pub other_text : (text : List ℕ) (parts : KeyParts) → Finds IsKey key_text text (Some parts) → key_text parts ≢ text → ReadsAs text None
other_text text parts finds other x of_x e = other (ap key_text (sym (finds.1 x of_x e)) ∙ e)
