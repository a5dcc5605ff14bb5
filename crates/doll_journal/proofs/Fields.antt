-- The laws of fields: what is read is what was written, and what was written is read again.
use Rattle.std.proofs.Common.{◌≡◌, ℕ, zero, suc, ◌+◌, ◌^◌, ◌<◌, ◌≤◌, Bool, true, false, cond, List, [], ◌∷◌, ◌++◌, length, get_or, take, drop, Result, Ok, Err, refl, sym, ap, subst, ◌∙◌, append_assoc, length-append, length-take, arith, inl, inr}
use Rattle.std.specs.Prelude.{nat_le, ◌==◌}
use Rattle.std.specs.List.{flat_map, AllByRecursion}
use Rattle.std.specs.Int.{Width, w32, w64, byte_len, from_be_bytes, to_be_bytes}
use Rattle.std.specs.Str.{IsUtf8, is_utf8}
use Rattle.std.proofs.lemmas.Bool.{cases_lt, eqb-true, leb-true, le-leb}
use Rattle.std.proofs.lemmas.List.Concat.{flat_map-cons}
use Rattle.std.proofs.lemmas.List.{take_at, drop_at, take-append-drop, get_or-drop, get_or-take, get_or_past}
use Rattle.std.proofs.lemmas.Nat.{be_bytes_4, be_bytes_8, from_be_bytes-to_be_bytes_4, from_be_bytes-to_be_bytes_8}
use Rattle.std.proofs.lemmas.Str.{IsUtf8-from_is_utf8, is_utf8-from_IsUtf8}
use Rattle.doll_text.specs.Steps.{◌>>=◌, ◌>>◌, check}
use Rattle.doll_journal.specs.declared.fault.JournalFault.{JournalFault}
use Rattle.doll_journal.specs.declared.fault.JournalFault.TheVariants.{Truncated, BadText}
use Rattle.doll_journal.specs.Spelling.{text_bytes}
use Rattle.doll_journal.specs.Fields.{offset, Field, byte_field, number_field, text_field, nothing, made_by, two, repeated, counted, Cases, field_behind, tagged}
use Rattle.doll_journal.proofs.Parts.{count_le}

-- every item is a byte
abbrev pub IsBytes : List ℕ → Type 0
IsBytes bytes = (i : ℕ) → get_or bytes i 0 < 256

IsBytes-drop : (n : ℕ) (bytes : List ℕ) → IsBytes bytes → IsBytes (drop n bytes)
IsBytes-drop n bytes h i = rw get_or-drop (h (n + i))

IsBytes-take : (n : ℕ) (bytes : List ℕ) → IsBytes bytes → IsBytes (take n bytes)
IsBytes-take n bytes h i =
    elim (cases_lt i n) [
      | inl lt ↦ rw (get_or-take n bytes i 0 lt) (h i)
      | inr le ↦ rw (get_or_past (take n bytes) i 0 (omega (arith, length-take n bytes))) (omega arith)
    ]

IsBytes-rest : (b : ℕ) (bytes : List ℕ) → IsBytes (b ∷ bytes) → IsBytes bytes
IsBytes-rest b bytes h i = h (suc i)

-- the value of a step that did not fail
pub bind_ok : {A B : Type 0} (r : Result A JournalFault) (f : A → Result B JournalFault) (y : B) → (r >>= f) ≡ Ok y → (x : A) × (r ≡ Ok x) × (f x ≡ Ok y)
bind_ok (Ok x) f y e = (x, refl, e)
bind_ok (Err d) f y e = absurd cc

-- a test that did not fail
pub check_ok : {B : Type 0} (b : Bool) (d : JournalFault) (next : Result B JournalFault) (y : B) → (check b d >> next) ≡ Ok y → (b ≡ true) × (next ≡ Ok y)
check_ok true d next y e = (refl, e)
check_ok false d next y e = absurd cc

abbrev done : {A : Type 0} → A → Result A JournalFault
done x = Ok x

pub ok_is : {A : Type 0} (x y : A) → done x ≡ done y → x ≡ y
ok_is x y e = cc

-- what a reader took from the front
pub record Takes (bytes text rest : List ℕ) : Type 0 where
  pub parts : bytes ≡ text ++ rest
  pub rest_fits : IsBytes rest

pub Takes-then : (a x b y c : List ℕ) → Takes a x b → Takes b y c → Takes a (x ++ y) c
Takes-then a x b y c p q = record { parts = p.parts ∙ ap (λ (t : List ℕ). x ++ t) q.parts ∙ sym (append_assoc x y c); rest_fits = q.rest_fits }

-- the same behind a tag
pub Takes-tagged : (tag : ℕ) (a rest x c : List ℕ) → Takes a (tag ∷ []) rest → Takes rest x c → Takes a (tag ∷ x) c
Takes-tagged tag a rest x c p q = Takes-then a (tag ∷ []) rest x c p q

-- ---- a byte

pub byte_takes : (total : ℕ) (bytes : List ℕ) (b : ℕ) (rest : List ℕ) → IsBytes bytes → byte_field total bytes ≡ Ok (b, rest) → Takes bytes (b ∷ []) rest
byte_takes total [] b rest fits e = absurd cc
byte_takes total (first ∷ others) b rest fits e =
    subst (λ (p : ℕ × List ℕ). Takes (first ∷ others) (p.0 ∷ []) p.1) (ok_is (first, others) (b, rest) e) (record { parts = refl; rest_fits = IsBytes-rest first others fits })

-- ---- numbers

pub record IsWide (w : Width) (limit : ℕ) : Type 0 where
  pub len : (n : ℕ) → length (to_be_bytes w n) ≡ byte_len w
  pub back : (bytes : List ℕ) → length bytes ≡ byte_len w → IsBytes bytes → to_be_bytes w (from_be_bytes w bytes) ≡ bytes
  pub again : (n : ℕ) → n < limit → from_be_bytes w (to_be_bytes w n) ≡ n
  pub below : (bytes : List ℕ) → IsBytes bytes → from_be_bytes w bytes < limit

pub wide32 : IsWide w32 (2 ^ 32)
wide32 = record {
  len = λ n. refl;
  back = λ bytes len fits. be_bytes_4 bytes _ len fits refl;
  again = λ n lt. from_be_bytes-to_be_bytes_4 n lt;
  below = λ bytes fits. omega (arith, fits 0, fits 1, fits 2, fits 3);
}

pub wide64 : IsWide w64 (2 ^ 64)
wide64 = record {
  len = λ n. refl;
  back = λ bytes len fits. be_bytes_8 bytes _ len fits refl;
  again = λ n lt. from_be_bytes-to_be_bytes_8 n lt;
  below = λ bytes fits. omega (arith, fits 0, fits 1, fits 2, fits 3, fits 4, fits 5, fits 6, fits 7);
}

pub number_takes : (w : Width) (limit : ℕ) (wide : IsWide w limit) (total : ℕ) (bytes : List ℕ) (n : ℕ) (rest : List ℕ) → IsBytes bytes → number_field w total bytes ≡ Ok (n, rest) → Takes bytes (to_be_bytes w n) rest × (n < limit)
number_takes w limit wide total bytes n rest fits e =
    let front : List ℕ = take (byte_len w) bytes in
    let g = check_ok (nat_le (byte_len w) (length bytes)) (Truncated (offset total bytes)) (Ok (from_be_bytes w (take (byte_len w) bytes), drop (byte_len w) bytes)) (n, rest) e in
    let long : byte_len w ≤ length bytes = leb-true _ _ g.0 in
    let same = ok_is (from_be_bytes w (take (byte_len w) bytes), drop (byte_len w) bytes) (n, rest) g.1 in
    let again : to_be_bytes w (from_be_bytes w (take (byte_len w) bytes)) ≡ take (byte_len w) bytes = wide.back (take (byte_len w) bytes) (omega (arith, length-take (byte_len w) bytes)) (IsBytes-take (byte_len w) bytes fits) in
    let read : Takes bytes (to_be_bytes w (from_be_bytes w (take (byte_len w) bytes))) (drop (byte_len w) bytes) = record { parts = rw again (sym (take-append-drop (byte_len w) bytes)); rest_fits = IsBytes-drop (byte_len w) bytes fits } in
    subst (λ (p : ℕ × List ℕ). Takes bytes (to_be_bytes w p.0) p.1 × (p.0 < limit)) same (read, wide.below (take (byte_len w) bytes) (IsBytes-take (byte_len w) bytes fits))

pub number_again : (w : Width) (limit : ℕ) (wide : IsWide w limit) (total n : ℕ) (rest : List ℕ) → n < limit → number_field w total (to_be_bytes w n ++ rest) ≡ Ok (n, rest)
number_again w limit wide total n rest lt =
    let len = wide.len n in
    let long : nat_le (byte_len w) (length (to_be_bytes w n ++ rest)) ≡ true = le-leb _ _ (omega (arith, length-append (to_be_bytes w n) rest)) in
    rw (long, take_at (to_be_bytes w n) rest (byte_len w) len, drop_at (to_be_bytes w n) rest (byte_len w) len, wide.again n lt) refl

-- ---- texts

pub text_takes : (total : ℕ) (bytes text rest : List ℕ) → IsBytes bytes → text_field total bytes ≡ Ok (text, rest) → Takes bytes (text_bytes text) rest × IsUtf8 text
unfolding text_field
text_takes total bytes text rest fits e =
    let a = bind_ok (number_field w32 total bytes) (λ n. check (nat_le n.0 (length n.1)) (Truncated (offset total n.1)) >> (check (is_utf8 (take n.0 n.1)) (BadText (offset total n.1)) >> Ok (take n.0 n.1, drop n.0 n.1))) (text, rest) e in
    let n = a.0 in
    let t = number_takes w32 (2 ^ 32) wide32 total bytes n.0 n.1 fits a.1 in
    let g = check_ok (nat_le n.0 (length n.1)) (Truncated (offset total n.1)) (check (is_utf8 (take n.0 n.1)) (BadText (offset total n.1)) >> Ok (take n.0 n.1, drop n.0 n.1)) (text, rest) a.2 in
    let u = check_ok (is_utf8 (take n.0 n.1)) (BadText (offset total n.1)) (Ok (take n.0 n.1, drop n.0 n.1)) (text, rest) g.1 in
    let long : n.0 ≤ length n.1 = leb-true _ _ g.0 in
    let len : length (take n.0 n.1) ≡ n.0 = omega (arith, length-take n.0 n.1) in
    let second : Takes n.1 (take n.0 n.1) (drop n.0 n.1) = record { parts = sym (take-append-drop n.0 n.1); rest_fits = IsBytes-drop n.0 n.1 t.0.rest_fits } in
    let both = Takes-then bytes (to_be_bytes w32 n.0) n.1 (take n.0 n.1) (drop n.0 n.1) t.0 second in
    let whole : Takes bytes (text_bytes (take n.0 n.1)) (drop n.0 n.1) = subst (λ (k : ℕ). Takes bytes (to_be_bytes w32 k ++ take n.0 n.1) (drop n.0 n.1)) (sym len) both in
    subst (λ (p : List ℕ × List ℕ). Takes bytes (text_bytes p.0) p.1 × IsUtf8 p.0) (ok_is (take n.0 n.1, drop n.0 n.1) (text, rest) u.1) (whole, IsUtf8-from_is_utf8 (take n.0 n.1) u.0)

pub text_again : (total : ℕ) (text rest : List ℕ) → IsUtf8 text → length text < 2 ^ 32 → text_field total (text_bytes text ++ rest) ≡ Ok (text, rest)
unfolding text_field
text_again total text rest utf8 lt =
    let regrouped : text_bytes text ++ rest ≡ to_be_bytes w32 (length text) ++ (text ++ rest) = append_assoc (to_be_bytes w32 (length text)) text rest in
    let long : nat_le (length text) (length (text ++ rest)) ≡ true = le-leb _ _ (omega (arith, length-append text rest)) in
    ap (text_field total) regrouped ∙ rw (number_again w32 (2 ^ 32) wide32 total (length text) (text ++ rest) lt, long, take_at text rest (length text) refl, drop_at text rest (length text) refl, is_utf8-from_IsUtf8 text utf8) refl

-- ---- the laws of a field

-- a reader took the bytes of a value that fits
abbrev pub Took : {X : Type 0} → (X → List ℕ) → (X → Type 0) → List ℕ → X × List ℕ → Type 0
Took bytes_of Fits bytes x = Takes bytes (bytes_of x.0) x.1 × Fits x.0

-- what is read is a value that fits, spelled so, and a value that fits is read from its spelling
pub record IsField {X : Type 0} (read : List ℕ → Field X) (bytes_of : X → List ℕ) (Fits : X → Type 0) : Type 0 where
  pub takes : (bytes : List ℕ) (x : X × List ℕ) → IsBytes bytes → read bytes ≡ Ok x → Took bytes_of Fits bytes x
  pub again : (x : X) (rest : List ℕ) → Fits x → length (bytes_of x) < 2 ^ 32 → read (bytes_of x ++ rest) ≡ Ok (x, rest)

pub number_laws : (w : Width) (limit : ℕ) (wide : IsWide w limit) (total : ℕ) → IsField (number_field w total) (to_be_bytes w) (λ n. n < limit)
number_laws w limit wide total = record {
  takes = λ bytes x fits e. number_takes w limit wide total bytes x.0 x.1 fits e;
  again = λ n rest fits lt. number_again w limit wide total n rest fits;
}

pub text_laws : (total : ℕ) → IsField (text_field total) text_bytes IsUtf8
text_laws total = record {
  takes = λ bytes x fits e. text_takes total bytes x.0 x.1 fits e;
  again = λ text rest fits lt. text_again total text rest fits (omega (arith, lt, length-append (to_be_bytes w32 (length text)) text));
}

-- a field and the one behind it
pub two_laws : {A B : Type 0} (p : List ℕ → Field A) (q : List ℕ → Field B) (p_bytes : A → List ℕ) (q_bytes : B → List ℕ) (P : A → Type 0) (Q : B → Type 0)
    → IsField p p_bytes P → IsField q q_bytes Q → IsField (two p q) (λ x. p_bytes x.0 ++ q_bytes x.1) (λ x. P x.0 × Q x.1)
two_laws {A = A} {B = B} p q p_bytes q_bytes P Q f g = record { takes = take_two; again = again_two }
  where
    take_two : (bytes : List ℕ) (x : (A × B) × List ℕ) → IsBytes bytes → two p q bytes ≡ Ok x → Took (λ (y : A × B). p_bytes y.0 ++ q_bytes y.1) (λ (y : A × B). P y.0 × Q y.1) bytes x
    take_two bytes x fits e =
        let a = bind_ok (p bytes) (λ a. q a.1 >>= (λ b. Ok ((a.0, b.0), b.1))) x e in
        let b = bind_ok (q a.0.1) (λ b. Ok ((a.0.0, b.0), b.1)) x a.2 in
        let t = f.takes bytes a.0 fits a.1 in
        let u = g.takes a.0.1 b.0 t.0.rest_fits b.1 in
        let made : (A × B) × List ℕ = ((a.0.0, b.0.0), b.0.1) in
        subst (Took (λ (y : A × B). p_bytes y.0 ++ q_bytes y.1) (λ (y : A × B). P y.0 × Q y.1) bytes) (ok_is made x b.2)
        (Takes-then bytes (p_bytes a.0.0) a.0.1 (q_bytes b.0.0) b.0.1 t.0 u.0, (t.1, u.1))

    again_two : (x : A × B) (rest : List ℕ) → P x.0 × Q x.1 → length (p_bytes x.0 ++ q_bytes x.1) < 2 ^ 32 → two p q ((p_bytes x.0 ++ q_bytes x.1) ++ rest) ≡ Ok (x, rest)
    again_two x rest fits lt =
        let both = length-append (p_bytes x.0) (q_bytes x.1) in
        let first : length (p_bytes x.0) < 2 ^ 32 = omega (arith, lt, both) in
        let second : length (q_bytes x.1) < 2 ^ 32 = omega (arith, lt, both) in
        ap (two p q) (append_assoc (p_bytes x.0) (q_bytes x.1) rest) ∙ rw (f.again x.0 (q_bytes x.1 ++ rest) fits.0 first, g.again x.1 rest fits.1 second) refl

-- a value that is made of a field's, which is a part of it
pub made_laws : {A X : Type 0} (make : A → X) (part : X → A) (p : List ℕ → Field A) (p_bytes : A → List ℕ) (P : A → Type 0) (bytes_of : X → List ℕ) (Fits : X → Type 0)
    → ((a : A) → P a → (p_bytes a ≡ bytes_of (make a)) × Fits (make a)) → ((x : X) → Fits x → (bytes_of x ≡ p_bytes (part x)) × P (part x) × (make (part x) ≡ x))
    → IsField p p_bytes P → IsField (made_by make p) bytes_of Fits
made_laws {A = A} {X = X} make part p p_bytes P bytes_of Fits to of f = record { takes = take_made; again = again_made }
  where
    take_made : (bytes : List ℕ) (x : X × List ℕ) → IsBytes bytes → made_by make p bytes ≡ Ok x → Took bytes_of Fits bytes x
    take_made bytes x fits e =
        let a = bind_ok (p bytes) (λ a. Ok (make a.0, a.1)) x e in
        let t = f.takes bytes a.0 fits a.1 in
        let made : X × List ℕ = (make a.0.0, a.0.1) in
        subst (Took bytes_of Fits bytes) (ok_is made x a.2) (subst (λ ys. Takes bytes ys a.0.1) (to a.0.0 t.1).0 t.0, (to a.0.0 t.1).1)

    again_made : (x : X) (rest : List ℕ) → Fits x → length (bytes_of x) < 2 ^ 32 → made_by make p (bytes_of x ++ rest) ≡ Ok (x, rest)
    again_made x rest fits lt =
        let parts = of x fits in
        let short : length (p_bytes (part x)) < 2 ^ 32 = omega (arith, lt, ap length parts.0) in
        ap (λ ys. made_by make p (ys ++ rest)) parts.0 ∙ (ap (λ r. r >>= (λ a. Ok (make a.0, a.1))) (f.again (part x) rest parts.1 short) ∙ ap (λ y. Ok (y, rest)) parts.2)

-- ---- lists

repeated_takes : {X : Type 0} (one : List ℕ → Field X) (bytes_of : X → List ℕ) (Fits : X → Type 0) → IsField one bytes_of Fits
    → (n : ℕ) (bytes : List ℕ) (x : List X × List ℕ) → IsBytes bytes → repeated one n bytes ≡ Ok x → Takes bytes (flat_map bytes_of x.0) x.1 × AllByRecursion Fits x.0 × (length x.0 ≡ n)
unfolding repeated
repeated_takes {X} one bytes_of Fits field zero bytes x fits e =
    subst (λ (y : List X × List ℕ). Takes bytes (flat_map bytes_of y.0) y.1 × AllByRecursion Fits y.0 × (length y.0 ≡ 0)) (ok_is ([], bytes) x e) (record { parts = refl; rest_fits = fits }, tt, refl)
repeated_takes {X} one bytes_of Fits field (suc n) bytes x fits e =
    let a = bind_ok (one bytes) (λ first. repeated one n first.1 >>= (λ others. Ok (first.0 ∷ others.0, others.1))) x e in
    let b = bind_ok (repeated one n a.0.1) (λ others. Ok (a.0.0 ∷ others.0, others.1)) x a.2 in
    let first = field.takes bytes a.0 fits a.1 in
    let second = repeated_takes one bytes_of Fits field n a.0.1 b.0 first.0.rest_fits b.1 in
    let both = Takes-then bytes (bytes_of a.0.0) a.0.1 (flat_map bytes_of b.0.0) b.0.1 first.0 second.0 in
    let made : List X × List ℕ = (a.0.0 ∷ b.0.0, b.0.1) in
    subst (λ (y : List X × List ℕ). Takes bytes (flat_map bytes_of y.0) y.1 × AllByRecursion Fits y.0 × (length y.0 ≡ suc n)) (ok_is made x b.2)
    (subst (λ (t : List ℕ). Takes bytes t b.0.1) (sym (flat_map-cons bytes_of a.0.0 b.0.0)) both, (first.1, second.1), ap suc second.2)

repeated_again : {X : Type 0} (one : List ℕ → Field X) (bytes_of : X → List ℕ) (Fits : X → Type 0) → IsField one bytes_of Fits
    → (xs : List X) (rest : List ℕ) → AllByRecursion Fits xs → length (flat_map bytes_of xs) < 2 ^ 32 → repeated one (length xs) (flat_map bytes_of xs ++ rest) ≡ Ok (xs, rest)
unfolding repeated
repeated_again one bytes_of Fits field [] rest fits lt = refl
repeated_again one bytes_of Fits field (x ∷ xs) rest fits lt =
    let opened = flat_map-cons bytes_of x xs in
    let regrouped : flat_map bytes_of (x ∷ xs) ++ rest ≡ bytes_of x ++ (flat_map bytes_of xs ++ rest) = ap (λ (t : List ℕ). t ++ rest) opened ∙ append_assoc (bytes_of x) (flat_map bytes_of xs) rest in
    let both = length-append (bytes_of x) (flat_map bytes_of xs) in
    let here : length (bytes_of x) < 2 ^ 32 = omega (arith, both, ap length opened) in
    let later : length (flat_map bytes_of xs) < 2 ^ 32 = omega (arith, both, ap length opened) in
    ap (repeated one (suc (length xs))) regrouped ∙ rw (field.again x (flat_map bytes_of xs ++ rest) fits.0 here, repeated_again one bytes_of Fits field xs rest fits.1 later) refl

-- a count and so many fields, each of which has a byte at least
pub counted_laws : {X : Type 0} (one : List ℕ → Field X) (bytes_of : X → List ℕ) (Fits : X → Type 0) (total : ℕ) → ((x : X) → 1 ≤ length (bytes_of x)) → IsField one bytes_of Fits
    → IsField (counted total one) (λ xs. to_be_bytes w32 (length xs) ++ flat_map bytes_of xs) (AllByRecursion Fits)
counted_laws {X = X} one bytes_of Fits total long field = record { takes = take_all_of; again = again_all_of }
  where
    spelled : List X → List ℕ
    spelled xs = to_be_bytes w32 (length xs) ++ flat_map bytes_of xs

    take_all_of : (bytes : List ℕ) (x : List X × List ℕ) → IsBytes bytes → counted total one bytes ≡ Ok x → Took (λ (xs : List X). to_be_bytes w32 (length xs) ++ flat_map bytes_of xs) (AllByRecursion Fits) bytes x
    take_all_of bytes x fits e =
        let a = bind_ok (number_field w32 total bytes) (λ n. repeated one n.0 n.1) x e in
        let t = number_takes w32 (2 ^ 32) wide32 total bytes a.0.0 a.0.1 fits a.1 in
        let u = repeated_takes one bytes_of Fits field a.0.0 a.0.1 x t.0.rest_fits a.2 in
        let both = Takes-then bytes (to_be_bytes w32 a.0.0) a.0.1 (flat_map bytes_of x.0) x.1 t.0 u.0 in
        (subst (λ (k : ℕ). Takes bytes (to_be_bytes w32 k ++ flat_map bytes_of x.0) x.1) (sym u.2) both, u.1)

    again_all_of : (xs : List X) (rest : List ℕ) → AllByRecursion Fits xs → length (to_be_bytes w32 (length xs) ++ flat_map bytes_of xs) < 2 ^ 32 → counted total one ((to_be_bytes w32 (length xs) ++ flat_map bytes_of xs) ++ rest) ≡ Ok (xs, rest)
    again_all_of xs rest fits lt =
        let below : length (flat_map bytes_of xs) < 2 ^ 32 = omega (arith, length-append (to_be_bytes w32 (length xs)) (flat_map bytes_of xs)) in
        let few : length xs < 2 ^ 32 = omega (arith, count_le bytes_of long xs) in
        ap (counted total one) (append_assoc (to_be_bytes w32 (length xs)) (flat_map bytes_of xs) rest)
        ∙ (ap (λ r. r >>= (λ n. repeated one n.0 n.1)) (number_again w32 (2 ^ 32) wide32 total (length xs) (flat_map bytes_of xs ++ rest) few)
        ∙ repeated_again one bytes_of Fits field xs rest fits below)

-- ---- tags

-- what is read behind a tag is a value that fits, spelled with that tag
pub record IsCase {X : Type 0} (bytes_of : X → List ℕ) (Fits : X → Type 0) (tag : ℕ) (read : List ℕ → Field X) : Type 0 where
  pub takes : (all bytes : List ℕ) (x : X × List ℕ) → IsBytes bytes → read bytes ≡ Ok x → Takes all (tag ∷ []) bytes → Took bytes_of Fits all x

-- a value that has no bytes but its tag
pub nothing_case : {X : Type 0} (bytes_of : X → List ℕ) (Fits : X → Type 0) (tag : ℕ) (x : X) → tag ∷ [] ≡ bytes_of x → Fits x → IsCase bytes_of Fits tag (nothing x)
nothing_case {X = X} bytes_of Fits tag x is fits = record {
  takes = λ all bytes y rest_fits e front. (let made : X × List ℕ = (x, bytes) in
      subst (Took bytes_of Fits all) (ok_is made y e) (subst (λ ys. Takes all ys bytes) is front, fits));
}

-- a value that is made of a field's behind its tag
pub made_case : {A X : Type 0} (bytes_of : X → List ℕ) (Fits : X → Type 0) (tag : ℕ) (make : A → X) (p : List ℕ → Field A) (p_bytes : A → List ℕ) (P : A → Type 0)
    → ((a : A) → P a → (tag ∷ p_bytes a ≡ bytes_of (make a)) × Fits (make a)) → IsField p p_bytes P → IsCase bytes_of Fits tag (made_by make p)
made_case {A = A} {X = X} bytes_of Fits tag make p p_bytes P to f = record { takes = take_case }
  where
    take_case : (all bytes : List ℕ) (x : X × List ℕ) → IsBytes bytes → made_by make p bytes ≡ Ok x → Takes all (tag ∷ []) bytes → Took bytes_of Fits all x
    take_case all bytes x fits e front =
        let a = bind_ok (p bytes) (λ a. Ok (make a.0, a.1)) x e in
        let t = f.takes bytes a.0 fits a.1 in
        let made : X × List ℕ = (make a.0.0, a.0.1) in
        subst (Took bytes_of Fits all) (ok_is made x a.2) (subst (λ ys. Takes all ys a.0.1) (to a.0.0 t.1).0 (Takes-tagged tag all bytes (p_bytes a.0.0) a.0.1 front t.0), (to a.0.0 t.1).1)

abbrev pub AreCases : {X : Type 0} → (X → List ℕ) → (X → Type 0) → Cases X → Type 0
AreCases bytes_of Fits [] = Unit {0}
AreCases bytes_of Fits (one ∷ others) = IsCase bytes_of Fits one.0 one.1 × AreCases bytes_of Fits others

field_behind_takes : {X : Type 0} (bytes_of : X → List ℕ) (Fits : X → Type 0) (cases : Cases X) → AreCases bytes_of Fits cases → (at tag : ℕ) (all bytes : List ℕ) (x : X × List ℕ) → IsBytes bytes → field_behind cases at tag bytes ≡ Ok x → Takes all (tag ∷ []) bytes → Took bytes_of Fits all x
field_behind_takes bytes_of Fits [] are at tag all bytes x fits e front = absurd cc
field_behind_takes {X = X} bytes_of Fits (one ∷ others) are at tag all bytes x fits e front = by_test (tag == one.0) refl e (λ k. field_behind_takes bytes_of Fits others are.1 at tag all bytes x fits k front)
  where
    by_test : (b : Bool) → (tag == one.0) ≡ b → cond b (one.1 bytes) (field_behind others at tag bytes) ≡ Ok x → (field_behind others at tag bytes ≡ Ok x → Took bytes_of Fits all x) → Took bytes_of Fits all x
    by_test true t k later = are.0.takes all bytes x fits k (subst (λ n. Takes all (n ∷ []) bytes) (eqb-true tag one.0 t) front)
    by_test false t k later = later k

-- a tag and the field behind it
pub tagged_laws : {X : Type 0} (bytes_of : X → List ℕ) (Fits : X → Type 0) (cases : Cases X) (total : ℕ) → AreCases bytes_of Fits cases
    → ((x : X) (rest : List ℕ) → Fits x → length (bytes_of x) < 2 ^ 32 → tagged total cases (bytes_of x ++ rest) ≡ Ok (x, rest)) → IsField (tagged total cases) bytes_of Fits
tagged_laws {X = X} bytes_of Fits cases total are back = record { takes = take_tagged; again = back }
  where
    take_tagged : (bytes : List ℕ) (x : X × List ℕ) → IsBytes bytes → tagged total cases bytes ≡ Ok x → Took bytes_of Fits bytes x
    take_tagged bytes x fits e =
        let a = bind_ok (byte_field total bytes) (λ tag. field_behind cases (offset total bytes) tag.0 tag.1) x e in
        let t = byte_takes total bytes a.0.0 a.0.1 fits a.1 in
        field_behind_takes bytes_of Fits cases are (offset total bytes) a.0.0 bytes a.0.1 x t.rest_fits a.2 t
