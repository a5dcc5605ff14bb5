-- The records of a list, and the closure of some under steps from one to the next.
use Rattle.std.proofs.Common.{◌≡◌, ℕ, zero, suc, ◌+◌, ◌<◌, ◌≤◌, Bool, true, false, cond, ◌||◌, List, [], ◌∷◌, ◌++◌, map, length, get_or, IsSome, is_some, eqb, refl, sym, ◌∙◌, ap, subst, arith, ◌⊎◌, inl, inr, append_assoc}
use Rattle.std.specs.Prelude.{slice_get}
use Rattle.std.specs.Fn.{iterate}
use Rattle.std.specs.List.{list_any, flat_map}
use Rattle.std.specs.Cmp.{IsEquivalence}
use Rattle.std.specs.Option.{option_map_or}
use Rattle.std.specs.Ordering.{nat_cmp, eq_by_cmp}
use Rattle.std.specs.FinMap as finite
use Rattle.std.proofs.lemmas.Bool.{true≢false, or_cases, or_left, or_right, and_parts, eqb-true, cases_lt}
use Rattle.std.proofs.lemmas.Bool.Decides.{nat_tests}
use Rattle.std.proofs.lemmas.Cmp.{and_equiv, on_equiv, nat_eq_equiv}
use Rattle.std.proofs.lemmas.List.{append-nil, length-append, length-map}
use Rattle.std.proofs.lemmas.List.Folds.{list_any-append, list_any_at}
use Rattle.doll_schema.specs.declared.value.Row.{Row}
use Rattle.doll_table.specs.Tables.{Extent, TableMap, row_of}
use Rattle.doll_commit.specs.Refs.{Ref, is_ref, has, with_ref, with_refs, count_of, with_next, closure}

-- the test of two records

pub is_ref_equiv : IsEquivalence is_ref
is_ref_equiv = and_equiv (on_equiv (λ (r : Ref). r.0) nat_eq_equiv) (on_equiv (λ (r : Ref). r.1) nat_eq_equiv)

pub is_ref-true : (a b : Ref) → is_ref a b ≡ true → a ≡ b
is_ref-true a b t =
    let both = and_parts (eqb a.0 b.0) (eqb a.1 b.1) t in
    λ i. (eqb-true a.0 b.0 both.0 i, eqb-true a.1 b.1 both.1 i)

pub is_ref_itself : (a : Ref) → is_ref a a ≡ true
is_ref_itself a = is_ref_equiv.refl a

-- the records of a list

pub has-append : (xs ys : List Ref) (r : Ref) → has (xs ++ ys) r ≡ (has xs r || has ys r)
has-append xs ys r = list_any-append (is_ref r) xs ys

pub has_left : (xs ys : List Ref) (r : Ref) → has xs r ≡ true → has (xs ++ ys) r ≡ true
has_left xs ys r h = has-append xs ys r ∙ or_left (has xs r) (has ys r) h

pub has_right : (xs ys : List Ref) (r : Ref) → has ys r ≡ true → has (xs ++ ys) r ≡ true
has_right xs ys r h = has-append xs ys r ∙ or_right (has xs r) (has ys r) h

pub has_cases : (xs ys : List Ref) (r : Ref) → has (xs ++ ys) r ≡ true → (has xs r ≡ true) ⊎ (has ys r ≡ true)
has_cases xs ys r h = or_cases (has xs r) (has ys r) (sym (has-append xs ys r) ∙ h)

pub has_one : (x r : Ref) → has (x ∷ []) r ≡ true → x ≡ r
has_one x r h = by_cases (or_cases (is_ref r x) false h)
  where
    by_cases : (is_ref r x ≡ true) ⊎ (false ≡ true) → x ≡ r
    by_cases (inl t) = sym (is_ref-true r x t)
    by_cases (inr f) = absurd (true≢false (sym f))

pub has_at : (xs : List Ref) (k : ℕ) (d : Ref) → k < length xs → has xs (get_or xs k d) ≡ true
has_at xs k d l = list_any_at (is_ref (get_or xs k d)) xs k d l (is_ref_itself (get_or xs k d))

-- each of these records is among those
abbrev pub Within : List Ref → List Ref → Type 0
Within xs ys = (r : Ref) → has xs r ≡ true → has ys r ≡ true

-- what steps from records lead to

pub has_next : (next : Ref → List Ref) (xs : List Ref) (x r : Ref) → has xs x ≡ true → has (next x) r ≡ true → has (flat_map next xs) r ≡ true
has_next next [] x r h n = absurd (true≢false (sym h))
has_next next (y ∷ xs) x r h n = by_cases (λ t. has_next next xs x r t n) (or_cases (is_ref x y) (has xs x) h)
  where
    by_cases : (has xs x ≡ true → has (flat_map next xs) r ≡ true) → (is_ref x y ≡ true) ⊎ (has xs x ≡ true) → has (next y ++ flat_map next xs) r ≡ true
    by_cases behind (inl t) = has_left (next y) (flat_map next xs) r (ap (λ z. has (next z) r) (sym (is_ref-true x y t)) ∙ n)
    by_cases behind (inr t) = has_right (next y) (flat_map next xs) r (behind t)

-- one of the records from which a step leads to this one
pub from_next : (next : Ref → List Ref) (xs : List Ref) (r : Ref) → has (flat_map next xs) r ≡ true → (x : Ref) × (has xs x ≡ true) × (has (next x) r ≡ true)
from_next next [] r h = absurd (true≢false (sym h))
from_next next (y ∷ xs) r h = by_cases (λ t. from_next next xs r t) (has_cases (next y) (flat_map next xs) r h)
  where
    by_cases : (has (flat_map next xs) r ≡ true → (x : Ref) × (has xs x ≡ true) × (has (next x) r ≡ true)) → (has (next y) r ≡ true) ⊎ (has (flat_map next xs) r ≡ true) → (x : Ref) × (has (y ∷ xs) x ≡ true) × (has (next x) r ≡ true)
    by_cases behind (inl t) = (y, or_left (is_ref y y) (has xs y) (is_ref_itself y), t)
    by_cases behind (inr t) = let found = behind t in (found.0, or_right (is_ref found.0 y) (has xs found.0) found.1, found.2)

-- records that are added, each once

pub with_has : (xs : List Ref) (x r : Ref) → has (with_ref xs x) r ≡ has (xs ++ x ∷ []) r
with_has xs x r = by_test (has xs x) refl (has r_in r) refl
  where
    r_in : List Ref
    r_in = x ∷ []

    same : has xs x ≡ true → has r_in r ≡ true → has xs r ≡ true
    same t u = ap (has xs) (sym (has_one x r u)) ∙ t

    known : (u : Bool) → has r_in r ≡ u → has xs x ≡ true → has xs r ≡ (has xs r || u)
    known true u t = let h = same t u in rw h refl
    known false u t = or_none (has xs r)
      where
        or_none : (b : Bool) → b ≡ (b || false)
        or_none true = refl
        or_none false = refl

    by_test : (b : Bool) → has xs x ≡ b → (u : Bool) → has r_in r ≡ u → has (cond b xs (xs ++ x ∷ [])) r ≡ has (xs ++ x ∷ []) r
    by_test true t u e = known u e t ∙ (ap (λ v. has xs r || v) (sym e) ∙ sym (has-append xs (x ∷ []) r))
    by_test false t u e = refl

-- records added each once are the same records
pub with_all_has : (xs ys : List Ref) (r : Ref) → has (with_refs xs ys) r ≡ has (xs ++ ys) r
with_all_has xs [] r = ap (λ zs. has zs r) (sym (append-nil xs))
with_all_has xs (y ∷ ys) r =
    with_all_has (with_ref xs y) ys r
    ∙ (has-append (with_ref xs y) ys r ∙ (ap (λ b. b || has ys r) (with_has xs y r) ∙ (sym (has-append (xs ++ y ∷ []) ys r) ∙ ap (λ zs. has zs r) (append_assoc xs (y ∷ []) ys))))

pub next_cases : (next : Ref → List Ref) (xs : List Ref) (r : Ref) → has (with_next next xs) r ≡ true → (has xs r ≡ true) ⊎ (has (flat_map next xs) r ≡ true)
next_cases next xs r h = has_cases xs (flat_map next xs) r (sym (with_all_has xs (flat_map next xs) r) ∙ h)

pub next_left : (next : Ref → List Ref) (xs : List Ref) (r : Ref) → has xs r ≡ true → has (with_next next xs) r ≡ true
next_left next xs r h = with_all_has xs (flat_map next xs) r ∙ has_left xs (flat_map next xs) r h

pub next_right : (next : Ref → List Ref) (xs : List Ref) (r : Ref) → has (flat_map next xs) r ≡ true → has (with_next next xs) r ≡ true
next_right next xs r h = with_all_has xs (flat_map next xs) r ∙ has_right xs (flat_map next xs) r h

-- what holds of records and goes on by steps holds of all that steps lead to
pub iterate_all : (P : Ref → Type 0) (next : Ref → List Ref) → ((q r : Ref) → P q → has (next q) r ≡ true → P r) → (n : ℕ) (xs : List Ref) → ((r : Ref) → has xs r ≡ true → P r) → (r : Ref) → has (iterate (with_next next) n xs) r ≡ true → P r
iterate_all P next step zero xs first r h = first r h
iterate_all P next step (suc n) xs first r h = iterate_all P next step n (with_next next xs) (λ q k. more q (next_cases next xs q k)) r h
  where
    more : (q : Ref) → (has xs q ≡ true) ⊎ (has (flat_map next xs) q ≡ true) → P q
    more q (inl k) = first q k
    more q (inr k) = let from = from_next next xs q k in step from.0 q (first from.0 from.1) from.2

pub iterate_begins : (next : Ref → List Ref) (n : ℕ) (xs : List Ref) → Within xs (iterate (with_next next) n xs)
iterate_begins next zero xs r h = h
iterate_begins next (suc n) xs r h = iterate_begins next n (with_next next xs) r (next_left next xs r h)

-- the living records of extents, of which the first has a number
abbrev pub living_from : ℕ → List Extent → List Ref
living_from m [] = []
living_from m (e ∷ es) = map (λ id. (m, id)) (finite.keys e.rows) ++ living_from (m + 1) es

length_living : (m : ℕ) (es : List Extent) → length (living_from m es) ≡ count_of es
length_living m [] = refl
length_living m (e ∷ es) =
    length-append (map (λ id. (m, id)) (finite.keys e.rows)) (living_from (m + 1) es)
    ∙ (ap (λ n. n + length (living_from (m + 1) es)) (length-map (finite.keys e.rows) (λ id. (m, id))) ∙ ap (λ n. length (finite.keys e.rows) + n) (length_living (m + 1) es))

is_test : (a b : ℕ) → eq_by_cmp nat_cmp a b ≡ eqb a b
is_test a b = grind (arith, nat_tests)

itself : (a : ℕ) → eqb a a ≡ true
itself a = grind (arith, nat_tests)

has_key : (m id : ℕ) (ks : List ℕ) → list_any (eq_by_cmp nat_cmp id) ks ≡ has (map (λ k. (m, k)) ks) (m, id)
has_key m id [] = refl
has_key m id (k ∷ ks) = rw (has_key m id ks, is_test id k, itself m) refl

-- the rows of a model in a list of extents
abbrev rows_at : List Extent → ℕ → finite.FinMap nat_cmp Row
rows_at es i = option_map_or (λ (e : Extent). e.rows) (slice_get es i) finite.empty

lives_in : (es : List Extent) (m i n id : ℕ) → n ≡ m + i → is_some (finite.get (rows_at es i) id) ≡ true → has (living_from m es) (n, id) ≡ true
lives_in [] m i n id e h = let none = finite.get-empty {X = Row} nat_cmp id in absurd (cc (none, h))
lives_in (x ∷ es) m zero n id e h =
    let at : n ≡ m = omega arith in
    has_left (map (λ k. (m, k)) (finite.keys x.rows)) (living_from (m + 1) es) (n, id)
    (subst (λ a. has (map (λ k. (m, k)) (finite.keys x.rows)) (a, id) ≡ true) (sym at) (sym (has_key m id (finite.keys x.rows)) ∙ (sym (finite.contains_key-keys x.rows id) ∙ h)))
lives_in (x ∷ es) m (suc i) n id e h = has_right (map (λ k. (m, k)) (finite.keys x.rows)) (living_from (m + 1) es) (n, id) (lives_in es (m + 1) i n id (omega arith) h)

-- a living record is among all
pub lives_among : (table : TableMap) (r : Ref) → IsSome (row_of table r.0 r.1) → has (living_from 0 table.extents) r ≡ true
lives_among table r h = lives_in table.extents 0 r.0 r.0 r.1 (omega arith) h

-- how many records of a list are not among others
abbrev missing : List Ref → List Ref → ℕ
missing refs [] = 0
missing refs (r ∷ rs) = cond (has refs r) 0 1 + missing refs rs

missing_within : (refs all : List Ref) → missing refs all ≤ length all
missing_within refs [] = omega arith
missing_within refs (r ∷ rs) = by_test (has refs r) (missing_within refs rs)
  where
    by_test : (b : Bool) → missing refs rs ≤ length rs → cond b 0 1 + missing refs rs ≤ length (r ∷ rs)
    by_test true l = omega arith
    by_test false l = omega arith

-- more records miss fewer
fewer : (refs more all : List Ref) → ((r : Ref) → has refs r ≡ true → has more r ≡ true) → missing more all ≤ missing refs all
fewer refs more [] sub = omega arith
fewer refs more (x ∷ xs) sub = by_tests (has refs x) (has more x) refl refl (fewer refs more xs sub)
  where
    by_tests : (a b : Bool) → has refs x ≡ a → has more x ≡ b → missing more xs ≤ missing refs xs → cond b 0 1 + missing more xs ≤ cond a 0 1 + missing refs xs
    by_tests true true s t l = omega arith
    by_tests false true s t l = omega arith
    by_tests true false s t l = let yes = sub x s in absurd (cc)
    by_tests false false s t l = omega arith

-- where they miss as many, the others had what they have
had : (refs more all : List Ref) → ((r : Ref) → has refs r ≡ true → has more r ≡ true) → missing more all ≡ missing refs all → (r : Ref) → has all r ≡ true → has more r ≡ true → has refs r ≡ true
had refs more [] sub e r h k = absurd (cc h)
had refs more (x ∷ xs) sub e r h k = elim (or_cases (is_ref r x) (has xs r) h) [
  | inl is ↦ subst (λ y. has refs y ≡ true) (sym (is_ref-true r x is)) (by_head (has refs x) (has more x) refl refl (fewer refs more xs sub) e (subst (λ y. has more y ≡ true) (is_ref-true r x is) k))
  | inr later ↦ had refs more xs sub (rest (has refs x) (has more x) refl refl (fewer refs more xs sub) e) r later k
]
  where
    by_head : (a b : Bool) → has refs x ≡ a → has more x ≡ b → missing more xs ≤ missing refs xs → cond b 0 1 + missing more xs ≡ cond a 0 1 + missing refs xs → has more x ≡ true → has refs x ≡ true
    by_head true b s t l e there = s
    by_head false true s t l e there = absurd (omega arith)
    by_head false false s t l e there = absurd (cc)

    rest : (a b : Bool) → has refs x ≡ a → has more x ≡ b → missing more xs ≤ missing refs xs → cond b 0 1 + missing more xs ≡ cond a 0 1 + missing refs xs → missing more xs ≡ missing refs xs
    rest true true s t l e = omega arith
    rest true false s t l e = let yes = sub x s in absurd (cc)
    rest false true s t l e = absurd (omega arith)
    rest false false s t l e = omega arith

-- a step leads from these records to none but these
pub record IsClosed (next : Ref → List Ref) (refs : List Ref) : Type 0 where
  pub under : (r p : Ref) → has refs r ≡ true → has (next r) p ≡ true → has refs p ≡ true

-- these and those that a step leads to are no others, where these are closed
closed_more : (next : Ref → List Ref) (refs : List Ref) → IsClosed next refs → (r : Ref) → has (with_next next refs) r ≡ true → has refs r ≡ true
closed_more next refs c r h = elim (next_cases next refs r h) [ inl k ↦ k | inr k ↦ led (from_next next refs r k) ]
  where
    led : (q : Ref) × (has refs q ≡ true) × (has (next q) r ≡ true) → has refs r ≡ true
    led w = c.under w.0 r w.1 w.2

closed_next : (next : Ref → List Ref) (refs : List Ref) → IsClosed next refs → IsClosed next (with_next next refs)
closed_next next refs c = record { under = λ r p h k. next_left next refs p (c.under r p (closed_more next refs c r h) k) }

closed_stays : (next : Ref → List Ref) (n : ℕ) (refs : List Ref) → IsClosed next refs → IsClosed next (iterate (with_next next) n refs)
closed_stays next zero refs c = c
closed_stays next (suc n) refs c = closed_stays next n (with_next next refs) (closed_next next refs c)

-- the records between two steps live
abbrev pub LivesBetween : (Ref → List Ref) → TableMap → Type 0
LivesBetween next table = (q r p : Ref) → has (next q) r ≡ true → has (next r) p ≡ true → IsSome (row_of table r.0 r.1)

-- a step that adds no living record led to all
closed_from : (next : Ref → List Ref) (all : List Ref) → ((q r p : Ref) → has (next q) r ≡ true → has (next r) p ≡ true → has all r ≡ true) → (refs : List Ref) → missing (with_next next refs) all ≡ missing refs all → IsClosed next (with_next next refs)
closed_from next all between refs e = record { under = λ r p h k. next_right next refs p (has_next next refs r p (was r p k (next_cases next refs r h)) k) }
  where
    was : (r p : Ref) → has (next r) p ≡ true → (has refs r ≡ true) ⊎ (has (flat_map next refs) r ≡ true) → has refs r ≡ true
    was r p k (inl h) = h
    was r p k (inr h) =
        let from = from_next next refs r h in
        had refs (with_next next refs) all (next_left next refs) e r (between from.0 r p from.2 k) (next_right next refs r h)

-- steps more often than records are missing lead to all
closed_by : (next : Ref → List Ref) (all : List Ref) → ((q r p : Ref) → has (next q) r ≡ true → has (next r) p ≡ true → has all r ≡ true) → (n : ℕ) (refs : List Ref) → missing refs all < n → IsClosed next (iterate (with_next next) n refs)
closed_by next all between zero refs l = absurd (omega arith)
closed_by next all between (suc n) refs l = elim (cases_lt (missing (with_next next refs) all) (missing refs all)) [
  | inl less ↦ closed_by next all between n (with_next next refs) (omega arith)
  | inr more ↦ (let f = fewer refs (with_next next refs) all (next_left next refs) in
      closed_stays next n (with_next next refs) (closed_from next all between refs (omega arith)))
]

-- steps between living records lead to all that they can lead to
pub closure_closed : (next : Ref → List Ref) (table : TableMap) → LivesBetween next table → (refs : List Ref) → IsClosed next (closure next table refs)
closure_closed next table between refs =
    closed_by next (living_from 0 table.extents) (λ q r p h k. lives_among table r (between q r p h k)) (count_of table.extents + 1) refs
    (let few = missing_within refs (living_from 0 table.extents) in omega (arith, few, length_living 0 table.extents))

-- a closure has the records that it begins with
pub closure_begins : (next : Ref → List Ref) (table : TableMap) (xs : List Ref) → Within xs (closure next table xs)
closure_begins next table xs = iterate_begins next (count_of table.extents + 1) xs

-- what holds of the records that it begins with and of those that steps lead to holds of all
pub closure_all : (P : Ref → Type 0) (next : Ref → List Ref) (table : TableMap) (xs : List Ref) → ((r : Ref) → has xs r ≡ true → P r) → ((x r : Ref) → has (next x) r ≡ true → P r) → (r : Ref) → has (closure next table xs) r ≡ true → P r
closure_all P next table xs first later = iterate_all P next (λ q r p h. later q r h) (count_of table.extents + 1) xs first
