-- The routes of a site, their rows, and the row that a path finds.
use Rattle.std.proofs.Common.{◌≡◌, ◌≢◌, ◌⊎◌, inl, inr, ℕ, zero, suc, ◌<◌, ◌≤◌, List, [], ◌∷◌, ◌++◌, length, take, drop, Option, Some, None, Bool, true, false, cond, refl, sym, ap, ◌∙◌, arith, ◌&&◌, ◌||◌, not, get_or, length-append}
use Rattle.std.specs.Prelude.{nat_le, nat_lt, nat_eq, bytes_eq, slice_get, slice_index, is_some, option_map, option_and_then, position}
use Rattle.std.specs.List.{list_all, position_or_len, starts_with}
use Rattle.std.specs.Char.{is_ascii_digit}
use Rattle.std.proofs.lemmas.Bool.Decides.{nat_tests}
use Rattle.std.proofs.lemmas.List.{take-append-drop}
use Rattle.std.proofs.lemmas.List.Quantifiers.{position-Some}
use Rattle.std.proofs.lemmas.List.Sums.{fails_before_first}
use Rattle.std.proofs.lemmas.Option.{slice_get_within, slice_get-get_or, get_or_from_slice_get}
use Rattle.std.proofs.lemmas.Slice.Eq.{bytes_eq-Decides}
use Rattle.matchit.specs.Order.{lookup, placed}
use Rattle.matchit.specs.Router.{RouteOf, nearest}
use Rattle.matchit.specs.Rows.{RowsOf, param_token}
use Rattle.matchit.specs.Seek.{first, has_slash, or_else}
use Rattle.matchit.proofs.ParamLemmas.{same_text-differ}
use Rattle.doll_route.specs.declared.route.Route.{Route}
use Rattle.doll_route.specs.declared.route.Subject.TheVariants as subject
use Rattle.doll_route.specs.Paths.{requested, before_id, digits_from, id_behind, id_of, names_id}
use Rattle.doll_route.specs.Routes.{AreRoutes, IsRoute, IsFoundIn, IsTheOnly, answers, found_as, found_at, has_path, found_number, route_of}
use Rattle.doll_route.specs.Rows.{AddsRow, HasRows, HavePatterns, row_number, pattern_of}
use Rattle.doll_route.proofs.Apart.{lookup-other, lookup-placed, none-near, placed-patterns}
use Rattle.doll_route.proofs.Patterns.{Shape, pattern, same_path, shape_of}
use Rattle.doll_route.proofs.Search.{first-finds, no-number, starts_behind, starts_behind-slash, wild, wild-front}

-- ---- a list with one more

pushed-cases : {A : Type 0} (xs : List A) (x : A) (n : ℕ) (y : A) → slice_get (xs ++ x ∷ []) n ≡ Some y → (slice_get xs n ≡ Some y) ⊎ ((n ≡ length xs) × (x ≡ y))
pushed-cases [] x zero y e = inr (refl, cc)
pushed-cases [] x (suc n) y e = absurd (cc e)
pushed-cases (z ∷ xs) x zero y e = inl e
pushed-cases (z ∷ xs) x (suc n) y e = by (pushed-cases xs x n y e)
  where
    by : (slice_get xs n ≡ Some y) ⊎ ((n ≡ length xs) × (x ≡ y)) → (slice_get xs n ≡ Some y) ⊎ ((suc n ≡ length (z ∷ xs)) × (x ≡ y))
    by (inl p) = inl p
    by (inr p) = inr (omega (arith, p.0), p.1)

pushed-old : {A : Type 0} (xs : List A) (x : A) (n : ℕ) (y : A) → slice_get xs n ≡ Some y → slice_get (xs ++ x ∷ []) n ≡ Some y
pushed-old [] x n y e = absurd (cc e)
pushed-old (z ∷ xs) x zero y e = e
pushed-old (z ∷ xs) x (suc n) y e = pushed-old xs x n y e

pushed-new : {A : Type 0} (xs : List A) (x : A) → slice_get (xs ++ x ∷ []) (length xs) ≡ Some x
pushed-new [] x = refl
pushed-new (z ∷ xs) x = pushed-new xs x

-- ---- routes with one more

neither : (a b : Bool) → (a || b) ≡ false → (a ≡ false) × (b ≡ false)
neither true b e = absurd (cc e)
neither false b e = (refl, e)

no_path : (routes : List Route) (path : List ℕ) (n : ℕ) (q : Route) → has_path routes path ≡ false → slice_get routes n ≡ Some q → path ≢ q.path
no_path [] path n q fresh at = absurd (cc at)
no_path (r ∷ routes) path zero q fresh at = λ same.
    let is : r ≡ q = cc in
    let no = (neither (bytes_eq path r.path) (has_path routes path) fresh).0 in
    let yes : bytes_eq path r.path ≡ true = (bytes_eq-Decides path r.path).1 (rw is same) in
    absurd (cc (no, yes))
no_path (r ∷ routes) path (suc n) q fresh at = no_path routes path n q (neither (bytes_eq path r.path) (has_path routes path) fresh).1 at

pub routes-pushed : (routes : List Route) (r : Route) → AreRoutes routes → IsRoute r → has_path routes r.path ≡ false → length routes < 256 → AreRoutes (routes ++ r ∷ [])
routes-pushed routes r are is fresh room = record {
  each = λ n q at. each n q (pushed-cases routes r n q at);
  paths = λ i j a b less at_i at_j. apart i j a b less (pushed-cases routes r i a at_i) (pushed-cases routes r j b at_j);
  few = omega (arith, length-append routes (r ∷ []));
}
  where
    each : (n : ℕ) (q : Route) → (slice_get routes n ≡ Some q) ⊎ ((n ≡ length routes) × (r ≡ q)) → IsRoute q
    each n q (inl p) = are.each n q p
    each n q (inr p) = rw (sym p.1) is

    apart : (i j : ℕ) (a b : Route) → i < j → (slice_get routes i ≡ Some a) ⊎ ((i ≡ length routes) × (r ≡ a)) → (slice_get routes j ≡ Some b) ⊎ ((j ≡ length routes) × (r ≡ b)) → a.path ≢ b.path
    apart i j a b less (inl p) (inl q) = are.paths i j a b less p q
    apart i j a b less (inl p) (inr q) = λ same. no_path routes r.path i a fresh p (ap (λ (x : Route). x.path) q.1 ∙ sym same)
    apart i j a b less (inr p) (inl q) = absurd (omega (arith, p.0, slice_get_within routes j b q))
    apart i j a b less (inr p) (inr q) = absurd (omega (arith, p.0, q.0))

pub rows-fresh : (routes : List Route) (rows : RowsOf (RouteOf ℕ)) (r : Route) → HasRows routes rows → AreRoutes routes → IsRoute r → has_path routes r.path ≡ false → lookup (pattern_of r.path) rows ≡ None
rows-fresh routes rows r has are is fresh =
    has.only (pattern_of r.path) (λ n q at same.
    no_path routes r.path n q fresh at (sym (same_path q.path r.path (shape_of q.path (are.each n q at).path) (shape_of r.path is.path) same)))

pub rows-apart : (routes : List Route) (rows : RowsOf (RouteOf ℕ)) (r : Route) → HasRows routes rows → AreRoutes routes → IsRoute r → has_path routes r.path ≡ false → nearest (pattern_of r.path) rows ≡ None
rows-apart routes rows r has are is fresh =
    none-near false (pattern_of r.path) rows (pattern r.path (shape_of r.path is.path)) has.patterns (rows-fresh routes rows r has are is fresh)

pub rows-pushed : (routes : List Route) (old new : RowsOf (RouteOf ℕ)) (r : Route) → HasRows routes old → AreRoutes routes → IsRoute r → has_path routes r.path ≡ false
    → AddsRow (pattern_of r.path) (length routes) old new → HasRows (routes ++ r ∷ []) new
rows-pushed routes old new r has are is fresh adds = record {
  patterns = rw adds.2 (placed-patterns false own adds.0 old (pattern r.path (shape_of r.path is.path)) has.patterns);
  each = λ n q at. rw adds.2 (each n q (pushed-cases routes r n q at));
  only = λ t none. rw adds.2 (lookup-other t own adds.0 old (same_text-differ own t (none (length routes) r (pushed-new routes r))) ∙ has.only t (λ n q at. none n q (pushed-old routes r n q at)));
}
  where
    own : List ℕ
    own = pattern_of r.path

    each : (n : ℕ) (q : Route) → (slice_get routes n ≡ Some q) ⊎ ((n ≡ length routes) × (r ≡ q)) → row_number (lookup (pattern_of q.path) (placed (own, adds.0) old)) ≡ Some n
    each n q (inl p) =
        let differ : own ≢ pattern_of q.path = λ same. no_path routes r.path n q fresh p (same_path r.path q.path (shape_of r.path is.path) (shape_of q.path (are.each n q p).path) same) in
        ap row_number (lookup-other (pattern_of q.path) own adds.0 old (same_text-differ own (pattern_of q.path) differ)) ∙ has.each n q p
    each n q (inr p) =
        let found : lookup own (placed (own, adds.0) old) ≡ Some adds.0 = lookup-placed own adds.0 old (rows-fresh routes old r has are is fresh) in
        let number : row_number (lookup own (placed (own, adds.0) old)) ≡ Some n = ap row_number found ∙ ap Some (adds.1 ∙ sym p.0) in
        rw (← p.1) number

-- ---- the row that a path finds

digits_plain : (digits : List ℕ) → list_all is_ascii_digit digits ≡ true → has_slash digits ≡ false
digits_plain [] all = refl
digits_plain (d ∷ digits) all = by (is_ascii_digit d) refl all (digits_plain digits)
  where
    by : (v : Bool) → is_ascii_digit d ≡ v → (v && list_all is_ascii_digit digits) ≡ true → (list_all is_ascii_digit digits ≡ true → has_slash digits ≡ false) → has_slash (d ∷ digits) ≡ false
    by true e more ih =
        let other : nat_eq d 47 ≡ false = grind (arith, nat_tests) in
        rw other (ih more)
    by false e more ih = absurd (cc more)

-- behind such a front stands a number
number-first : (rows : RowsOf (RouteOf ℕ)) (front rest : List ℕ) → HavePatterns false rows → starts_behind false front ≡ true → nat_lt 0 (length rest) ≡ true → list_all is_ascii_digit rest ≡ true
    → first rows (front ++ rest) ≡ lookup (front ++ param_token ∷ []) rows
number-first rows front [] have start some all = absurd (cc some)
number-first rows front (d ∷ rest) have start some all =
    let digit : is_ascii_digit d ≡ true = by (is_ascii_digit d) all in
    first-finds (front ++ d ∷ rest) false rows have
    ∙ rw (no-number false front d rest rows start digit have, wild-front false front d rest start (digits_plain (d ∷ rest) all)) refl
  where
    by : (v : Bool) → (v && list_all is_ascii_digit rest) ≡ true → v ≡ true
    by true e = refl
    by false e = absurd (cc e)

then_true : {A : Type 0} (b : Bool) (o : Option A) → is_some (cond b o None) ≡ true → (b ≡ true) × (is_some o ≡ true)
then_true true o e = (refl, e)
then_true false o e = absurd (cc e)

and_both : (a b : Bool) → (a && b) ≡ true → (a ≡ true) × (b ≡ true)
and_both true b e = (refl, e)
and_both false b e = absurd (cc e)

mapped : {A B : Type 0} (f : A → B) (o : Option A) → is_some (option_map f o) ≡ true → is_some o ≡ true
mapped f None e = absurd (cc e)
mapped f (Some x) e = refl

-- an id is made of digits
id-digits : (digits : List ℕ) → is_some (id_of digits) ≡ true → (nat_lt 0 (length digits) ≡ true) × (list_all is_ascii_digit digits ≡ true)
id-digits digits some =
    let fits = nat_le (digits_from 0 digits) 4294967295 in
    let plain = not (nat_eq (slice_index digits 0) 48) in
    let long = nat_lt 0 (length digits) in
    let all = list_all is_ascii_digit digits in
    let test = (then_true (fits && plain && long && all) (Some (digits_from 0 digits)) some).0 in
    let parts = and_both (fits && plain && long) all test in
    ((and_both (fits && plain) long parts.0).1, parts.1)

finds-first : (rows : RowsOf (RouteOf ℕ)) (path own : List ℕ) (n : ℕ) → HavePatterns false rows → Shape own → is_some (requested own path) ≡ true
    → row_number (lookup (pattern_of own) rows) ≡ Some n → row_number (first rows path) ≡ Some n
finds-first rows path own n have (inl p) asks row =
    let yes : Option (Option ℕ) = Some None in
    let test : is_some (cond (bytes_eq path own) yes None) ≡ true = rw p.0 at asks in
    let same : path ≡ own = (bytes_eq-Decides path own).0 (then_true (bytes_eq path own) yes test).0 in
    let here : row_number (lookup path rows) ≡ Some n = rw (p.0, sym same) at row in
    ap row_number (first-finds path false rows have) ∙ by (lookup path rows) (lookup (wild false path) rows) here
  where
    by : (x y : Option (RouteOf ℕ)) → row_number x ≡ Some n → row_number (or_else x y) ≡ Some n
    by None y e = absurd (cc e)
    by (Some r) y e = e
finds-first rows path own n have (inr p) asks row =
    let front = p.0 ++ 47 ∷ [] in
    let rest = drop (length front) path in
    let some : is_some (id_behind front path) ≡ true = mapped Some (id_behind front path) (rw p.1 at asks) in
    let parts = then_true (starts_with nat_eq path front) (id_of rest) some in
    let begins : front ≡ take (length front) path = (bytes_eq-Decides front (take (length front) path)).0 parts.0 in
    let whole : path ≡ front ++ rest = sym (take-append-drop (length front) path) ∙ ap (λ (x : List ℕ). x ++ rest) (sym begins) in
    let digits = id-digits rest parts.1 in
    let finds = number-first rows front rest have (starts_behind-slash false p.0) digits.0 digits.1 in
    ap (λ (x : List ℕ). row_number (first rows x)) whole ∙ ap row_number finds ∙ rw p.1 at row

-- a route that a path asks for is the one that the router finds
pub requested-first : (routes : List Route) (rows : RowsOf (RouteOf ℕ)) (path : List ℕ) (n : ℕ) (r : Route) → HasRows routes rows → AreRoutes routes → slice_get routes n ≡ Some r → answers path r ≡ true
    → row_number (first rows path) ≡ Some n
requested-first routes rows path n r has are at asks =
    finds-first rows path r.path n has.patterns (shape_of r.path (are.each n r at).path) asks (has.each n r at)

nowhere : Route
nowhere = record { path = []; template = []; subject = subject.Nothing; params = [] }

none-requested : (routes : List Route) (path : List ℕ) (n : ℕ) (r : Route) → position (answers path) routes ≡ None → slice_get routes n ≡ Some r → answers path r ≡ false
none-requested routes path n r none at =
    let within = slice_get_within routes n r at in
    let past : length routes ≤ position_or_len (answers path) routes = by (nat_lt (position_or_len (answers path) routes) (length routes)) refl none in
    let fails : answers path (get_or routes n nowhere) ≡ false = fails_before_first (answers path) routes n nowhere (omega arith) in
    rw (get_or_from_slice_get routes n r nowhere at) at fails
  where
    by : (v : Bool) → nat_lt (position_or_len (answers path) routes) (length routes) ≡ v → cond v (Some (position_or_len (answers path) routes)) None ≡ None → length routes ≤ position_or_len (answers path) routes
    by true e f = absurd (cc f)
    by false e f = grind (arith, nat_tests)

-- the only route that a path may ask for is the one that it asks for, if it asks for any
pub only-found : (routes : List Route) (path : List ℕ) (o : Option ℕ) → IsTheOnly routes path o → found_at routes path o ≡ route_of routes path
unfolding route_of
only-found routes path o only = by (position (answers path) routes) refl o refl
  where
    unrequested : (n : ℕ) (x : Option Route) → slice_get routes n ≡ x → position (answers path) routes ≡ None → option_and_then (λ (r : Route). found_as n (requested r.path path)) x ≡ None
    unrequested n None e none = refl
    unrequested n (Some r) e none = last (requested r.path path) (none-requested routes path n r none e)
      where
        last : (id : Option (Option ℕ)) → is_some id ≡ false → found_as n id ≡ None
        last None f = refl
        last (Some i) f = absurd (cc f)

    by : (place : Option ℕ) → position (answers path) routes ≡ place → (x : Option ℕ) → o ≡ x → found_at routes path x ≡ found_at routes path place
    by (Some i) e x is =
        let got = position-Some (answers path) routes i nowhere e in
        let here = only i (get_or routes i nowhere) (slice_get-get_or routes i nowhere got.0) got.1 in
        ap (found_at routes path) (sym is ∙ here)
    by None e None is = refl
    by None e (Some n) is = unrequested n (slice_get routes n) refl e

-- and there is no other
pub only-one : (routes : List Route) (path : List ℕ) (o : Option ℕ) → IsTheOnly routes path o → IsTheOnly routes path (found_number (route_of routes path))
only-one routes path o only = λ n r at asks. by n r at asks (requested r.path path) refl
  where
    by : (n : ℕ) (r : Route) → slice_get routes n ≡ Some r → answers path r ≡ true → (id : Option (Option ℕ)) → requested r.path path ≡ id → found_number (route_of routes path) ≡ Some n
    by n r at asks None e = let no : false ≡ true = rw e at asks in absurd (cc no)
    by n r at asks (Some id) e =
        let found : found_at routes path o ≡ Some (record { route = n; id = id }) = rw (only n r at asks, at, e) refl in
        ap found_number (sym (only-found routes path o only) ∙ found)

-- an id is named exactly where the route's path has one
id-stands : (own path : List ℕ) (id : Option ℕ) → requested own path ≡ Some id → is_some id ≡ names_id own
id-stands own path id asks = by (before_id own) refl
  where
    by : (front : Option (List ℕ)) → before_id own ≡ front → is_some id ≡ is_some front
    by (Some front) e =
        let is : option_map Some (id_behind front path) ≡ Some id = rw e at asks in
        some (id_behind front path) is
      where
        some : (o : Option ℕ) → option_map Some o ≡ Some id → is_some id ≡ true
        some None f = absurd (cc f)
        some (Some n) f = let is : Some n ≡ id = cc in rw (sym is) refl
    by None e =
        let is : cond (bytes_eq path own) (Some None) None ≡ Some id = rw e at asks in
        none (bytes_eq path own) is
      where
        none : (v : Bool) → cond v (Some None) None ≡ Some id → is_some id ≡ false
        none true f = let is : None ≡ id = cc in rw (sym is) refl
        none false f = absurd (cc f)

pub found-in : (routes : List Route) (path : List ℕ) (n : ℕ) (own : Route) (id : Option ℕ) → AreRoutes routes → slice_get routes n ≡ Some own → requested own.path path ≡ Some id → IsFoundIn routes (record { route = n; id = id })
found-in routes path n own id are at asks = (own, at, id-stands own.path path id asks ∙ (are.each n own at).id)
