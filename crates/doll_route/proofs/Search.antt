-- What a router of such patterns finds: the row that the path is, else the row with a parameter for the path's last segment.
use Rattle.std.proofs.Common.{◌≡◌, inl, inr, ℕ, zero, suc, ◌-◌, List, [], ◌∷◌, ◌++◌, length, Option, Some, None, Bool, true, false, cond, refl, sym, ap, ◌∙◌, arith, ◌==◌, ◌&&◌, not}
use Rattle.std.specs.Prelude.{⊤}
use Rattle.std.specs.Char.{is_ascii_digit}
use Rattle.std.proofs.lemmas.Bool.Decides.{nat_tests}
use Rattle.matchit.specs.Rows.{RowsOf, param_token, catch_all_token}
use Rattle.matchit.specs.Seek.{own, step, or_else, seek, param_step, has_slash, segment, longest_from, slash, same_text}
use Rattle.matchit.specs.Order.{lookup}
use Rattle.doll_route.specs.Rows.{IsPattern, HavePatterns}

-- the pattern of the path with a parameter for its last segment; where that is empty, one that no row has
abbrev pub wild : Bool → List ℕ → List ℕ
wild starts [] = catch_all_token ∷ []
wild starts (b ∷ path) = cond (starts && not (has_slash (b ∷ path))) (param_token ∷ []) (b ∷ wild (b == slash) path)

module _ {K : Type 0} where
  lookup-step : (b : ℕ) (p : List ℕ) (rows : RowsOf K) → lookup p (step b rows) ≡ lookup (b ∷ p) rows
  lookup-step b p [] = refl
  lookup-step b p (([], k) ∷ rows) = lookup-step b p rows
  lookup-step b p ((x ∷ t, k) ∷ rows) =
      elim (x == b) as (λ v. lookup p (cond v ((t, k) ∷ step b rows) (step b rows)) ≡ cond (v && same_text t p) (Some k) (lookup (b ∷ p) rows)) [
        | true ↦ ap (λ r. cond (same_text t p) (Some k) r) (lookup-step b p rows)
        | false ↦ lookup-step b p rows
      ]

  own-lookup : (rows : RowsOf K) → own rows ≡ lookup [] rows
  own-lookup [] = refl
  own-lookup (([], k) ∷ rows) = refl
  own-lookup ((x ∷ t, k) ∷ rows) = own-lookup rows

  or_else-none : (a : Option K) → or_else a None ≡ a
  or_else-none None = refl
  or_else-none (Some k) = refl

  step-patterns : (starts : Bool) (b : ℕ) (rows : RowsOf K) → HavePatterns starts rows → HavePatterns (b == 47) (step b rows)
  step-patterns starts b [] have = tt
  step-patterns starts b (([], k) ∷ rows) have = step-patterns starts b rows have.1
  step-patterns starts b ((x ∷ t, k) ∷ rows) have = by (x == b) refl have.0 (step-patterns starts b rows have.1)
    where
      by : (v : Bool) → (x == b) ≡ v → IsPattern starts (x ∷ t) → HavePatterns (b == 47) (step b rows) → HavePatterns (b == 47) (cond v ((t, k) ∷ step b rows) (step b rows))
      by true e (inl p) more = (rw p.2 tt, more)
      by true e (inr p) more =
          let same : x ≡ b = grind (arith, nat_tests) in
          (rw same at p.2, more)
      by false e p more = more

  no-catch : (starts : Bool) (rows : RowsOf K) → HavePatterns starts rows → step catch_all_token rows ≡ []
  no-catch starts [] have = refl
  no-catch starts (([], k) ∷ rows) have = no-catch starts rows have.1
  no-catch starts ((x ∷ t, k) ∷ rows) have =
      let other : (x == 257) ≡ false = by have.0 in
      rw other (no-catch starts rows have.1)
    where
      by : IsPattern starts (x ∷ t) → (x == 257) ≡ false
      by (inl p) = grind (arith, nat_tests, p.1)
      by (inr p) = grind (arith, nat_tests, p.0)

  no-param : (rows : RowsOf K) → HavePatterns false rows → step param_token rows ≡ []
  no-param [] have = refl
  no-param (([], k) ∷ rows) have = no-param rows have.1
  no-param ((x ∷ t, k) ∷ rows) have =
      let other : (x == 256) ≡ false = by have.0 in
      rw other (no-param rows have.1)
    where
      by : IsPattern false (x ∷ t) → (x == 256) ≡ false
      by (inl p) = absurd (cc p.0)
      by (inr p) = grind (arith, nat_tests, p.0)

  no-digit : (d : ℕ) (rows : RowsOf K) → is_ascii_digit d ≡ true → HavePatterns true rows → step d rows ≡ []
  no-digit d [] digit have = refl
  no-digit d (([], k) ∷ rows) digit have = no-digit d rows digit have.1
  no-digit d ((x ∷ t, k) ∷ rows) digit have = by (x == d) refl have.0 (no-digit d rows digit have.1)
    where
      by : (v : Bool) → (x == d) ≡ v → IsPattern true (x ∷ t) → step d rows ≡ [] → cond v ((t, k) ∷ step d rows) (step d rows) ≡ []
      by true e (inl p) more = absurd (grind (arith, nat_tests, p.1))
      by true e (inr p) more =
          let same : x ≡ d = grind (arith, nat_tests) in
          let digit_too : is_ascii_digit x ≡ true = rw same digit in
          absurd (cc (p.1 refl, digit_too))
      by false e p more = more

  -- rows that end here
  abbrev AllEnd : RowsOf K → Type 0
  AllEnd [] = ⊤
  AllEnd ((t, k) ∷ rows) = (t ≡ []) × AllEnd rows

  ends-param : (starts : Bool) (rows : RowsOf K) → HavePatterns starts rows → AllEnd (step param_token rows)
  ends-param starts [] have = tt
  ends-param starts (([], k) ∷ rows) have = ends-param starts rows have.1
  ends-param starts ((x ∷ t, k) ∷ rows) have = by (x == 256) refl have.0 (ends-param starts rows have.1)
    where
      by : (v : Bool) → (x == 256) ≡ v → IsPattern starts (x ∷ t) → AllEnd (step 256 rows) → AllEnd (cond v ((t, k) ∷ step 256 rows) (step 256 rows))
      by true e (inl p) more = (p.2, more)
      by true e (inr p) more = absurd (grind (arith, nat_tests, p.0))
      by false e p more = more

  no-suffix : (seg : List ℕ) (rows : RowsOf K) → AllEnd rows → longest_from seg [] rows ≡ []
  no-suffix seg [] end = refl
  no-suffix seg (([], k) ∷ rows) end = no-suffix seg rows end.1
  no-suffix seg ((x ∷ t, k) ∷ rows) end = absurd (cc end.0)

  -- a parameter at the end takes all the rest, where that has no slash
  param-takes : (path : List ℕ) (rows : RowsOf K) → AllEnd rows → param_step rows path ≡ cond (has_slash path) (0, []) (length path, rows)
  unfolding param_step
  param-takes path rows end = rw (no-suffix (segment path) rows end) refl

  seek-none : (n : ℕ) (path : List ℕ) → seek {K = K} n [] path ≡ None
  unfolding seek
  seek-none n [] = refl
  seek-none (suc n) (b ∷ path) = seek-none n path
  seek-none zero (b ∷ path) = rw (seek-none 0 path, param-takes (b ∷ path) [] tt) (by (has_slash (b ∷ path)) (λ n. seek-none n path))
    where
      by : (v : Bool) → ((n : ℕ) → seek {K = K} n [] path ≡ None) → or_else (seek {K = K} ((cond {A = ℕ × RowsOf K} v (0, []) (length (b ∷ path), [])).0 - 1) (cond {A = ℕ × RowsOf K} v (0, []) (length (b ∷ path), [])).1 path) None ≡ None
      by true none = rw (none (0 - 1)) refl
      by false none = rw (none (length (b ∷ path) - 1)) refl

  seek-all : (path : List ℕ) (rows : RowsOf K) → seek (length path) rows path ≡ own rows
  unfolding seek
  seek-all [] rows = refl
  seek-all (b ∷ path) rows = seek-all path rows

  -- what a parameter finds
  param-finds : (starts : Bool) (b : ℕ) (path : List ℕ) (rows : RowsOf K) → HavePatterns starts rows
      → seek ((param_step (step param_token rows) (b ∷ path)).0 - 1) (param_step (step param_token rows) (b ∷ path)).1 path ≡ cond (has_slash (b ∷ path)) None (lookup (param_token ∷ []) rows)
  param-finds starts b path rows have = rw (param-takes (b ∷ path) (step param_token rows) (ends-param starts rows have)) (by (has_slash (b ∷ path)))
    where
      one_less : length (b ∷ path) - 1 ≡ length path
      one_less = omega arith

      by : (v : Bool) → seek ((cond {A = ℕ × RowsOf K} v (0, []) (length (b ∷ path), step param_token rows)).0 - 1) (cond {A = ℕ × RowsOf K} v (0, []) (length (b ∷ path), step param_token rows)).1 path
          ≡ cond v None (lookup (param_token ∷ []) rows)
      by true = seek-none (0 - 1) path
      by false = rw one_less (seek-all path (step param_token rows) ∙ own-lookup (step param_token rows) ∙ lookup-step param_token [] rows)

  no-such : (starts : Bool) (t : List ℕ) (rows : RowsOf K) → HavePatterns starts rows → lookup (catch_all_token ∷ t) rows ≡ None
  no-such starts t rows have = sym (lookup-step catch_all_token t rows) ∙ ap (λ r. lookup t r) (no-catch starts rows have)

  -- within a segment no parameter may take the rest of it
  wild-within : (path : List ℕ) (starts : Bool) (rows : RowsOf K) → has_slash path ≡ false → HavePatterns starts rows → lookup (wild false path) rows ≡ None
  wild-within [] starts rows plain have = no-such starts [] rows have
  wild-within (b ∷ path) starts rows plain have =
      let no : (b == 47) ≡ false = by (b == 47) refl plain in
      let rest : has_slash path ≡ false = rw no at plain in
      rw no (sym (lookup-step b (wild false path) rows) ∙ wild-within path (b == 47) (step b rows) rest (step-patterns starts b rows have))
    where
      by : (v : Bool) → (b == 47) ≡ v → cond v true (has_slash path) ≡ false → (b == 47) ≡ false
      by true e p = absurd (cc p)
      by false e p = e

  -- the row that the path is, else the one with a parameter
  pub first-finds : (path : List ℕ) (starts : Bool) (rows : RowsOf K) → HavePatterns starts rows → seek 0 rows path ≡ or_else (lookup path rows) (lookup (wild starts path) rows)
  unfolding seek
  first-finds [] starts rows have = own-lookup rows ∙ sym (or_else-none (lookup [] rows)) ∙ ap (λ r. or_else (lookup [] rows) r) (sym (no-such starts [] rows have))
  first-finds (b ∷ path) starts rows have =
      let below = step-patterns starts b rows have in
      let inner = first-finds path (b == 47) (step b rows) below in
      rw (inner, param-finds starts b path rows have, no-catch starts rows have, lookup-step b path rows, lookup-step b (wild (b == 47) path) rows)
      (by starts (has_slash (b ∷ path)) refl refl)
    where
      X : Option K
      X = lookup (b ∷ path) rows

      Y : Option K
      Y = lookup (b ∷ wild (b == 47) path) rows

      P : Option K
      P = lookup (param_token ∷ []) rows

      joined : (x y : Option K) → or_else (or_else x y) (or_else None None) ≡ or_else x y
      joined x y = or_else-none (or_else x y)

      by : (s v : Bool) → starts ≡ s → has_slash (b ∷ path) ≡ v → or_else (or_else X Y) (or_else (cond v None P) None) ≡ or_else X (lookup (cond (s && not v) (param_token ∷ []) (b ∷ wild (b == 47) path)) rows)
      by s true is slashed = elim s as (λ s. or_else (or_else X Y) (or_else None None) ≡ or_else X (lookup (cond (s && false) (param_token ∷ []) (b ∷ wild (b == 47) path)) rows)) [ true ↦ joined X Y | false ↦ joined X Y ]
      by false false is slashed =
          let none : P ≡ None = sym (lookup-step param_token [] rows) ∙ ap (λ r. lookup [] r) (no-param rows (rw is at have)) in
          rw none (joined X Y)
      by true false is slashed =
          let none : Y ≡ None = wild-within (b ∷ path) starts rows slashed have in
          rw (none, or_else-none X, or_else-none P) refl

-- where a segment starts behind these bytes
abbrev pub starts_behind : Bool → List ℕ → Bool
starts_behind starts [] = starts
starts_behind starts (b ∷ front) = starts_behind (b == slash) front

-- a slash starts a segment
pub starts_behind-slash : (starts : Bool) (front : List ℕ) → starts_behind starts (front ++ slash ∷ []) ≡ true
starts_behind-slash starts [] = refl
starts_behind-slash starts (b ∷ front) = starts_behind-slash (b == slash) front

-- and only a slash does
slash-before : (front more : List ℕ) → starts_behind false front ≡ true → has_slash (front ++ more) ≡ true
slash-before [] more start = absurd (cc start)
slash-before (b ∷ front) more start = by (b == 47) refl (slash-before front more)
  where
    by : (v : Bool) → (b == 47) ≡ v → (starts_behind false front ≡ true → has_slash (front ++ more) ≡ true) → cond v true (has_slash (front ++ more)) ≡ true
    by true e ih = refl
    by false e ih = ih (rw e at start)

-- the pattern of a path whose last segment is known
pub wild-front : (starts : Bool) (front : List ℕ) (b : ℕ) (last : List ℕ) → starts_behind starts front ≡ true → has_slash (b ∷ last) ≡ false → wild starts (front ++ b ∷ last) ≡ front ++ param_token ∷ []
wild-front starts [] b last start plain = rw (start, plain) refl
wild-front starts (x ∷ front) b last start plain =
    let slashed : has_slash (x ∷ (front ++ b ∷ last)) ≡ true = by (x == 47) refl in
    rw (slashed, never starts) (ap (λ r. x ∷ r) (wild-front (x == 47) front b last start plain))
  where
    by : (v : Bool) → (x == 47) ≡ v → cond v true (has_slash (front ++ b ∷ last)) ≡ true
    by true e = refl
    by false e = slash-before front (b ∷ last) (rw e at start)

    never : (s : Bool) → (s && false) ≡ false
    never true = refl
    never false = refl

module _ {K : Type 0} where
  -- no row is a path whose last segment begins with a digit
  pub no-number : (starts : Bool) (front : List ℕ) (d : ℕ) (last : List ℕ) (rows : RowsOf K) → starts_behind starts front ≡ true → is_ascii_digit d ≡ true → HavePatterns starts rows
      → lookup (front ++ d ∷ last) rows ≡ None
  no-number starts [] d last rows start digit have =
      sym (lookup-step d last rows) ∙ ap (λ r. lookup last r) (no-digit d rows digit (rw start at have))
  no-number starts (b ∷ front) d last rows start digit have =
      sym (lookup-step b (front ++ d ∷ last) rows) ∙ no-number (b == 47) front d last (step b rows) start digit (step-patterns starts b rows have)
