-- What stays of a table, and what comes, where a row is put or a next id is set.
use Rattle.std.proofs.Common.{◌≡◌, ℕ, zero, suc, ◌<◌, ◌≤◌, Bool, true, false, cond, ◌&&◌, List, [], ◌∷◌, length, set, Option, Some, None, IsSome, is_some, eqb, refl, sym, ◌∙◌, ap, subst, arith}
use Rattle.std.specs.Prelude.{slice_get}
use Rattle.std.specs.Option.{option_map, option_map_or}
use Rattle.std.specs.Ordering.{nat_cmp, eq_by_cmp}
use Rattle.std.specs.Cmp.{nat_cmp_total}
use Rattle.std.specs.FinMap as finite
use Rattle.std.proofs.lemmas.List.{length-set}
use Rattle.std.proofs.lemmas.Option.{slice_get_within}
use Rattle.std.proofs.lemmas.Bool.{ne_eqb}
use Rattle.std.proofs.lemmas.Bool.Decides.{nat_tests}
use Rattle.doll_schema.specs.declared.value.Row.{Row}
use Rattle.doll_schema.specs.declared.model.Model.{Model}
use Rattle.doll_schema.specs.declared.model.Schema.{Schema}
use Rattle.doll_table.specs.Tables.{Extent, TableMap, with_extent, row_of, next_of, put_row, without_row, put_next}
use Rattle.doll_table.specs.Fits.{Fits, RowFits}

set_at : {X : Type 0} (xs : List X) (i j : ℕ) (y : X) → i < length xs → slice_get (set xs i y) j ≡ cond (eqb j i) (Some y) (slice_get xs j)
set_at [] i j y l = absurd (omega arith)
set_at (x ∷ xs) zero zero y l = refl
set_at (x ∷ xs) zero (suc j) y l = rw (ne_eqb (suc j) zero (omega arith)) refl
set_at (x ∷ xs) (suc i) zero y l = rw (ne_eqb zero (suc i) (omega arith)) refl
set_at (x ∷ xs) (suc i) (suc j) y l = set_at xs i j y (omega arith) ∙ ap (λ b. cond b (Some y) (slice_get xs j)) (same j i)
  where
    same : (j i : ℕ) → eqb j i ≡ eqb (suc j) (suc i)
    same j i = grind (arith, nat_tests)

-- the extent of a model, and those of the others, once one is changed
extent_at : (table : TableMap) (model m : ℕ) (change : Extent → Extent) → slice_get (with_extent table model change).extents m ≡ cond (eqb m model) (option_map change (slice_get table.extents m)) (slice_get table.extents m)
extent_at table model m change = by_extent (slice_get table.extents model) refl
  where
    equal : eqb m model ≡ true → m ≡ model
    equal t = grind (arith, nat_tests)

    none : (b : Bool) → eqb m model ≡ b → slice_get table.extents model ≡ None → slice_get table.extents m ≡ cond b (option_map change (slice_get table.extents m)) (slice_get table.extents m)
    none true t e = let at : slice_get table.extents m ≡ None = ap (slice_get table.extents) (equal t) ∙ e in rw at refl
    none false t e = refl

    some : (b : Bool) (x : Extent) → eqb m model ≡ b → slice_get table.extents model ≡ Some x → cond b (Some (change x)) (slice_get table.extents m) ≡ cond b (option_map change (slice_get table.extents m)) (slice_get table.extents m)
    some true x t e = let at : slice_get table.extents m ≡ Some x = ap (slice_get table.extents) (equal t) ∙ e in rw at refl
    some false x t e = refl

    by_extent : (o : Option Extent) → slice_get table.extents model ≡ o → slice_get (option_map_or (λ (x : Extent). set table.extents model (change x)) o table.extents) m ≡ cond (eqb m model) (option_map change (slice_get table.extents m)) (slice_get table.extents m)
    by_extent None e = none (eqb m model) refl e
    by_extent (Some x) e = set_at table.extents model m (change x) (slice_get_within table.extents model x e) ∙ some (eqb m model) x refl e

pub length_stays : (table : TableMap) (model : ℕ) (change : Extent → Extent) → length (with_extent table model change).extents ≡ length table.extents
length_stays table model change = by_extent (slice_get table.extents model)
  where
    by_extent : (o : Option Extent) → length (option_map_or (λ (x : Extent). set table.extents model (change x)) o table.extents) ≡ length table.extents
    by_extent None = refl
    by_extent (Some x) = length-set table.extents model (change x)

is_test : (a b : ℕ) → eq_by_cmp nat_cmp a b ≡ eqb a b
is_test a b = grind (arith, nat_tests)

not_none : {X : Type 0} (xs : List X) (i : ℕ) → i < length xs → slice_get xs i ≡ None → ⊥
not_none [] i l e = absurd (omega arith)
not_none (x ∷ xs) zero l e = cc
not_none (x ∷ xs) (suc i) l e = not_none xs i (omega arith) e

some_same : {X : Type 0} {x y : X} → Some x ≡ Some y → x ≡ y
some_same e = cc

equal_from : (a b : ℕ) → eqb a b ≡ true → a ≡ b
equal_from a b t = grind (arith, nat_tests)

-- the rows after a row is put
pub row_of_put : (table : TableMap) (model id : ℕ) (row : Row) → model < length table.extents → (m i : ℕ) → row_of (put_row table model id row) m i ≡ cond (eqb m model && eqb i id) (Some row) (row_of table m i)
row_of_put table model id row l m i =
    ap (λ o. finite.get (option_map_or (λ (x : Extent). x.rows) o finite.empty) i) (extent_at table model m (λ (x : Extent). record x { rows = finite.insert x.rows id row }))
    ∙ by_test (eqb m model) (slice_get table.extents m) refl refl
  where
    by_test : (b : Bool) (o : Option Extent) → eqb m model ≡ b → slice_get table.extents m ≡ o → finite.get (option_map_or (λ (x : Extent). x.rows) (cond b (option_map (λ (x : Extent). record x { rows = finite.insert x.rows id row }) o) o) finite.empty) i ≡ cond (b && eqb i id) (Some row) (finite.get (option_map_or (λ (x : Extent). x.rows) o finite.empty) i)
    by_test false o t e = refl
    by_test true None t e = absurd (not_none table.extents m (omega (arith, equal_from m model t)) e)
    by_test true (Some x) t e = finite.get-insert nat_cmp_total x.rows id row i ∙ ap (λ b. cond b (Some row) (finite.get x.rows i)) (is_test i id)

-- the next ids stay
pub next_of_put : (table : TableMap) (model id : ℕ) (row : Row) (m : ℕ) → next_of (put_row table model id row) m ≡ next_of table m
next_of_put table model id row m =
    ap (λ o. option_map_or (λ (x : Extent). x.next) o 0) (extent_at table model m (λ (x : Extent). record x { rows = finite.insert x.rows id row })) ∙ by_test (eqb m model) (slice_get table.extents m)
  where
    by_test : (b : Bool) (o : Option Extent) → option_map_or (λ (x : Extent). x.next) (cond b (option_map (λ (x : Extent). record x { rows = finite.insert x.rows id row }) o) o) 0 ≡ option_map_or (λ (x : Extent). x.next) o 0
    by_test false o = refl
    by_test true None = refl
    by_test true (Some x) = refl

-- the rows after one is taken away
pub row_of_without : (table : TableMap) (model id m i : ℕ) → row_of (without_row table model id) m i ≡ cond (eqb m model && eqb i id) None (row_of table m i)
row_of_without table model id m i =
    ap (λ o. finite.get (option_map_or (λ (x : Extent). x.rows) o finite.empty) i) (extent_at table model m (λ (x : Extent). record x { rows = finite.remove x.rows id }))
    ∙ by_test (eqb m model) (slice_get table.extents m)
  where
    none : (t : Bool) → None ≡ cond t None (let o : Option Row = None in o)
    none true = refl
    none false = refl

    by_test : (b : Bool) (o : Option Extent) → finite.get (option_map_or (λ (x : Extent). x.rows) (cond b (option_map (λ (x : Extent). record x { rows = finite.remove x.rows id }) o) o) finite.empty) i ≡ cond (b && eqb i id) None (finite.get (option_map_or (λ (x : Extent). x.rows) o finite.empty) i)
    by_test false o = refl
    by_test true None = finite.get-empty nat_cmp i ∙ (none (eqb i id) ∙ ap (λ o. cond (eqb i id) None o) (sym (finite.get-empty nat_cmp i)))
    by_test true (Some x) = finite.get-remove nat_cmp_total x.rows id i ∙ ap (λ b. cond b None (finite.get x.rows i)) (is_test i id)

pub next_of_without : (table : TableMap) (model id m : ℕ) → next_of (without_row table model id) m ≡ next_of table m
next_of_without table model id m =
    ap (λ o. option_map_or (λ (x : Extent). x.next) o 0) (extent_at table model m (λ (x : Extent). record x { rows = finite.remove x.rows id })) ∙ by_test (eqb m model) (slice_get table.extents m)
  where
    by_test : (b : Bool) (o : Option Extent) → option_map_or (λ (x : Extent). x.next) (cond b (option_map (λ (x : Extent). record x { rows = finite.remove x.rows id }) o) o) 0 ≡ option_map_or (λ (x : Extent). x.next) o 0
    by_test false o = refl
    by_test true None = refl
    by_test true (Some x) = refl

-- the rows stay where a next id is set
pub row_of_next : (table : TableMap) (model n m i : ℕ) → row_of (put_next table model n) m i ≡ row_of table m i
row_of_next table model n m i =
    ap (λ o. finite.get (option_map_or (λ (x : Extent). x.rows) o finite.empty) i) (extent_at table model m (λ (x : Extent). record x { next = n })) ∙ by_test (eqb m model) (slice_get table.extents m)
  where
    by_test : (b : Bool) (o : Option Extent) → finite.get (option_map_or (λ (x : Extent). x.rows) (cond b (option_map (λ (x : Extent). record x { next = n }) o) o) finite.empty) i ≡ finite.get (option_map_or (λ (x : Extent). x.rows) o finite.empty) i
    by_test false o = refl
    by_test true None = refl
    by_test true (Some x) = refl

pub next_of_next : (table : TableMap) (model n : ℕ) → model < length table.extents → (m : ℕ) → next_of (put_next table model n) m ≡ cond (eqb m model) n (next_of table m)
next_of_next table model n l m =
    ap (λ o. option_map_or (λ (x : Extent). x.next) o 0) (extent_at table model m (λ (x : Extent). record x { next = n })) ∙ by_test (eqb m model) (slice_get table.extents m) refl refl
  where
    by_test : (b : Bool) (o : Option Extent) → eqb m model ≡ b → slice_get table.extents m ≡ o → option_map_or (λ (x : Extent). x.next) (cond b (option_map (λ (x : Extent). record x { next = n }) o) o) 0 ≡ cond b n (option_map_or (λ (x : Extent). x.next) o 0)
    by_test false o t e = refl
    by_test true None t e = absurd (not_none table.extents m (omega (arith, equal_from m model t)) e)
    by_test true (Some x) t e = refl

-- a row fits also where more rows live
pub fits_more : (table larger : TableMap) (m : Model) (row : Row) → ((b i : ℕ) → IsSome (row_of table b i) → IsSome (row_of larger b i)) → RowFits table m row → RowFits larger m row
fits_more table larger m row more fits = record {
  as_many_values = fits.as_many_values;
  kinds = fits.kinds;
  as_many_parents = fits.as_many_parents;
  parents = λ at b id here key. more b.model id (fits.parents at b id here key);
}

pub lives_on : (table : TableMap) (model id : ℕ) (row : Row) → model < length table.extents → (b i : ℕ) → IsSome (row_of table b i) → IsSome (row_of (put_row table model id row) b i)
lives_on table model id row l b i lives = ap is_some (row_of_put table model id row l b i) ∙ by_test (eqb b model && eqb i id)
  where
    by_test : (t : Bool) → IsSome (cond t (Some row) (row_of table b i))
    by_test true = refl
    by_test false = lives

-- a table still fits once a row that fits is put under an id that was given out
pub put_fits : (schema : Schema) (table : TableMap) (model id : ℕ) (m : Model) (row : Row) → Fits schema table → slice_get schema.models model ≡ Some m → 1 ≤ id → id < next_of table model → RowFits table m row → Fits schema (put_row table model id row)
put_fits schema table model id m row fits at low high suits = record {
  same = fits.same;
  extents = length_stays table model (λ (x : Extent). record x { rows = finite.insert x.rows id row }) ∙ fits.extents;
  nexts = λ n l. subst (λ x. 1 ≤ x) (sym (next_of_put table model id row n)) (fits.nexts n (subst (λ x. n < x) (length_stays table model (λ (x : Extent). record x { rows = finite.insert x.rows id row })) l));
  ids = λ n i lives. ids_at n i (eqb n model && eqb i id) refl (sym (ap is_some (row_of_put table model id row within n i)) ∙ lives);
  rows = λ n i o r here is. row_at n i o r (eqb n model && eqb i id) refl here (sym (row_of_put table model id row within n i) ∙ is);
}
  where
    within : model < length table.extents
    within = omega (arith, fits.extents, slice_get_within schema.models model m at)

    first : (a b : Bool) → (a && b) ≡ true → a ≡ true
    first true b t = refl
    first false b t = t

    second : (a b : Bool) → (a && b) ≡ true → b ≡ true
    second true b t = t
    second false b t = absurd (cc t)

    ids_at : (n i : ℕ) (t : Bool) → (eqb n model && eqb i id) ≡ t → IsSome (cond t (Some row) (row_of table n i)) → (1 ≤ i) × (i < next_of (put_row table model id row) n)
    ids_at n i true t lives =
        let nn : n ≡ model = equal_from n model (first (eqb n model) (eqb i id) t) in
        let ii : i ≡ id = equal_from i id (second (eqb n model) (eqb i id) t) in
        let below : i < next_of table n = subst (λ x. i < next_of table x) (sym nn) (subst (λ x. x < next_of table model) (sym ii) high) in
        (subst (λ x. 1 ≤ x) (sym ii) low, subst (λ x. i < x) (sym (next_of_put table model id row n)) below)
    ids_at n i false t lives = rw (next_of_put table model id row n) (fits.ids n i lives)

    row_at : (n i : ℕ) (o : Model) (r : Row) (t : Bool) → (eqb n model && eqb i id) ≡ t → slice_get schema.models n ≡ Some o → cond t (Some row) (row_of table n i) ≡ Some r → RowFits (put_row table model id row) o r
    row_at n i o r true t here is =
        let nn : n ≡ model = equal_from n model (first (eqb n model) (eqb i id) t) in
        let same_model : m ≡ o = some_same (sym at ∙ (ap (slice_get schema.models) (sym nn) ∙ here)) in
        subst (λ x. RowFits (put_row table model id row) x r) same_model (subst (λ y. RowFits (put_row table model id row) m y) (some_same is) (fits_more table (put_row table model id row) m row (lives_on table model id row within) suits))
    row_at n i o r false t here is = fits_more table (put_row table model id row) o r (lives_on table model id row within) (fits.rows n i o r here is)

-- and once a next id is set higher
pub next_fits : (schema : Schema) (table : TableMap) (model n : ℕ) → Fits schema table → model < length schema.models → next_of table model ≤ n → Fits schema (put_next table model n)
next_fits schema table model n fits l up = record {
  same = fits.same;
  extents = length_stays table model (λ (x : Extent). record x { next = n }) ∙ fits.extents;
  nexts = λ m l. next_at m (eqb m model) refl (subst (λ x. m < x) (length_stays table model (λ (x : Extent). record x { next = n })) l);
  ids = λ m i lives. ids_at m i (fits.ids m i (sym (ap is_some (row_of_next table model n m i)) ∙ lives)) (eqb m model) refl;
  rows = λ m i o r here is. fits_more table (put_next table model n) o r (λ b j lives. ap is_some (row_of_next table model n b j) ∙ lives) (fits.rows m i o r here (sym (row_of_next table model n m i) ∙ is));
}
  where
    next_at : (m : ℕ) (b : Bool) → eqb m model ≡ b → m < length table.extents → 1 ≤ next_of (put_next table model n) m
    next_at m true t within =
        let same : m ≡ model = equal_from m model t in
        subst (λ x. 1 ≤ x) (sym (next_of_next table model n (omega (arith, fits.extents)) m ∙ ap (λ b. cond b n (next_of table m)) t)) (omega (arith, up, fits.nexts model (omega (arith, fits.extents))))
    next_at m false t within = subst (λ x. 1 ≤ x) (sym (next_of_next table model n (omega (arith, fits.extents)) m ∙ ap (λ b. cond b n (next_of table m)) t)) (fits.nexts m within)

    ids_at : (m i : ℕ) → (1 ≤ i) × (i < next_of table m) → (b : Bool) → eqb m model ≡ b → (1 ≤ i) × (i < next_of (put_next table model n) m)
    ids_at m i h true t =
        let mm : m ≡ model = equal_from m model t in
        let below : i < n = omega (arith, h.1, ap (next_of table) mm, up) in
        (h.0, subst (λ x. i < x) (sym (next_of_next table model n (omega (arith, fits.extents)) m ∙ ap (λ b. cond b n (next_of table m)) t)) below)
    ids_at m i h false t = (h.0, subst (λ x. i < x) (sym (next_of_next table model n (omega (arith, fits.extents)) m ∙ ap (λ b. cond b n (next_of table m)) t)) h.1)
