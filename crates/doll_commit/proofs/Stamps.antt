-- What stays of a table, and what comes, where records get a moment.
use Rattle.std.proofs.Common.{◌≡◌, ℕ, ◌<◌, Bool, true, false, cond, ◌||◌, List, [], ◌∷◌, length, Option, Some, None, is_some, refl, sym, ◌∙◌, ap, arith, inl, inr}
use Rattle.std.specs.Prelude.{slice_get}
use Rattle.std.specs.Option.{option_map, option_map_or}
use Rattle.std.specs.FinMap as finite
use Rattle.std.proofs.lemmas.Bool.{cases_lt}
use Rattle.std.proofs.lemmas.Option.{slice_get_cases}
use Rattle.doll_schema.specs.declared.value.Row.{Row}
use Rattle.doll_schema.specs.declared.model.Model.{Model}
use Rattle.doll_schema.specs.declared.model.Schema.{Schema}
use Rattle.doll_table.specs.Tables.{Extent, TableMap, row_of, put_row}
use Rattle.doll_table.specs.Fits.{Fits, RowFits}
use Rattle.doll_table.proofs.Beyond.{row_beyond}
use Rattle.doll_table.proofs.Growing.{row_of_put, length_stays, put_fits}
use Rattle.doll_commit.specs.Refs.{Ref, is_ref, has}
use Rattle.doll_commit.specs.Commits.{row_touches, touch_parents, stamped_at, stamped}
use Rattle.doll_commit.proofs.Closures.{is_ref-true}

-- a row with a moment
abbrev pub with_moment : ℕ → Row → Row
with_moment moment row = record row { updated_at = moment }

-- the row of a record with the moment, where it is among those that get it
abbrev pub moved : ℕ → Bool → Option Row → Option Row
moved moment b o = cond b (option_map (with_moment moment) o) o

moved_twice : (moment : ℕ) (a b : Bool) (o : Option Row) → moved moment b (moved moment a o) ≡ moved moment (a || b) o
moved_twice moment true true None = refl
moved_twice moment true true (Some row) = refl
moved_twice moment true false o = refl
moved_twice moment false b o = refl

-- a row stands in an extent of the table
pub row_within : (table : TableMap) (m i : ℕ) (row : Row) → row_of table m i ≡ Some row → m < length table.extents
row_within table m i row is = elim (cases_lt m (length table.extents)) [ inl l ↦ l | inr l ↦ absurd (let none = row_beyond table m i l in cc) ]

one_row : (moment : ℕ) (table : TableMap) (ref : Ref) (m i : ℕ) → row_of (stamped_at moment table ref) m i ≡ moved moment (is_ref (m, i) ref) (row_of table m i)
one_row moment table ref m i = by_row (row_of table ref.0 ref.1) refl
  where
    by_row : (o : Option Row) → row_of table ref.0 ref.1 ≡ o → row_of (option_map_or (λ (row : Row). put_row table ref.0 ref.1 (with_moment moment row)) o table) m i ≡ moved moment (is_ref (m, i) ref) (row_of table m i)
    by_row None is = by_test (is_ref (m, i) ref) refl
      where
        by_test : (b : Bool) → is_ref (m, i) ref ≡ b → row_of table m i ≡ moved moment b (row_of table m i)
        by_test true t = let at : row_of table m i ≡ None = ap (λ (r : Ref). row_of table r.0 r.1) (is_ref-true (m, i) ref t) ∙ is in rw at refl
        by_test false t = refl
    by_row (Some row) is = row_of_put table ref.0 ref.1 (with_moment moment row) (row_within table ref.0 ref.1 row is) m i ∙ by_test (is_ref (m, i) ref) refl
      where
        by_test : (b : Bool) → is_ref (m, i) ref ≡ b → cond b (Some (with_moment moment row)) (row_of table m i) ≡ moved moment b (row_of table m i)
        by_test true t = let at : row_of table m i ≡ Some row = ap (λ (r : Ref). row_of table r.0 r.1) (is_ref-true (m, i) ref t) ∙ is in rw at refl
        by_test false t = refl

-- the row of a record after stamps is the one before, with the moment where the record is among the stamped
pub row_of_stamped : (moment : ℕ) (table : TableMap) (refs : List Ref) (m i : ℕ) → row_of (stamped moment table refs) m i ≡ moved moment (has refs (m, i)) (row_of table m i)
row_of_stamped moment table [] m i = refl
row_of_stamped moment table (ref ∷ refs) m i =
    row_of_stamped moment (stamped_at moment table ref) refs m i
    ∙ (ap (moved moment (has refs (m, i))) (one_row moment table ref m i) ∙ moved_twice moment (is_ref (m, i) ref) (has refs (m, i)) (row_of table m i))

one_length : (moment : ℕ) (table : TableMap) (ref : Ref) → length (stamped_at moment table ref).extents ≡ length table.extents
one_length moment table ref = by_row (row_of table ref.0 ref.1)
  where
    by_row : (o : Option Row) → length (option_map_or (λ (row : Row). put_row table ref.0 ref.1 (with_moment moment row)) o table).extents ≡ length table.extents
    by_row None = refl
    by_row (Some row) = length_stays table ref.0 (λ (x : Extent). record x { rows = finite.insert x.rows ref.1 (with_moment moment row) })

pub length_stamped : (moment : ℕ) (table : TableMap) (refs : List Ref) → length (stamped moment table refs).extents ≡ length table.extents
length_stamped moment table [] = refl
length_stamped moment table (ref ∷ refs) = length_stamped moment (stamped_at moment table ref) refs ∙ one_length moment table ref

one_schema : (moment : ℕ) (table : TableMap) (ref : Ref) → (stamped_at moment table ref).schema ≡ table.schema
one_schema moment table ref = by_row (row_of table ref.0 ref.1)
  where
    by_row : (o : Option Row) → (option_map_or (λ (row : Row). put_row table ref.0 ref.1 (with_moment moment row)) o table).schema ≡ table.schema
    by_row None = refl
    by_row (Some row) = refl

pub schema_stamped : (moment : ℕ) (table : TableMap) (refs : List Ref) → (stamped moment table refs).schema ≡ table.schema
schema_stamped moment table [] = refl
schema_stamped moment table (ref ∷ refs) = schema_stamped moment (stamped_at moment table ref) refs ∙ one_schema moment table ref

-- a stamped record has the moment
pub moment_stamped : (moment : ℕ) (table : TableMap) (refs : List Ref) (r : Ref) (row : Row) → has refs r ≡ true → row_of (stamped moment table refs) r.0 r.1 ≡ Some row → row.updated_at ≡ moment
moment_stamped moment table refs r row h is = by_row (row_of table r.0 r.1) (sym (row_of_stamped moment table refs r.0 r.1 ∙ ap (λ b. moved moment b (row_of table r.0 r.1)) h) ∙ is)
  where
    by_row : (o : Option Row) → option_map (with_moment moment) o ≡ Some row → row.updated_at ≡ moment
    by_row None e = absurd (cc e)
    by_row (Some old) e = let same : with_moment moment old ≡ row = cc in ap (λ (x : Row). x.updated_at) (sym same)

-- one that isn't stamped stays
pub row_unstamped : (moment : ℕ) (table : TableMap) (refs : List Ref) (r : Ref) → has refs r ≡ false → row_of (stamped moment table refs) r.0 r.1 ≡ row_of table r.0 r.1
row_unstamped moment table refs r h = row_of_stamped moment table refs r.0 r.1 ∙ ap (λ b. moved moment b (row_of table r.0 r.1)) h

-- the touch parents stay
pub touch_parents_stamped : (moment : ℕ) (schema : Schema) (table : TableMap) (refs : List Ref) (r : Ref) → touch_parents (stamped moment table refs) schema r ≡ touch_parents table schema r
touch_parents_stamped moment schema table refs r = by_model (slice_get schema.models r.0)
  where
    by_row : (m : Model) (b : Bool) (o : Option Row) → option_map_or (row_touches m) (moved moment b o) [] ≡ option_map_or (row_touches m) o []
    by_row m true None = refl
    by_row m true (Some row) = refl
    by_row m false o = refl

    by_model : (o : Option Model) → option_map_or (λ (m : Model). option_map_or (row_touches m) (row_of (stamped moment table refs) r.0 r.1) []) o [] ≡ option_map_or (λ (m : Model). option_map_or (row_touches m) (row_of table r.0 r.1) []) o []
    by_model None = refl
    by_model (Some m) = ap (λ o. option_map_or (row_touches m) o []) (row_of_stamped moment table refs r.0 r.1) ∙ by_row m (has refs r) (row_of table r.0 r.1)

-- a table still fits
one_fits : (moment : ℕ) (schema : Schema) (table : TableMap) (ref : Ref) → Fits schema table → Fits schema (stamped_at moment table ref)
one_fits moment schema table ref fits = by_row (row_of table ref.0 ref.1) refl
  where
    row_fits : (m : Model) (row : Row) → RowFits table m row → RowFits table m (with_moment moment row)
    row_fits m row f = record { as_many_values = f.as_many_values; kinds = f.kinds; as_many_parents = f.as_many_parents; parents = f.parents }

    put : (row : Row) (m : Model) → row_of table ref.0 ref.1 ≡ Some row → slice_get schema.models ref.0 ≡ Some m → Fits schema (put_row table ref.0 ref.1 (with_moment moment row))
    put row m is at =
        let ids = fits.ids ref.0 ref.1 (ap is_some is) in
        put_fits schema table ref.0 ref.1 m (with_moment moment row) fits at ids.0 ids.1 (row_fits m row (fits.rows ref.0 ref.1 m row at is))

    by_row : (o : Option Row) → row_of table ref.0 ref.1 ≡ o → Fits schema (option_map_or (λ (row : Row). put_row table ref.0 ref.1 (with_moment moment row)) o table)
    by_row None is = fits
    by_row (Some row) is = elim (slice_get_cases schema.models ref.0).1 [
      | inl w ↦ put row w.0 is w.2
      | inr w ↦ absurd (let within = row_within table ref.0 ref.1 row is in omega (arith, within, fits.extents, w.0))
    ]

pub stamped_fits : (moment : ℕ) (schema : Schema) (table : TableMap) (refs : List Ref) → Fits schema table → Fits schema (stamped moment table refs)
stamped_fits moment schema table [] fits = fits
stamped_fits moment schema table (ref ∷ refs) fits = stamped_fits moment schema (stamped_at moment table ref) refs (one_fits moment schema table ref fits)

-- a table that has an extent for each model keeps that
pub whole_stamped : (moment : ℕ) (table after : TableMap) (refs : List Ref) → length table.extents ≡ length table.schema.models → after ≡ stamped moment table refs → length after.extents ≡ length after.schema.models
whole_stamped moment table after refs whole is =
    ap (λ (t : TableMap). length t.extents) is
    ∙ (length_stamped moment table refs ∙ (whole ∙ sym (ap (λ (t : TableMap). length t.schema.models) is ∙ ap (λ (s : Schema). length s.models) (schema_stamped moment table refs))))
