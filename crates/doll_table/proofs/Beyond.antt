-- What a table has for a model that isn't in its schema.
use Rattle.std.proofs.Common.{◌≡◌, ℕ, List, [], ◌∷◌, map, filter, length, None, sym, ◌∙◌, ap, arith, ◌≤◌}
use Rattle.std.proofs.lemmas.Option.{slice_get_past}
use Rattle.std.specs.Option.{option_map_or}
use Rattle.std.specs.Ordering.{nat_cmp}
use Rattle.std.specs.FinMap as finite
use Rattle.doll_schema.specs.declared.value.Row.{Row}
use Rattle.doll_table.specs.Tables.{Extent, TableMap, row_of, rows_in, ids_of, ids_under, names_parent}

no_entries : finite.entries (let none : finite.FinMap nat_cmp Row = finite.empty in none) ≡ []
no_entries = of_length (finite.entries finite.empty) (sym (finite.len-entries finite.empty) ∙ finite.len-empty nat_cmp Row)
  where
    of_length : (es : List (ℕ × Row)) → length es ≡ 0 → es ≡ []
    of_length [] h = λ i. []
    of_length (e ∷ es) h = absurd (omega arith)

rows_beyond : (table : TableMap) (model : ℕ) → length table.extents ≤ model → rows_in table model ≡ finite.empty
rows_beyond table model h = ap (λ o. option_map_or (λ (e : Extent). e.rows) o finite.empty) (slice_get_past table.extents model h)

-- the extents as the slice that was read
pub past : (table : TableMap) (s models : List Extent) (model : ℕ) → s ≡ models → models ≡ table.extents → length s ≤ model → length table.extents ≤ model
past table s models model e f h = rw (← f, ← e) h

pub row_beyond : (table : TableMap) (model id : ℕ) → length table.extents ≤ model → row_of table model id ≡ None
row_beyond table model id h = ap (λ m. finite.get m id) (rows_beyond table model h) ∙ finite.get-empty nat_cmp id

pub ids_beyond : (table : TableMap) (model : ℕ) → length table.extents ≤ model → ids_of table model ≡ []
ids_beyond table model h = ap (λ m. finite.keys m) (rows_beyond table model h) ∙ ap (map (λ (e : ℕ × Row). e.0)) no_entries

pub none_beyond : (table : TableMap) (model place parent : ℕ) → length table.extents ≤ model → ids_under table model place parent ≡ []
none_beyond table model place parent h =
    ap (λ m. map (λ (e : ℕ × Row). e.0) (filter (λ (e : ℕ × Row). names_parent place parent e.1) (finite.entries m))) (rows_beyond table model h)
    ∙ ap (λ es. map (λ (e : ℕ × Row). e.0) (filter (λ (e : ℕ × Row). names_parent place parent e.1) es)) no_entries
