-- A table without many rows, extent by extent.
use Rattle.std.proofs.Common.{◌≡◌, ℕ, zero, suc, ◌+◌, ◌<◌, Bool, cond, List, [], ◌∷◌, ◌++◌, map, filter, length, get_or, take, set, Option, Some, None, eqb, refl, sym, ◌∙◌, ap, arith}
use Rattle.std.specs.Prelude.{slice_get}
use Rattle.std.specs.List.{enumerate_from}
use Rattle.std.specs.Option.{option_map_or}
use Rattle.std.specs.FinMap as finite
use Rattle.std.proofs.lemmas.Bool.{eq-eqb, ne_eqb}
use Rattle.doll_table.specs.Tables.{Extent, TableMap, without_row, without_rows, without_ids, ids_among, extent_without}

abbrev pub left_of : List (ℕ × ℕ) → ℕ → List Extent → List Extent
left_of records n extents = map (extent_without records) (enumerate_from n extents)

without_none : (n : ℕ) (extents : List Extent) → left_of [] n extents ≡ extents
without_none n [] = refl
without_none n (x ∷ extents) = ap (λ xs. x ∷ xs) (without_none (n + 1) extents)

-- an extent of the model of a record that goes, and one of another model
same_model : (records : List (ℕ × ℕ)) (k id n : ℕ) (x : Extent) → k ≡ n → record x { rows = finite.remove (without_ids x.rows (ids_among records n)) id } ≡ extent_without ((k, id) ∷ records) (n, x)
same_model records k id n x e =
    ap (λ (b : Bool). record x { rows = without_ids x.rows (map (λ (one : ℕ × ℕ). one.1) (cond b ((k, id) ∷ filter (λ (one : ℕ × ℕ). eqb one.0 n) records) (filter (λ (one : ℕ × ℕ). eqb one.0 n) records))) }) (sym (eq-eqb k n e))

other_model : (records : List (ℕ × ℕ)) (k id n : ℕ) (x : Extent) → (k ≡ n → ⊥) → extent_without records (n, x) ≡ extent_without ((k, id) ∷ records) (n, x)
other_model records k id n x e =
    ap (λ (b : Bool). record x { rows = without_ids x.rows (map (λ (one : ℕ × ℕ). one.1) (cond b ((k, id) ∷ filter (λ (one : ℕ × ℕ). eqb one.0 n) records) (filter (λ (one : ℕ × ℕ). eqb one.0 n) records))) }) (sym (ne_eqb k n e))

others : (records : List (ℕ × ℕ)) (k id n : ℕ) (extents : List Extent) → k < n → left_of records n extents ≡ left_of ((k, id) ∷ records) n extents
others records k id n [] l = refl
others records k id n (x ∷ extents) l = λ i. other_model records k id n x (λ e. omega arith) i ∷ others records k id (n + 1) extents (omega arith) i

one_more : (records : List (ℕ × ℕ)) (k id n m : ℕ) (extents : List Extent) → k ≡ n + m
    → option_map_or (λ (x : Extent). set (left_of records n extents) m (record x { rows = finite.remove x.rows id })) (slice_get (left_of records n extents) m) (left_of records n extents) ≡ left_of ((k, id) ∷ records) n extents
one_more records k id n m [] e = refl
one_more records k id n zero (x ∷ extents) e = λ i. same_model records k id n x (omega arith) i ∷ others records k id (n + 1) extents (omega arith) i
one_more records k id n (suc m) (x ∷ extents) e =
    behind (slice_get (left_of records (n + 1) extents) m)
    ∙ (λ i. other_model records k id n x (λ same. omega arith) i ∷ one_more records k id (n + 1) m extents (omega arith) i)
  where
    behind : (o : Option Extent) → option_map_or (λ (y : Extent). extent_without records (n, x) ∷ set (left_of records (n + 1) extents) m (record y { rows = finite.remove y.rows id })) o (extent_without records (n, x) ∷ left_of records (n + 1) extents)
        ≡ extent_without records (n, x) ∷ option_map_or (λ (y : Extent). set (left_of records (n + 1) extents) m (record y { rows = finite.remove y.rows id })) o (left_of records (n + 1) extents)
    behind None = refl
    behind (Some y) = refl

pub length_left : (records : List (ℕ × ℕ)) (n : ℕ) (extents : List Extent) → length (left_of records n extents) ≡ length extents
length_left records n [] = refl
length_left records n (x ∷ extents) = ap suc (length_left records (n + 1) extents)

-- one extent more
left_more_from : (records : List (ℕ × ℕ)) (k n i : ℕ) (extents : List Extent) (d : Extent) → k ≡ n + i → i < length extents → left_of records n (take (suc i) extents) ≡ left_of records n (take i extents) ++ extent_without records (k, get_or extents i d) ∷ []
left_more_from records k n i [] d e l = absurd (omega arith)
left_more_from records k n zero (x ∷ extents) d e l = let same : n ≡ k = omega arith in ap (λ j. extent_without records (j, x) ∷ []) same
left_more_from records k n (suc i) (x ∷ extents) d e l = ap (λ xs. extent_without records (n, x) ∷ xs) (left_more_from records k (n + 1) i extents d (omega arith) (omega arith))

pub left_more : (records : List (ℕ × ℕ)) (extents : List Extent) (i : ℕ) (d : Extent) → i < length extents → map (extent_without records) (enumerate_from 0 (take (i + 1) extents)) ≡ map (extent_without records) (enumerate_from 0 (take i extents)) ++ extent_without records (i, get_or extents i d) ∷ []
left_more records extents i d l =
    let next : i + 1 ≡ suc i = omega arith in
    ap (λ k. left_of records 0 (take k extents)) next ∙ left_more_from records i 0 i extents d (omega arith) l

-- the table without the rows of records is that of the extents without them
pub without_all : (records : List (ℕ × ℕ)) (table : TableMap) → without_rows table records ≡ record table { extents = left_of records 0 table.extents }
without_all [] table = ap (λ (xs : List Extent). record table { extents = xs }) (sym (without_none 0 table.extents))
without_all (one ∷ records) table =
    ap (λ t. without_row t one.0 one.1) (without_all records table) ∙ ap (λ (xs : List Extent). record table { extents = xs }) (one_more records one.0 one.1 0 one.0 table.extents (omega arith))
