-- The marks of numbers, and the numbers that are marked.
use Rattle.std.proofs.Common.{◌≡◌, ℕ, ◌+◌, ◌-◌, ◌<◌, Bool, true, false, ◌==◌, ◌||◌, List, [], ◌∷◌, ◌++◌, length, map, take, get_or, slice_set, refl, ap, sym, subst, ◌∙◌, arith}
use Rattle.std.specs.List.{filter, list_any, range_with_len, slice_index_or}
use Rattle.std.proofs.lemmas.Bool.{eqb-true, eqb-false}
use Rattle.std.proofs.lemmas.List.{get_or-set_same, get_or-set_other, append_assoc, length-set}
use Rattle.std.proofs.lemmas.List.Folds.{list_any_more}
use Rattle.std.proofs.lemmas.List.FromFn.{length-map-range_with_len, get_or-map-range_with_len, fill_by_all}
use Rattle.doll_graph.proofs.Ranges.{filter_past, filter_here}

-- whether a number is among some
abbrev pub is_among : List ℕ → ℕ → Bool
is_among numbers number = list_any (λ other. number == other) numbers

-- which of so many numbers are among some
abbrev pub marks : ℕ → List ℕ → List Bool
marks count numbers = map (is_among numbers) (range_with_len 0 count)

or_true : (a : Bool) → (a || true) ≡ true
or_true true = refl
or_true false = refl

or_false : (a : Bool) → (a || false) ≡ a
or_false true = refl
or_false false = refl

-- one number more
pub one_marked : (numbers : List ℕ) (at count : ℕ) (before after : List Bool) → at < length numbers → before ≡ marks count (take at numbers) → after ≡ slice_set before (get_or numbers at 0) true → after ≡ marks count (take (at + 1) numbers)
one_marked numbers at count before after within so_far set =
    set ∙ ap (λ bs. slice_set bs one true) so_far ∙ fill_by_all (is_among (take (at + 1) numbers)) (slice_set (marks count (take at numbers)) one true) count false long each
  where
    one : ℕ
    one = get_or numbers at 0

    long : length (slice_set (marks count (take at numbers)) one true) ≡ count
    long = length-set (marks count (take at numbers)) one true ∙ length-map-range_with_len (is_among (take at numbers)) 0 count

    more : (k : ℕ) → is_among (take (at + 1) numbers) k ≡ (is_among (take at numbers) k || (k == one))
    more k = list_any_more (λ other. k == other) numbers at 0 within

    each : (k : ℕ) → k < count → get_or (slice_set (marks count (take at numbers)) one true) k false ≡ is_among (take (at + 1) numbers) k
    each k inside = by (k == one) refl
      where
        by : (b : Bool) → (k == one) ≡ b → get_or (slice_set (marks count (take at numbers)) one true) k false ≡ is_among (take (at + 1) numbers) k
        by true e =
            ap (λ j. get_or (slice_set (marks count (take at numbers)) j true) k false) (sym (eqb-true k one e))
            ∙ get_or-set_same (marks count (take at numbers)) k true false (subst (λ n. k < n) (sym (length-map-range_with_len (is_among (take at numbers)) 0 count)) inside)
            ∙ sym (more k ∙ ap (λ b. is_among (take at numbers) k || b) e ∙ or_true (is_among (take at numbers) k))
        by false e =
            get_or-set_other (marks count (take at numbers)) one k true false (eqb-false k one e)
            ∙ get_or-map-range_with_len (is_among (take at numbers)) 0 count k k false inside (omega arith)
            ∙ sym (more k ∙ ap (λ b. is_among (take at numbers) k || b) e ∙ or_false (is_among (take at numbers) k))

-- a number that isn't marked
pub one_passed : (numbers : List ℕ) (count n : ℕ) (said : List Bool) (once whole : List ℕ) (mark : Bool) → said ≡ marks count numbers → n < count → mark ≡ slice_index_or said n false → mark ≡ false → once ++ filter (is_among numbers) (range_with_len n (count - n)) ≡ whole → once ++ filter (is_among numbers) (range_with_len (n + 1) (count - (n + 1))) ≡ whole
one_passed numbers count n said once whole mark is within says isnt so_far =
    ap (λ ns. once ++ ns) (sym (filter_past (is_among numbers) n count within (sym (says ∙ ap (λ bs. slice_index_or bs n false) is ∙ get_or-map-range_with_len (is_among numbers) 0 count n n false within (omega arith)) ∙ isnt))) ∙ so_far

-- one that is
pub one_kept : (numbers : List ℕ) (count n : ℕ) (said : List Bool) (once after whole : List ℕ) (mark : Bool) → said ≡ marks count numbers → n < count → mark ≡ slice_index_or said n false → mark ≡ true → after ≡ once ++ n ∷ [] → once ++ filter (is_among numbers) (range_with_len n (count - n)) ≡ whole → after ++ filter (is_among numbers) (range_with_len (n + 1) (count - (n + 1))) ≡ whole
one_kept numbers count n said once after whole mark is within says here pushed so_far =
    ap (λ ns. ns ++ filter (is_among numbers) (range_with_len (n + 1) (count - (n + 1)))) pushed
    ∙ append_assoc once (n ∷ []) (filter (is_among numbers) (range_with_len (n + 1) (count - (n + 1))))
    ∙ ap (λ ns. once ++ ns) (sym (filter_here (is_among numbers) n count within (sym (says ∙ ap (λ bs. slice_index_or bs n false) is ∙ get_or-map-range_with_len (is_among numbers) 0 count n n false within (omega arith)) ∙ here)))
    ∙ so_far
