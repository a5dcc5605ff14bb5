-- A walk over records, one after another, comes to the closure, which goes level by level.
use Rattle.std.proofs.Common.{◌≡◌, ℕ, zero, suc, ◌+◌, ◌-◌, ◌<◌, ◌≤◌, Bool, true, false, cond, List, [], ◌∷◌, ◌++◌, length, get_or, take, drop, None, Some, IsSome, Option, refl, sym, ◌∙◌, ap, arith, inl, inr}
use Rattle.std.specs.Prelude.{slice_get}
use Rattle.std.specs.Fn.{iterate}
use Rattle.std.specs.List.{flat_map}
use Rattle.std.specs.Option.{option_map_or}
use Rattle.std.proofs.lemmas.Bool.{cases_lt, or_left, or_right}
use Rattle.std.proofs.lemmas.List.{take_all, take-append-le, take-append-drop, length_push, get_or_append_left}
use Rattle.std.proofs.lemmas.List.Concat.{flat_map-append}
use Rattle.std.proofs.lemmas.Option.{slice_get_cases, slice_get_within, get_or_from_slice_get}
use Rattle.doll_schema.specs.declared.value.Row.{Row}
use Rattle.doll_schema.specs.declared.model.Model.{Model}
use Rattle.doll_schema.specs.declared.model.Schema.{Schema}
use Rattle.doll_table.specs.Tables.{TableMap, row_of}
use Rattle.doll_commit.specs.declared.walk.Step.{Step}
use Rattle.doll_commit.specs.declared.walk.Step.TheVariants as step
use Rattle.doll_commit.specs.Refs.{Ref, is_ref, has, with_refs, count_of, with_next, closure}
use Rattle.doll_commit.specs.Commits.{row_touches, touch_parents}
use Rattle.doll_commit.specs.Walk.{steps_from}
use Rattle.doll_commit.proofs.Closures.{Within, LivesBetween, is_ref_itself, has_right, from_next, with_all_has, closure_closed}
use Rattle.doll_commit.proofs.Gone.{dependents_live}
use Rattle.doll_commit.proofs.Pushes.{with_refs_append, pushed_more}

-- only living records have touch parents
parents_of_living : (table : TableMap) (schema : Schema) (r p : Ref) → has (touch_parents table schema r) p ≡ true → IsSome (row_of table r.0 r.1)
parents_of_living table schema r p h = by_model (slice_get schema.models r.0) h
  where
    by_row : (m : Model) (o : Option Row) → has (option_map_or (row_touches m) o []) p ≡ true → IsSome o
    by_row m None h = absurd (cc h)
    by_row m (Some row) h = refl

    by_model : (o : Option Model) → has (option_map_or (λ (m : Model). option_map_or (row_touches m) (row_of table r.0 r.1) []) o []) p ≡ true → IsSome (row_of table r.0 r.1)
    by_model None h = absurd (cc h)
    by_model (Some m) h = by_row m (row_of table r.0 r.1) h

-- the records between two steps of a walk live
pub lives_between : (way : Step) (table : TableMap) (schema : Schema) → LivesBetween (steps_from way table schema) table
lives_between step.Dependents table schema q r p h k = dependents_live table schema q r h
lives_between step.TouchParents table schema q r p h k = parents_of_living table schema r p k

-- what is added stands behind

no_shorter : (xs ys : List Ref) → length xs ≤ length (with_refs xs ys)
no_shorter xs [] = omega arith
no_shorter xs (y ∷ ys) = by_test (has xs y) (no_shorter xs ys) (no_shorter (xs ++ y ∷ []) ys)
  where
    by_test : (b : Bool) → length xs ≤ length (with_refs xs ys) → length (xs ++ y ∷ []) ≤ length (with_refs (xs ++ y ∷ []) ys) → length xs ≤ length (with_refs (cond b xs (xs ++ y ∷ [])) ys)
    by_test true l m = l
    by_test false l m = omega (arith, m, length_push xs y)

front_stays : (n : ℕ) (xs ys : List Ref) → n ≤ length xs → take n (with_refs xs ys) ≡ take n xs
front_stays n xs [] l = refl
front_stays n xs (y ∷ ys) l = by_test (has xs y) (front_stays n xs ys l) (λ m. front_stays n (xs ++ y ∷ []) ys m)
  where
    by_test : (b : Bool) → take n (with_refs xs ys) ≡ take n xs → (n ≤ length (xs ++ y ∷ []) → take n (with_refs (xs ++ y ∷ []) ys) ≡ take n (xs ++ y ∷ [])) → take n (with_refs (cond b xs (xs ++ y ∷ [])) ys) ≡ take n xs
    by_test true here there = here
    by_test false here there = there (omega (arith, length_push xs y)) ∙ take-append-le n xs (y ∷ []) l

at_stays : (xs ys : List Ref) (k : ℕ) (d : Ref) → k < length xs → get_or (with_refs xs ys) k d ≡ get_or xs k d
at_stays xs [] k d l = refl
at_stays xs (y ∷ ys) k d l = by_test (has xs y) (at_stays xs ys k d l) (λ m. at_stays (xs ++ y ∷ []) ys k d m)
  where
    by_test : (b : Bool) → get_or (with_refs xs ys) k d ≡ get_or xs k d → (k < length (xs ++ y ∷ []) → get_or (with_refs (xs ++ y ∷ []) ys) k d ≡ get_or (xs ++ y ∷ []) k d) → get_or (with_refs (cond b xs (xs ++ y ∷ [])) ys) k d ≡ get_or xs k d
    by_test true here there = here
    by_test false here there = there (omega (arith, length_push xs y)) ∙ get_or_append_left xs (y ∷ []) d k l

-- records that are there already add none
adds_none : (xs ys : List Ref) → Within ys xs → with_refs xs ys ≡ xs
adds_none xs [] w = refl
adds_none xs (y ∷ ys) w = ap (λ b. with_refs (cond b xs (xs ++ y ∷ [])) ys) (w y (or_left (is_ref y y) (has ys y) (is_ref_itself y))) ∙ adds_none xs ys (λ r h. w r (or_right (is_ref r y) (has ys r) h))

-- what was added none was there already
same_length : (xs ys : List Ref) → length (with_refs xs ys) ≤ length xs → with_refs xs ys ≡ xs
same_length xs ys l = sym (take_all (length xs) (with_refs xs ys) l) ∙ (front_stays (length xs) xs ys (omega arith) ∙ take_all (length xs) xs (omega arith))

-- levels

module _ {X : Type 0} (f : X → X) where
  iterate_more : (n : ℕ) (x : X) → iterate f (suc n) x ≡ f (iterate f n x)
  iterate_more zero x = refl
  iterate_more (suc n) x = iterate_more n (f x)

  iterate_on : (n m k : ℕ) (x : X) → k ≡ n + m → iterate f k x ≡ iterate f m (iterate f n x)
  iterate_on zero m k x e = let same : k ≡ m = omega arith in ap (λ j. iterate f j x) same
  iterate_on (suc n) m k x e = let same : k ≡ suc (n + m) = omega arith in ap (λ j. iterate f j x) same ∙ iterate_on n m (n + m) (f x) refl

  stands : (n : ℕ) (x : X) → f x ≡ x → iterate f n x ≡ x
  stands zero x e = refl
  stands (suc n) x e = ap (iterate f n) e ∙ stands n x e

  -- from a level that stands on all are the same
  same_level : (x : X) (a b : ℕ) → f (iterate f a x) ≡ iterate f a x → f (iterate f b x) ≡ iterate f b x → iterate f a x ≡ iterate f b x
  same_level x a b p q = elim (cases_lt a b) [
    | inl l ↦ sym (iterate_on a (b - a) b x (omega arith) ∙ stands (b - a) (iterate f a x) p)
    | inr l ↦ iterate_on b (a - b) a x (omega arith) ∙ stands (a - b) (iterate f b x) q
  ]

module _ (next : Ref → List Ref) (table : TableMap) (between : LivesBetween next table) (seeds : List Ref) where
  abbrev level : ℕ → List Ref
  level n = iterate (with_next next) n seeds

  abbrev last : ℕ
  last = count_of table.extents + 1

  last_stands : with_next next (level last) ≡ level last
  last_stands = adds_none (level last) (flat_map next (level last)) (λ p h. let from = from_next next (level last) p h in (closure_closed next table between seeds).under from.0 p from.1 from.2)

  longer : (n : ℕ) (xs : List Ref) → length xs ≤ length (iterate (with_next next) n xs)
  longer zero xs = omega arith
  longer (suc n) xs = omega (arith, no_shorter xs (flat_map next xs), longer n (with_next next xs))

  level_is_short : (n : ℕ) → length (level n) ≤ length (closure next table seeds)
  level_is_short n = elim (cases_lt n last) [
    | inl l ↦ omega (arith, ap length (iterate_on (with_next next) n (last - n) last seeds (omega arith)), longer (last - n) (level n))
    | inr l ↦ omega (arith, ap length (iterate_on (with_next next) last (n - last) n seeds (omega arith) ∙ stands (with_next next) (n - last) (level last) last_stands))
  ]

  -- on the way: the records so far are those of a level, and those that steps lead to from the first so many of it
  pub record IsOnWay (all : List Ref) (at : ℕ) : Type 0 where
    pub number : ℕ
    pub within : at ≤ length (level number)
    pub is : all ≡ with_refs (level number) (flat_map next (take at (level number)))

  pub way_begins : IsOnWay seeds 0
  way_begins = record { number = 0; within = omega arith; is = refl }

  module _ (all : List Ref) (at : ℕ) where
    -- at the end of a level, the next one is whole
    whole : (n : ℕ) → at ≡ length (level n) → all ≡ with_refs (level n) (flat_map next (take at (level n))) → all ≡ with_next next (level n)
    whole n e is = is ∙ ap (λ xs. with_refs (level n) (flat_map next xs)) (take_all at (level n) (omega arith))

    lifted : (n : ℕ) → at ≡ length (level n) → all ≡ with_refs (level n) (flat_map next (take at (level n))) → all ≡ with_refs (level (suc n)) (flat_map next (take at (level (suc n))))
    lifted n e is = whole n e is ∙ (sym up ∙ sym (ap (λ xs. with_refs (level (suc n)) (flat_map next xs)) first ∙ adds_none (level (suc n)) (flat_map next (level n)) there))
      where
        up : level (suc n) ≡ with_next next (level n)
        up = iterate_more (with_next next) n seeds

        first : take at (level (suc n)) ≡ level n
        first = ap (take at) up ∙ (front_stays at (level n) (flat_map next (level n)) (omega arith) ∙ take_all at (level n) (omega arith))

        there : Within (flat_map next (level n)) (level (suc n))
        there r h = ap (λ xs. has xs r) up ∙ (with_all_has (level n) (flat_map next (level n)) r ∙ has_right (level n) (flat_map next (level n)) r h)

    inside : (x : Ref) → slice_get all at ≡ Some x → (n : ℕ) → at < length (level n) → all ≡ with_refs (level n) (flat_map next (take at (level n))) → IsOnWay (with_refs all (next x)) (at + 1)
    inside x here n l is = record {
      number = n;
      within = omega arith;
      is = pushed_more next (level n) all (with_refs all (next x)) (level n) at x l (sym (at_stays (level n) (flat_map next (take at (level n))) at x l) ∙ (ap (λ xs. get_or xs at x) (sym is) ∙ get_or_from_slice_get all at x x here)) is refl;
    }

    pub way_goes_on : (x : Ref) → slice_get all at ≡ Some x → IsOnWay all at → IsOnWay (with_refs all (next x)) (at + 1)
    way_goes_on x here way = elim (cases_lt at (length (level way.number))) [
      | inl l ↦ inside x here way.number l way.is
      | inr l ↦ (let end : at ≡ length (level way.number) = omega (arith, l, way.within) in
          let up : level (suc way.number) ≡ with_next next (level way.number) = iterate_more (with_next next) way.number seeds in
          inside x here (suc way.number) (omega (arith, slice_get_within all at x here, ap length (whole way.number end way.is), ap length up)) (lifted way.number end way.is))
    ]

    past : slice_get all at ≡ None → length all ≤ at
    past none = elim (slice_get_cases all at).1 [ inl w ↦ absurd (let some = w.2 in cc) | inr w ↦ w.0 ]

    -- a walk past the last record has come to the closure
    pub way_ends : slice_get all at ≡ None → IsOnWay all at → all ≡ closure next table seeds
    way_ends none way = same ∙ same_level (with_next next) seeds way.number last (sym (whole way.number end way.is) ∙ same) last_stands
      where
        few : length all ≤ length (level way.number)
        few = omega (arith, past none, way.within)

        end : at ≡ length (level way.number)
        end = omega (arith, past none, way.within, ap length way.is, no_shorter (level way.number) (flat_map next (take at (level way.number))))

        same : all ≡ level way.number
        same = way.is ∙ same_length (level way.number) (flat_map next (take at (level way.number))) (omega (arith, few, ap length way.is))

    -- and is no longer than it
    pub way_is_short : IsOnWay all at → length all ≤ length (closure next table seeds)
    way_is_short way = omega (arith, ap length way.is, ap length rest, no_shorter first (flat_map next (drop at (level way.number))), level_is_short (suc way.number), ap length (iterate_more (with_next next) way.number seeds))
      where
        first : List Ref
        first = with_refs (level way.number) (flat_map next (take at (level way.number)))

        rest : with_next next (level way.number) ≡ with_refs first (flat_map next (drop at (level way.number)))
        rest =
            ap (λ xs. with_refs (level way.number) (flat_map next xs)) (sym (take-append-drop at (level way.number)))
            ∙ (ap (with_refs (level way.number)) (flat_map-append next (take at (level way.number)) (drop at (level way.number))) ∙ with_refs_append (level way.number) (flat_map next (take at (level way.number))) (flat_map next (drop at (level way.number))))
