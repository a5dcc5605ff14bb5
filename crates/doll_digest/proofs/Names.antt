-- Names by their numbers.
use Rattle.std.proofs.Common.{◌≡◌, ◌<◌, ℕ, ◌+◌, suc, Bool, true, false, cond, not, ◌||◌, nat_lt, List, [], ◌∷◌, ◌++◌, map, length, length-append, position, slice_get, None, Some, unwrap_or, if◌then◌else◌, refl, sym, ap, ◌∙◌, arith}
use Rattle.std.specs.List.{list_any, position_or_len}
use Rattle.std.specs.Str.{bytes_eq}
use Rattle.std.proofs.lemmas.List.{get_or_append_left, map-append}
use Rattle.std.proofs.lemmas.Option.{get_or_from_slice_get, slice_get_within}
use Rattle.std.proofs.lemmas.Slice.Eq.{bytes_eq-Decides}
use Rattle.doll_digest.specs.Registries.{NumbersStay, name_added, name_at, number_of}

-- ---- names that are seen by a view

module _ {A : Type 0} (v : A → List ℕ) (name : List ℕ) where
  pub number_seen : (xs : List A) → position_or_len (λ x. bytes_eq name (v x)) xs ≡ number_of (map v xs) name
  number_seen [] = refl
  number_seen (x ∷ xs) = ap (λ n. cond (not (bytes_eq name (v x))) (1 + n) 0) (number_seen xs)

  pub among_seen : (xs : List A) → list_any (λ x. bytes_eq name (v x)) xs ≡ list_any (bytes_eq name) (map v xs)
  among_seen [] = refl
  among_seen (x ∷ xs) = ap (λ b. bytes_eq name (v x) || b) (among_seen xs)

  -- a place that was found is the name's number
  pub found_number : (xs : List A) (number : ℕ) → Some number ≡ position (λ x. bytes_eq name (v x)) xs → number ≡ number_of (map v xs) name
  found_number xs number e = by (nat_lt (position_or_len (λ x. bytes_eq name (v x)) xs) (length xs)) e ∙ number_seen xs
    where
      by : (b : Bool) → Some number ≡ cond b (Some (position_or_len (λ x. bytes_eq name (v x)) xs)) None → number ≡ position_or_len (λ x. bytes_eq name (v x)) xs
      by true h = ap (λ o. unwrap_or o number) h
      by false h = absurd (cc h)

  -- a name that is there adds none
  pub found_names : (xs : List A) → true ≡ list_any (λ x. bytes_eq name (v x)) xs → map v xs ≡ name_added (map v xs) name
  found_names xs e = sym (ap (λ b. if b then map v xs else map v xs ++ name ∷ []) (sym (among_seen xs) ∙ sym e))

-- the names after an item is inserted
pub inserted_names : {A : Type 0} (v : A → List ℕ) (xs : List A) (x : A) → map v (if list_any (λ y. bytes_eq (v x) (v y)) xs then xs else xs ++ x ∷ []) ≡ name_added (map v xs) (v x)
inserted_names v xs x = by (list_any (λ y. bytes_eq (v x) (v y)) xs) ∙ ap (λ b. if b then map v xs else map v xs ++ v x ∷ []) (among_seen v (v x) xs)
  where
    by : (b : Bool) → map v (if b then xs else xs ++ x ∷ []) ≡ (if b then map v xs else map v xs ++ v x ∷ [])
    by true = refl
    by false = map-append v xs (x ∷ [])

one_more : (n : ℕ) → 1 + n ≡ suc n
one_more n = omega arith

-- the name stands at its number
stands_at : (names : List (List ℕ)) (name : List ℕ) → slice_get (name_added names name) (number_of names name) ≡ Some name
stands_at [] name = refl
stands_at (x ∷ xs) name = by (bytes_eq name x) refl (stands_at xs name)
  where
    later : (b : Bool) (n : ℕ) → slice_get (if b then xs else xs ++ name ∷ []) n ≡ Some name → slice_get (if b then x ∷ xs else x ∷ xs ++ name ∷ []) (1 + n) ≡ Some name
    later true n h = ap (slice_get (x ∷ xs)) (one_more n) ∙ h
    later false n h = ap (slice_get (x ∷ xs ++ name ∷ [])) (one_more n) ∙ h

    by : (b : Bool) → bytes_eq name x ≡ b → slice_get (name_added xs name) (number_of xs name) ≡ Some name → slice_get (if b || list_any (bytes_eq name) xs then x ∷ xs else x ∷ xs ++ name ∷ []) (cond (not b) (1 + number_of xs name) 0) ≡ Some name
    by true e h = ap Some (sym ((bytes_eq-Decides name x).0 e))
    by false e h = later (list_any (bytes_eq name) xs) (number_of xs name) h

pub number_within : (names : List (List ℕ)) (name : List ℕ) → number_of names name < length (name_added names name)
number_within names name = slice_get_within (name_added names name) (number_of names name) name (stands_at names name)

pub named_at : (names : List (List ℕ)) (name : List ℕ) → name_at (name_added names name) (number_of names name) ≡ name
named_at names name = get_or_from_slice_get (name_added names name) (number_of names name) name [] (stands_at names name)

-- names that are added leave the others at their numbers
pub numbers_stay : (names : List (List ℕ)) (name : List ℕ) → NumbersStay names (name_added names name)
numbers_stay names name number within = by (list_any (bytes_eq name) names)
  where
    by : (b : Bool) → let new = if b then names else names ++ name ∷ [] in (number < length new) × (name_at new number ≡ name_at names number)
    by true = (within, refl)
    by false = (omega (arith, length-append names (name ∷ [])), get_or_append_left names (name ∷ []) [] number within)
