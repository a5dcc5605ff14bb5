-- Names are distinct where none is among those before it.
use Rattle.std.proofs.Common.{◌≡◌, ℕ, Bool, true, false, not, ◌&&◌, ◌||◌, true≢false, List, [], ◌∷◌, ◌++◌, map, if◌then◌else◌, refl, ap, sym, ◌∙◌}
use Rattle.std.specs.Prelude.{bytes_eq}
use Rattle.std.specs.List.{list_any}
use Rattle.std.proofs.lemmas.List.{map-append}
use Rattle.std.proofs.lemmas.List.Folds.{list_any-append}
use Rattle.std.proofs.lemmas.Slice.Eq.{bytes_eq-Decides}
use Rattle.doll_route.specs.Routes.{are_distinct}

-- no name is among those that were seen, or among those before it
abbrev pub apart : List (List ℕ) → List (List ℕ) → Bool
apart seen [] = true
apart seen (name ∷ names) = not (list_any (bytes_eq name) seen) && apart (seen ++ name ∷ []) names

abbrev none_seen : List (List ℕ) → List (List ℕ) → Bool
none_seen seen [] = true
none_seen seen (name ∷ names) = not (list_any (bytes_eq name) seen) && none_seen seen names

same_way : (a b : Bool) → (a ≡ true → b ≡ true) → (b ≡ true → a ≡ true) → a ≡ b
same_way true b go back = sym (go refl)
same_way false true go back = back refl
same_way false false go back = refl

turned : (one other : List ℕ) → bytes_eq one other ≡ bytes_eq other one
turned one other =
    same_way (bytes_eq one other) (bytes_eq other one) (λ e. (bytes_eq-Decides other one).1 (sym ((bytes_eq-Decides one other).0 e)))
    (λ e. (bytes_eq-Decides one other).1 (sym ((bytes_eq-Decides other one).0 e)))

parted : (seen same more later : Bool) → (not (seen || (same || false)) && (more && not later)) ≡ ((not seen && more) && not (same || later))
parted true same more later = refl
parted false true true later = refl
parted false true false later = refl
parted false false more later = refl

one_seen : (seen : List (List ℕ)) (name : List ℕ) (names : List (List ℕ)) → none_seen (seen ++ name ∷ []) names ≡ (none_seen seen names && not (list_any (bytes_eq name) names))
one_seen seen name [] = refl
one_seen seen name (other ∷ names) =
    ap (λ b. not b && none_seen (seen ++ name ∷ []) names) (list_any-append (bytes_eq other) seen (name ∷ []))
    ∙ ap (λ b. not (list_any (bytes_eq other) seen || (b || false)) && none_seen (seen ++ name ∷ []) names) (turned other name)
    ∙ ap (λ b. not (list_any (bytes_eq other) seen || (bytes_eq name other || false)) && b) (one_seen seen name names)
    ∙ parted (list_any (bytes_eq other) seen) (bytes_eq name other) (none_seen seen names) (list_any (bytes_eq name) names)

regrouped : (a b c d : Bool) → (a && ((b && c) && d)) ≡ ((a && b) && (c && d))
regrouped true true c d = refl
regrouped true false c d = refl
regrouped false b c d = refl

apart_is : (seen names : List (List ℕ)) → apart seen names ≡ (none_seen seen names && are_distinct names)
apart_is seen [] = refl
apart_is seen (name ∷ names) =
    ap (λ b. not (list_any (bytes_eq name) seen) && b)
    (apart_is (seen ++ name ∷ []) names ∙ ap (λ b. b && are_distinct names) (one_seen seen name names))
    ∙ regrouped (not (list_any (bytes_eq name) seen)) (none_seen seen names) (not (list_any (bytes_eq name) names)) (are_distinct names)

nothing_seen : (names : List (List ℕ)) → none_seen [] names ≡ true
nothing_seen [] = refl
nothing_seen (name ∷ names) = nothing_seen names

pub all_apart : (names : List (List ℕ)) → apart [] names ≡ are_distinct names
all_apart names = apart_is [] names ∙ ap (λ b. b && are_distinct names) (nothing_seen names)

-- ---- a name that is entered

module _ {A : Type 0} (v : A → List ℕ) (name : List ℕ) where
  pub among_seen : (xs : List A) → list_any (λ x. bytes_eq name (v x)) xs ≡ list_any (bytes_eq name) (map v xs)
  among_seen [] = refl
  among_seen (x ∷ xs) = ap (λ b. bytes_eq name (v x) || b) (among_seen xs)

pub entered : {A : Type 0} (v : A → List ℕ) (xs : List A) (x : A) (new : Bool) → new ≡ not (list_any (λ y. bytes_eq (v x) (v y)) xs) → new ≡ true
    → map v (if list_any (λ y. bytes_eq (v x) (v y)) xs then xs else xs ++ x ∷ []) ≡ map v xs ++ v x ∷ []
entered v xs x new told is = by (list_any (λ y. bytes_eq (v x) (v y)) xs) (sym told ∙ is)
  where
    by : (b : Bool) → not b ≡ true → map v (if b then xs else xs ++ x ∷ []) ≡ map v xs ++ v x ∷ []
    by true e = absurd (true≢false (sym e))
    by false e = map-append v xs (x ∷ [])
