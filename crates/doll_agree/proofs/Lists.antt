-- Lists: what holds of each element, and where an element comes from.
use Rattle.std.proofs.Common.{◌≡◌, zero, suc, List, [], ◌∷◌, ◌++◌, map, ⊎_elim, refl, sym, subst, arith}
use Rattle.std.specs.List.{AllByRecursion, Contains, flat_map}
use Rattle.std.proofs.lemmas.List.Concat.{flat_map_single}
use Rattle.std.proofs.lemmas.List.Elements.{Contains-append_cases, Contains-append_left, Contains-append_right}

-- ---- each element

pub each_of : {X : Type 0} (P : X → Type 0) (xs : List X) → ((x : X) → Contains xs x → P x) → AllByRecursion P xs
each_of P [] all = tt
each_of P (x ∷ xs) all = (all x (0, omega arith, refl), each_of P xs (λ y h. all y (suc h.0, omega (arith, h.1), h.2)))

pub of_each : {X : Type 0} (P : X → Type 0) (xs : List X) (x : X) → AllByRecursion P xs → Contains xs x → P x
of_each P [] x all h = absurd (omega (arith, h.1))
of_each P (y ∷ xs) x all (zero, within, is) = subst P is all.0
of_each P (y ∷ xs) x all (suc k, within, is) = of_each P xs x all.1 (k, omega (arith, within), is)

pub front : {X : Type 0} (P : X → Type 0) (xs ys : List X) → AllByRecursion P (xs ++ ys) → AllByRecursion P xs
front P [] ys all = tt
front P (x ∷ xs) ys all = (all.0, front P xs ys all.1)

pub back : {X : Type 0} (P : X → Type 0) (xs ys : List X) → AllByRecursion P (xs ++ ys) → AllByRecursion P ys
back P [] ys all = all
back P (x ∷ xs) ys all = back P xs ys all.1

pub each_then : {X : Type 0} (P Q : X → Type 0) → ((x : X) → P x → Q x) → (xs : List X) → AllByRecursion P xs → AllByRecursion Q xs
each_then P Q go [] all = tt
each_then P Q go (x ∷ xs) all = (go x all.0, each_then P Q go xs all.1)

pub each_mapped : {X Y : Type 0} (P : Y → Type 0) (go : X → Y) (xs : List X) → AllByRecursion P (map go xs) → AllByRecursion (λ x. P (go x)) xs
each_mapped P go [] all = tt
each_mapped P go (x ∷ xs) all = (all.0, each_mapped P go xs all.1)

-- ---- where an element comes from

pub none_among : {X : Type 0} {C : Type 0} (x : X) → Contains [] x → C
none_among x h = absurd (omega (arith, h.1))

pub first_is : {X : Type 0} (x : X) (xs : List X) → Contains (x ∷ xs) x
first_is x xs = (0, omega arith, refl)

pub only_is : {X : Type 0} (x y : X) → Contains (x ∷ []) y → y ≡ x
only_is x y (zero, within, same) = sym same
only_is x y (suc k, within, same) = absurd (omega (arith, within))

pub from_flat : {F X : Type 0} (go : F → List X) (xs : List F) (one : X) → Contains (flat_map go xs) one → (f : F) × Contains xs f × Contains (go f) one
from_flat go [] one h = none_among one h
from_flat go (f ∷ xs) one h =
    ⊎_elim (λ here. (f, first_is f xs, here))
    (λ later. let more = from_flat go xs one later in (more.0, Contains-append_right (f ∷ []) xs more.0 more.1, more.2))
    (Contains-append_cases (go f) (flat_map go xs) one h)

pub into_flat : {F X : Type 0} (go : F → List X) (xs : List F) (f : F) (one : X) → Contains xs f → Contains (go f) one → Contains (flat_map go xs) one
into_flat go [] f one among there = none_among f among
into_flat go (x ∷ xs) f one among there =
    ⊎_elim (λ is. Contains-append_left (go x) (flat_map go xs) one (subst (λ y. Contains (go y) one) (only_is x f is) there))
    (λ more. Contains-append_right (go x) (flat_map go xs) one (into_flat go xs f one more there))
    (Contains-append_cases (x ∷ []) xs f among)

pub from_map : {F X : Type 0} (go : F → X) (xs : List F) (one : X) → Contains (map go xs) one → (f : F) × Contains xs f × (one ≡ go f)
from_map go xs one h =
    let found = from_flat (λ x. go x ∷ []) xs one (subst (λ ys. Contains ys one) (sym (flat_map_single go xs)) h) in
    (found.0, found.1, only_is (go found.0) one found.2)
