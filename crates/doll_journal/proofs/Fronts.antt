-- Lists that are read from the front, of which the first items are made already.
use Rattle.std.proofs.Common.{◌≡◌, List, [], ◌∷◌, ◌++◌, Option, Some, None, refl, ap, append_assoc, sym}
use Rattle.std.specs.List.{AllByRecursion}
use Rattle.std.proofs.lemmas.List.{append-nil}
use Rattle.doll_journal.specs.Forms.{with_first}

-- what is made, and behind it what is still to come
unfoldable pub with_front : {X : Type 0} → List X → Option (List X) → Option (List X)
with_front front None = None
with_front front (Some rest) = Some (front ++ rest)

-- nothing is made yet
pub front_starts : {X : Type 0} (o : Option (List X)) → with_front [] o ≡ o
unfolding with_front
front_starts None = refl
front_starts (Some rest) = refl

-- the first of what is to come is made
pub front_grows : {X : Type 0} (front : List X) (x : X) (others : Option (List X)) → with_front front (with_first (Some x) others) ≡ with_front (front ++ x ∷ []) others
unfolding with_front
front_grows front x None = refl
front_grows front x (Some rest) = ap (λ xs. Some xs) (sym (append_assoc front (x ∷ []) rest))

-- what is to come can't be made
pub front_stops : {X : Type 0} (front : List X) → with_front front None ≡ None
unfolding with_front
front_stops front = refl

-- nothing is to come
pub front_ends : {X : Type 0} (front : List X) → with_front front (Some []) ≡ Some front
unfolding with_front
front_ends front = ap (λ xs. Some xs) (append-nil front)

-- what holds of each item made holds with one more
pub all_pushed : {X : Type 0} (P : X → Type 0) (xs : List X) (x : X) → AllByRecursion P xs → P x → AllByRecursion P (xs ++ x ∷ [])
all_pushed P [] x all one = (one, tt)
all_pushed P (y ∷ ys) x all one = (all.0, all_pushed P ys x all.1 one)
