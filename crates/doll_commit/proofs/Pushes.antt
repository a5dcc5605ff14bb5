-- Records added to others, some after some.
use Rattle.std.proofs.Common.{◌≡◌, ℕ, ◌+◌, ◌<◌, ◌≤◌, List, [], ◌∷◌, ◌++◌, length, get_or, take, refl, sym, ◌∙◌, ap, arith}
use Rattle.std.specs.List.{flat_map, zip}
use Rattle.std.proofs.lemmas.List.{append-nil, take_more, take_all}
use Rattle.std.proofs.lemmas.List.Concat.{flat_map-append}
use Rattle.std.proofs.lemmas.Slice.Zip.{length-zip, get_or-zip}
use Rattle.doll_commit.specs.Refs.{Ref, with_ref, with_refs}

pub with_refs_append : (xs ys zs : List Ref) → with_refs xs (ys ++ zs) ≡ with_refs (with_refs xs ys) zs
with_refs_append xs [] zs = refl
with_refs_append xs (y ∷ ys) zs = with_refs_append (with_ref xs y) ys zs

module _ {X : Type 0} (f : X → List Ref) where
  -- what a function gives at one element more
  pub pushed_more : (first refs more : List Ref) (xs : List X) (i : ℕ) (x : X) → i < length xs → get_or xs i x ≡ x → refs ≡ with_refs first (flat_map f (take i xs)) → more ≡ with_refs refs (f x) → more ≡ with_refs first (flat_map f (take (i + 1) xs))
  pushed_more first refs more xs i x l at before is =
      is
      ∙ (ap (λ ys. with_refs ys (f x)) before
      ∙ (sym (with_refs_append first (flat_map f (take i xs)) (f x))
      ∙ ap (with_refs first) (sym (ap (flat_map f) (take_more xs i x l ∙ ap (λ y. take i xs ++ y ∷ []) at) ∙ (flat_map-append f (take i xs) (x ∷ []) ∙ ap (λ ys. flat_map f (take i xs) ++ ys) (append-nil (f x)))))))

  pub pushed_all : (first refs : List Ref) (xs : List X) (i : ℕ) → length xs ≤ i → refs ≡ with_refs first (flat_map f (take i xs)) → refs ≡ with_refs first (flat_map f xs)
  pushed_all first refs xs i l is = is ∙ ap (λ ys. with_refs first (flat_map f ys)) (take_all i xs l)

-- and at one pair more of two lists
pub pushed_pair : {A B : Type 0} (f : A × B → List Ref) (first refs more : List Ref) (ks : List A) (vs : List B) (i : ℕ) (a : A) (b : B) → i < length ks → i < length vs → get_or ks i a ≡ a → get_or vs i b ≡ b → refs ≡ with_refs first (flat_map f (take i (zip ks vs))) → more ≡ with_refs refs (f (a, b)) → more ≡ with_refs first (flat_map f (take (i + 1) (zip ks vs)))
pushed_pair {A = A} {B = B} f first refs more ks vs i a b l m p q before is =
    pushed_more f first refs more (zip ks vs) i (a, b) (omega (arith, length-zip ks vs)) (get_or-zip ks vs i (a, b) l m ∙ pair) before is
  where
    pair : ◌≡◌ {A = A × B} (get_or ks i a, get_or vs i b) (a, b)
    pair j = (p j, q j)
