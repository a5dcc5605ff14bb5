-- What a map of slots in slots has under each number, and after a change.
use Rattle.std.proofs.Common.{◌≡◌, ℕ, zero, suc, ◌*◌, ◌/◌, ◌%◌, ◌≤◌, Bool, true, false, cond, ◌&&◌, List, [], length, Option, Some, None, eqb, ltb, refl, sym, ◌∙◌, ap, arith}
use Rattle.std.specs.Prelude.{option_and_then}
use Rattle.std.specs.Option.{option_map_or}
use Rattle.std.specs.Ordering.{nat_cmp, eq_by_cmp}
use Rattle.std.specs.Cmp.{nat_cmp_total}
use Rattle.std.specs.FinMap as finite
use Rattle.std.proofs.lemmas.Option.{slice_get_past}
use Rattle.std.proofs.lemmas.Bool.Decides.{nat_tests}
use Rattle.doll_pages.specs.Slots.{slot, edited}
use Rattle.doll_pages.specs.Maps.{with_option, altered, map_below, under, Root, path, found, map_of}
use Rattle.doll_pages.proofs.Slotted.{slot-edited}

pub is_test : (a b : ℕ) → eq_by_cmp nat_cmp a b ≡ eqb a b
is_test a b = grind (arith, nat_tests)

is_same : (a : ℕ) → eqb a a ≡ true
is_same a = grind (arith, nat_tests)

differ : {a b : ℕ} → eqb a b ≡ false → a ≡ b → ⊥
differ {a} {b} h e = grind (arith, nat_tests)

same_number : (a b : ℕ) → eqb a b ≡ true → a ≡ b
same_number a b h = grind (arith, nat_tests)

module _ {A : Type 0} where
  pub get-with_option : (map : finite.FinMap nat_cmp A) (key : ℕ) (o : Option A) (q : ℕ) → finite.get (with_option map key o) q ≡ cond (eqb q key) o (finite.get map q)
  get-with_option map key None q = finite.get-remove nat_cmp_total map key q ∙ ap (λ b. cond b None (finite.get map q)) (is_test q key)
  get-with_option map key (Some value) q = finite.get-insert nat_cmp_total map key value q ∙ ap (λ b. cond b (Some value) (finite.get map q)) (is_test q key)

  get-map_below : (value : ℕ → Option A) (bound q : ℕ) → finite.get (map_below value bound) q ≡ cond (ltb q bound) (value q) None
  unfolding map_below
  get-map_below value zero q = let none : ltb q 0 ≡ false = grind (arith, nat_tests) in rw none (finite.get-empty nat_cmp q)
  get-map_below value (suc bound) q =
      get-with_option (map_below value bound) bound (value bound) q
      ∙ (ap (cond (eqb q bound) (value bound)) (get-map_below value bound q) ∙ by_test (eqb q bound) refl)
    where
      by_test : (b : Bool) → eqb q bound ≡ b → cond b (value bound) (cond (ltb q bound) (value q) None) ≡ cond (ltb q (suc bound)) (value q) None
      by_test true t = let same : q ≡ bound = same_number q bound t in rw same (let less : ltb bound (suc bound) ≡ true = grind (arith, nat_tests) in rw less refl)
      by_test false t = let same : ltb q bound ≡ ltb q (suc bound) = grind (arith, nat_tests, t) in rw same refl

  found_past : (root : Root A) (q : ℕ) → length root * 16384 ≤ q → found root q ≡ None
  found_past root q h = ap (option_and_then (λ part. under (under slot) part (path q).1)) (ap (option_and_then (λ value. value)) (slice_get_past root (q / 16384) (omega arith)))

  -- what stands under a number in the map of slots in slots
  pub get-map_of : (root : Root A) (q : ℕ) → finite.get (map_of root) q ≡ found root q
  get-map_of root q = get-map_below (found root) (length root * 16384) q ∙ by_test (ltb q (length root * 16384)) refl
    where
      by_test : (b : Bool) → ltb q (length root * 16384) ≡ b → cond b (found root q) None ≡ found root q
      by_test true t = refl
      by_test false t = sym (found_past root q (grind (arith, nat_tests, t)))

  pub map_of_none : map_of {A = A} [] ≡ finite.empty
  unfolding map_below
  map_of_none = refl

-- the slots in a slot, of which an empty one has none
abbrev pub slots_in : {A : Type 0} → Option (List (Option A)) → List (Option A)
slots_in slots = option_map_or (λ part. part) slots []

-- a change of slots in a slot
abbrev pub below : {A : Type 0} → ℕ → (Option A → Option A) → Option (List (Option A)) → Option (List (Option A))
below at change slots = Some (edited (slots_in slots) at change)

-- a change of a part changes what stands under one key of it
abbrev Changes : {A B K : Type 0} → (A → K → Option B) → (K → Bool) → K → (Option B → Option B) → (Option A → Option A) → Type 0
Changes {A} {B} {K} look same key f change = (part : Option A) (q : K) → option_and_then (λ p. look p q) (change part) ≡ cond (same q) (f (option_and_then (λ p. look p key) part)) (option_and_then (λ p. look p q) part)

module _ {A : Type 0} where
  page_changes : (at : ℕ) (f : Option A → Option A) → Changes slot (λ q. eqb q at) at f (below at f)
  page_changes at f None q = slot-edited [] at f q
  page_changes at f (Some slots) q = slot-edited slots at f q

module _ {A B K : Type 0} (look : A → K → Option B) (same : K → Bool) (key : K) (f : Option B → Option B) (change : Option A → Option A) (changes : Changes look same key f change) (at : ℕ) where
  under_edited : (parts : List (Option A)) (q : ℕ × K) → under look (edited parts at change) q ≡ cond (eqb q.0 at && same q.1) (f (under look parts (at, key))) (under look parts q)
  under_edited parts q = ap (option_and_then (λ p. look p q.1)) (slot-edited parts at change q.0) ∙ by_test (eqb q.0 at) refl
    where
      by_test : (b : Bool) → eqb q.0 at ≡ b → option_and_then (λ p. look p q.1) (cond b (change (slot parts at)) (slot parts q.0)) ≡ cond (b && same q.1) (f (under look parts (at, key))) (under look parts q)
      by_test true t = changes (slot parts at) q.1 ∙ ap (λ n. cond (same q.1) (f (under look parts (at, key))) (option_and_then (λ p. look p q.1) (slot parts n))) (sym (same_number q.0 at t))
      by_test false t = refl

  below_changes : Changes (under look) (λ q. eqb q.0 at && same q.1) (at, key) f (below at change)
  below_changes None q = under_edited [] q
  below_changes (Some parts) q = under_edited parts q

same_parts : (q id : ℕ) → q / 16384 ≡ id / 16384 → q / 256 % 64 ≡ id / 256 % 64 → q / 16 % 16 ≡ id / 16 % 16 → q % 16 ≡ id % 16 → q ≡ id
same_parts q id a b c d = omega arith

-- whether two numbers have the same path
abbrev alike : ℕ → ℕ → Bool
alike q id = eqb (q / 16384) (id / 16384) && (eqb (q / 256 % 64) (id / 256 % 64) && (eqb (q / 16 % 16) (id / 16 % 16) && eqb (q % 16) (id % 16)))

same_path : (q id : ℕ) → alike q id ≡ eqb q id
same_path q id = by_test (eqb q id) refl
  where
    all : (a b c d : Bool) → (a ≡ true → b ≡ true → c ≡ true → d ≡ true → ⊥) → (a && (b && (c && d))) ≡ false
    all true true true true h = absurd (h refl refl refl refl)
    all true true true false h = refl
    all true true false d h = refl
    all true false c d h = refl
    all false b c d h = refl

    by_test : (b : Bool) → eqb q id ≡ b → alike q id ≡ b
    by_test true t = rw (same_number q id t, is_same (id / 16384), is_same (id / 256 % 64), is_same (id / 16 % 16), is_same (id % 16)) refl
    by_test false t =
        all (eqb (q / 16384) (id / 16384)) (eqb (q / 256 % 64) (id / 256 % 64)) (eqb (q / 16 % 16) (id / 16 % 16)) (eqb (q % 16) (id % 16))
        (λ a b c d. differ t (same_parts q id (same_number (q / 16384) (id / 16384) a) (same_number (q / 256 % 64) (id / 256 % 64) b) (same_number (q / 16 % 16) (id / 16 % 16) c) (same_number (q % 16) (id % 16) d)))

module _ {A : Type 0} (id : ℕ) (f : Option A → Option A) where
  -- the change of the outermost slot that changes what stands under a number
  abbrev pub on_path : Option (List (Option (List (Option (List (Option A)))))) → Option (List (Option (List (Option (List (Option A))))))
  on_path = below (id / 256 % 64) (below (id / 16 % 16) (below (id % 16) f))

  pub found_edited : (root : Root A) (q : ℕ) → found (edited root (id / 16384) on_path) q ≡ cond (eqb q id) (f (found root id)) (found root q)
  found_edited root q =
      let page = page_changes (id % 16) f in
      let third = below_changes slot (λ n. eqb n (id % 16)) (id % 16) f (below (id % 16) f) page (id / 16 % 16) in
      let second = below_changes (under slot) (λ n. eqb n.0 (id / 16 % 16) && eqb n.1 (id % 16)) (id / 16 % 16, id % 16) f (below (id / 16 % 16) (below (id % 16) f)) third (id / 256 % 64) in
      under_edited (under (under slot)) (λ n. eqb n.0 (id / 256 % 64) && (eqb n.1.0 (id / 16 % 16) && eqb n.1.1 (id % 16))) (path id).1 f on_path second (id / 16384) root (path q)
      ∙ ap (λ b. cond b (f (found root id)) (found root q)) (same_path q id)

  -- such a change as one of the map
  pub map_edited : (root : Root A) → map_of (edited root (id / 16384) on_path) ≡ altered (map_of root) id f
  map_edited root =
      finite.same_map nat_cmp_total finite.nat_cmp-IsAntisymmetric (map_of (edited root (id / 16384) on_path)) (altered (map_of root) id f)
      (λ q. get-map_of (edited root (id / 16384) on_path) q
      ∙ (found_edited root q
      ∙ sym (get-with_option (map_of root) id (f (finite.get (map_of root) id)) q
      ∙ (ap (λ o. cond (eqb q id) (f o) (finite.get (map_of root) q)) (get-map_of root id) ∙ ap (cond (eqb q id) (f (found root id))) (get-map_of root q)))))

  pub map_changed : (root new : Root A) (map : finite.FinMap nat_cmp A) → map_of root ≡ map → new ≡ edited root (id / 16384) on_path → map_of new ≡ altered map id f
  map_changed root new map is made = ap map_of made ∙ (map_edited root ∙ ap (λ m. altered m id f) is)

-- what is found on the way to a number
module _ {A : Type 0} (root : Root A) (map : finite.FinMap nat_cmp A) (id : ℕ) (is : map_of root ≡ map) where
  got : finite.get map id ≡ found root id
  got = ap (λ m. finite.get m id) (sym is) ∙ get-map_of root id

  pub none_first : None ≡ slot root (id / 16384) → None ≡ finite.get map id
  none_first a = sym (got ∙ ap (option_and_then (λ part. under (under slot) part (path id).1)) (sym a))

  pub none_second : (first : List (Option (List (Option (List (Option A)))))) → Some first ≡ slot root (id / 16384) → None ≡ slot first (id / 256 % 64) → None ≡ finite.get map id
  none_second first a b = sym (got ∙ (ap (option_and_then (λ part. under (under slot) part (path id).1)) (sym a) ∙ ap (option_and_then (λ part. under slot part (path id).1.1)) (sym b)))

  pub none_third : (first : List (Option (List (Option (List (Option A)))))) (second : List (Option (List (Option A)))) → Some first ≡ slot root (id / 16384) → Some second ≡ slot first (id / 256 % 64) → None ≡ slot second (id / 16 % 16) → None ≡ finite.get map id
  none_third first second a b d = sym (got ∙ (ap (option_and_then (λ part. under (under slot) part (path id).1)) (sym a) ∙ (ap (option_and_then (λ part. under slot part (path id).1.1)) (sym b) ∙ ap (option_and_then (λ part. slot part (id % 16))) (sym d))))

  pub some_page : (first : List (Option (List (Option (List (Option A)))))) (second : List (Option (List (Option A)))) (page : List (Option A)) → Some first ≡ slot root (id / 16384) → Some second ≡ slot first (id / 256 % 64) → Some page ≡ slot second (id / 16 % 16) → slot page (id % 16) ≡ finite.get map id
  some_page first second page a b d = sym (got ∙ (ap (option_and_then (λ part. under (under slot) part (path id).1)) (sym a) ∙ (ap (option_and_then (λ part. under slot part (path id).1.1)) (sym b) ∙ ap (option_and_then (λ part. slot part (id % 16))) (sym d))))

-- what stands under a key of a map in a slot, once something in that slot changed
module _ {A : Type 0} (parts : List (Option (finite.FinMap nat_cmp A))) (at key : ℕ) (f : Option A → Option A) where
  abbrev in_map : Option (finite.FinMap nat_cmp A) → Option (finite.FinMap nat_cmp A)
  in_map map = Some (altered (option_map_or (λ m. m) map finite.empty) key f)

  map_changes : Changes finite.get (λ q. eqb q key) key f in_map
  map_changes None q =
      get-with_option finite.empty key (f (finite.get finite.empty key)) q
      ∙ (ap (λ o. cond (eqb q key) (f o) (finite.get {R = nat_cmp} finite.empty q)) (finite.get-empty nat_cmp key) ∙ ap (cond (eqb q key) (f None)) (finite.get-empty nat_cmp q))
  map_changes (Some map) q = get-with_option map key (f (finite.get map key)) q

  pub under_in_map : (q : ℕ × ℕ) → under finite.get (edited parts at in_map) q ≡ cond (eqb q.0 at && eqb q.1 key) (f (under finite.get parts (at, key))) (under finite.get parts q)
  under_in_map q = under_edited finite.get (λ n. eqb n key) key f in_map map_changes at parts q
