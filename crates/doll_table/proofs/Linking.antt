-- Which links a record has, place by place.
use Rattle.std.proofs.Common.{◌≡◌, ℕ, ◌+◌, ◌<◌, ◌≤◌, Bool, true, false, not, cond, ◌&&◌, ◌||◌, List, length, get_or, Option, Some, None, is_some, eqb, ltb, refl, sym, ◌∙◌, ap, arith, ◌⊎◌, inl, inr}
use Rattle.std.specs.Prelude.{slice_get}
use Rattle.std.specs.Option.{option_and_then, option_map_or}
use Rattle.std.specs.Ordering.{nat_cmp}
use Rattle.std.specs.Cmp.{nat_cmp_total}
use Rattle.std.specs.FinMap as finite
use Rattle.std.proofs.lemmas.Option.{slice_get-get_or, slice_get_past}
use Rattle.std.proofs.lemmas.Bool.{cases_order, lt-ltb, le-ltb, eq-eqb, ne_eqb}
use Rattle.std.proofs.lemmas.Bool.Decides.{nat_tests}
use Rattle.doll_schema.specs.declared.value.Row.{Row}
use Rattle.doll_pages.specs.Slots.{edited}
use Rattle.doll_pages.specs.Maps.{altered, under}
use Rattle.doll_pages.proofs.Mapped.{under_in_map}
use Rattle.doll_table.specs.Ids.{IdSet, with_id, without_id, has_id}
use Rattle.doll_table.specs.Tables.{names_parent}
use Rattle.doll_table.specs.Links.{LinkMaps, linked, more_linked, less_linked, HasMore, HasLess}
use Rattle.doll_table.proofs.Ascending.{is_test}

-- whether a number is a record's, and a place and a parent are those of one of its first links
abbrev pub is_early : Row → ℕ → ℕ → ℕ → ℕ → ℕ → Bool
is_early row id i place parent child = eqb child id && (ltb place i && names_parent place parent row)

turned : (a b : ℕ) → eqb a b ≡ eqb b a
turned a b = grind (arith, nat_tests)

equal_from : (a b : ℕ) → eqb a b ≡ true → a ≡ b
equal_from a b h = grind (arith, nat_tests)

-- the associations before the next one
nil_step : (c h : Bool) (a i : ℕ) → (a ≡ i → h ≡ false) → (c && (ltb a (i + 1) && h)) ≡ (c && (ltb a i && h))
nil_step c h a i here = by_order (cases_order a i)
  where
    by_order : (a ≡ i) ⊎ ((a < i) ⊎ (i < a)) → (c && (ltb a (i + 1) && h)) ≡ (c && (ltb a i && h))
    by_order (inl e) = rw (lt-ltb a (i + 1) (omega arith), le-ltb a i (omega arith), here e) refl
    by_order (inr (inl less)) = rw (lt-ltb a (i + 1) (omega arith), lt-ltb a i less) refl
    by_order (inr (inr more)) = rw (le-ltb a (i + 1) (omega arith), le-ltb a i (omega arith)) refl

more_step : (c h d : Bool) (a i : ℕ) → (a ≡ i → h ≡ d) → (c && (ltb a (i + 1) && h)) ≡ ((c && (eqb a i && d)) || (c && (ltb a i && h)))
more_step true h d a i here = by_order (cases_order a i)
  where
    or_none : (b : Bool) → b ≡ (b || false)
    or_none true = refl
    or_none false = refl

    by_order : (a ≡ i) ⊎ ((a < i) ⊎ (i < a)) → (ltb a (i + 1) && h) ≡ ((eqb a i && d) || (ltb a i && h))
    by_order (inl e) = rw (lt-ltb a (i + 1) (omega arith), le-ltb a i (omega arith), eq-eqb a i e, here e) (or_none d)
    by_order (inr (inl less)) = rw (lt-ltb a (i + 1) (omega arith), lt-ltb a i less, ne_eqb a i (omega arith)) refl
    by_order (inr (inr more)) = rw (le-ltb a (i + 1) (omega arith), le-ltb a i (omega arith), ne_eqb a i (omega arith)) refl
more_step false h d a i here = refl

all_step : (c h : Bool) (a i : ℕ) → (i ≤ a → h ≡ false) → (c && (ltb a i && h)) ≡ (c && h)
all_step c h a i past = by_order (cases_order a i)
  where
    by_order : (a ≡ i) ⊎ ((a < i) ⊎ (i < a)) → (c && (ltb a i && h)) ≡ (c && h)
    by_order (inl e) = rw (le-ltb a i (omega arith), past (omega arith)) refl
    by_order (inr (inl less)) = rw (lt-ltb a i less) refl
    by_order (inr (inr more)) = rw (le-ltb a i (omega arith), past (omega arith)) refl

-- whether a record has a link at a place, by its key there
pub names_at : (row : Row) (place parent i : ℕ) (key : Option ℕ) → slice_get row.parents i ≡ Some key → place ≡ i → names_parent place parent row ≡ option_map_or (λ k. eqb k parent) key false
names_at row place parent i key e same = ap (λ n. names_parent n parent row) same ∙ ap (λ o. option_map_or (λ k. eqb k parent) (option_and_then (λ k. k) o) false) e

pub early_none : (row : Row) (id place parent child : ℕ) → is_early row id 0 place parent child ≡ false
early_none row id place parent child = rw (le-ltb place 0 (omega arith)) (both_false (eqb child id))
  where
    both_false : (a : Bool) → (a && false) ≡ false
    both_false true = refl
    both_false false = refl

pub early_nil : (row : Row) (id i place parent child : ℕ) → slice_get row.parents i ≡ Some None → is_early row id (i + 1) place parent child ≡ is_early row id i place parent child
early_nil row id i place parent child e = nil_step (eqb child id) (names_parent place parent row) place i (names_at row place parent i None e)

pub early_more : (row : Row) (id i key place parent child : ℕ) → slice_get row.parents i ≡ Some (Some key) → is_early row id (i + 1) place parent child ≡ ((eqb child id && (eqb place i && eqb parent key)) || is_early row id i place parent child)
early_more row id i key place parent child e =
    more_step (eqb child id) (names_parent place parent row) (eqb key parent) place i (names_at row place parent i (Some key) e)
    ∙ ap (λ b. (eqb child id && (eqb place i && b)) || is_early row id i place parent child) (turned key parent)

pub early_all : (row : Row) (id i place parent child : ℕ) → length row.parents ≤ i → is_early row id i place parent child ≡ (eqb child id && names_parent place parent row)
early_all row id i place parent child h =
    all_step (eqb child id) (names_parent place parent row) place i
    (λ past. ap (λ o. option_map_or (λ k. eqb k parent) (option_and_then (λ k. k) o) false) (slice_get_past row.parents place (omega arith)))

-- a key that was read in a slice of a row's keys
pub read_at : (xs ys : List (Option ℕ)) (i : ℕ) (key : Option ℕ) → xs ≡ ys → i < length xs → get_or xs i None ≡ key → slice_get ys i ≡ Some key
read_at xs ys i key e l is = rw (← e) (slice_get-get_or xs i None l ∙ ap Some is)

-- the members of a set with one more, and with one less
pub has-with : (set : IdSet) (id child : ℕ) → has_id (with_id set id) child ≡ (eqb child id || has_id set child)
has-with set id child = ap is_some (finite.get-insert nat_cmp_total set id tt child) ∙ (ap (λ b. is_some (cond b (Some tt) (finite.get set child))) (is_test child id) ∙ by_test (eqb child id))
  where
    by_test : (b : Bool) → is_some (cond b (Some tt) (finite.get set child)) ≡ (b || has_id set child)
    by_test true = refl
    by_test false = refl

pub has-without : (set : IdSet) (id child : ℕ) → has_id (without_id set id) child ≡ (not (eqb child id) && has_id set child)
has-without set id child = ap is_some (finite.get-remove nat_cmp_total set id child) ∙ (ap (λ b. is_some (cond b None (finite.get set child))) (is_test child id) ∙ by_test (eqb child id))
  where
    by_test : (b : Bool) → is_some (cond b None (finite.get set child)) ≡ (not b && has_id set child)
    by_test true = refl
    by_test false = refl

pub has-none : (child : ℕ) → has_id finite.empty child ≡ false
has-none child = ap is_some (finite.get-empty nat_cmp child)

abbrev pub set_in : Option IdSet → IdSet
set_in ids = option_map_or (λ set. set) ids finite.empty

has-more : (ids : Option IdSet) (id child : ℕ) → has_id (set_in (more_linked id ids)) child ≡ (eqb child id || has_id (set_in ids) child)
has-more ids id child = has-with (set_in ids) id child

has-less : (ids : Option IdSet) (id child : ℕ) → has_id (set_in (less_linked id ids)) child ≡ (not (eqb child id) && has_id (set_in ids) child)
has-less None id child = rw (has-none child) (none (not (eqb child id)))
  where
    none : (b : Bool) → false ≡ (b && false)
    none true = refl
    none false = refl
has-less (Some set) id child = has-without set id child

-- the links after a change of a parent's children at a place
module _ (links after : LinkMaps) (at key id : ℕ) where
  -- one child more
  pub linked_more : after ≡ edited links at (λ map. Some (altered (option_map_or (λ m. m) map finite.empty) key (more_linked id))) → (place parent child : ℕ) → has_id (linked after place parent) child ≡ (has_id (linked links place parent) child || (eqb child id && (eqb place at && eqb parent key)))
  linked_more made place parent child =
      ap (λ ls. has_id (linked ls place parent) child) made
      ∙ (ap (λ ids. has_id (set_in ids) child) (under_in_map links at key (more_linked id) (place, parent))
      ∙ by_tests (eqb place at) (eqb parent key) refl refl)
    where
      or_and : (a b : Bool) → (b || a) ≡ (a || (b && true))
      or_and true true = refl
      or_and true false = refl
      or_and false true = refl
      or_and false false = refl

      or_none : (a b : Bool) → a ≡ (a || (b && false))
      or_none true b = refl
      or_none false true = refl
      or_none false false = refl

      by_tests : (a b : Bool) → eqb place at ≡ a → eqb parent key ≡ b → has_id (set_in (cond (a && b) (more_linked id (under finite.get links (at, key))) (under finite.get links (place, parent)))) child ≡ (has_id (linked links place parent) child || (eqb child id && (a && b)))
      by_tests true true p q = has-more (under finite.get links (at, key)) id child ∙ (ap (λ n. eqb child id || has_id (linked links n key) child) (sym (equal_from place at p)) ∙ (ap (λ n. eqb child id || has_id (linked links place n) child) (sym (equal_from parent key q)) ∙ or_and (has_id (linked links place parent) child) (eqb child id)))
      by_tests true false p q = or_none (has_id (linked links place parent) child) (eqb child id)
      by_tests false b p q = or_none (has_id (linked links place parent) child) (eqb child id)

  -- one child less
  pub linked_less : after ≡ edited links at (λ map. Some (altered (option_map_or (λ m. m) map finite.empty) key (less_linked id))) → (place parent child : ℕ) → has_id (linked after place parent) child ≡ (has_id (linked links place parent) child && not (eqb child id && (eqb place at && eqb parent key)))
  linked_less made place parent child =
      ap (λ ls. has_id (linked ls place parent) child) made
      ∙ (ap (λ ids. has_id (set_in ids) child) (under_in_map links at key (less_linked id) (place, parent))
      ∙ by_tests (eqb place at) (eqb parent key) refl refl)
    where
      and_not : (a b : Bool) → (not b && a) ≡ (a && not (b && true))
      and_not true true = refl
      and_not true false = refl
      and_not false true = refl
      and_not false false = refl

      and_all : (a b : Bool) → a ≡ (a && not (b && false))
      and_all true true = refl
      and_all true false = refl
      and_all false b = refl

      by_tests : (a b : Bool) → eqb place at ≡ a → eqb parent key ≡ b → has_id (set_in (cond (a && b) (less_linked id (under finite.get links (at, key))) (under finite.get links (place, parent)))) child ≡ (has_id (linked links place parent) child && not (eqb child id && (a && b)))
      by_tests true true p q = has-less (under finite.get links (at, key)) id child ∙ (ap (λ n. not (eqb child id) && has_id (linked links n key) child) (sym (equal_from place at p)) ∙ (ap (λ n. not (eqb child id) && has_id (linked links place n) child) (sym (equal_from parent key q)) ∙ and_not (has_id (linked links place parent) child) (eqb child id)))
      by_tests true false p q = and_all (has_id (linked links place parent) child) (eqb child id)
      by_tests false b p q = and_all (has_id (linked links place parent) child) (eqb child id)

-- the step of a loop that adds links, and of one that takes them away
pub link_step : (now before first : Bool) (step early later : Bool) → now ≡ (before || step) → before ≡ (first || early) → later ≡ (step || early) → now ≡ (first || later)
link_step now before first step early later a b d = a ∙ rw (b, d) (swap first early step)
  where
    swap : (x y z : Bool) → ((x || y) || z) ≡ (x || (z || y))
    swap true y z = refl
    swap false true true = refl
    swap false true false = refl
    swap false false true = refl
    swap false false false = refl

pub unlink_step : (now before first : Bool) (step early later : Bool) → now ≡ (before && not step) → before ≡ (first && not early) → later ≡ (step || early) → now ≡ (first && not later)
unlink_step now before first step early later a b d = a ∙ rw (b, d) (swap first early step)
  where
    swap : (x y z : Bool) → ((x && not y) && not z) ≡ (x && not (z || y))
    swap true true true = refl
    swap true true false = refl
    swap true false true = refl
    swap true false false = refl
    swap false y z = refl

-- a loop over the places of a row, from the links that it began with: one step, a step at a place without a parent, and the end
module _ (first before after : LinkMaps) (row : Row) (id i : ℕ) where
  abbrev pub More : LinkMaps → ℕ → Type 0
  More links n = (place parent child : ℕ) → has_id (linked links place parent) child ≡ (has_id (linked first place parent) child || is_early row id n place parent child)

  abbrev pub Less : LinkMaps → ℕ → Type 0
  Less links n = (place parent child : ℕ) → has_id (linked links place parent) child ≡ (has_id (linked first place parent) child && not (is_early row id n place parent child))

  pub more_place : (key : ℕ) → slice_get row.parents i ≡ Some (Some key) → after ≡ edited before i (λ map. Some (altered (option_map_or (λ m. m) map finite.empty) key (more_linked id))) → More before i → More after (i + 1)
  more_place key at made so place parent child =
      link_step (has_id (linked after place parent) child) (has_id (linked before place parent) child) (has_id (linked first place parent) child)
      (eqb child id && (eqb place i && eqb parent key)) (is_early row id i place parent child) (is_early row id (i + 1) place parent child)
      (linked_more before after i key id made place parent child) (so place parent child) (early_more row id i key place parent child at)

  pub less_place : (key : ℕ) → slice_get row.parents i ≡ Some (Some key) → after ≡ edited before i (λ map. Some (altered (option_map_or (λ m. m) map finite.empty) key (less_linked id))) → Less before i → Less after (i + 1)
  less_place key at made so place parent child =
      unlink_step (has_id (linked after place parent) child) (has_id (linked before place parent) child) (has_id (linked first place parent) child)
      (eqb child id && (eqb place i && eqb parent key)) (is_early row id i place parent child) (is_early row id (i + 1) place parent child)
      (linked_less before after i key id made place parent child) (so place parent child) (early_more row id i key place parent child at)

  pub more_nil : slice_get row.parents i ≡ Some None → after ≡ before → More before i → More after (i + 1)
  more_nil at same so place parent child =
      ap (λ ls. has_id (linked ls place parent) child) same ∙ (so place parent child ∙ ap (λ b. has_id (linked first place parent) child || b) (sym (early_nil row id i place parent child at)))

  pub less_nil : slice_get row.parents i ≡ Some None → after ≡ before → Less before i → Less after (i + 1)
  less_nil at same so place parent child =
      ap (λ ls. has_id (linked ls place parent) child) same ∙ (so place parent child ∙ ap (λ b. has_id (linked first place parent) child && not b) (sym (early_nil row id i place parent child at)))

  pub more_all : length row.parents ≤ i → More before i → HasMore first before row id
  more_all past so place parent child = so place parent child ∙ ap (λ b. has_id (linked first place parent) child || b) (early_all row id i place parent child past)

  pub less_all : length row.parents ≤ i → Less before i → HasLess first before row id
  less_all past so place parent child = so place parent child ∙ ap (λ b. has_id (linked first place parent) child && not b) (early_all row id i place parent child past)

-- whether a place and a parent are those of the one link found so far
abbrev pub is_sole : Option (ℕ × ℕ) → ℕ → ℕ → Bool
is_sole found place parent = option_map_or (λ (sole : ℕ × ℕ). eqb place sole.0 && eqb parent sole.1) found false

-- the one link found among a row's first places is the one that is there
abbrev pub IsSole : Row → ℕ → Option (ℕ × ℕ) → Type 0
IsSole row i found = (place parent : ℕ) → is_early row 0 i place parent 0 ≡ is_sole found place parent

pub sole_none : (row : Row) → IsSole row 0 None
sole_none row place parent = early_none row 0 place parent 0

pub sole_nil : (row : Row) (i : ℕ) (found now : Option (ℕ × ℕ)) → slice_get row.parents i ≡ Some None → now ≡ found → IsSole row i found → IsSole row (i + 1) now
sole_nil row i found now at same so place parent = early_nil row 0 i place parent 0 at ∙ (so place parent ∙ ap (λ o. is_sole o place parent) (sym same))

pub sole_more : (row : Row) (i key : ℕ) (now : Option (ℕ × ℕ)) → slice_get row.parents i ≡ Some (Some key) → now ≡ Some (i, key) → IsSole row i None → IsSole row (i + 1) now
sole_more row i key now at is so place parent =
    early_more row 0 i key place parent 0 at ∙ (ap (λ b. (eqb place i && eqb parent key) || b) (so place parent) ∙ (or_false (eqb place i && eqb parent key) ∙ ap (λ o. is_sole o place parent) (sym is)))
  where
    or_false : (b : Bool) → (b || false) ≡ b
    or_false true = refl
    or_false false = refl

pub sole_all : (row : Row) (i : ℕ) (sole : ℕ × ℕ) → length row.parents ≤ i → IsSole row i (Some sole) → (place parent : ℕ) → names_parent place parent row ≡ (eqb place sole.0 && eqb parent sole.1)
sole_all row i sole past so place parent = sym (early_all row 0 i place parent 0 past) ∙ so place parent

-- a row's one link added, and taken away
pub sole_gained : (links after : LinkMaps) (row : Row) (at key id : ℕ) → ((place parent : ℕ) → names_parent place parent row ≡ (eqb place at && eqb parent key)) → after ≡ edited links at (λ map. Some (altered (option_map_or (λ m. m) map finite.empty) key (more_linked id))) → HasMore links after row id
sole_gained links after row at key id sole made place parent child =
    linked_more links after at key id made place parent child ∙ ap (λ b. has_id (linked links place parent) child || (eqb child id && b)) (sym (sole place parent))

pub sole_lost : (links after : LinkMaps) (row : Row) (at key id : ℕ) → ((place parent : ℕ) → names_parent place parent row ≡ (eqb place at && eqb parent key)) → after ≡ edited links at (λ map. Some (altered (option_map_or (λ m. m) map finite.empty) key (less_linked id))) → HasLess links after row id
sole_lost links after row at key id sole made place parent child =
    linked_less links after at key id made place parent child ∙ ap (λ b. has_id (linked links place parent) child && not (eqb child id && b)) (sym (sole place parent))

-- links that lose those of a record's old row and gain those of its new one
pub links_moved : (links less more : LinkMaps) (old new : Row) (id : ℕ) → ((place parent : ℕ) → has_id (linked links place parent) id ≡ names_parent place parent old) → HasLess links less old id → HasMore less more new id
    → (place parent child : ℕ) → has_id (linked more place parent) child ≡ cond (eqb child id) (names_parent place parent new) (has_id (linked links place parent) child)
links_moved links less more old new id kept lost gained place parent child =
    gained place parent child ∙ (ap (λ b. b || (eqb child id && names_parent place parent new)) (lost place parent child) ∙ by_test (eqb child id) refl)
  where
    cleared : (a b : Bool) → ((a && not a) || b) ≡ b
    cleared true b = refl
    cleared false b = refl

    untouched : (a : Bool) → ((a && true) || false) ≡ a
    untouched true = refl
    untouched false = refl

    by_test : (t : Bool) → eqb child id ≡ t → ((has_id (linked links place parent) child && not (t && names_parent place parent old)) || (t && names_parent place parent new)) ≡ cond t (names_parent place parent new) (has_id (linked links place parent) child)
    by_test true t =
        ap (λ b. (b && not (names_parent place parent old)) || names_parent place parent new) (ap (λ c. has_id (linked links place parent) c) (equal_from child id t) ∙ kept place parent)
        ∙ cleared (names_parent place parent old) (names_parent place parent new)
    by_test false t = untouched (has_id (linked links place parent) child)
