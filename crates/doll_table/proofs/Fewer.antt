-- Links where many rows go at once: what stays of them, row by row and place by place.
use Rattle.std.proofs.Common.{◌≡◌, ℕ, zero, suc, ◌+◌, ◌<◌, ◌≤◌, Bool, true, false, cond, ◌&&◌, ◌||◌, List, [], ◌∷◌, length, get_or, drop, Option, Some, None, is_some, eqb, refl, sym, ◌∙◌, ap, subst, arith, ◌⊎◌, inl, inr}
use Rattle.std.specs.Prelude.{slice_get, option_and_then}
use Rattle.std.specs.List.{list_any}
use Rattle.std.specs.Option.{option_map_or}
use Rattle.std.specs.Ordering.{nat_cmp}
use Rattle.std.specs.declared.cmp.Ordering.TheVariants.{Equal}
use Rattle.std.specs.Cmp.{nat_cmp_total}
use Rattle.std.specs.FinMap as finite
use Rattle.std.proofs.lemmas.Bool.{true≢false, cases_order, eq-eqb}
use Rattle.std.proofs.lemmas.Bool.Decides.{nat_tests}
use Rattle.std.proofs.lemmas.List.{drop_more}
use Rattle.std.proofs.lemmas.Option.{slice_get_past}
use Rattle.doll_schema.specs.declared.value.Row.{Row}
use Rattle.doll_pages.specs.Slots.{edited}
use Rattle.doll_pages.specs.Maps.{altered, under}
use Rattle.doll_pages.proofs.Mapped.{under_in_map}
use Rattle.doll_table.specs.Ids.{IdSet, has_id}
use Rattle.doll_table.specs.Tables.{names_parent, without_ids}
use Rattle.doll_table.specs.Links.{LinkMaps, linked, living_ids, living_linked, has_link, HasFewer, HasNone, HaveNone, AreKept}
use Rattle.doll_table.proofs.Ascending.{is_test}
use Rattle.doll_table.proofs.Linking.{names_at, set_in, has-none}

equal_from : (a b : ℕ) → eqb a b ≡ true → a ≡ b
equal_from a b h = grind (arith, nat_tests)

tied_from : (x y : ℕ) → nat_cmp x y ≡ Equal → x ≡ y
tied_from x y h = grind (arith, nat_tests)

-- whether an id is among some
abbrev pub among : List ℕ → ℕ → Bool
among ids id = list_any (λ (one : ℕ). eqb one id) ids

among_at : (ids : List ℕ) (i : ℕ) → i < length ids → among ids (get_or ids i 0) ≡ true
among_at [] i l = absurd (omega arith)
among_at (x ∷ ids) zero l = rw (eq-eqb x x refl) refl
among_at (x ∷ ids) (suc i) l = behind (eqb x (get_or ids i 0)) (among_at ids i (omega arith))
  where
    behind : (a : Bool) → among ids (get_or ids i 0) ≡ true → (a || among ids (get_or ids i 0)) ≡ true
    behind true h = refl
    behind false h = h

-- the row under an id once some are gone
pub get_left : (rows : finite.FinMap nat_cmp Row) (ids : List ℕ) (q : ℕ) → finite.get (without_ids rows ids) q ≡ cond (among ids q) None (finite.get rows q)
get_left rows [] q = refl
get_left rows (x ∷ ids) q =
    finite.get-remove nat_cmp_total (without_ids rows ids) x q
    ∙ (ap (λ b. cond b None (finite.get (without_ids rows ids) q)) (is_test q x ∙ turned q x) ∙ (ap (λ o. cond (eqb x q) None o) (get_left rows ids q) ∙ joined (eqb x q) (among ids q) (finite.get rows q)))
  where
    turned : (a b : ℕ) → eqb a b ≡ eqb b a
    turned a b = grind (arith, nat_tests)

    joined : (a b : Bool) (o : Option Row) → cond a None (cond b None o) ≡ cond (a || b) None o
    joined true b o = refl
    joined false b o = refl

pub gone_at : (rows living : finite.FinMap nat_cmp Row) (ids : List ℕ) (i : ℕ) → living ≡ without_ids rows ids → i < length ids → finite.contains_key living (get_or ids i 0) ≡ false
gone_at rows living ids i made l =
    ap (λ m. finite.contains_key m (get_or ids i 0)) made ∙ (ap is_some (get_left rows ids (get_or ids i 0)) ∙ ap (λ b. is_some (cond b None (finite.get rows (get_or ids i 0)))) (among_at ids i l))

-- the children of a parent of whom those that live stay

has-living : (rows : finite.FinMap nat_cmp Row) (set : IdSet) (child : ℕ) → has_id (living_ids rows set) child ≡ cond (finite.contains_key rows child) (has_id set child) false
has-living rows set child =
    ap is_some (finite.get-retain_keys set (finite.contains_key rows) child (λ x t. ap (finite.contains_key rows) (sym (tied_from child x t)))) ∙ by_test (finite.contains_key rows child)
  where
    by_test : (b : Bool) → is_some (cond b (finite.get set child) None) ≡ cond b (has_id set child) false
    by_test true = refl
    by_test false = refl

module _ (rows : finite.FinMap nat_cmp Row) (id : ℕ) where
  stays-living : (ids : Option IdSet) (child : ℕ) → finite.contains_key rows child ≡ true → has_id (set_in (living_linked rows id ids)) child ≡ has_id (set_in ids) child
  stays-living None child h = refl
  stays-living (Some set) child h = by_test (has_id set id)
    where
      by_test : (b : Bool) → has_id (cond b (living_ids rows set) set) child ≡ has_id set child
      by_test true = has-living rows set child ∙ ap (λ b. cond b (has_id set child) false) h
      by_test false = refl

  none-living : (ids : Option IdSet) (child : ℕ) → has_id (set_in ids) child ≡ false → has_id (set_in (living_linked rows id ids)) child ≡ false
  none-living None child h = h
  none-living (Some set) child h = by_test (has_id set id)
    where
      both : (b : Bool) → cond b false false ≡ false
      both true = refl
      both false = refl

      by_test : (b : Bool) → has_id (cond b (living_ids rows set) set) child ≡ false
      by_test true = has-living rows set child ∙ (ap (λ c. cond (finite.contains_key rows child) c false) h ∙ both (finite.contains_key rows child))
      by_test false = h

  gone-living : (ids : Option IdSet) → finite.contains_key rows id ≡ false → has_id (set_in (living_linked rows id ids)) id ≡ false
  gone-living None h = has-none id
  gone-living (Some set) h = by_test (has_id set id) refl
    where
      by_test : (b : Bool) → has_id set id ≡ b → has_id (cond b (living_ids rows set) set) id ≡ false
      by_test true t = has-living rows set id ∙ ap (λ b. cond b (has_id set id) false) h
      by_test false t = t

-- one list of children passed through
module _ (rows : finite.FinMap nat_cmp Row) (before after : LinkMaps) (at key id : ℕ) (made : after ≡ edited before at (λ map. Some (altered (option_map_or (λ m. m) map finite.empty) key (living_linked rows id)))) where
  at_place : (place parent child : ℕ) → has_id (linked after place parent) child ≡ has_id (set_in (cond (eqb place at && eqb parent key) (living_linked rows id (under finite.get before (at, key))) (under finite.get before (place, parent)))) child
  at_place place parent child = ap (λ ls. has_id (linked ls place parent) child) made ∙ ap (λ ids. has_id (set_in ids) child) (under_in_map before at key (living_linked rows id) (place, parent))

  same_place : (place parent child : ℕ) → eqb place at ≡ true → eqb parent key ≡ true → has_id (linked before at key) child ≡ has_id (linked before place parent) child
  same_place place parent child p q = ap (λ n. has_id (linked before n key) child) (sym (equal_from place at p)) ∙ ap (λ n. has_id (linked before place n) child) (sym (equal_from parent key q))

  fewer_there : HasFewer rows before after
  fewer_there = record {
    stays = λ place parent child lives. at_place place parent child ∙ stays_at place parent child lives (eqb place at) (eqb parent key) refl refl;
    none = λ place parent child h. at_place place parent child ∙ none_at place parent child h (eqb place at) (eqb parent key) refl refl;
  }
    where
      stays_at : (place parent child : ℕ) → finite.contains_key rows child ≡ true → (a b : Bool) → eqb place at ≡ a → eqb parent key ≡ b
          → has_id (set_in (cond (a && b) (living_linked rows id (under finite.get before (at, key))) (under finite.get before (place, parent)))) child ≡ has_id (linked before place parent) child
      stays_at place parent child lives true true p q = stays-living rows id (under finite.get before (at, key)) child lives ∙ same_place place parent child p q
      stays_at place parent child lives true false p q = refl
      stays_at place parent child lives false b p q = refl

      none_at : (place parent child : ℕ) → has_id (linked before place parent) child ≡ false → (a b : Bool) → eqb place at ≡ a → eqb parent key ≡ b
          → has_id (set_in (cond (a && b) (living_linked rows id (under finite.get before (at, key))) (under finite.get before (place, parent)))) child ≡ false
      none_at place parent child h true true p q = none-living rows id (under finite.get before (at, key)) child (same_place place parent child p q ∙ h)
      none_at place parent child h true false p q = h
      none_at place parent child h false b p q = h

  gone_there : finite.contains_key rows id ≡ false → has_id (linked after at key) id ≡ false
  gone_there h = at_place at key id ∙ (rw (eq-eqb at at refl, eq-eqb key key refl) (gone-living rows id (under finite.get before (at, key)) h))

pub fewer_same : (rows : finite.FinMap nat_cmp Row) (links : LinkMaps) → HasFewer rows links links
fewer_same rows links = record { stays = λ place parent child h. refl; none = λ place parent child h. h }

pub fewer_then : (rows : finite.FinMap nat_cmp Row) (first before after : LinkMaps) → HasFewer rows first before → HasFewer rows before after → HasFewer rows first after
fewer_then rows first before after f g = record {
  stays = λ place parent child h. g.stays place parent child h ∙ f.stays place parent child h;
  none = λ place parent child h. g.none place parent child (f.none place parent child h);
}

-- a loop over the places of a row that goes
pub record IsUnlinked (rows : finite.FinMap nat_cmp Row) (first links : LinkMaps) (row : Row) (id n : ℕ) : Type 0 where
  pub fewer : HasFewer rows first links
  pub none : (place parent : ℕ) → place < n → names_parent place parent row ≡ true → has_id (linked links place parent) id ≡ false

pub unlinked_none : (rows : finite.FinMap nat_cmp Row) (first links : LinkMaps) (row : Row) (id : ℕ) → links ≡ first → IsUnlinked rows first links row id 0
unlinked_none rows first links row id same = record {
  fewer = subst (λ ls. HasFewer rows first ls) (sym same) (fewer_same rows first);
  none = λ place parent l. absurd (omega arith);
}

module _ (rows : finite.FinMap nat_cmp Row) (first before after : LinkMaps) (row : Row) (id i : ℕ) where
  pub unlinked_place : (key : ℕ) → slice_get row.parents i ≡ Some (Some key) → finite.contains_key rows id ≡ false → after ≡ edited before i (λ map. Some (altered (option_map_or (λ m. m) map finite.empty) key (living_linked rows id))) → IsUnlinked rows first before row id i → IsUnlinked rows first after row id (i + 1)
  unlinked_place key at gone made so = record {
    fewer = fewer_then rows first before after so.fewer (fewer_there rows before after i key id made);
    none = λ place parent l names. by_order place parent l names (cases_order place i);
  }
    where
      here : (place parent : ℕ) → place ≡ i → names_parent place parent row ≡ true → parent ≡ key
      here place parent same names = sym (equal_from key parent (sym (names_at row place parent i (Some key) at same) ∙ names))

      by_order : (place parent : ℕ) → place < i + 1 → names_parent place parent row ≡ true → (place ≡ i) ⊎ ((place < i) ⊎ (i < place)) → has_id (linked after place parent) id ≡ false
      by_order place parent l names (inl same) = ap (λ n. has_id (linked after n parent) id) same ∙ (ap (λ n. has_id (linked after i n) id) (here place parent same names) ∙ gone_there rows before after i key id made gone)
      by_order place parent l names (inr (inl less)) = (fewer_there rows before after i key id made).none place parent id (so.none place parent less names)
      by_order place parent l names (inr (inr more)) = absurd (omega arith)

  pub unlinked_nil : slice_get row.parents i ≡ Some None → after ≡ before → IsUnlinked rows first before row id i → IsUnlinked rows first after row id (i + 1)
  unlinked_nil at same so = record {
    fewer = subst (λ ls. HasFewer rows first ls) (sym same) so.fewer;
    none = λ place parent l names. by_order place parent l names (cases_order place i);
  }
    where
      by_order : (place parent : ℕ) → place < i + 1 → names_parent place parent row ≡ true → (place ≡ i) ⊎ ((place < i) ⊎ (i < place)) → has_id (linked after place parent) id ≡ false
      by_order place parent l names (inl e) = absurd (true≢false (sym names ∙ names_at row place parent i None at e))
      by_order place parent l names (inr (inl less)) = ap (λ ls. has_id (linked ls place parent) id) same ∙ so.none place parent less names
      by_order place parent l names (inr (inr more)) = absurd (omega arith)

  pub unlinked_all : length row.parents ≤ i → IsUnlinked rows first before row id i → HasNone before row id
  unlinked_all past so place parent names = by_order (cases_order place i)
    where
      beyond : i ≤ place → names_parent place parent row ≡ false
      beyond h = ap (λ o. option_map_or (λ k. eqb k parent) (option_and_then (λ k. k) o) false) (slice_get_past row.parents place (omega arith))

      by_order : (place ≡ i) ⊎ ((place < i) ⊎ (i < place)) → has_id (linked before place parent) id ≡ false
      by_order (inl e) = absurd (true≢false (sym names ∙ beyond (omega arith)))
      by_order (inr (inl less)) = so.none place parent less names
      by_order (inr (inr more)) = absurd (true≢false (sym names ∙ beyond (omega arith)))

-- a loop over rows that go
pub record AreUnlinked (rows living : finite.FinMap nat_cmp Row) (first links : LinkMaps) (ids left : List ℕ) : Type 0 where
  pub fewer : HasFewer living first links
  pub none : (id place parent : ℕ) → among ids id ≡ true → among left id ≡ false → has_link place parent (finite.get rows id) ≡ true → has_id (linked links place parent) id ≡ false

pub none_unlinked : (rows living : finite.FinMap nat_cmp Row) (first links : LinkMaps) (ids : List ℕ) → links ≡ first → AreUnlinked rows living first links ids (drop 0 ids)
none_unlinked rows living first links ids same = record {
  fewer = subst (λ ls. HasFewer living first ls) (sym same) (fewer_same living first);
  none = λ id place parent is isnt. absurd (true≢false (sym is ∙ isnt));
}

module _ (rows living : finite.FinMap nat_cmp Row) (first before after : LinkMaps) (ids : List ℕ) (i : ℕ) (l : i < length ids) where
  earlier : (id : ℕ) → among (drop (i + 1) ids) id ≡ false → eqb (get_or ids i 0) id ≡ false → among (drop i ids) id ≡ false
  earlier id h t = ap (λ xs. among xs id) (drop_more ids i 0 l) ∙ (ap (λ b. b || among (drop (i + 1) ids) id) t ∙ h)

  pub row_unlinked : (row : Row) → Some row ≡ finite.get rows (get_or ids i 0) → HasFewer living before after → HasNone after row (get_or ids i 0) → AreUnlinked rows living first before ids (drop i ids) → AreUnlinked rows living first after ids (drop (i + 1) ids)
  row_unlinked row is fewer gone so = record {
    fewer = fewer_then living first before after so.fewer fewer;
    none = λ id place parent is isnt names. by_test id place parent is isnt names (eqb (get_or ids i 0) id) refl;
  }
    where
      by_test : (id place parent : ℕ) → among ids id ≡ true → among (drop (i + 1) ids) id ≡ false → has_link place parent (finite.get rows id) ≡ true → (t : Bool) → eqb (get_or ids i 0) id ≡ t → has_id (linked after place parent) id ≡ false
      by_test id place parent a b names true t =
          let here : get_or ids i 0 ≡ id = equal_from (get_or ids i 0) id t in
          ap (λ n. has_id (linked after place parent) n) (sym here) ∙ gone place parent (ap (has_link place parent) (is ∙ ap (finite.get rows) here) ∙ names)
      by_test id place parent a b names false t = fewer.none place parent id (so.none id place parent a (earlier id b t) names)

  pub nothing_unlinked : None ≡ finite.get rows (get_or ids i 0) → after ≡ before → AreUnlinked rows living first before ids (drop i ids) → AreUnlinked rows living first after ids (drop (i + 1) ids)
  nothing_unlinked is same so = record {
    fewer = subst (λ ls. HasFewer living first ls) (sym same) so.fewer;
    none = λ id place parent a b names. by_test id place parent a b names (eqb (get_or ids i 0) id) refl;
  }
    where
      by_test : (id place parent : ℕ) → among ids id ≡ true → among (drop (i + 1) ids) id ≡ false → has_link place parent (finite.get rows id) ≡ true → (t : Bool) → eqb (get_or ids i 0) id ≡ t → has_id (linked after place parent) id ≡ false
      by_test id place parent a b names true t = absurd (true≢false (sym names ∙ ap (has_link place parent) (sym (is ∙ ap (finite.get rows) (equal_from (get_or ids i 0) id t)))))
      by_test id place parent a b names false t = ap (λ ls. has_id (linked ls place parent) id) same ∙ so.none id place parent a (earlier id b t) names

pub all_unlinked : (rows living : finite.FinMap nat_cmp Row) (first links : LinkMaps) (ids left : List ℕ) → left ≡ [] → AreUnlinked rows living first links ids left → HaveNone rows links ids
all_unlinked rows living first links ids left e so id place parent is names = so.none id place parent is (ap (λ xs. among xs id) e) names

-- a model's ids and links once rows are gone
pub kept_left : (rows living : finite.FinMap nat_cmp Row) (ids left : IdSet) (links fewer : LinkMaps) (gone : List ℕ) → AreKept rows ids links → living ≡ without_ids rows gone → left ≡ living_ids living ids → HasFewer living links fewer → HaveNone rows fewer gone → AreKept living left fewer
kept_left rows living ids left links fewer gone kept made left_is less none = record {
  living = λ q. ap (λ s. has_id s q) left_is ∙ (has-living living ids q ∙ living_at q (among gone q) (finite.get rows q) refl (get_at q));
  named = λ place parent q. named_at place parent q (among gone q) (finite.get rows q) refl refl (get_at q);
}
  where
    get_at : (q : ℕ) → finite.get living q ≡ cond (among gone q) None (finite.get rows q)
    get_at q = ap (λ m. finite.get m q) made ∙ get_left rows gone q

    living_at : (q : ℕ) (b : Bool) (o : Option Row) → finite.get rows q ≡ o → finite.get living q ≡ cond b None o → cond (finite.contains_key living q) (has_id ids q) false ≡ finite.contains_key living q
    living_at q true o e g = rw g refl
    living_at q false None e g = rw g refl
    living_at q false (Some r) e g = rw g (kept.living q ∙ ap is_some e)

    named_at : (place parent q : ℕ) (b : Bool) (o : Option Row) → among gone q ≡ b → finite.get rows q ≡ o → finite.get living q ≡ cond b None (finite.get rows q) → has_id (linked fewer place parent) q ≡ has_link place parent (finite.get living q)
    named_at place parent q true o a e g = gone_link (has_link place parent (finite.get rows q)) refl ∙ ap (has_link place parent) (sym g)
      where
        gone_link : (t : Bool) → has_link place parent (finite.get rows q) ≡ t → has_id (linked fewer place parent) q ≡ false
        gone_link true t = none q place parent a t
        gone_link false t = less.none place parent q (kept.named place parent q ∙ t)
    named_at place parent q false None a e g = less.none place parent q (kept.named place parent q ∙ ap (has_link place parent) e) ∙ ap (has_link place parent) (sym (g ∙ e))
    named_at place parent q false (Some r) a e g = less.stays place parent q (ap is_some (g ∙ e)) ∙ (kept.named place parent q ∙ ap (has_link place parent) (sym g))
