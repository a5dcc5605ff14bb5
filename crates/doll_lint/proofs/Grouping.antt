-- Notes in their order, of which those of one template and one shape stand side by side, give the faults that all pairs of notes give.
use Rattle.std.proofs.Common.{◌≡◌, ℕ, ◌<◌, Bool, true, false, ◌&&◌, true≢false, List, [], ◌∷◌, ◌++◌, ⊎_elim, nat_lt, refl, ap, sym, subst, ◌∙◌, rules}
use Rattle.std.specs.Prelude.{cond, nat_eq, Result, Ok, Err, OnOk, if◌then◌else◌}
use Rattle.std.specs.Cmp.{IsTotalOrder, nat_cmp_total, tied_itself}
use Rattle.std.specs.Cmp.Lexicographic.{lists_total, slice_cmp}
use Rattle.std.specs.Cmp.Rules.{comparing}
use Rattle.std.specs.List.{AllByRecursion, Contains, flat_map}
use Rattle.std.specs.List.Sorted.{IsStrictlySortedBy}
use Rattle.std.specs.declared.cmp.Ordering.{Ordering}
use Rattle.std.specs.declared.cmp.Ordering.TheVariants.{Less, Equal, Greater}
use Rattle.std.specs.Ordering.{is_eq, is_gt, is_lt, nat_cmp, ordering_reverse, ordering_then}
use Rattle.std.proofs.lemmas.List.Elements.{Contains-append_cases, Contains-append_left, Contains-append_right}
use Rattle.doll_set.specs.Sets.{ReadSet}
use Rattle.doll_text.specs.declared.memory.Memory.{Memory}
use Rattle.doll_lint.specs.declared.block.PartShape.{PartShape}
use Rattle.doll_lint.specs.declared.fault.LintFault.{LintFault}
use Rattle.doll_lint.specs.declared.found.Note.{Note}
use Rattle.doll_lint.specs.Noted.{AreOnce, are_alike, group_order, note_order, part_order}
use Rattle.doll_lint.specs.Shared.{AreThose, all_shared, may_share, same_shape, shared_behind, shared_by, shared_fault_of, shared_in_order, shared_with}
use Rattle.doll_lint.proofs.Answering.{first_holds, first_is, from_flat, into_flat, none_among, only_is, same_number, second_holds, shape_is}
use Rattle.doll_lint.proofs.Sorting.{note_total}

-- ---- the order of notes

part_total : IsTotalOrder part_order
part_total = search (comparing, rules) depth 14

group_total : IsTotalOrder group_order
group_total = search (comparing, rules) depth 14

not_above : (r s : Ordering) → ordering_then r s ≡ Less → is_gt r ≡ false
not_above Less s e = refl
not_above Equal s e = refl
not_above Greater s e = absurd (true≢false (sym (ap is_lt e)))

squeezed : (r s : Ordering) → r ≡ ordering_reverse s → is_gt r ≡ false → is_gt s ≡ false → r ≡ Equal
squeezed Less s e above below = absurd (true≢false (ap is_lt e ∙ turned s below))
  where
    turned : (s : Ordering) → is_gt s ≡ false → is_lt (ordering_reverse s) ≡ false
    turned Less h = refl
    turned Equal h = refl
    turned Greater h = absurd (true≢false h)
squeezed Equal s e above below = refl
squeezed Greater s e above below = absurd (true≢false above)

-- what stands between two of one group is of it
between : (first middle last : Note) → note_order first middle ≡ Less → note_order middle last ≡ Less → group_order first last ≡ Equal → group_order first middle ≡ Equal
between first middle last before behind alike =
    squeezed (group_order first middle) (group_order middle last)
    (group_total.congr first last middle alike ∙ group_total.antisymm last middle)
    (not_above (group_order first middle) (ordering_then (nat_cmp first.number middle.number) (nat_cmp first.at middle.at)) before)
    (not_above (group_order middle last) (ordering_then (nat_cmp middle.number last.number) (nat_cmp middle.at last.at)) behind)

one_group : (m n : ℕ) (s t : List PartShape) → m ≡ n → s ≡ t → ordering_then (nat_cmp m n) (slice_cmp part_order s t) ≡ Equal
one_group m n s t e f =
    ap (λ k. ordering_then (nat_cmp m k) (slice_cmp part_order s t)) (sym e)
    ∙ ap (λ u. ordering_then (nat_cmp m m) (slice_cmp part_order s u)) (sym f)
    ∙ ap (λ r. ordering_then r (slice_cmp part_order s s)) (tied_itself nat_cmp_total m)
    ∙ tied_itself (lists_total part_total) s

alike_by : (earlier later : Note) → may_share earlier later ≡ true → group_order earlier later ≡ Equal
alike_by earlier later e =
    let more = second_holds (nat_eq earlier.template later.template) (nat_lt earlier.number later.number && same_shape earlier.shape later.shape) e in
    one_group earlier.template later.template earlier.shape later.shape
    (same_number earlier.template later.template (first_holds (nat_eq earlier.template later.template) (nat_lt earlier.number later.number && same_shape earlier.shape later.shape) e))
    (shape_is earlier.shape later.shape (second_holds (nat_lt earlier.number later.number) (same_shape earlier.shape later.shape) more))

below_by : (earlier later : Note) → may_share earlier later ≡ true → note_order earlier later ≡ Less
below_by earlier later e =
    let more = second_holds (nat_eq earlier.template later.template) (nat_lt earlier.number later.number && same_shape earlier.shape later.shape) e in
    let less : nat_lt earlier.number later.number ≡ true = first_holds (nat_lt earlier.number later.number) (same_shape earlier.shape later.shape) more in
    ap (λ r. ordering_then r (ordering_then (nat_cmp earlier.number later.number) (nat_cmp earlier.at later.at))) (alike_by earlier later e)
    ∙ ap (λ b. ordering_then (cond b Less (cond (nat_eq earlier.number later.number) Equal Greater)) (nat_cmp earlier.at later.at)) less

not_itself : {C : Type 0} (note : Note) → note_order note note ≡ Less → C
not_itself note e = absurd (true≢false (sym (ap is_lt e) ∙ ap is_lt (tied_itself note_total note)))

-- what holds of all holds of each
at_each : (P : Note → Type 0) (notes : List Note) (note : Note) → AllByRecursion P notes → Contains notes note → P note
at_each P [] note all h = none_among note h
at_each P (x ∷ xs) note all h = ⊎_elim (λ here. subst P (sym (only_is x note here)) all.0) (λ more. at_each P xs note all.1 more) (Contains-append_cases (x ∷ []) xs note h)

module _ (set : ReadSet) where
  -- ---- each fault told is one of all pairs

  abbrev Behind : Note → List Note → LintFault → Type 0
  Behind earlier notes fault = (later : Note) × Contains notes later × Contains (shared_by set later earlier) fault

  behind_by : (earlier later : Note) (notes : List Note) (fault : LintFault) (alike : Bool) → (Contains (shared_behind set earlier notes) fault → Behind earlier notes fault)
      → Contains (if alike then shared_by set later earlier ++ shared_behind set earlier notes else []) fault → Behind earlier (later ∷ notes) fault
  behind_by earlier later notes fault true go h =
      ⊎_elim (λ here. (later, Contains-append_left (later ∷ []) notes later (first_is later), here))
      (λ more. let found = go more in (found.0, Contains-append_right (later ∷ []) notes found.0 found.1, found.2))
      (Contains-append_cases (shared_by set later earlier) (shared_behind set earlier notes) fault h)
  behind_by earlier later notes fault false go h = none_among fault h

  behind_is : (earlier : Note) (notes : List Note) (fault : LintFault) → Contains (shared_behind set earlier notes) fault → Behind earlier notes fault
  behind_is earlier [] fault h = none_among fault h
  behind_is earlier (later ∷ notes) fault h = behind_by earlier later notes fault (are_alike earlier later) (behind_is earlier notes fault) h

  abbrev Paired : List Note → LintFault → Type 0
  Paired notes fault = (earlier : Note) × (later : Note) × Contains notes earlier × Contains notes later × Contains (shared_by set later earlier) fault

  paired : (notes : List Note) (fault : LintFault) → Contains (shared_in_order set notes) fault → Paired notes fault
  paired [] fault h = none_among fault h
  paired (note ∷ notes) fault h =
      ⊎_elim (λ here. let found = behind_is note notes fault here in (note, found.0, Contains-append_left (note ∷ []) notes note (first_is note), Contains-append_right (note ∷ []) notes found.0 found.1, found.2))
      (λ more. let found = paired notes fault more in (found.0, found.1, Contains-append_right (note ∷ []) notes found.0 found.2, Contains-append_right (note ∷ []) notes found.1 found.3, found.4))
      (Contains-append_cases (shared_behind set note notes) (shared_in_order set notes) fault h)

  -- ---- each pair is told

  shares : (earlier later : Note) (fault : LintFault) → Contains (shared_by set later earlier) fault → may_share earlier later ≡ true
  shares earlier later fault = by (may_share earlier later)
    where
      by : (b : Bool) → Contains (if b then shared_fault_of set later earlier ∷ [] else []) fault → b ≡ true
      by true h = refl
      by false h = none_among fault h

  told : (earlier later : Note) (notes : List Note) (fault : LintFault) → group_order earlier later ≡ Equal
      → Contains (shared_by set later earlier ++ shared_behind set earlier notes) fault → Contains (shared_behind set earlier (later ∷ notes)) fault
  told earlier later notes fault alike h =
      subst (λ r. Contains (if is_eq r then shared_by set later earlier ++ shared_behind set earlier notes else []) fault) (sym alike) h

  behind_there : (earlier later : Note) (notes : List Note) (fault : LintFault) → AllByRecursion (λ y. note_order earlier y ≡ Less) notes → IsStrictlySortedBy note_order notes
      → group_order earlier later ≡ Equal → Contains notes later → Contains (shared_by set later earlier) fault → Contains (shared_behind set earlier notes) fault
  unfolding IsStrictlySortedBy
  behind_there earlier later [] fault above sorted alike there h = none_among later there
  behind_there earlier later (x ∷ xs) fault above sorted alike there h =
      ⊎_elim
      (λ here. let is = only_is x later here in
      told earlier x xs fault (subst (λ n. group_order earlier n ≡ Equal) is alike)
      (Contains-append_left (shared_by set x earlier) (shared_behind set earlier xs) fault (subst (λ n. Contains (shared_by set n earlier) fault) is h)))
      (λ more. told earlier x xs fault
      (between earlier x later above.0 (at_each (λ y. note_order x y ≡ Less) xs later sorted.0 more) alike)
      (Contains-append_right (shared_by set x earlier) (shared_behind set earlier xs) fault (behind_there earlier later xs fault above.1 sorted.1 alike more h)))
      (Contains-append_cases (x ∷ []) xs later there)

  pair_told : (notes : List Note) (earlier later : Note) (fault : LintFault) → IsStrictlySortedBy note_order notes → Contains notes earlier → Contains notes later
      → Contains (shared_by set later earlier) fault → Contains (shared_in_order set notes) fault
  unfolding IsStrictlySortedBy
  pair_told [] earlier later fault sorted first second h = none_among earlier first
  pair_told (x ∷ xs) earlier later fault sorted first second h =
      let share = shares earlier later fault h in
      let below = below_by earlier later share in
      ⊎_elim
      (λ here. let is = only_is x earlier here in
      ⊎_elim (λ again. not_itself x (subst (λ n. note_order x n ≡ Less) (only_is x later again) (subst (λ n. note_order n later ≡ Less) is below)))
      (λ more. Contains-append_left (shared_behind set x xs) (shared_in_order set xs) fault
      (behind_there x later xs fault sorted.0 sorted.1 (subst (λ n. group_order n later ≡ Equal) is (alike_by earlier later share)) more (subst (λ n. Contains (shared_by set later n) fault) is h)))
      (Contains-append_cases (x ∷ []) xs later second))
      (λ inside. ⊎_elim
      (λ again. not_itself x (note_total.trans x earlier x (at_each (λ y. note_order x y ≡ Less) xs earlier sorted.0 inside) (subst (λ n. note_order earlier n ≡ Less) (only_is x later again) below)))
      (λ more. Contains-append_right (shared_behind set x xs) (shared_in_order set xs) fault (pair_told xs earlier later fault sorted.1 inside more h))
      (Contains-append_cases (x ∷ []) xs later second))
      (Contains-append_cases (x ∷ []) xs earlier first)

  -- ---- all

  is_shared : (notes once : List Note) (fault : LintFault) → AreOnce notes once → Contains (shared_in_order set once) fault → Contains (all_shared set notes) fault
  unfolding shared_with
  is_shared notes once fault are h =
      let found = paired once fault h in
      into_flat (shared_with set notes) notes found.1 fault (are.only found.1 found.3) (into_flat (shared_by set found.1) notes found.0 fault (are.only found.0 found.2) found.4)

  shared_is : (notes once : List Note) (fault : LintFault) → AreOnce notes once → Contains (all_shared set notes) fault → Contains (shared_in_order set once) fault
  unfolding shared_with
  shared_is notes once fault are h =
      let later = from_flat (shared_with set notes) notes fault h in
      let earlier = from_flat (shared_by set later.0) notes fault later.2 in
      pair_told once earlier.0 later.0 fault are.ascend (are.kept earlier.0 earlier.1) (are.kept later.0 later.1) earlier.2

  all_told : (notes once : List Note) (before after : List LintFault) → AreOnce notes once → after ≡ before ++ shared_in_order set once → AreThose after (before ++ all_shared set notes)
  all_told notes once before after are is = record {
    kept = λ fault h. subst (λ fs. Contains fs fault) (sym is) (both (all_shared set notes) (shared_in_order set once) fault (shared_is notes once fault are) h);
    only = λ fault h. both (shared_in_order set once) (all_shared set notes) fault (is_shared notes once fault are) (subst (λ fs. Contains fs fault) is h);
  }
    where
      both : (xs ys : List LintFault) (fault : LintFault) → (Contains xs fault → Contains ys fault) → Contains (before ++ xs) fault → Contains (before ++ ys) fault
      both xs ys fault go h = ⊎_elim (λ here. Contains-append_left before ys fault here) (λ more. Contains-append_right before ys fault (go more)) (Contains-append_cases before xs fault h)

  pub told_ok : (r : Result (Unit {0}) Memory) (notes once : List Note) (before after : List LintFault) → AreOnce notes once → OnOk r (after ≡ before ++ shared_in_order set once)
      → OnOk r (AreThose after (before ++ all_shared set notes))
  told_ok (Ok x) notes once before after are is = all_told notes once before after are is
  told_ok (Err e) notes once before after are is = tt
