-- The faults that are listed are those of the set.
use Rattle.std.proofs.Common.{◌≡◌, ℕ, zero, suc, ◌<◌, Bool, true, false, ◌&&◌, true≢false, List, [], ◌∷◌, ◌++◌, map, ⊎_elim, nat_lt, refl, ap, sym, subst, ◌∙◌, arith}
use Rattle.std.specs.Prelude.{nat_eq, if◌then◌else◌}
use Rattle.std.specs.List.{Contains, flat_map}
use Rattle.std.proofs.lemmas.Bool.{eq-eqb, eqb-true, lt-ltb, ltb-true}
use Rattle.std.proofs.lemmas.List.Concat.{flat_map_single}
use Rattle.std.proofs.lemmas.List.Elements.{Contains-append_cases, Contains-append_left, Contains-append_right}
use Rattle.std.proofs.lemmas.Slice.Eq.{bytes_eq-Decides}
use Rattle.doll_route.specs.declared.route.Route.{Route}
use Rattle.doll_schema.specs.Models.{ModelList}
use Rattle.doll_set.specs.Digests.{name_at}
use Rattle.doll_set.specs.Sets.{ReadSet}
use Rattle.doll_types.specs.declared.reached.Reached.{Reached}
use Rattle.doll_types.specs.Reached.{AreReached}
use Rattle.doll_lint.specs.declared.block.PartShape.{PartShape}
use Rattle.doll_lint.specs.declared.block.PartShape.TheVariants as shape
use Rattle.doll_lint.specs.declared.fault.LintFault.{LintFault}
use Rattle.doll_lint.specs.declared.found.Note.{Note}
use Rattle.doll_lint.specs.declared.needs.Need.{Need}
use Rattle.doll_lint.specs.Blocks.{Block, key_paths, shape_of}
use Rattle.doll_lint.specs.Faults.{AreLintFaults, IsBlock, IsLintFault, block_needs, is_met, need_fault, shared_fault}
use Rattle.doll_lint.specs.Found.{all_blocks, block_faults, note_of, reached_blocks, unmet}
use Rattle.doll_lint.specs.Order.{AreInOrder}
use Rattle.doll_lint.specs.Shared.{AreThose, all_shared, may_share, same_part, same_shape, shared_by, shared_fault_of, shared_with}

-- ---- lists

pub none_among : {X : Type 0} {C : Type 0} (x : X) → Contains [] x → C
none_among x h = absurd (omega (arith, h.1))

pub first_is : {X : Type 0} (x : X) → Contains (x ∷ []) x
first_is x = (0, omega arith, refl)

pub only_is : {X : Type 0} (x y : X) → Contains (x ∷ []) y → y ≡ x
only_is x y (zero, within, same) = sym same
only_is x y (suc k, within, same) = absurd (omega (arith, within))

pub from_flat : {F X : Type 0} (go : F → List X) (xs : List F) (one : X) → Contains (flat_map go xs) one → (f : F) × Contains xs f × Contains (go f) one
from_flat go [] one h = none_among one h
from_flat go (f ∷ xs) one h =
    ⊎_elim (λ here. (f, Contains-append_left (f ∷ []) xs f (first_is f), here))
    (λ later. let more = from_flat go xs one later in (more.0, Contains-append_right (f ∷ []) xs more.0 more.1, more.2))
    (Contains-append_cases (go f) (flat_map go xs) one h)

pub into_flat : {F X : Type 0} (go : F → List X) (xs : List F) (f : F) (one : X) → Contains xs f → Contains (go f) one → Contains (flat_map go xs) one
into_flat go [] f one among there = none_among f among
into_flat go (x ∷ xs) f one among there =
    ⊎_elim (λ is. Contains-append_left (go x) (flat_map go xs) one (subst (λ y. Contains (go y) one) (only_is x f is) there))
    (λ more. Contains-append_right (go x) (flat_map go xs) one (into_flat go xs f one more there))
    (Contains-append_cases (x ∷ []) xs f among)

from_map : {F X : Type 0} (go : F → X) (xs : List F) (one : X) → Contains (map go xs) one → (f : F) × Contains xs f × (one ≡ go f)
from_map go xs one h =
    let found = from_flat (λ x. go x ∷ []) xs one (subst (λ ys. Contains ys one) (sym (flat_map_single go xs)) h) in
    (found.0, found.1, only_is (go found.0) one found.2)

into_map : {F X : Type 0} (go : F → X) (xs : List F) (f : F) → Contains xs f → Contains (map go xs) (go f)
into_map go xs f among = subst (λ ys. Contains ys (go f)) (flat_map_single go xs) (into_flat (λ x. go x ∷ []) xs f (go f) among (first_is (go f)))

-- ---- truths

pub first_holds : (a b : Bool) → (a && b) ≡ true → a ≡ true
first_holds true b e = refl
first_holds false b e = absurd (true≢false (sym e))

pub second_holds : (a b : Bool) → (a && b) ≡ true → b ≡ true
second_holds true b e = e
second_holds false b e = absurd (true≢false (sym e))

both_hold : (a b : Bool) → a ≡ true → b ≡ true → (a && b) ≡ true
both_hold a b e f = ap (λ x. x && b) e ∙ f

pub same_number : (m n : ℕ) → nat_eq m n ≡ true → m ≡ n
same_number m n e = eqb-true m n e

number_same : (m n : ℕ) → m ≡ n → nat_eq m n ≡ true
number_same m n e = eq-eqb m n e

below : (m n : ℕ) → nat_lt m n ≡ true → m < n
below m n e = ltb-true m n e

is_below : (m n : ℕ) → m < n → nat_lt m n ≡ true
is_below m n e = lt-ltb m n e

-- ---- shapes

part_is : (one other : PartShape) → same_part one other ≡ true → one ≡ other
part_is (shape.Record m) (shape.Record n) e = ap shape.Record (same_number m n e)
part_is (shape.Record m) shape.Single e = absurd (true≢false (sym e))
part_is (shape.Record m) (shape.Literal t) e = absurd (true≢false (sym e))
part_is shape.Single (shape.Record n) e = absurd (true≢false (sym e))
part_is shape.Single shape.Single e = refl
part_is shape.Single (shape.Literal t) e = absurd (true≢false (sym e))
part_is (shape.Literal s) (shape.Record n) e = absurd (true≢false (sym e))
part_is (shape.Literal s) shape.Single e = absurd (true≢false (sym e))
part_is (shape.Literal s) (shape.Literal t) e = ap shape.Literal ((bytes_eq-Decides s t).0 e)

part_same : (one : PartShape) → same_part one one ≡ true
part_same (shape.Record m) = number_same m m refl
part_same shape.Single = refl
part_same (shape.Literal s) = (bytes_eq-Decides s s).1 refl

pub shape_is : (ones others : List PartShape) → same_shape ones others ≡ true → ones ≡ others
shape_is [] [] e = refl
shape_is [] (other ∷ others) e = absurd (true≢false (sym e))
shape_is (one ∷ ones) [] e = absurd (true≢false (sym e))
shape_is (one ∷ ones) (other ∷ others) e =
    ap (λ p. p ∷ ones) (part_is one other (first_holds (same_part one other) (same_shape ones others) e))
    ∙ ap (λ more. other ∷ more) (shape_is ones others (second_holds (same_part one other) (same_shape ones others) e))

shape_same : (ones : List PartShape) → same_shape ones ones ≡ true
shape_same [] = refl
shape_same (one ∷ ones) = both_hold (same_part one one) (same_shape ones ones) (part_same one) (shape_same ones)

-- ---- faults

module _ (set : ReadSet) (schema : ModelList) (routes : List Route) (reached : List Reached) (a : AreReached set schema routes reached) where
  abbrev blocks : List Block
  blocks = all_blocks set schema reached

  abbrev notes : List Note
  notes = map (note_of schema) blocks

  is_block : (block : Block) → Contains blocks block → IsBlock set schema routes block
  is_block block h =
      let found = from_flat (reached_blocks set schema) reached block h in record { reached = found.0; is_reached = a.each found.0 found.1; stands = found.2 }

  among : (block : Block) → IsBlock set schema routes block → Contains blocks block
  among block is = into_flat (reached_blocks set schema) reached is.reached block (a.all is.reached is.is_reached) is.stands

  -- ---- needs

  unmet_is : (x fault : LintFault) (met : Bool) → Contains (if met then [] else x ∷ []) fault → (met ≡ false) × (fault ≡ x)
  unmet_is x fault true h = none_among fault h
  unmet_is x fault false h = (refl, only_is x fault h)

  is_unmet : (x : LintFault) (met : Bool) → met ≡ false → Contains (if met then [] else x ∷ []) x
  is_unmet x met is = subst (λ m. Contains (if m then [] else x ∷ []) x) (sym is) (first_is x)

  need_is : (fault : LintFault) → Contains (flat_map (block_faults set schema) blocks) fault → IsLintFault set schema routes fault
  unfolding block_faults
  need_is fault h =
      let b = from_flat (block_faults set schema) blocks fault h in
      let n = from_flat (unmet schema (name_at set.templates b.0.template) (key_paths schema b.0)) (block_needs schema set.templates b.0) fault b.2 in
      let is = unmet_is (need_fault set schema b.0 n.0) fault (is_met schema (key_paths schema b.0) n.0) n.2 in
      subst (IsLintFault set schema routes) (sym is.1) (IsLintFault.of_need b.0 n.0 (is_block b.0 b.1) n.1 is.0)

  need_there : (block : Block) (need : Need) → IsBlock set schema routes block → Contains (block_needs schema set.templates block) need → is_met schema (key_paths schema block) need ≡ false
      → Contains (flat_map (block_faults set schema) blocks) (need_fault set schema block need)
  unfolding block_faults
  need_there block need is needed missed =
      into_flat (block_faults set schema) blocks block (need_fault set schema block need) (among block is)
      (into_flat (unmet schema (name_at set.templates block.template) (key_paths schema block)) (block_needs schema set.templates block) need (need_fault set schema block need) needed (is_unmet (need_fault set schema block need) (is_met schema (key_paths schema block) need) missed))

  -- ---- pairs

  shared_is : (x fault : LintFault) (shared : Bool) → Contains (if shared then x ∷ [] else []) fault → (shared ≡ true) × (fault ≡ x)
  shared_is x fault true h = (refl, only_is x fault h)
  shared_is x fault false h = none_among fault h

  is_shared : (x : LintFault) (shared : Bool) → shared ≡ true → Contains (if shared then x ∷ [] else []) x
  is_shared x shared is = subst (λ s. Contains (if s then x ∷ [] else []) x) (sym is) (first_is x)

  pair_of : (earlier later : Block) → IsBlock set schema routes earlier → IsBlock set schema routes later → may_share (note_of schema earlier) (note_of schema later) ≡ true → IsLintFault set schema routes (shared_fault set earlier later)
  pair_of earlier later first second e =
      let more = second_holds (nat_eq earlier.template later.template) (nat_lt earlier.number later.number && same_shape (shape_of schema earlier) (shape_of schema later)) e in
      IsLintFault.of_pair earlier later first second
      (same_number earlier.template later.template (first_holds (nat_eq earlier.template later.template) (nat_lt earlier.number later.number && same_shape (shape_of schema earlier) (shape_of schema later)) e))
      (below earlier.number later.number (first_holds (nat_lt earlier.number later.number) (same_shape (shape_of schema earlier) (shape_of schema later)) more))
      (shape_is (shape_of schema earlier) (shape_of schema later) (second_holds (nat_lt earlier.number later.number) (same_shape (shape_of schema earlier) (shape_of schema later)) more))

  pair_is : (fault : LintFault) → Contains (all_shared set notes) fault → IsLintFault set schema routes fault
  unfolding shared_with
  pair_is fault h =
      let l = from_flat (shared_with set notes) notes fault h in
      let e = from_flat (shared_by set l.0) notes fault l.2 in
      let later = from_map (note_of schema) blocks l.0 l.1 in
      let earlier = from_map (note_of schema) blocks e.0 e.1 in
      let is = shared_is (shared_fault_of set l.0 e.0) fault (may_share e.0 l.0) e.2 in
      let share : may_share (note_of schema earlier.0) (note_of schema later.0) ≡ true = sym (ap (λ n. may_share n l.0) earlier.2 ∙ ap (may_share (note_of schema earlier.0)) later.2) ∙ is.0 in
      subst (IsLintFault set schema routes) (sym (is.1 ∙ ap (shared_fault_of set l.0) earlier.2 ∙ ap (λ n. shared_fault_of set n (note_of schema earlier.0)) later.2))
      (pair_of earlier.0 later.0 (is_block earlier.0 earlier.1) (is_block later.0 later.1) share)

  pair_there : (earlier later : Block) → IsBlock set schema routes earlier → IsBlock set schema routes later → earlier.template ≡ later.template → earlier.number < later.number → shape_of schema earlier ≡ shape_of schema later
      → Contains (all_shared set notes) (shared_fault set earlier later)
  unfolding shared_with
  pair_there earlier later first second one behind same =
      into_flat (shared_with set notes) notes (note_of schema later) (shared_fault set earlier later) (into_map (note_of schema) blocks later (among later second))
      (into_flat (shared_by set (note_of schema later)) notes (note_of schema earlier) (shared_fault set earlier later) (into_map (note_of schema) blocks earlier (among earlier first))
      (is_shared (shared_fault set earlier later) (may_share (note_of schema earlier) (note_of schema later)) share))
    where
      shapes : same_shape (shape_of schema earlier) (shape_of schema later) ≡ true
      shapes = subst (λ s. same_shape (shape_of schema earlier) s ≡ true) same (shape_same (shape_of schema earlier))

      share : may_share (note_of schema earlier) (note_of schema later) ≡ true
      share =
          both_hold (nat_eq earlier.template later.template) (nat_lt earlier.number later.number && same_shape (shape_of schema earlier) (shape_of schema later))
          (number_same earlier.template later.template one)
          (both_hold (nat_lt earlier.number later.number) (same_shape (shape_of schema earlier) (shape_of schema later)) (is_below earlier.number later.number behind) shapes)

  -- ---- all

  abbrev listed : List LintFault
  listed = flat_map (block_faults set schema) blocks ++ all_shared set notes

  fault_is : (fault : LintFault) → Contains listed fault → IsLintFault set schema routes fault
  fault_is fault h = ⊎_elim (need_is fault) (pair_is fault) (Contains-append_cases (flat_map (block_faults set schema) blocks) (all_shared set notes) fault h)

  fault_there : (fault : LintFault) → IsLintFault set schema routes fault → Contains listed fault
  fault_there fault (IsLintFault.of_need block need is needed missed) =
      Contains-append_left (flat_map (block_faults set schema) blocks) (all_shared set notes) (need_fault set schema block need) (need_there block need is needed missed)
  fault_there fault (IsLintFault.of_pair earlier later first second one behind same) =
      Contains-append_right (flat_map (block_faults set schema) blocks) (all_shared set notes) (shared_fault set earlier later) (pair_there earlier later first second one behind same)

  pub are_faults : (faults once : List LintFault) → AreThose faults listed → AreInOrder faults once → AreLintFaults set schema routes once
  are_faults faults once are o = record {
    ascend = o.ascend;
    each = λ fault h. fault_is fault (are.only fault (o.only fault h));
    all = λ fault h. o.kept fault (are.kept fault (fault_there fault h));
  }
