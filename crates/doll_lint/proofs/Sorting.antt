-- Faults and notes sorted, each once.
use Rattle.std.proofs.Common.{◌≡◌, ℕ, ◌==◌, Bool, true, false, ◌&&◌, true≢false, List, [], ◌∷◌, refl, ap, sym, subst, ◌∙◌, arith, rules}
use Rattle.std.specs.List.{dedup}
use Rattle.std.specs.List.Retain.{DiffersFromLast, IsFiltered}
use Rattle.std.specs.List.Sorted.{IsPermutation, IsSorted}
use Rattle.std.specs.Cmp.{IsEquivalence, IsTotalOrder, unsigned_ties}
use Rattle.std.specs.Cmp.Lexicographic.{slice_cmp, texts_ties}
use Rattle.std.specs.Cmp.Rules.{comparing}
use Rattle.std.specs.declared.cmp.Ordering.{Ordering}
use Rattle.std.specs.declared.cmp.Ordering.TheVariants.{Less, Equal, Greater}
use Rattle.std.specs.Ordering.{eq_by_cmp, is_eq, nat_cmp, ordering_then}
use Rattle.std.proofs.lemmas.Bool.Decides.{nat_tests}
use Rattle.std.proofs.lemmas.List.Filters.{dedup_is}
use Rattle.std.proofs.lemmas.List.Kept.{Contains-dedup, Contains-from_dedup, IsStrictlySortedBy-dedup}
use Rattle.std.proofs.lemmas.List.Sorted.{Contains-permutation, IsPermutation-sym}
use Rattle.std.proofs.lemmas.Slice.Eq.{bytes_eq-Decides}
use Rattle.doll_lint.specs.declared.block.PartShape.{PartShape}
use Rattle.doll_lint.specs.declared.block.PartShape.TheVariants as shape
use Rattle.doll_lint.specs.declared.fault.LintFault.{LintFault}
use Rattle.doll_lint.specs.declared.fault.LintKind.{LintKind}
use Rattle.doll_lint.specs.declared.fault.LintKind.TheVariants as kind
use Rattle.doll_lint.specs.declared.found.Note.{Note}
use Rattle.doll_lint.specs.Ties.{fault_ties}
use Rattle.doll_lint.specs.Faults.{fault_order, kind_number, kind_place, kind_text}
use Rattle.doll_lint.specs.Noted.{AreOnce, group_order, note_order, part_order, same_note}
use Rattle.doll_lint.specs.Order.{AreInOrder, same_fault}

-- ---- faults

fault_total : IsTotalOrder fault_order
fault_total = search (comparing, rules) depth 14

fault_equal : IsEquivalence same_fault
fault_equal = search (comparing, rules) depth 14

ties : (x y : LintFault) → same_fault x y ≡ eq_by_cmp fault_order x y
ties = fault_ties

first_holds : (a b : Bool) → (a && b) ≡ true → a ≡ true
first_holds true b e = refl
first_holds false b e = absurd (true≢false (sym e))

second_holds : (a b : Bool) → (a && b) ≡ true → b ≡ true
second_holds true b e = e
second_holds false b e = absurd (true≢false (sym e))

same_number : (m n : ℕ) → (m == n) ≡ true → m ≡ n
same_number m n e = grind (arith, nat_tests)

same_kind : (a b : LintKind) → kind_place a ≡ kind_place b → kind_text a ≡ kind_text b → kind_number a ≡ kind_number b → a ≡ b
same_kind (kind.Uncovered x) (kind.Uncovered y) placed texts numbers = ap kind.Uncovered texts
same_kind (kind.Uncovered x) (kind.NoTouch y) placed texts numbers = absurd (omega (arith, placed))
same_kind (kind.Uncovered x) (kind.SharedKey y) placed texts numbers = absurd (omega (arith, placed))
same_kind (kind.Uncovered x) (kind.OutsideVariable y) placed texts numbers = absurd (omega (arith, placed))
same_kind (kind.NoTouch x) (kind.Uncovered y) placed texts numbers = absurd (omega (arith, placed))
same_kind (kind.NoTouch x) (kind.NoTouch y) placed texts numbers = ap kind.NoTouch texts
same_kind (kind.NoTouch x) (kind.SharedKey y) placed texts numbers = absurd (omega (arith, placed))
same_kind (kind.NoTouch x) (kind.OutsideVariable y) placed texts numbers = absurd (omega (arith, placed))
same_kind (kind.SharedKey x) (kind.Uncovered y) placed texts numbers = absurd (omega (arith, placed))
same_kind (kind.SharedKey x) (kind.NoTouch y) placed texts numbers = absurd (omega (arith, placed))
same_kind (kind.SharedKey x) (kind.SharedKey y) placed texts numbers = ap kind.SharedKey numbers
same_kind (kind.SharedKey x) (kind.OutsideVariable y) placed texts numbers = absurd (omega (arith, placed))
same_kind (kind.OutsideVariable x) (kind.Uncovered y) placed texts numbers = absurd (omega (arith, placed))
same_kind (kind.OutsideVariable x) (kind.NoTouch y) placed texts numbers = absurd (omega (arith, placed))
same_kind (kind.OutsideVariable x) (kind.SharedKey y) placed texts numbers = absurd (omega (arith, placed))
same_kind (kind.OutsideVariable x) (kind.OutsideVariable y) placed texts numbers = ap kind.OutsideVariable texts

same_is : (a b : LintFault) → same_fault a b ≡ true → a ≡ b
same_is a b e =
    let more = second_holds _ _ e in
    let last = second_holds _ _ more in
    let carried = second_holds _ _ last in
    let template : a.template ≡ b.template = (bytes_eq-Decides a.template b.template).0 (first_holds _ _ e) in
    let at : a.at ≡ b.at = same_number a.at b.at (first_holds _ _ more) in
    let is : a.kind ≡ b.kind =
    same_kind a.kind b.kind (same_number (kind_place a.kind) (kind_place b.kind) (first_holds _ _ last)) ((bytes_eq-Decides (kind_text a.kind) (kind_text b.kind)).0 (first_holds _ _ carried))
    (same_number (kind_number a.kind) (kind_number b.kind) (second_holds _ _ carried)) in
    made a b template at is
  where
    made : (a b : LintFault) → a.template ≡ b.template → a.at ≡ b.at → a.kind ≡ b.kind → a ≡ b
    made a b e f g =
        ap (λ t. record { template = t; at = a.at; kind = a.kind }) e ∙ ap (λ n. record { template = b.template; at = n; kind = a.kind }) f
        ∙ ap (λ k. record { template = b.template; at = b.at; kind = k }) g

pub sorted_once : (xs ys zs : List LintFault) → IsPermutation xs ys → IsSorted fault_order ys → IsFiltered (DiffersFromLast same_fault) [] ys zs → AreInOrder xs zs
sorted_once xs ys zs moved sorted filtered =
    let is : zs ≡ dedup same_fault ys = dedup_is same_fault ys zs filtered in
    subst (AreInOrder xs) (sym is) (record {
      ascend = IsStrictlySortedBy-dedup fault_total ties ys sorted;
      kept = λ fault h. Contains-dedup fault_equal same_is ys fault (Contains-permutation xs ys fault moved h);
      only = λ fault h. Contains-permutation ys xs fault (IsPermutation-sym xs ys moved) (Contains-from_dedup same_fault ys fault h);
    })

-- ---- notes

pub note_total : IsTotalOrder note_order
note_total = search (comparing, rules) depth 14

note_equal : IsEquivalence same_note
note_equal = search (comparing, rules) depth 14

note_ties : (x y : Note) → same_note x y ≡ eq_by_cmp note_order x y
note_ties x y = refl

both_tied : (r s : Ordering) → is_eq (ordering_then r s) ≡ true → (is_eq r ≡ true) × (is_eq s ≡ true)
both_tied Less s e = absurd (true≢false (sym e))
both_tied Equal s e = (refl, e)
both_tied Greater s e = absurd (true≢false (sym e))

tied_number : (m n : ℕ) → is_eq (nat_cmp m n) ≡ true → m ≡ n
tied_number m n e = same_number m n (unsigned_ties m n ∙ e)

tied_part : (one other : PartShape) → is_eq (part_order one other) ≡ true → one ≡ other
tied_part (shape.Record m) (shape.Record n) e = ap shape.Record (tied_number m n (both_tied (nat_cmp m n) Equal e).0)
tied_part (shape.Record m) shape.Single e = absurd (true≢false (sym e))
tied_part (shape.Record m) (shape.Literal t) e = absurd (true≢false (sym e))
tied_part shape.Single (shape.Record n) e = absurd (true≢false (sym e))
tied_part shape.Single shape.Single e = refl
tied_part shape.Single (shape.Literal t) e = absurd (true≢false (sym e))
tied_part (shape.Literal s) (shape.Record n) e = absurd (true≢false (sym e))
tied_part (shape.Literal s) shape.Single e = absurd (true≢false (sym e))
tied_part (shape.Literal s) (shape.Literal t) e = ap shape.Literal ((bytes_eq-Decides s t).0 (texts_ties s t ∙ e))

tied_shape : (ones others : List PartShape) → is_eq (slice_cmp part_order ones others) ≡ true → ones ≡ others
tied_shape [] [] e = refl
tied_shape [] (other ∷ others) e = absurd (true≢false (sym e))
tied_shape (one ∷ ones) [] e = absurd (true≢false (sym e))
tied_shape (one ∷ ones) (other ∷ others) e =
    let both = both_tied (part_order one other) (slice_cmp part_order ones others) e in
    ap (λ p. p ∷ ones) (tied_part one other both.0) ∙ ap (λ more. other ∷ more) (tied_shape ones others both.1)

same_note_is : (a b : Note) → same_note a b ≡ true → a ≡ b
same_note_is a b e =
    let all = both_tied (group_order a b) (ordering_then (nat_cmp a.number b.number) (nat_cmp a.at b.at)) e in
    let group = both_tied (nat_cmp a.template b.template) (slice_cmp part_order a.shape b.shape) all.0 in
    let place = both_tied (nat_cmp a.number b.number) (nat_cmp a.at b.at) all.1 in
    made a b (tied_number a.template b.template group.0) (tied_number a.number b.number place.0) (tied_number a.at b.at place.1) (tied_shape a.shape b.shape group.1)
  where
    made : (a b : Note) → a.template ≡ b.template → a.number ≡ b.number → a.at ≡ b.at → a.shape ≡ b.shape → a ≡ b
    made a b e f g h =
        ap (λ t. record { template = t; number = a.number; at = a.at; shape = a.shape }) e
        ∙ ap (λ n. record { template = b.template; number = n; at = a.at; shape = a.shape }) f
        ∙ ap (λ n. record { template = b.template; number = b.number; at = n; shape = a.shape }) g
        ∙ ap (λ s. record { template = b.template; number = b.number; at = b.at; shape = s }) h

pub notes_once : (xs ys zs : List Note) → IsPermutation xs ys → IsSorted note_order ys → IsFiltered (DiffersFromLast same_note) [] ys zs → AreOnce xs zs
notes_once xs ys zs moved sorted filtered =
    let is : zs ≡ dedup same_note ys = dedup_is same_note ys zs filtered in
    subst (AreOnce xs) (sym is) (record {
      ascend = IsStrictlySortedBy-dedup note_total note_ties ys sorted;
      kept = λ note h. Contains-dedup note_equal same_note_is ys note (Contains-permutation xs ys note moved h);
      only = λ note h. Contains-permutation ys xs note (IsPermutation-sym xs ys moved) (Contains-from_dedup same_note ys note h);
    })
