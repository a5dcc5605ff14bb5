-- Faults sorted, each once.
use Rattle.std.proofs.Common.{◌≡◌, ℕ, ◌==◌, Bool, true, false, ◌&&◌, true≢false, List, [], refl, ap, sym, subst, ◌∙◌, arith, rules}
use Rattle.std.specs.List.{dedup}
use Rattle.std.specs.List.Retain.{DiffersFromLast, IsFiltered}
use Rattle.std.specs.List.Sorted.{IsPermutation, IsSorted}
use Rattle.std.specs.Cmp.{IsEquivalence, IsTotalOrder}
use Rattle.std.specs.Cmp.Rules.{comparing}
use Rattle.std.specs.Ordering.{eq_by_cmp}
use Rattle.std.proofs.lemmas.Bool.Decides.{nat_tests}
use Rattle.std.proofs.lemmas.List.Filters.{dedup_is}
use Rattle.std.proofs.lemmas.List.Kept.{Contains-dedup, Contains-from_dedup, IsStrictlySortedBy-dedup}
use Rattle.std.proofs.lemmas.List.Sorted.{Contains-permutation, IsPermutation-sym}
use Rattle.std.proofs.lemmas.Slice.Eq.{bytes_eq-Decides}
use Rattle.doll_types.specs.declared.fault.TypeFault.{TypeFault}
use Rattle.doll_types.specs.declared.types.TypeKind.{TypeKind}
use Rattle.doll_types.specs.declared.types.TypeKind.TheVariants as kind
use Rattle.doll_types.specs.Ties.{fault_ties}
use Rattle.doll_types.specs.Faults.{AreInOrder, fault_order, kind_name, kind_place, same_fault}

fault_total : IsTotalOrder fault_order
fault_total = search (comparing, rules) depth 12

fault_equal : IsEquivalence same_fault
fault_equal = search (comparing, rules) depth 12

ties : (x y : TypeFault) → same_fault x y ≡ eq_by_cmp fault_order x y
ties = fault_ties

first_holds : (a b : Bool) → (a && b) ≡ true → a ≡ true
first_holds true b e = refl
first_holds false b e = absurd (true≢false (sym e))

second_holds : (a b : Bool) → (a && b) ≡ true → b ≡ true
second_holds true b e = e
second_holds false b e = absurd (true≢false (sym e))

same_number : (m n : ℕ) → (m == n) ≡ true → m ≡ n
same_number m n e = grind (arith, nat_tests)

same_kind : (a b : TypeKind) → kind_place a ≡ kind_place b → kind_name a ≡ kind_name b → a ≡ b
same_kind kind.MissingTemplate kind.MissingTemplate placed named = refl
same_kind kind.MissingTemplate (kind.UnknownVariable y) placed named = absurd (omega (arith, placed))
same_kind kind.MissingTemplate (kind.UnknownStep y) placed named = absurd (omega (arith, placed))
same_kind kind.MissingTemplate kind.Mismatch placed named = absurd (omega (arith, placed))
same_kind kind.MissingTemplate kind.NotPrintable placed named = absurd (omega (arith, placed))
same_kind kind.MissingTemplate kind.NotList placed named = absurd (omega (arith, placed))
same_kind kind.MissingTemplate kind.BadKey placed named = absurd (omega (arith, placed))
same_kind (kind.UnknownVariable x) kind.MissingTemplate placed named = absurd (omega (arith, placed))
same_kind (kind.UnknownVariable x) (kind.UnknownVariable y) placed named = ap kind.UnknownVariable named
same_kind (kind.UnknownVariable x) (kind.UnknownStep y) placed named = absurd (omega (arith, placed))
same_kind (kind.UnknownVariable x) kind.Mismatch placed named = absurd (omega (arith, placed))
same_kind (kind.UnknownVariable x) kind.NotPrintable placed named = absurd (omega (arith, placed))
same_kind (kind.UnknownVariable x) kind.NotList placed named = absurd (omega (arith, placed))
same_kind (kind.UnknownVariable x) kind.BadKey placed named = absurd (omega (arith, placed))
same_kind (kind.UnknownStep x) kind.MissingTemplate placed named = absurd (omega (arith, placed))
same_kind (kind.UnknownStep x) (kind.UnknownVariable y) placed named = absurd (omega (arith, placed))
same_kind (kind.UnknownStep x) (kind.UnknownStep y) placed named = ap kind.UnknownStep named
same_kind (kind.UnknownStep x) kind.Mismatch placed named = absurd (omega (arith, placed))
same_kind (kind.UnknownStep x) kind.NotPrintable placed named = absurd (omega (arith, placed))
same_kind (kind.UnknownStep x) kind.NotList placed named = absurd (omega (arith, placed))
same_kind (kind.UnknownStep x) kind.BadKey placed named = absurd (omega (arith, placed))
same_kind kind.Mismatch kind.MissingTemplate placed named = absurd (omega (arith, placed))
same_kind kind.Mismatch (kind.UnknownVariable y) placed named = absurd (omega (arith, placed))
same_kind kind.Mismatch (kind.UnknownStep y) placed named = absurd (omega (arith, placed))
same_kind kind.Mismatch kind.Mismatch placed named = refl
same_kind kind.Mismatch kind.NotPrintable placed named = absurd (omega (arith, placed))
same_kind kind.Mismatch kind.NotList placed named = absurd (omega (arith, placed))
same_kind kind.Mismatch kind.BadKey placed named = absurd (omega (arith, placed))
same_kind kind.NotPrintable kind.MissingTemplate placed named = absurd (omega (arith, placed))
same_kind kind.NotPrintable (kind.UnknownVariable y) placed named = absurd (omega (arith, placed))
same_kind kind.NotPrintable (kind.UnknownStep y) placed named = absurd (omega (arith, placed))
same_kind kind.NotPrintable kind.Mismatch placed named = absurd (omega (arith, placed))
same_kind kind.NotPrintable kind.NotPrintable placed named = refl
same_kind kind.NotPrintable kind.NotList placed named = absurd (omega (arith, placed))
same_kind kind.NotPrintable kind.BadKey placed named = absurd (omega (arith, placed))
same_kind kind.NotList kind.MissingTemplate placed named = absurd (omega (arith, placed))
same_kind kind.NotList (kind.UnknownVariable y) placed named = absurd (omega (arith, placed))
same_kind kind.NotList (kind.UnknownStep y) placed named = absurd (omega (arith, placed))
same_kind kind.NotList kind.Mismatch placed named = absurd (omega (arith, placed))
same_kind kind.NotList kind.NotPrintable placed named = absurd (omega (arith, placed))
same_kind kind.NotList kind.NotList placed named = refl
same_kind kind.NotList kind.BadKey placed named = absurd (omega (arith, placed))
same_kind kind.BadKey kind.MissingTemplate placed named = absurd (omega (arith, placed))
same_kind kind.BadKey (kind.UnknownVariable y) placed named = absurd (omega (arith, placed))
same_kind kind.BadKey (kind.UnknownStep y) placed named = absurd (omega (arith, placed))
same_kind kind.BadKey kind.Mismatch placed named = absurd (omega (arith, placed))
same_kind kind.BadKey kind.NotPrintable placed named = absurd (omega (arith, placed))
same_kind kind.BadKey kind.NotList placed named = absurd (omega (arith, placed))
same_kind kind.BadKey kind.BadKey placed named = refl

same_is : (a b : TypeFault) → same_fault a b ≡ true → a ≡ b
same_is a b e =
    let more = second_holds _ _ e in
    let last = second_holds _ _ more in
    let template : a.template ≡ b.template = (bytes_eq-Decides a.template b.template).0 (first_holds _ _ e) in
    let at : a.at ≡ b.at = same_number a.at b.at (first_holds _ _ more) in
    let is : a.kind ≡ b.kind =
    same_kind a.kind b.kind (same_number (kind_place a.kind) (kind_place b.kind) (first_holds _ _ last)) ((bytes_eq-Decides (kind_name a.kind) (kind_name b.kind)).0 (second_holds _ _ last)) in
    made a b template at is
  where
    made : (a b : TypeFault) → a.template ≡ b.template → a.at ≡ b.at → a.kind ≡ b.kind → a ≡ b
    made a b e f g =
        ap (λ t. record { template = t; at = a.at; kind = a.kind }) e ∙ ap (λ n. record { template = b.template; at = n; kind = a.kind }) f
        ∙ ap (λ k. record { template = b.template; at = b.at; kind = k }) g

pub sorted_once : (xs ys zs : List TypeFault) → IsPermutation xs ys → IsSorted fault_order ys → IsFiltered (DiffersFromLast same_fault) [] ys zs → AreInOrder xs zs
sorted_once xs ys zs moved sorted filtered =
    let is : zs ≡ dedup same_fault ys = dedup_is same_fault ys zs filtered in
    subst (AreInOrder xs) (sym is) (record {
      ascend = IsStrictlySortedBy-dedup fault_total ties ys sorted;
      kept = λ fault h. Contains-dedup fault_equal same_is ys fault (Contains-permutation xs ys fault moved h);
      only = λ fault h. Contains-permutation ys xs fault (IsPermutation-sym xs ys moved) (Contains-from_dedup same_fault ys fault h);
    })
