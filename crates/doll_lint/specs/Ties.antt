-- Faults are the same where their order doesn't tell them apart.
use Rattle.std.specs.Prelude.{◌≡◌, ℕ, ◌==◌, Bool, ◌&&◌, List, refl}
use Rattle.std.proofs.Common.{ap, ◌∙◌}
use Rattle.std.specs.Cmp.{unsigned_ties}
use Rattle.std.specs.Cmp.Lexicographic.{pointwise, slice_cmp, texts_ties}
use Rattle.std.specs.declared.cmp.Ordering.{Ordering}
use Rattle.std.specs.declared.cmp.Ordering.TheVariants.{Less, Equal, Greater}
use Rattle.std.specs.Ordering.{eq_of_both, is_eq, nat_cmp, on, ordering_then, then_cmp}
use Rattle.doll_lint.specs.declared.fault.LintFault.{LintFault}
use Rattle.doll_lint.specs.Faults.{fault_order, kind_number, kind_place, kind_text}
use Rattle.doll_lint.specs.Order.{same_fault}

both_tie : (o p : Ordering) → (is_eq o && is_eq p) ≡ is_eq (ordering_then o p)
both_tie Less p = refl
both_tie Equal p = refl
both_tie Greater p = refl

then_tie : (E F : LintFault → LintFault → Bool) (R S : LintFault → LintFault → Ordering) → ((x y : LintFault) → E x y ≡ is_eq (R x y)) → ((x y : LintFault) → F x y ≡ is_eq (S x y)) → (x y : LintFault) → eq_of_both E F x y ≡ is_eq (then_cmp R S x y)
then_tie E F R S e f x y = ap (λ b. b && F x y) (e x y) ∙ ap (λ b. is_eq (R x y) && b) (f x y) ∙ both_tie (R x y) (S x y)

-- the parts of a fault, compared and told apart
abbrev text_tie : (LintFault → List ℕ) → LintFault → LintFault → Bool
text_tie part = on part (pointwise ◌==◌)

abbrev number_tie : (LintFault → ℕ) → LintFault → LintFault → Bool
number_tie part = on part ◌==◌

abbrev text_order : (LintFault → List ℕ) → LintFault → LintFault → Ordering
text_order part = on part (slice_cmp nat_cmp)

abbrev number_order : (LintFault → ℕ) → LintFault → LintFault → Ordering
number_order part = on part nat_cmp

-- what a kind carries
carried_ties : (x y : LintFault) → eq_of_both (text_tie (λ f. kind_text f.kind)) (number_tie (λ f. kind_number f.kind)) x y ≡ is_eq (then_cmp (text_order (λ f. kind_text f.kind)) (number_order (λ f. kind_number f.kind)) x y)
carried_ties =
    then_tie (text_tie (λ f. kind_text f.kind)) (number_tie (λ f. kind_number f.kind)) (text_order (λ f. kind_text f.kind)) (number_order (λ f. kind_number f.kind))
    (λ x y. texts_ties (kind_text x.kind) (kind_text y.kind)) (λ x y. unsigned_ties (kind_number x.kind) (kind_number y.kind))

abbrev carried_tie : LintFault → LintFault → Bool
carried_tie = eq_of_both (text_tie (λ f. kind_text f.kind)) (number_tie (λ f. kind_number f.kind))

abbrev carried_order : LintFault → LintFault → Ordering
carried_order = then_cmp (text_order (λ f. kind_text f.kind)) (number_order (λ f. kind_number f.kind))

pub fault_ties : (x y : LintFault) → same_fault x y ≡ is_eq (fault_order x y)
fault_ties =
    then_tie (text_tie (λ f. f.template)) (eq_of_both (number_tie (λ f. f.at)) (eq_of_both (number_tie (λ f. kind_place f.kind)) carried_tie))
    (text_order (λ f. f.template)) (then_cmp (number_order (λ f. f.at)) (then_cmp (number_order (λ f. kind_place f.kind)) carried_order))
    (λ x y. texts_ties x.template y.template)
    (then_tie (number_tie (λ f. f.at)) (eq_of_both (number_tie (λ f. kind_place f.kind)) carried_tie) (number_order (λ f. f.at)) (then_cmp (number_order (λ f. kind_place f.kind)) carried_order)
    (λ x y. unsigned_ties x.at y.at)
    (then_tie (number_tie (λ f. kind_place f.kind)) carried_tie (number_order (λ f. kind_place f.kind)) carried_order
    (λ x y. unsigned_ties (kind_place x.kind) (kind_place y.kind)) carried_ties))
