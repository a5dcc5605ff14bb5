-- Faults are the same where their order doesn't tell them apart.
use Rattle.std.specs.Prelude.{◌≡◌, ℕ, ◌==◌, Bool, ◌&&◌, List, refl}
use Rattle.std.proofs.Common.{ap, ◌∙◌}
use Rattle.std.specs.Cmp.{unsigned_ties}
use Rattle.std.specs.Cmp.Lexicographic.{pointwise, slice_cmp, texts_ties}
use Rattle.std.specs.declared.cmp.Ordering.{Ordering}
use Rattle.std.specs.declared.cmp.Ordering.TheVariants.{Less, Equal, Greater}
use Rattle.std.specs.Ordering.{eq_of_both, is_eq, nat_cmp, on, ordering_then, then_cmp}
use Rattle.doll_types.specs.declared.fault.TypeFault.{TypeFault}
use Rattle.doll_types.specs.Faults.{fault_order, kind_name, kind_place, same_fault}

both_tie : (o p : Ordering) → (is_eq o && is_eq p) ≡ is_eq (ordering_then o p)
both_tie Less p = refl
both_tie Equal p = refl
both_tie Greater p = refl

then_tie : (E F : TypeFault → TypeFault → Bool) (R S : TypeFault → TypeFault → Ordering) → ((x y : TypeFault) → E x y ≡ is_eq (R x y)) → ((x y : TypeFault) → F x y ≡ is_eq (S x y)) → (x y : TypeFault) → eq_of_both E F x y ≡ is_eq (then_cmp R S x y)
then_tie E F R S e f x y = ap (λ b. b && F x y) (e x y) ∙ ap (λ b. is_eq (R x y) && b) (f x y) ∙ both_tie (R x y) (S x y)

-- the parts of a fault, compared and told apart
abbrev text_tie : (TypeFault → List ℕ) → TypeFault → TypeFault → Bool
text_tie part = on part (pointwise ◌==◌)

abbrev number_tie : (TypeFault → ℕ) → TypeFault → TypeFault → Bool
number_tie part = on part ◌==◌

abbrev text_order : (TypeFault → List ℕ) → TypeFault → TypeFault → Ordering
text_order part = on part (slice_cmp nat_cmp)

abbrev number_order : (TypeFault → ℕ) → TypeFault → TypeFault → Ordering
number_order part = on part nat_cmp

pub fault_ties : (x y : TypeFault) → same_fault x y ≡ is_eq (fault_order x y)
fault_ties =
    then_tie (text_tie (λ f. f.template)) (eq_of_both (number_tie (λ f. f.at)) (eq_of_both (number_tie (λ f. kind_place f.kind)) (text_tie (λ f. kind_name f.kind))))
    (text_order (λ f. f.template)) (then_cmp (number_order (λ f. f.at)) (then_cmp (number_order (λ f. kind_place f.kind)) (text_order (λ f. kind_name f.kind))))
    (λ x y. texts_ties x.template y.template)
    (then_tie (number_tie (λ f. f.at)) (eq_of_both (number_tie (λ f. kind_place f.kind)) (text_tie (λ f. kind_name f.kind)))
    (number_order (λ f. f.at)) (then_cmp (number_order (λ f. kind_place f.kind)) (text_order (λ f. kind_name f.kind)))
    (λ x y. unsigned_ties x.at y.at)
    (then_tie (number_tie (λ f. kind_place f.kind)) (text_tie (λ f. kind_name f.kind)) (number_order (λ f. kind_place f.kind)) (text_order (λ f. kind_name f.kind))
    (λ x y. unsigned_ties (kind_place x.kind) (kind_place y.kind)) (λ x y. texts_ties (kind_name x.kind) (kind_name y.kind))))
