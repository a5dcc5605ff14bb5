-- Lists without their last element.
use Rattle.std.proofs.Common.{◌≡◌, ◌-◌, List, [], ◌∷◌, ◌++◌, length, take, ap, sym, ◌∙◌, arith, length-append}
use Rattle.std.proofs.Math.Seq.{take-append_seam}

-- what stands before the last element
pub front_is : {X : Type 0} (whole front : List X) (x : X) → whole ≡ front ++ x ∷ [] → front ≡ take (length whole - 1) whole
front_is whole front x e = rw e (sym (ap (λ n. take n (front ++ x ∷ [])) size ∙ take-append_seam front (x ∷ [])))
  where
    size : length (front ++ x ∷ []) - 1 ≡ length front
    size = omega (arith, length-append front (x ∷ []))
