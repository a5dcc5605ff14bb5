-- A list with one element at its end.
use Rattle.std.proofs.Common.{◌≡◌, ℕ, ◌-◌, List, [], ◌∷◌, ◌++◌, length, take, ap, sym, subst, ◌∙◌, arith, length-append}
use Rattle.std.proofs.Math.Seq.{take-append_seam}
use Rattle.doll_table.specs.Tables.{TableMap}
use Rattle.doll_schema.specs.declared.value.Val.{Val}
use Rattle.doll_eval.specs.Living.{AreLiving, IsLiving}
use Rattle.doll_eval.proofs.Livings.{bound_live}

-- what stands before the last element
pub front_is : {X : Type 0} (whole front : List X) (x : X) → whole ≡ front ++ x ∷ [] → front ≡ take (length whole - 1) whole
front_is whole front x e = rw e (sym (ap (λ n. take n (front ++ x ∷ [])) size ∙ take-append_seam front (x ∷ [])))
  where
    size : length (front ++ x ∷ []) - 1 ≡ length front
    size = omega (arith, length-append front (x ∷ []))

-- the same variables live in an equal table
pub living_along : (t u : TableMap) (vars same : List (List ℕ × Val)) → t ≡ u → vars ≡ same → AreLiving u same → AreLiving t vars
living_along t u vars same e f h = subst (λ t. AreLiving t vars) (sym e) (subst (AreLiving u) (sym f) h)

-- a variable alone lives where its value does
pub alone_lives : (table : TableMap) (name : List ℕ) (v : Val) → IsLiving table v → AreLiving table ((name, v) ∷ [])
alone_lives table name v lives = bound_live table [] name v (λ k d h. absurd (omega arith)) lives
