-- Equal typings.
use Rattle.std.proofs.Common.{◌≡◌, ℕ, ◌≤◌, ◌==◌, true, List, [], ◌∷◌, length, drop, get_or, refl, ap, sym, ◌∙◌, arith}
use Rattle.std.proofs.lemmas.Bool.Decides.{nat_tests}
use Rattle.doll_types.specs.declared.types.ValueType.{ValueType}
use Rattle.doll_types.specs.declared.types.ValueType.TheVariants.{Integer, Text, Boolean, Record, List as ListOf, Nil}
use Rattle.doll_types.specs.Types.{Typing, same_type}

same_number : (m n : ℕ) → (m == n) ≡ true → m ≡ n
same_number m n e = grind (arith, nat_tests)

-- types that are the same are equal
pub same_type_is : (a b : ValueType) → same_type a b ≡ true → a ≡ b
same_type_is Integer Integer e = refl
same_type_is Integer Text e = absurd (cc e)
same_type_is Integer Boolean e = absurd (cc e)
same_type_is Integer (Record n) e = absurd (cc e)
same_type_is Integer (ListOf n) e = absurd (cc e)
same_type_is Integer Nil e = absurd (cc e)
same_type_is Text Integer e = absurd (cc e)
same_type_is Text Text e = refl
same_type_is Text Boolean e = absurd (cc e)
same_type_is Text (Record n) e = absurd (cc e)
same_type_is Text (ListOf n) e = absurd (cc e)
same_type_is Text Nil e = absurd (cc e)
same_type_is Boolean Integer e = absurd (cc e)
same_type_is Boolean Text e = absurd (cc e)
same_type_is Boolean Boolean e = refl
same_type_is Boolean (Record n) e = absurd (cc e)
same_type_is Boolean (ListOf n) e = absurd (cc e)
same_type_is Boolean Nil e = absurd (cc e)
same_type_is (Record m) Integer e = absurd (cc e)
same_type_is (Record m) Text e = absurd (cc e)
same_type_is (Record m) Boolean e = absurd (cc e)
same_type_is (Record m) (Record n) e = ap Record (same_number m n e)
same_type_is (Record m) (ListOf n) e = absurd (cc e)
same_type_is (Record m) Nil e = absurd (cc e)
same_type_is (ListOf m) Integer e = absurd (cc e)
same_type_is (ListOf m) Text e = absurd (cc e)
same_type_is (ListOf m) Boolean e = absurd (cc e)
same_type_is (ListOf m) (Record n) e = absurd (cc e)
same_type_is (ListOf m) (ListOf n) e = ap ListOf (same_number m n e)
same_type_is (ListOf m) Nil e = absurd (cc e)
same_type_is Nil Integer e = absurd (cc e)
same_type_is Nil Text e = absurd (cc e)
same_type_is Nil Boolean e = absurd (cc e)
same_type_is Nil (Record n) e = absurd (cc e)
same_type_is Nil (ListOf n) e = absurd (cc e)
same_type_is Nil Nil e = refl

-- a binding with an equal name and an equal type
pub same_binding : (a b : List ℕ × ValueType) → a.0 ≡ b.0 → a.1 ≡ b.1 → a ≡ b
same_binding (name, t) (other, u) e f = ap (λ n. (n, t)) e ∙ ap (λ v. (other, v)) f

-- typings with equal first variables and equal others
pub same_front : (one other : Typing) (a b : List ℕ × ValueType) → 1 ≤ length one → 1 ≤ length other → a ≡ get_or one 0 a → b ≡ get_or other 0 b → a ≡ b → drop 1 one ≡ drop 1 other → one ≡ other
same_front [] other a b h g is are same rest = absurd (omega (arith, h))
same_front (x ∷ one) [] a b h g is are same rest = absurd (omega (arith, g))
same_front (x ∷ one) (y ∷ other) a b h g is are same rest = ap (λ z. z ∷ one) (sym is ∙ same ∙ are) ∙ ap (λ more. y ∷ more) rest
