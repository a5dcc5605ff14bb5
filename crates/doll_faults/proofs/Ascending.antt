-- Lists that ascend and hold the same are one.
use Rattle.std.proofs.Common.{◌≡◌, zero, suc, List, [], ◌∷◌, refl, ap, sym, subst, ◌∙◌, arith, rules}
use Rattle.std.specs.Cmp.{IsTotalOrder}
use Rattle.std.specs.Cmp.Rules.{comparing}
use Rattle.std.specs.declared.cmp.Ordering.{Ordering}
use Rattle.std.specs.declared.cmp.Ordering.TheVariants.{Less}
use Rattle.std.specs.List.{AllByRecursion, Contains}
use Rattle.std.specs.List.Sorted.{IsStrictlySortedBy}
use Rattle.std.specs.Ordering.{ordering_reverse}
use Rattle.doll_lint.specs.declared.fault.LintFault.{LintFault}
use Rattle.doll_lint.specs.Faults.{fault_order as lint_order}
use Rattle.doll_lint.specs.Faults.{AreLintFaults}
use Rattle.doll_route.specs.declared.route.Route.{Route}
use Rattle.doll_schema.specs.Models.{ModelList}
use Rattle.doll_set.specs.Sets.{ReadSet}
use Rattle.doll_types.specs.declared.fault.TypeFault.{TypeFault}
use Rattle.doll_types.specs.Faults.{AreTypeFaults, fault_order as type_order}

type_total : IsTotalOrder type_order
type_total = search (comparing, rules) depth 12

lint_total : IsTotalOrder lint_order
lint_total = search (comparing, rules) depth 14

-- no two are below each other
not_both : {X : Type 0} {R : X → X → Ordering} → IsTotalOrder R → (x y : X) → R x y ≡ Less → R y x ≡ Less → ⊥
not_both o x y below above = absurd (cc (sym below ∙ o.antisymm x y ∙ ap ordering_reverse above))

-- what holds of all that a list holds
of_each : {X : Type 0} (P : X → Type 0) (xs : List X) (x : X) → AllByRecursion P xs → Contains xs x → P x
of_each P [] x all here = absurd (omega (arith, here.1))
of_each P (y ∷ xs) x all (zero, within, is) = subst P is all.0
of_each P (y ∷ xs) x all (suc at, within, is) = of_each P xs x all.1 (at, omega (arith, within), is)

-- the first of each list is the other's
same_first : {X : Type 0} {R : X → X → Ordering} → IsTotalOrder R → (x y : X) (xs ys : List X) → AllByRecursion (λ z. R x z ≡ Less) xs → AllByRecursion (λ z. R y z ≡ Less) ys
    → Contains (y ∷ ys) x → Contains (x ∷ xs) y → x ≡ y
same_first o x y xs ys above over (zero, within, is) there = sym is
same_first o x y xs ys above over (suc at, within, is) (zero, inside, same) = same
same_first {R = R} o x y xs ys above over (suc at, within, is) (suc place, inside, same) =
    absurd (not_both o x y
    (of_each (λ z. R x z ≡ Less) xs y above (place, omega (arith, inside), same))
    (of_each (λ z. R y z ≡ Less) ys x over (at, omega (arith, within), is)))

-- what stands behind the first isn't the first
behind : {X : Type 0} {R : X → X → Ordering} → IsTotalOrder R → (x y z : X) (xs ys : List X) → x ≡ y → AllByRecursion (λ z. R x z ≡ Less) xs → Contains xs z → Contains (y ∷ ys) z → Contains ys z
behind {R = R} o x y z xs ys first above here (zero, within, is) =
    let below : R x z ≡ Less = of_each (λ z. R x z ≡ Less) xs z above here in
    let itself : R x x ≡ Less = subst (λ w. R x w ≡ Less) (sym (first ∙ is)) below in
    absurd (not_both o x x itself itself)
behind o x y z xs ys first above here (suc at, within, is) = (at, omega (arith, within), is)

-- and also in the longer list
also : {X : Type 0} (x z : X) (xs : List X) → Contains xs z → Contains (x ∷ xs) z
also x z xs here = (suc here.0, omega (arith, here.1), here.2)

same_ascending : {X : Type 0} {R : X → X → Ordering} → IsTotalOrder R → (xs ys : List X) → IsStrictlySortedBy R xs → IsStrictlySortedBy R ys
    → ((x : X) → Contains xs x → Contains ys x) → ((x : X) → Contains ys x → Contains xs x) → xs ≡ ys
unfolding IsStrictlySortedBy
same_ascending o [] [] ascend rise there here = refl
same_ascending o [] (y ∷ ys) ascend rise there here = absurd (omega (arith, (here y (0, omega arith, refl)).1))
same_ascending o (x ∷ xs) [] ascend rise there here = absurd (omega (arith, (there x (0, omega arith, refl)).1))
same_ascending o (x ∷ xs) (y ∷ ys) ascend rise there here =
    let first : x ≡ y = same_first o x y xs ys ascend.0 rise.0 (there x (0, omega arith, refl)) (here y (0, omega arith, refl)) in
    let rest : xs ≡ ys =
    same_ascending o xs ys ascend.1 rise.1 (λ z h. behind o x y z xs ys first ascend.0 h (there z (also x z xs h))) (λ z h. behind o y x z ys xs (sym first) rise.0 h (here z (also y z ys h))) in
    ap (λ w. w ∷ xs) first ∙ ap (λ l. y ∷ l) rest

pub one_type_list : (set : ReadSet) (schema : ModelList) (routes : List Route) (one other : List TypeFault) → AreTypeFaults set schema routes one → AreTypeFaults set schema routes other → one ≡ other
one_type_list set schema routes one other a b =
    same_ascending type_total one other a.ascend b.ascend (λ fault h. b.all fault (a.each fault h)) (λ fault h. a.all fault (b.each fault h))

pub one_lint_list : (set : ReadSet) (schema : ModelList) (routes : List Route) (one other : List LintFault) → AreLintFaults set schema routes one → AreLintFaults set schema routes other → one ≡ other
one_lint_list set schema routes one other a b =
    same_ascending lint_total one other a.ascend b.ascend (λ fault h. b.all fault (a.each fault h)) (λ fault h. a.all fault (b.each fault h))
