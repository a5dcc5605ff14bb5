-- Names that ascend.
use Rattle.std.proofs.Common.{◌≡◌, ℕ, zero, suc, ◌+◌, Bool, true, false, cond, ◌||◌, true≢false, List, [], ◌∷◌, ◌++◌, map, take, drop, refl, ap, sym, subst, ◌∙◌, arith}
use Rattle.std.specs.Cmp.Lexicographic.{slice_cmp}
use Rattle.std.specs.declared.cmp.Ordering.{Ordering}
use Rattle.std.specs.declared.cmp.Ordering.TheVariants.{Less, Equal, Greater}
use Rattle.std.specs.List.{AllByRecursion, IsDistinct, insert, list_any, prefix_len}
use Rattle.std.specs.List.Sorted.{IsStrictlySortedBy}
use Rattle.std.specs.Ordering.{is_eq, is_le, nat_cmp, ordering_reverse}
use Rattle.std.specs.Str.{bytes_eq}
use Rattle.std.proofs.lemmas.Cmp.{nat_list_cmp_total}
use Rattle.std.proofs.lemmas.Map.Keys.{IsDistinct-from_sorted}
use Rattle.std.proofs.lemmas.Map.Text.{is_eq-slice_cmp}
use Rattle.std.proofs.Math.Path.{fun_ext}
use Rattle.doll_set.specs.Order.{Ascend, isnt_above, put_by_name}

-- a name that isn't above another, and isn't the other, is below it
below_other : (o : Ordering) → is_le o ≡ true → is_eq o ≡ false → o ≡ Less
below_other Less le isnt = refl
below_other Equal le isnt = absurd (true≢false isnt)
below_other Greater le isnt = absurd (true≢false (sym le))

above_other : (o : Ordering) → is_le o ≡ false → ordering_reverse o ≡ Less
above_other Less le = absurd (true≢false le)
above_other Equal le = absurd (true≢false le)
above_other Greater le = refl

eq_reversed : (o : Ordering) → is_eq (ordering_reverse o) ≡ is_eq o
eq_reversed Less = refl
eq_reversed Equal = refl
eq_reversed Greater = refl

one_more : (n : ℕ) → 1 + n ≡ suc n
one_more n = omega arith

reversed : (a b : List ℕ) → isnt_above a b ≡ false → slice_cmp nat_cmp b a ≡ Less
reversed a b le = nat_list_cmp_total.antisymm b a ∙ above_other (slice_cmp nat_cmp a b) le

both_false : (a b : Bool) → (a || b) ≡ false → (a ≡ false) × (b ≡ false)
both_false true b e = absurd (true≢false e)
both_false false b e = (refl, e)

-- what is below all of these names is below them where one more stands among them
all_put : {X : Type 0} (P : List ℕ → Type 0) (name : X → List ℕ) (xs : List X) (one : X) (at : ℕ) → AllByRecursion P (map name xs) → P (name one) → AllByRecursion P (map name (take at xs ++ one ∷ drop at xs))
all_put P name [] one zero all here = (here, all)
all_put P name [] one (suc at) all here = (here, all)
all_put P name (x ∷ xs) one zero all here = (here, all)
all_put P name (x ∷ xs) one (suc at) all here = (all.0, all_put P name xs one at all.1 here)

all_above : {X : Type 0} (name : X → List ℕ) (a b : List ℕ) (xs : List X) → slice_cmp nat_cmp a b ≡ Less → AllByRecursion (λ y. slice_cmp nat_cmp b y ≡ Less) (map name xs) → AllByRecursion (λ y. slice_cmp nat_cmp a y ≡ Less) (map name xs)
all_above name a b [] first all = tt
all_above name a b (x ∷ xs) first all = (nat_list_cmp_total.trans a b (name x) first all.0, all_above name a b xs first all.1)

-- a name that isn't among those that ascend leaves them ascending where it is put in its place
pub put_ascends : {X : Type 0} (name : X → List ℕ) (xs : List X) (one : X) → list_any (λ other. bytes_eq (name one) (name other)) xs ≡ false → Ascend (map name xs) → Ascend (map name (put_by_name name xs one))
unfolding IsStrictlySortedBy
put_ascends name [] one new ascend = (tt, tt)
put_ascends name (x ∷ xs) one new ascend =
    by (put_ascends name xs one (both_false (bytes_eq (name one) (name x)) (list_any (λ other. bytes_eq (name one) (name other)) xs) new).1 ascend.1)
    (isnt_above (name x) (name one)) refl
  where
    place : ℕ
    place = prefix_len (λ other. isnt_above (name other) (name one)) xs

    isnt : is_eq (slice_cmp nat_cmp (name x) (name one)) ≡ false
    isnt =
        ap is_eq (nat_list_cmp_total.antisymm (name x) (name one)) ∙ eq_reversed (slice_cmp nat_cmp (name one) (name x)) ∙ is_eq-slice_cmp (name one) (name x)
        ∙ (both_false (bytes_eq (name one) (name x)) (list_any (λ other. bytes_eq (name one) (name other)) xs) new).0

    by : Ascend (map name (put_by_name name xs one)) → (b : Bool) → isnt_above (name x) (name one) ≡ b → Ascend (map name (insert (x ∷ xs) (cond b (1 + place) 0) one))
    by rest true is =
        subst (λ k. Ascend (map name (insert (x ∷ xs) k one))) (sym (one_more place))
        (all_put (λ y. slice_cmp nat_cmp (name x) y ≡ Less) name xs one place ascend.0 (below_other (slice_cmp nat_cmp (name x) (name one)) is isnt), rest)
    by rest false is = ((reversed (name x) (name one) is, all_above name (name one) (name x) xs (reversed (name x) (name one) is) ascend.0), ascend)

-- names that ascend are distinct
pub ascend_distinct : (names : List (List ℕ)) → Ascend names → IsDistinct bytes_eq names
ascend_distinct names ascend =
    subst (λ same. IsDistinct same names) (fun_ext (λ a. fun_ext (λ b. is_eq-slice_cmp a b))) (IsDistinct-from_sorted (slice_cmp nat_cmp) names ascend)
