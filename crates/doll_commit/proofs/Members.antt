-- The set beside a list of records.
use Rattle.std.proofs.Common.{◌≡◌, Bool, true, false, cond, ◌||◌, List, [], ◌∷◌, ◌++◌, refl, sym, ◌∙◌, ap, subst, arith}
use Rattle.std.specs.List.{list_any, IsDistinct}
use Rattle.std.specs.Ordering.{is_eq}
use Rattle.std.specs.BTreeMap.{is_at}
use Rattle.std.specs.BTreeSet.{BTreeSet, contains, Updates}
use Rattle.std.proofs.lemmas.Bool.Decides.{nat_tests}
use Rattle.std.proofs.lemmas.Map.Keys.{IsDistinct-push}
use Rattle.doll_commit.specs.Refs.{Ref, ref_cmp, is_ref, has, AreBeside}
use Rattle.doll_commit.proofs.Closures.{is_ref_equiv, has-append}

is_test : (x y : Ref) → is_eq (ref_cmp x y) ≡ is_ref y x
is_test x y = grind (arith, nat_tests)

pub none_beside : (members : BTreeSet Ref) (list : List Ref) → members.keys ≡ [] → list ≡ [] → AreBeside members list
unfolding IsDistinct
none_beside members list e f = ((λ ref. ap (λ ks. list_any (is_at (ref_cmp ref)) ks) e ∙ ap (λ xs. has xs ref) (sym f)), subst (λ xs. IsDistinct is_ref xs) (sym f) tt)

turned : (a b : Bool) → cond a true b ≡ (b || (a || false))
turned true true = refl
turned true false = refl
turned false true = refl
turned false false = refl

pub more_beside : (members larger : BTreeSet Ref) (list longer : List Ref) (item : Ref) → AreBeside members list → has list item ≡ false → Updates ref_cmp members larger item true → longer ≡ list ++ item ∷ [] → AreBeside larger longer
more_beside members larger list longer item are new put is = (
  (λ ref. put.0 ref ∙ (ap (λ b. cond b true (contains ref_cmp members ref)) (is_test item ref) ∙ (ap (λ b. cond (is_ref ref item) true b) (are.0 ref) ∙ (turned (is_ref ref item) (has list ref) ∙ (sym (has-append list (item ∷ []) ref) ∙ ap (λ xs. has xs ref) (sym is)))))),
  subst (λ xs. IsDistinct is_ref xs) (sym is) (IsDistinct-push is_ref_equiv list item are.1 new),
)
