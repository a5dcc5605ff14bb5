-- From a thing on a cycle chains of any length begin, so where no chain is longer than some number nothing lies on a cycle.
use Rattle.std.proofs.Common.{◌≡◌, ℕ, zero, suc, Bool, true, false, ◌||◌, true≢false, List, [], ◌∷◌, length, get_or, None, Some, refl, ap, sym, ◌∙◌}
use Rattle.std.specs.Prelude.{slice_set, cond, map, option_map}
use Rattle.std.specs.List.{find, list_any}
use Rattle.doll_graph.specs.Graphs.{Graph, cycle, dependencies, dependents, first_longer, has_longer, has_mark, is_on_cycle, leading, leads, longer_chains, numbers, steps_back, way}

or_true : (a b : Bool) → a ≡ true → (a || b) ≡ true
or_true a b is = ap (λ c. c || b) is

or_right : (a b : Bool) → b ≡ true → (a || b) ≡ true
or_right true b is = refl
or_right false b is = is

-- what one of these does another does, each of which does
imply_any : (p q : ℕ → Bool) → ((d : ℕ) → p d ≡ true → q d ≡ true) → (ds : List ℕ) → list_any p ds ≡ true → list_any q ds ≡ true
imply_any p q implies [] any = any
imply_any p q implies (d ∷ ds) any = by (p d) refl (imply_any p q implies ds)
  where
    by : (b : Bool) → p d ≡ b → (list_any p ds ≡ true → list_any q ds ≡ true) → (q d || list_any q ds) ≡ true
    by true is rest = or_true (q d) (list_any q ds) (implies d is)
    by false is rest = or_right (q d) (list_any q ds) (rest (sym (ap (λ c. c || list_any p ds) is) ∙ any))

-- those that depend on one that is marked, by the marks of their dependencies
dependent : (graph : Graph) (marks : List Bool) (number : ℕ) → has_mark (dependents graph marks) number ≡ true → list_any (has_mark marks) (dependencies graph number) ≡ true
dependent [] marks number marked = absurd (true≢false (sym marked))
dependent (ds ∷ graph) marks zero marked = marked
dependent (ds ∷ graph) marks (suc number) marked = dependent_in graph number marked
  where
    dependent_in : (more : Graph) (at : ℕ) → get_or (map (list_any (has_mark marks)) more) at false ≡ true → list_any (has_mark marks) (get_or more at []) ≡ true
    dependent_in [] at marked = absurd (true≢false (sym marked))
    dependent_in (one ∷ more) zero marked = marked
    dependent_in (one ∷ more) (suc at) marked = dependent_in more at marked

depends : (graph : Graph) (marks : List Bool) (number : ℕ) → list_any (has_mark marks) (dependencies graph number) ≡ true → has_mark (dependents graph marks) number ≡ true
depends [] marks number marked = absurd (true≢false (sym marked))
depends (ds ∷ graph) marks zero marked = marked
depends (ds ∷ graph) marks (suc number) marked = depends_in graph number marked
  where
    depends_in : (more : Graph) (at : ℕ) → list_any (has_mark marks) (get_or more at []) ≡ true → get_or (map (list_any (has_mark marks)) more) at false ≡ true
    depends_in [] at marked = absurd (true≢false (sym marked))
    depends_in (one ∷ more) zero marked = marked
    depends_in (one ∷ more) (suc at) marked = depends_in more at marked

-- a thing that depends on another is one of the things
is_there : (graph : Graph) (number : ℕ) (p : ℕ → Bool) → list_any p (dependencies graph number) ≡ true → has_longer graph zero number ≡ true
is_there [] number p any = absurd (true≢false (sym any))
is_there (ds ∷ graph) zero p any = refl
is_there (ds ∷ graph) (suc number) p any = there graph number any
  where
    there : (more : Graph) (at : ℕ) → list_any p (get_or more at []) ≡ true → get_or (map (λ _. true) more) at false ≡ true
    there [] at any = absurd (true≢false (sym any))
    there (one ∷ more) zero any = refl
    there (one ∷ more) (suc at) any = there more at any

-- where a chain of more than n + 1 things begins, one of more than n does
shorter_too : (graph : Graph) (n number : ℕ) → has_longer graph (suc n) number ≡ true → has_longer graph n number ≡ true
shorter_too graph zero number long = is_there graph number (has_mark (longer_chains graph zero)) (dependent graph (longer_chains graph zero) number long)
shorter_too graph (suc n) number long =
    depends graph (longer_chains graph n) number
    (imply_any (has_longer graph (suc n)) (has_longer graph n) (shorter_too graph n) (dependencies graph number) (dependent graph (longer_chains graph (suc n)) number long))

-- a mark among those with one more is that one or an old one
old_or_new : (P : ℕ → Type 0) (marks : List Bool) (target number : ℕ) → P target → (has_mark marks number ≡ true → P number) → has_mark (slice_set marks target true) number ≡ true → P number
old_or_new P [] target number new old marked = old marked
old_or_new P (m ∷ marks) zero zero new old marked = new
old_or_new P (m ∷ marks) zero (suc number) new old marked = old marked
old_or_new P (m ∷ marks) (suc target) zero new old marked = old marked
old_or_new P (m ∷ marks) (suc target) (suc number) new old marked = old_or_new (λ n. P (suc n)) marks target number new old marked

-- a chain from a target is one longer from what leads to it
longer_before : (graph : Graph) (target k n number : ℕ) → has_longer graph k target ≡ true → leads graph target n number ≡ true → has_longer graph (suc k) number ≡ true
longer_before graph target k zero number long led = absurd (true≢false (sym led ∙ none graph number))
  where
    none : (more : Graph) (at : ℕ) → get_or (map (λ _. false) more) at false ≡ false
    none [] at = refl
    none (one ∷ more) zero = refl
    none (one ∷ more) (suc at) = none more at
longer_before graph target k (suc n) number long led =
    depends graph (longer_chains graph k) number
    (imply_any (has_mark (slice_set (leading graph target n) target true)) (has_longer graph k)
    (λ d marked.
    old_or_new (λ one. has_longer graph k one ≡ true) (leading graph target n) target d long
    (λ leads_there. shorter_too graph k d (longer_before graph target k n d long leads_there)) marked) (dependencies graph number) (dependent graph (slice_set (leading graph target n) target true) number led))

-- from a thing on a cycle a chain of more than any number of things begins
endless : (graph : Graph) (number k : ℕ) → is_on_cycle graph number ≡ true → has_longer graph k number ≡ true
endless graph number zero on = first (length graph) on
  where
    first : (n : ℕ) → leads graph number n number ≡ true → has_longer graph zero number ≡ true
    first zero led = absurd (true≢false (sym led ∙ none graph number))
      where
        none : (more : Graph) (at : ℕ) → get_or (map (λ _. false) more) at false ≡ false
        none [] at = refl
        none (one ∷ more) zero = refl
        none (one ∷ more) (suc at) = none more at
    first (suc n) led =
        is_there graph number (has_mark (slice_set (leading graph number n) number true)) (dependent graph (slice_set (leading graph number n) number true) number led)
endless graph number (suc k) on = longer_before graph number k (length graph) number (endless graph number k on) on

-- where no thing does the one, none does the other
none_found : (p q : ℕ → Bool) → ((n : ℕ) → q n ≡ true → p n ≡ true) → (ns : List ℕ) → find p ns ≡ None → find q ns ≡ None
none_found p q implies [] none = refl
none_found p q implies (n ∷ ns) none = by (q n) refl (none_found p q implies ns split.1)
  where
    found : (b : Bool) → p n ≡ b → cond b (Some n) (find p ns) ≡ None → (q n ≡ true → ⊥) × (find p ns ≡ None)
    found true is some = absurd (cc some)
    found false is rest = ((λ does. true≢false (sym (implies n does) ∙ is)), rest)

    split : (q n ≡ true → ⊥) × (find p ns ≡ None)
    split = found (p n) refl none

    by : (b : Bool) → q n ≡ b → find q ns ≡ None → cond b (Some n) (find q ns) ≡ None
    by true is rest = absurd (split.0 is)
    by false is rest = rest

-- where no chain is longer than some number of things, nothing lies on a cycle
pub no_cycle_where_short : (graph : Graph) (most : ℕ) → first_longer graph most ≡ None → cycle graph ≡ None
no_cycle_where_short graph most none =
    ap (option_map (λ first. way graph first (steps_back graph first) first))
    (none_found (has_longer graph most) (is_on_cycle graph) (λ n on. endless graph n most on) (numbers graph) none)
