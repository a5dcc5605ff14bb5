-- What a thing has by levels is the same at any depth that its longest chain doesn't exceed.
use Rattle.std.proofs.Common.{◌≡◌, ℕ, zero, suc, ◌+◌, ◌<◌, Bool, true, false, ◌||◌, true≢false, List, [], ◌∷◌, length, refl, sym, subst, ◌∙◌, arith}
use Rattle.std.specs.List.{list_any, AllByRecursion}
use Rattle.std.proofs.lemmas.List.{get_or-map}
use Rattle.doll_graph.specs.Graphs.{Graph, dependencies, has_longer}
use Rattle.doll_graph.specs.Levels.{by_levels}

left_false : (a b : Bool) → (a || b) ≡ false → a ≡ false
left_false true b e = e
left_false false b e = refl

right_false : (a b : Bool) → (a || b) ≡ false → b ≡ false
right_false true b e = absurd (true≢false e)
right_false false b e = e

-- of a thing from which no longer chain begins, no dependency begins one that is as long
shorter : (graph : Graph) (n number : ℕ) → number < length graph → has_longer graph (suc n) number ≡ false → list_any (has_longer graph n) (dependencies graph number) ≡ false
shorter graph n number within none = sym (get_or-map (list_any (has_longer graph n)) graph number [] false within) ∙ none

-- what holds of each that is among the things and begins no longer chain holds of all of these
each_of : (P : ℕ → Type 0) (graph : Graph) (n : ℕ) → ((d : ℕ) → d < length graph → has_longer graph n d ≡ false → P d) → (ds : List ℕ) → AllByRecursion (λ d. d < length graph) ds → list_any (has_longer graph n) ds ≡ false → AllByRecursion P ds
each_of P graph n holds [] inside none = tt
each_of P graph n holds (d ∷ ds) inside none = (
  holds d inside.0 (left_false (has_longer graph n d) (list_any (has_longer graph n) ds) none),
  each_of P graph n holds ds inside.1 (right_false (has_longer graph n d) (list_any (has_longer graph n) ds) none),
)

-- so many levels as the longest chain from a thing has things are enough
pub deep_enough : {V : Type 0} (Same : V → V → Type 0) (graph : Graph) (nothing : V) (made : ℕ → (ℕ → V) → V) → ((number : ℕ) → AllByRecursion (λ d. d < length graph) (dependencies graph number)) → ((number : ℕ) (f g : ℕ → V) → AllByRecursion (λ d. Same (f d) (g d)) (dependencies graph number) → Same (made number f) (made number g)) → (n number more : ℕ) → number < length graph → has_longer graph n number ≡ false → Same (by_levels nothing made n number) (by_levels nothing made (more + n) number)
deep_enough Same graph nothing made closed respects zero number more within none =
    absurd (true≢false (sym (get_or-map (λ _. true) graph number [] false within) ∙ none))
deep_enough Same graph nothing made closed respects (suc n) number more within none =
    subst (λ m. Same (by_levels nothing made (suc n) number) (by_levels nothing made m number)) one
    (respects number (by_levels nothing made n) (by_levels nothing made (more + n))
    (each_of (λ d. Same (by_levels nothing made n d) (by_levels nothing made (more + n) d)) graph n
    (λ d inside short. deep_enough Same graph nothing made closed respects n d more inside short)
    (dependencies graph number) (closed number) (shorter graph n number within none)))
  where
    one : suc (more + n) ≡ more + suc n
    one = omega arith
