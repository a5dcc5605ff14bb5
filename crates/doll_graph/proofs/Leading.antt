-- What leads to a target and where chains begin, step by step, and once a further step adds none.
use Rattle.std.proofs.Common.{◌≡◌, ℕ, zero, suc, ◌+◌, ◌-◌, ◌<◌, ◌≤◌, true, List, ◌∷◌, slice_set, ap, sym, subst, ◌∙◌, arith}
use Rattle.std.specs.Prelude.{Bool, false, not, unwrap_or, length, ◌++◌, []}
use Rattle.std.specs.List.{find, list_any, prefix_len, range_with_len}
use Rattle.std.proofs.lemmas.List.{append_assoc, length-map}
use Rattle.doll_graph.specs.Graphs.{Graph, leading, leads, longer_chains, dependents, dependencies, has_mark, way, next}
use Rattle.doll_graph.proofs.Ranges.{prefix_past, prefix_here}

one_more : (n : ℕ) → suc n ≡ n + 1
one_more n = omega arith

pub leading_more : (graph : Graph) (target n : ℕ) → leading graph target (n + 1) ≡ dependents graph (slice_set (leading graph target n) target true)
leading_more graph target n = ap (leading graph target) (sym (one_more n))

pub longer_more : (graph : Graph) (n : ℕ) → longer_chains graph (n + 1) ≡ dependents graph (longer_chains graph n)
longer_more graph n = ap (longer_chains graph) (sym (one_more n))

-- each thing has a mark
pub long : (graph : Graph) (marks next : List Bool) → next ≡ dependents graph marks → length next ≡ length graph
long graph marks next marked = ap length marked ∙ length-map graph (list_any (has_mark marks))

-- so many steps behind one that adds none are no more
no_more : (graph : Graph) (target n more : ℕ) → leading graph target n ≡ leading graph target (suc n) → leading graph target n ≡ leading graph target (more + n)
no_more graph target n zero still = ap (leading graph target) none
  where
    none : n ≡ 0 + n
    none = omega arith
no_more graph target n (suc more) still =
    still ∙ ap (λ marks. dependents graph (slice_set marks target true)) (no_more graph target n more still) ∙ ap (leading graph target) one
  where
    one : suc (more + n) ≡ suc more + n
    one = omega arith

pub settled : (graph : Graph) (target n steps : ℕ) → n ≤ steps → leading graph target n ≡ dependents graph (slice_set (leading graph target n) target true) → leading graph target n ≡ leading graph target steps
settled graph target n steps within still =
    subst (λ m. leading graph target n ≡ leading graph target m) enough (no_more graph target n (steps - n) still)
  where
    enough : (steps - n) + n ≡ steps
    enough = omega arith

-- a way by its first step
pub way_more : (graph : Graph) (target left number : ℕ) → 0 < left → way graph target left number ≡ number ∷ way graph target (left - 1) (next graph target (left - 1) number)
way_more graph target left number some =
    ap (λ n. way graph target n number) enough
  where
    enough : left ≡ suc (left - 1)
    enough = omega arith

-- one step of a way, written out
pub way_step : (graph : Graph) (target left number following : ℕ) (before after whole : List ℕ) (marks : List Bool) → 0 < left → before ++ way graph target left number ≡ whole → after ≡ before ++ number ∷ [] → marks ≡ leading graph target (left - 1) → following ≡ unwrap_or (find (has_mark marks) (dependencies graph number)) 0 → after ++ way graph target (left - 1) following ≡ whole
way_step graph target left number following before after whole marks some so_far pushed marked found =
    ap (λ a. a ++ way graph target (left - 1) following) pushed
    ∙ append_assoc before (number ∷ []) (way graph target (left - 1) following)
    ∙ ap (λ f. before ++ number ∷ way graph target (left - 1) f) (found ∙ ap (λ m. unwrap_or (find (has_mark m) (dependencies graph number)) 0) marked)
    ∙ ap (λ w. before ++ w) (sym (way_more graph target left number some))
    ∙ so_far

-- the steps that are too few, where n of them are, and where they are not
pub few_past : (graph : Graph) (target n : ℕ) (marks : List Bool) → marks ≡ leading graph target n → n < length graph → has_mark marks target ≡ false → n + prefix_len (λ k. not (leads graph target k target)) (range_with_len n (length graph - n)) ≡ (n + 1) + prefix_len (λ k. not (leads graph target k target)) (range_with_len (n + 1) (length graph - (n + 1)))
few_past graph target n marks marked within fails =
    prefix_past (λ k. leads graph target k target) n (length graph) within (ap (λ m. has_mark m target) (sym marked) ∙ fails)

pub few_here : (graph : Graph) (target n : ℕ) (marks : List Bool) → marks ≡ leading graph target n → n < length graph → has_mark marks target ≡ true → n + prefix_len (λ k. not (leads graph target k target)) (range_with_len n (length graph - n)) ≡ n
few_here graph target n marks marked within leads_there =
    prefix_here (λ k. leads graph target k target) n (length graph) within (ap (λ m. has_mark m target) (sym marked) ∙ leads_there)
