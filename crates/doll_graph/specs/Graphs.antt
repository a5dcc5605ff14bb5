-- Things numbered from 0 that depend on one another, such as templates on their partials (this project's own).
use Rattle.std.specs.Prelude.{ℕ, zero, suc, Bool, true, false, not, ◌&&◌, ◌<◌, List, [], ◌∷◌, length, map, Option, option_map, unwrap_or, slice_set}
use Rattle.std.specs.List.{list_any, find, filter, prefix_len, range_with_len, slice_index_or, All}

-- of each thing, the numbers of those that it depends on
abbrev pub Graph : Type 0
Graph = List (List ℕ)

-- the numbers of all things
abbrev pub numbers : Graph → List ℕ
numbers graph = range_with_len 0 (length graph)

-- what a thing depends on
abbrev pub dependencies : Graph → ℕ → List ℕ
dependencies graph number = slice_index_or graph number []

-- each dependency is one of the things
abbrev pub IsClosed : Graph → Type 0
IsClosed graph = All (All (λ number. number < length graph)) graph

-- whether a number is marked
abbrev pub has_mark : List Bool → ℕ → Bool
has_mark marks number = slice_index_or marks number false

-- those that depend on one that is marked
abbrev pub dependents : Graph → List Bool → List Bool
dependents graph marks = map (list_any (has_mark marks)) graph

-- where a chain of more than n things begins, each a dependency of the one before it
abbrev pub longer_chains : Graph → ℕ → List Bool
longer_chains graph zero = map (λ _. true) graph
longer_chains graph (suc n) = dependents graph (longer_chains graph n)

-- whether one begins here
abbrev pub has_longer : Graph → ℕ → ℕ → Bool
has_longer graph n number = has_mark (longer_chains graph n) number

-- the first from which a chain of more than n things begins
abbrev pub first_longer : Graph → ℕ → Option ℕ
first_longer graph n = find (has_longer graph n) (numbers graph)

-- whether the longest chain from here has n + 1 things
abbrev pub ends_at : Graph → ℕ → ℕ → Bool
ends_at graph n number = has_longer graph n number && not (has_longer graph (suc n) number)

-- those whose longest chain has n + 1 things: they depend on those of the layers before, and on nothing else
abbrev pub layer : Graph → ℕ → List ℕ
layer graph n = filter (ends_at graph n) (numbers graph)

-- those that lead to a target in 1 to n steps: they depend on it, or on one that leads there in fewer
abbrev pub leading : Graph → ℕ → ℕ → List Bool
leading graph target zero = map (λ _. false) graph
leading graph target (suc n) = dependents graph (slice_set (leading graph target n) target true)

-- whether a thing leads to a target in 1 to n steps
abbrev pub leads : Graph → ℕ → ℕ → ℕ → Bool
leads graph target n number = has_mark (leading graph target n) number

-- whether a thing leads back to itself; a way back passes no thing twice, so it has no more steps than there are things
abbrev pub is_on_cycle : Graph → ℕ → Bool
is_on_cycle graph number = leads graph number (length graph) number

-- the fewest steps that lead from a thing on a cycle back to it
abbrev pub steps_back : Graph → ℕ → ℕ
steps_back graph number = prefix_len (λ n. not (leads graph number n number)) (range_with_len 0 (length graph))

-- the first dependency that leads to a target in 1 to n steps
abbrev pub next : Graph → ℕ → ℕ → ℕ → ℕ
next graph target n number = unwrap_or (find (leads graph target n) (dependencies graph number)) 0

-- a way of n steps that leads to a target, by fewest steps, of equal ones by the first number; the target isn't named again
abbrev pub way : Graph → ℕ → ℕ → ℕ → List ℕ
way graph target zero number = []
way graph target (suc n) number = number ∷ way graph target n (next graph target n number)

-- the first thing on a cycle, and the way back to it
abbrev pub cycle : Graph → Option (List ℕ)
cycle graph = option_map (λ first. way graph first (steps_back graph first) first) (find (is_on_cycle graph) (numbers graph))
